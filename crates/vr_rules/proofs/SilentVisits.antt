-- A step that says a wait changes no Part but one that a visit finds lost.
use Rattle.std.proofs.Common.{◌≡◌, ◌<◌, ◌+◌, ◌-◌, ◌⊎◌, inl, inr, refl, sym, ap, subst, ◌∙◌, ℕ, true, false, cond, List, ◌++◌, map, append_assoc, Option, Some, None}
use Rattle.std.specs.Prelude.{All, nat_le, nat_lt, not, slice_get, ◌==◌}
use Rattle.std.proofs.lemmas.Bool.{ltb-true}
use Rattle.std.proofs.lemmas.List.{map-append}
use Rattle.std.proofs.lemmas.List.Elements.{All-append, All-contains}
use Rattle.vr_header.specs.declared.header.Header.{Header}
use Rattle.vr_header.specs.declared.part.Part.{Part}
use Rattle.vr_header.specs.declared.part.Part.TheVariants.{Here, Lost, Wanted, Unknown, Nothing}
use Rattle.vr_header.specs.Made.{Whole}
use Rattle.vr_header.specs.Same.{same_header}
use Rattle.vr_ckpt.specs.declared.name.Name.{Name}
use Rattle.vr_msg.specs.declared.event.Event.{Event}
use Rattle.vr_msg.specs.declared.event.Event.TheVariants as event
use Rattle.vr_msg.specs.declared.output.Output.{Output}
use Rattle.vr_msg.specs.declared.output.Output.TheVariants as output
use Rattle.vr_rules.specs.Replica.{Replica, is_frozen, part_at, with_part}
use Rattle.vr_rules.specs.Steps.{Effect, Rewrite, Mend, Say, Setting, Step, Word, ◌⨾◌, quiet, change, does, says, by, reading, outputs, after_all}
use Rattle.vr_rules.specs.Outputs as told
use Rattle.vr_rules.specs.Words as words
use Rattle.vr_rules.specs.declared.rule.Rule.{Rule}
use Rattle.vr_rules.specs.declared.rule.Rule.TheVariants.{TickedPrimary, TickedBackup, TickedChanging}
use Rattle.vr_rules.specs.Rules as rules
use Rattle.vr_rules.specs.Deciding.{first_of, request_table, tick_table}
use Rattle.vr_rules.specs.Laws.{LosesVisited, WaitsOnlyLose}
use Rattle.vr_rules.proofs.Halves.{after_both}
use Rattle.vr_rules.proofs.SendsScripts.{outputs_append, outputs_said}
use Rattle.vr_rules.proofs.SilentWaits.{IsNoWait, unwaiting_mute, mute_all, mute_naming, mute_by, mute_then, mute_visit}
use Rattle.vr_rules.proofs.SilentSteps.{IsStill, Pausing, Steady, mute_backup_ticks, mute_primary_ticks, mute_request, pausing_speak, steady_message, steady_mute, steady_still, still_ask, still_enter, still_quiet}

-- ---- what a visit leaves of the Parts

-- of the slot of an op
data SlotLeft {F : Type 0} (s : Setting F) (f : F) (r : Replica) (op : ℕ) (x : Replica) : Type 0 where
  kept : x ≡ r → SlotLeft s f r op x
  gone : (h : Header) → part_at r op ≡ Here h → words.entry_of h s f ≡ None → x ≡ words.lost h r → SlotLeft s f r op x

-- of the place that comes
data Visited {F : Type 0} (s : Setting F) (f : F) (r x : Replica) : Type 0 where
  same : x.first ≡ r.first → x.parts ≡ r.parts → Visited s f r x
  loses : words.is_loaded r ≡ true → words.place_now r < 64 → (h : Header) → part_at r (words.op_of_slot r (words.place_now r)) ≡ Here h → words.entry_of h s f ≡ None
      → x.first ≡ r.first → x.parts ≡ (words.lost h r).parts → Visited s f r x

module _ {F : Type 0} where
  abbrev slot_word : ℕ → Whole → Word F
  slot_word op e = reading (words.header_read op) (words.mend_header e.header)

  mended : (h : Header) (d : Option Header) (s : Setting F) (r : Replica) (f : F) → (words.mend_header h d s r f).replica ≡ r
  unfolding does quiet
  mended h None s r f = refl
  mended h (Some d) s r f = elim (not (same_header d h)) as (λ b. (cond b (does (λ r. Rewrite h)) quiet s r f).replica ≡ r) [ true ↦ refl | false ↦ refl ]

  slot_read : (op : ℕ) (h : Header) (o : Option Whole) (s : Setting F) (r : Replica) (f : F) → part_at r op ≡ Here h → words.entry_of h s f ≡ o
      → SlotLeft s f r op (words.or_lost h (slot_word op) o s r f).replica
  unfolding change reading
  slot_read op h None s r f p e = gone h p e refl
  slot_read op h (Some d) s r f p e = kept (mended d.header (words.header_read op s f) s r f)

  slot_left : (op : ℕ) (p : Part) (s : Setting F) (r : Replica) (f : F) → part_at r op ≡ p → SlotLeft s f r op (words.with_entry (slot_word op) p s r f).replica
  unfolding reading quiet
  slot_left op (Here h) s r f e = slot_read op h (words.entry_of h s f) s r f e refl
  slot_left op (Lost h) s r f e = kept refl
  slot_left op (Wanted h) s r f e = kept refl
  slot_left op Unknown s r f e = kept refl
  slot_left op Nothing s r f e = kept refl

  of_slot : (s : Setting F) (r : Replica) (f : F) (x : Replica) → words.is_loaded r ≡ true → words.place_now r < 64 → SlotLeft s f r (words.op_of_slot r (words.place_now r)) x → Visited s f r x
  unfolding with_part
  of_slot s r f x t l left =
      elim left [
        | kept e ↦ same (ap (λ (y : Replica). y.first) e) (ap (λ (y : Replica). y.parts) e)
        | gone h p n e ↦ loses t l h p n (ap (λ (y : Replica). y.first) e) (ap (λ (y : Replica). y.parts) e)
      ]

  block_read : (name : Name) (o : Option (List ℕ)) (s : Setting F) (r : Replica) (f : F) → Visited s f r (words.visit_read name o s r f).replica
  unfolding change quiet
  block_read name None s r f = same refl refl
  block_read name (Some block) s r f = same refl refl

  block_left : (name : Option Name) (s : Setting F) (r : Replica) (f : F) → Visited s f r (words.visit_block name s r f).replica
  unfolding words.visit_block reading quiet
  block_left None s r f = same refl refl
  block_left (Some name) s r f = block_read name (s.block f name) s r f

  place_left : (s : Setting F) (r : Replica) (f : F) → words.is_loaded r ≡ true → Visited s f r (words.visit_place (words.place_now r) s r f).replica
  unfolding words.visit_place words.visit_slot words.with_entry_at by does
  place_left s r f t =
      let at : ℕ = words.place_now r in
      let op : ℕ = words.op_of_slot r at in
      let name : Option Name = slice_get (words.blocks_of r) (at - 65) in
      elim (nat_lt at 64) as (λ b. nat_lt at 64 ≡ b → Visited s f r (cond b (words.visit_slot op) (cond (at == 64) (does (λ r. Mend r.saved)) (words.visit_block name)) s r f).replica) [
        | true ↦ λ e. of_slot s r f _ t (ltb-true at 64 e) (slot_left op (part_at r op) s r f refl)
        | false ↦ λ e. elim (at == 64) as (λ b. Visited s f r (cond b (does (λ r. Mend r.saved)) (words.visit_block name) s r f).replica) [ true ↦ same refl refl | false ↦ block_left name s r f ]
      ] refl

  moved_on : (s : Setting F) (r : Replica) (f : F) (x : Replica) (at : ℕ) → Visited s f r x → Visited s f r (words.with_cursor at x)
  moved_on s r f x at left = elim left [ same a b ↦ same a b | loses t l h p n a b ↦ loses t l h p n a b ]

  visit_left : (s : Setting F) (r : Replica) (f : F) → Visited s f r (words.visit s r f).replica
  unfolding words.visit ◌⨾◌ by change quiet
  visit_left s r f =
      elim (words.is_loaded r) as (λ b. words.is_loaded r ≡ b
      → Visited s f r (cond b (words.visit_place (words.place_now r) ⨾ change (words.with_cursor (words.place_now r))) quiet s r f).replica) [
        | true ↦ λ t. moved_on s r f _ _ (place_left s r f t)
        | false ↦ λ t. same refl refl
      ] refl

-- ---- what a step leaves of them

record FindsLost {F : Type 0} (s : Setting F) (f : F) (r : Replica) (x : Step) : Type 0 where
  first : x.replica.first ≡ r.first
  lost : LosesVisited s f r x

abbrev Left : {F : Type 0} → Setting F → F → Replica → Step → Type 0
Left s f r x = IsStill r x ⊎ FindsLost s f r x

abbrev Dims : {F : Type 0} → Setting F → F → Replica → Step → Type 0
Dims s f r x = All IsNoWait (outputs x.script) ⊎ Left s f r x

module _ {F : Type 0} where
  -- a visit after these outputs, and then nothing of Parts
  left_by : (s : Setting F) (f : F) (r : Replica) (os rest : List Output) (q : Replica) (x : Step) → Visited s (after_all s f (map Say os)) r q → x.replica.first ≡ q.first → x.replica.parts ≡ q.parts
      → outputs x.script ≡ os ++ rest → Left s f r x
  left_by s f r os rest q x left a b e =
      elim left [
        | same c d ↦ inl (record { first = a ∙ c; parts = b ∙ d })
        | loses t l h p n c d ↦ inr (record {
          first = a ∙ c;
          lost = record { loaded = t; slot = l; header = h; stored = p; before = os; after = rest; said = e; unread = n; parts = b ∙ d };
        })
      ]

  -- what may wait, and then a visit
  then_visits : (v : Word F) → Pausing v → (s : Setting F) (r : Replica) (f : F) → Dims s f r ((v ⨾ words.visit ⨾ words.ask) s r f)
  unfolding ◌⨾◌
  then_visits v h s r f =
      let a = v s r f in
      let d = after_all s f a.script in
      let c = words.visit s a.replica d in
      let g = after_all s d c.script in
      let q = words.ask s c.replica g in
      let b : Step = record { replica = q.replica; script = c.script ++ q.script } in
      let x : Step = record { replica = q.replica; script = a.script ++ b.script } in
      let asked : IsStill c.replica q = still_ask.still s c.replica g in
      let mute : All IsNoWait (outputs b.script) = (unwaiting_mute (words.visit ⨾ words.ask) (mute_then words.visit words.ask mute_visit still_ask.mute)).said s a.replica d in
      elim (h.each s r f) [
        | inl m ↦ inl (rw (outputs_append a.script b.script) (All-append IsNoWait (outputs a.script) (outputs b.script) m mute))
        | inr only ↦
            let left : Visited s (after_all s f (map Say only.said)) r c.replica =
            subst (λ y. Visited s (after_all s f (map Say only.said)) y c.replica) only.replica
            (subst (λ (es : List Effect). Visited s (after_all s f es) a.replica c.replica) only.script (visit_left s a.replica d)) in
            let said : outputs (a.script ++ b.script) ≡ only.said ++ outputs b.script =
            outputs_append a.script b.script ∙ ap (λ (y : List Output). y ++ outputs b.script) (ap outputs only.script ∙ outputs_said only.said) in
            inr (left_by s f r only.said (outputs b.script) c.replica x left asked.first asked.parts said)
      ]

  -- outputs, and then so
  says_first : (os : List Output) (s : Setting F) (r : Replica) (f : F) (b : Step) → Left s (after_all s f (map Say os)) r b → Left s f r (record { replica = b.replica; script = map Say os ++ b.script })
  says_first os s r f b left =
      elim left [
        | inl still ↦ inl (record { first = still.first; parts = still.parts })
        | inr finds ↦
            let l = finds.lost in
            let disk : after_all s f (map Say (os ++ l.before)) ≡ after_all s (after_all s f (map Say os)) (map Say l.before) =
            ap (after_all s f) (map-append Say os l.before) ∙ after_both s f (map Say os) (map Say l.before) in
            inr (record {
              first = finds.first;
              lost = record {
                loaded = l.loaded;
                slot = l.slot;
                header = l.header;
                stored = l.stored;
                before = os ++ l.before;
                after = l.after;
                said = outputs_append (map Say os) b.script ∙ ap (λ (y : List Output). y ++ outputs b.script) (outputs_said os) ∙ ap (λ (y : List Output). os ++ y) l.said ∙ sym (append_assoc os l.before l.after);
                unread = ap (words.entry_of l.header s) disk ∙ l.unread;
                parts = l.parts;
              };
            })
      ]

  says_first_dims : (os : List Output) (s : Setting F) (r : Replica) (f : F) (b : Step) → All IsNoWait os → Dims s (after_all s f (map Say os)) r b → Dims s f r (record { replica = b.replica; script = map Say os ++ b.script })
  says_first_dims os s r f b m d =
      elim d [
        | inl n ↦ inl (rw (outputs_append (map Say os) b.script, outputs_said os) (All-append IsNoWait os (outputs b.script) m n))
        | inr left ↦ inr (says_first os s r f b left)
      ]

  goes_on : (s : Setting F) (r : Replica) (f : F) → Dims s f r ((says (told.send_to_all told.start_view_change) ⨾ words.speak ⨾ words.visit ⨾ words.ask) s r f)
  unfolding ◌⨾◌ says
  goes_on s r f =
      let os : List Output = told.send_to_all told.start_view_change r in
      let said = (unwaiting_mute (says (told.send_to_all told.start_view_change)) (mute_all told.start_view_change)).said s r f in
      let m : All IsNoWait os = subst (All IsNoWait) (outputs_said os) said in
      says_first_dims os s r f _ m (then_visits words.speak pausing_speak s r (after_all s f (map Say os)))

  -- with an idle time more
  idler_dims : (s : Setting F) (r : Replica) (f : F) (x : Step) → Dims s f (rules.idler r) x → Dims s f r x
  unfolding part_at with_part
  idler_dims s r f x d =
      elim d [
        | inl n ↦ inl n
        | inr left ↦ inr (elim left [
          | inl still ↦ inl (record { first = still.first; parts = still.parts })
          | inr finds ↦
              let l = finds.lost in
              inr (record {
                first = finds.first;
                lost = record { loaded = l.loaded; slot = l.slot; header = l.header; stored = l.stored; before = l.before; after = l.after; said = l.said; unread = l.unread; parts = l.parts };
              })
        ])
      ]

  of_steady : (w : Word F) → Steady w → (s : Setting F) (r : Replica) (f : F) → Dims s f r (w s r f)
  of_steady w h s r f = elim (h.each s r f) [ inl n ↦ inl n | inr still ↦ inr (inl still) ]

  changing_dims : (s : Setting F) (r : Replica) (f : F) → Dims s f r (rules.changing_ticks s r f)
  unfolding ◌⨾◌ change by after_all
  changing_dims s r f =
      let q : Replica = rules.idler r in
      let on : Word F = says (told.send_to_all told.start_view_change) ⨾ words.speak ⨾ words.visit ⨾ words.ask in
      idler_dims s r f (cond (nat_le 10 q.idle) rules.next_view on s q f) (elim (nat_le 10 q.idle) as (λ b. Dims s f q (cond b rules.next_view on s q f)) [
        | true ↦ of_steady (words.enter (q.view + 1)) (steady_still _ (still_enter (q.view + 1))) s q f
        | false ↦ goes_on s q f
      ])

  tick_dims : (rule : Rule) (s : Setting F) (r : Replica) (f : F) → Dims s f r (rules.obey_tick rule s r f)
  tick_dims TickedPrimary s r f = of_steady _ (steady_mute _ mute_primary_ticks) s r f
  tick_dims TickedBackup s r f = of_steady _ (steady_mute _ mute_backup_ticks) s r f
  tick_dims TickedChanging s r f = changing_dims s r f
  tick_dims _ s r f = of_steady _ (steady_still _ still_quiet) s r f

  -- ---- all events

  -- a Part is found lost at a tick alone
  abbrev Waits : Event → Setting F → F → Replica → Step → Type 0
  Waits e s f r x = All IsNoWait (outputs x.script) ⊎ (IsStill r x ⊎ ((e ≡ event.Tick) × FindsLost s f r x))

  waits_steady : (e : Event) (w : Word F) → Steady w → (s : Setting F) (r : Replica) (f : F) → Waits e s f r (w s r f)
  waits_steady e w h s r f = elim (h.each s r f) [ inl n ↦ inl n | inr still ↦ inr (inl still) ]

  waits_tick : (s : Setting F) (r : Replica) (f : F) → Waits event.Tick s f r (rules.on_tick s r f)
  unfolding rules.on_tick by
  waits_tick s r f =
      elim (tick_dims (first_of (tick_table r)) s r f) [
        | inl n ↦ inl n
        | inr left ↦ inr (elim left [ inl still ↦ inl still | inr finds ↦ inr (refl, finds) ])
      ]

  waits_event : (e : Event) (s : Setting F) (r : Replica) (f : F) → Waits e s f r (rules.on_event e s r f)
  unfolding rules.on_request
  waits_event (event.Request q) s r f = waits_steady _ _ (steady_mute _ (mute_naming _ (λ hash. mute_by _ (λ r. mute_request hash q (first_of (request_table q r)))))) s r f
  waits_event (event.Deliver m) s r f = waits_steady _ _ (steady_message m) s r f
  waits_event event.Tick s r f = waits_tick s r f

  waits_react : (e : Event) (s : Setting F) (r : Replica) (f : F) → Waits e s f r (rules.react e s r f)
  unfolding rules.react by
  waits_react e s r f =
      elim (not (is_frozen r)) as (λ b. Waits e s f r (cond b (rules.on_event e) quiet s r f)) [
        | true ↦ waits_event e s r f
        | false ↦ waits_steady e quiet (steady_still _ still_quiet) s r f
      ]

  pub waits_only_lose : WaitsOnlyLose F
  waits_only_lose s f r e w =
      elim (waits_react e s r f) [
        | inl m ↦ absurd (All-contains IsNoWait (outputs (rules.react e s r f).script) (output.Wait w.line) m w.is)
        | inr left ↦ elim left [
          | inl still ↦ (still.first, inl still.parts)
          | inr finds ↦ (finds.1.first, inr (finds.0, finds.1.lost))
        ]
      ]

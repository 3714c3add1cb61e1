-- Each step keeps what was read of the slots that were seen, and a visit adds one.
use Rattle.std.proofs.Common.{arith, ℕ, ◌+◌, ◌%◌, ◌≡◌, ◌≢◌, ◌<◌, ◌≤◌, ◌∙◌, ◌⊎◌, inl, inr, refl, sym, ap, subst, Bool, true, false, cond, not, List, [], ◌∷◌, ◌++◌, Option, Some, None}
use Rattle.std.specs.Prelude.{All, nat_le, nat_lt, ◌==◌, ◌&&◌, ◌||◌}
use Rattle.std.specs.Option.{option_and_then}
use Rattle.std.proofs.lemmas.Bool.{eq-eqb, ltb-false, or_parts}
use Rattle.std.proofs.lemmas.Nat.{mod_below}
use Rattle.std.proofs.lemmas.List.Elements.{All-head, All-tail}
use Rattle.vr_base.specs.declared.kind.Kind.{Kind}
use Rattle.vr_header.specs.declared.header.Header.{Header}
use Rattle.vr_header.specs.declared.part.Part.TheVariants.{Here}
use Rattle.vr_header.specs.Made.{Whole}
use Rattle.vr_header.specs.Same.{same_header}
use Rattle.vr_header.proofs.SameHeaders.{same_header_of}
use Rattle.vr_header.specs.Parts.{has_header, header_of}
use Rattle.vr_msg.specs.declared.event.Event.{Event}
use Rattle.vr_msg.specs.declared.event.Event.TheVariants as event
use Rattle.vr_rules.specs.Deciding.{first_of, tick_table}
use Rattle.vr_rules.specs.Fit.{IsProgram}
use Rattle.vr_rules.specs.Laws.{HasNames, IsEvent}
use Rattle.vr_rules.specs.Sectors.{sectors_by}
use Rattle.vr_rules.specs.Replica.{Replica, head, is_frozen, last_view, part_at, version}
use Rattle.vr_rules.specs.Rules as rules
use Rattle.vr_rules.specs.Outputs as told
use Rattle.vr_rules.specs.Sound.{IsSound}
use Rattle.vr_rules.specs.Steps.{Setting, Step, Word, ◌⨾◌, after_all, by, change, quiet, says, when}
use Rattle.vr_rules.specs.Words as words
use Rattle.vr_rules.specs.declared.rule.Rule.{Rule}
use Rattle.vr_rules.specs.declared.rule.Rule.TheVariants.{TickedBackup, TickedChanging, TickedPrimary}
use Rattle.vr_rules.proofs.Combining.{Keeps, keeps_by, keeps_says, keeps_then, keeps_when}
use Rattle.vr_rules.proofs.Halves.{after_both, regrouped}
use Rattle.vr_rules.proofs.Heads.{known_within}
use Rattle.vr_rules.proofs.Keeping.{spans_of}
use Rattle.vr_rules.proofs.FitDisks.{disks_fit}
use Rattle.vr_rules.proofs.Reacting.{keeps_idler, steps_stay_sound}
use Rattle.vr_rules.proofs.Rising.{steps_rise}
use Rattle.vr_rules.proofs.Trying.{keeps_speak}
use Rattle.vr_rules.proofs.SavesSectors.{sectors_fit}
use Rattle.vr_rules.proofs.Visiting.{keeps_visit}
use Rattle.vr_rules.proofs.Wording.{keeps_ask, keeps_prepare_again}
use Rattle.vr_world.specs.Lying.{lying}
use Rattle.vr_world.proofs.FitLies.{lies_fit}
use Rattle.law_4_disks.proofs.Chaining.{chain_kind}
use Rattle.law_4_disks.proofs.ChainingRules.{c_react}
use Rattle.law_repair.specs.Visits.{AreRead, VisitsFind, after_events, seen_after, visited}
use Rattle.law_repair.proofs.Disks.{HasRoom, IsLong, header_entry, lying_stores, sectors_store}
use Rattle.law_repair.proofs.Dry.{fine_after}
use Rattle.law_repair.proofs.Looking.{Leaves, Sturdy, all_spared, of_sheds, one_slot, sheds, wrote}
use Rattle.law_repair.proofs.LookingRules.{at_message, at_request}
use Rattle.law_repair.proofs.Seeing.{Saw, visit_saw}
use Rattle.law_repair.proofs.Shedding.{Sheds, sheds_again, sheds_ask, sheds_by, sheds_enter, sheds_quiet, sheds_same, sheds_says, sheds_speak, sheds_then, sheds_when}

-- a step keeps the version of its file
pub step_version : {F : Type 0} (s : Setting F) (e : Event) (r : Replica) (f : F) → version (rules.react e s r f).replica ≡ version r
step_version s e r f =
    let x = rules.react e s r f in
    ap (λ (k : Kind). k.version) (chain_kind x.script r.saved x.replica.saved ((c_react e).each s r f))

-- what is seen with a step's visit
abbrev pub both : (ℕ → Bool) → Replica → Replica → ℕ → Bool
both seen r q slot = seen slot || visited r q slot

no_visit : (r q : Replica) (slot : ℕ) → q.cursor ≡ r.cursor → visited r q slot ≡ false
no_visit r q slot e = ap (λ (b : Bool). not b && (q.cursor == slot + 1)) (eq-eqb q.cursor r.cursor e)

or_right : (a b : Bool) → b ≡ false → a || b ≡ true → a ≡ true
or_right true b e t = refl
or_right false b e t = let n : true ≡ false = sym t ∙ e in absurd cc

either_is : (a b : Bool) → a || b ≡ true → (a ≡ true) ⊎ (b ≡ true)
either_is true b t = inl refl
either_is false b t = inr t

module _ {F : Type 0} (s : Setting F) where
  -- a step from r and f
  abbrev Reads : (ℕ → Bool) → Replica → F → Step → Type 0
  Reads seen r f x = AreRead s (both seen r x.replica) x.replica (after_all s f x.script)

  entry_same : (h : Header) (f g : F) → s.entry g (h.op % 64) ≡ s.entry f (h.op % 64) → words.entry_of h s g ≡ words.entry_of h s f
  entry_same h f g e = ap (λ (o : Option Whole). option_and_then (λ x. cond (same_header x.header h) (Some x) None) o) e

  low : (h : Header) → h.op % 64 < 64
  low h = mod_below h.op 64 (omega arith)

  -- what was read is read still
  read_on : (seen : ℕ → Bool) (r q : Replica) (f g : F) → IsSound r → r.checkpoint ≤ q.checkpoint → Leaves s r f q g → AreRead s seen r f → AreRead s seen q g
  read_on seen r q f g sound up leaves read =
      λ k h a b t. elim leaves [
        | sheds x y ↦
            let rd = read k h (omega (arith, a, up)) b (x.here k h t) in
            (rd.0, entry_same h f g (y.same (h.op % 64) (low h)) ∙ rd.1)
        | wrote e x i p ↦ elim (x.here k h t) [
          | inl old ↦
              let rd = read k h (omega (arith, a, up)) b old.0 in
              let at : h.op ≡ k = (sound.entries.each k h (ap header_of old.0)).1.at_op in
              let known = known_within r k (spans_of r sound) (ap has_header old.0) in
              let apart : h.op % 64 ≢ e.header.op % 64 = λ same. old.1 (one_slot r.checkpoint k e.header.op (omega (arith, a, up)) known.1 i.above i.within (ap (λ n. n % 64) (sym at) ∙ same)) in
              (rd.0, entry_same h f g (p.others (h.op % 64) (low h) apart) ∙ rd.1)
          | inr new ↦
              let there : words.entry_of e.header s g ≡ Some e =
              ap (λ (o : Option Whole). option_and_then (λ x. cond (same_header x.header e.header) (Some x) None) o) p.there
              ∙ ap (λ (c : Bool). cond c (Some e) None) (same_header_of e.header e.header refl) in
              (e, subst (λ (y : Header). words.entry_of y s g ≡ Some e) (sym new.1) there)
        ]
      ]

  leaves_cursor : (r q : Replica) (f g : F) → Leaves s r f q g → q.cursor ≡ r.cursor
  leaves_cursor r q f g leaves = elim leaves [ sheds x y ↦ x.cursor | wrote e x i p ↦ x.cursor ]

  -- so does a step that visits nothing
  read_still : (seen : ℕ → Bool) (r q : Replica) (f g : F) → IsSound r → r.checkpoint ≤ q.checkpoint → Leaves s r f q g → AreRead s seen r f → AreRead s (both seen r q) q g
  read_still seen r q f g sound up leaves read =
      λ k h a b t. read_on seen r q f g sound up leaves read k h a (or_right (seen (k % 64)) (visited r q (k % 64)) (no_visit r q (k % 64) (leaves_cursor r q f g leaves)) b) t

  module _ (Fine : F → Type 0) (sturdy : Sturdy s Fine) where
    -- a visit between words that shed
    read_visit : (seen : ℕ → Bool) (v w : Word F) (r : Replica) (f : F) → Sheds v → Keeps v → Sheds w → Keeps w → IsSound r → AreRead s seen r f → Reads seen r f ((v ⨾ words.visit ⨾ w) s r f)
    unfolding ◌⨾◌
    read_visit seen v w r f hv keeps hw keeps_w sound read =
        let a = v s r f in
        let d = after_all s f a.script in
        let c = words.visit s a.replica d in
        let e = after_all s d c.script in
        let b = w s c.replica e in
        let g = after_all s e b.script in
        let kept = (keeps.every s r f sound).kept in
        let seen_sound = (keeps_visit.every s a.replica d kept.sound).kept in
        let kept_w = (keeps_w.every s c.replica e seen_sound.sound).kept in
        let first = hv.parts s r f in
        let saw : Saw s Fine sturdy a.replica d c.replica e = visit_saw s Fine sturdy a.replica d kept.sound in
        let last = hw.parts s c.replica e in
        let before = all_spared s Fine sturdy a.script f (hv.script s r f) in
        let behind = all_spared s Fine sturdy b.script e (hw.script s c.replica e) in
        let disk : after_all s f (a.script ++ (c.script ++ b.script)) ≡ g =
        after_both s f a.script (c.script ++ b.script) ∙ after_both s d c.script b.script in
        let here : (k : ℕ) (h : Header) → part_at b.replica k ≡ Here h → part_at r k ≡ Here h = λ k h t. first.here k h (saw.here k h (last.here k h t)) in
        let same : (h : Header) → words.entry_of h s g ≡ words.entry_of h s f =
        λ h. entry_same h f g (behind.same (h.op % 64) (low h) ∙ (saw.disk.same (h.op % 64) (low h) ∙ before.same (h.op % 64) (low h))) in
        let later : (h : Header) → words.entry_of h s g ≡ words.entry_of h s d =
        λ h. entry_same h d g (behind.same (h.op % 64) (low h) ∙ saw.disk.same (h.op % 64) (low h)) in
        let moved : (slot : ℕ) → visited r b.replica slot ≡ visited a.replica c.replica slot =
        λ slot. ap (λ (n : ℕ). not (n == r.cursor) && (n == slot + 1)) last.cursor ∙ ap (λ (n : ℕ). not (c.replica.cursor == n) && (c.replica.cursor == slot + 1)) (sym first.cursor) in
        let still : c.replica.checkpoint ≡ a.replica.checkpoint = saw.checkpoint in
        let grown : c.replica.checkpoint ≤ b.replica.checkpoint = kept_w.rises.checkpoint in
        let risen : r.checkpoint ≤ a.replica.checkpoint = kept.rises.checkpoint in
        let done : AreRead s (both seen r b.replica) b.replica g =
        λ k h above in_seen t. elim (either_is (seen (k % 64)) (visited r b.replica (k % 64)) in_seen) [
          | inl was ↦ let rd = read k h (omega (arith, above, grown, still, risen)) was (here k h t) in (rd.0, same h ∙ rd.1)
          | inr new ↦
              let high : a.replica.checkpoint < k = omega (arith, above, grown, still) in
              let rd = saw.reads k h high (sym (moved (k % 64)) ∙ new) (last.here k h t) in
              (rd.0, later h ∙ rd.1)
        ] in
        subst (λ (x : F). AreRead s (both seen r b.replica) b.replica x) (sym disk) done

    -- ---- ticks

    sheds_idler : Sheds {F = F} (change rules.idler)
    unfolding part_at
    sheds_idler = sheds_same rules.idler (λ r k. refl) (λ r. refl)

    sheds_next : Sheds {F = F} rules.next_view
    sheds_next = sheds_by _ (λ r. sheds_enter (r.view + 1))

    read_sheds : (seen : ℕ → Bool) (w : Word F) (r : Replica) (f : F) → Sheds w → IsSound r → r.checkpoint ≤ (w s r f).replica.checkpoint → AreRead s seen r f → Reads seen r f (w s r f)
    read_sheds seen w r f h sound up read = read_still seen r (w s r f).replica f (after_all s f (w s r f).script) sound up (of_sheds s Fine sturdy w r f h).leaves read

    at_primary : (seen : ℕ → Bool) (r : Replica) (f : F) → IsSound r → AreRead s seen r f → Reads seen r f (rules.primary_ticks s r f)
    at_primary seen r f sound read =
        let first : Word F = says (told.send_to_all told.commit_message) in
        let again : Word F = by (λ r. when (nat_lt r.commit (head r)) (words.prepare_again (r.commit + 1))) in
        let sheds_again_if : Sheds again = sheds_by _ (λ r. sheds_when (nat_lt r.commit (head r)) _ (sheds_again (r.commit + 1))) in
        let keeps_again_if : Keeps again = keeps_by _ (λ r. keeps_when (nat_lt r.commit (head r)) _ (keeps_prepare_again (r.commit + 1))) in
        subst (Reads seen r f) (regrouped first again (words.visit ⨾ words.ask) s r f)
        (read_visit seen (first ⨾ again) words.ask r f (sheds_then first again (sheds_says _) sheds_again_if) (keeps_then first again (keeps_says _) keeps_again_if) sheds_ask keeps_ask sound read)

    at_backup : (seen : ℕ → Bool) (r : Replica) (f : F) → IsSound r → r.checkpoint ≤ (rules.backup_ticks s r f).replica.checkpoint → AreRead s seen r f → Reads seen r f (rules.backup_ticks s r f)
    unfolding ◌⨾◌ change by after_all
    at_backup seen r f sound up read =
        let q : Replica = rules.idler r in
        elim (nat_le 5 q.idle) as (λ b. r.checkpoint ≤ ((change rules.idler ⨾ cond b rules.next_view (words.visit ⨾ words.ask)) s r f).replica.checkpoint
        → Reads seen r f ((change rules.idler ⨾ cond b rules.next_view (words.visit ⨾ words.ask)) s r f)) [
          | true ↦ λ u. read_sheds seen (change rules.idler ⨾ rules.next_view) r f (sheds_then _ _ sheds_idler sheds_next) sound u read
          | false ↦ λ u. read_visit seen (change rules.idler) words.ask r f sheds_idler keeps_idler sheds_ask keeps_ask sound read
        ] up

    -- told and spoken, and then a visit
    at_speaking : (seen : ℕ → Bool) (r : Replica) (f : F) → IsSound r → AreRead s seen r f
        → Reads seen r f ((change rules.idler ⨾ says (told.send_to_all told.start_view_change) ⨾ words.speak ⨾ words.visit ⨾ words.ask) s r f)
    at_speaking seen r f sound read =
        let a : Word F = change rules.idler in
        let b : Word F = says (told.send_to_all told.start_view_change) in
        let d : Word F = words.visit ⨾ words.ask in
        let grouped : (((a ⨾ b) ⨾ words.speak) ⨾ d) s r f ≡ (a ⨾ (b ⨾ (words.speak ⨾ d))) s r f = regrouped (a ⨾ b) words.speak d s r f ∙ regrouped a b (words.speak ⨾ d) s r f in
        subst (Reads seen r f) grouped
        (read_visit seen ((a ⨾ b) ⨾ words.speak) words.ask r f (sheds_then (a ⨾ b) words.speak (sheds_then a b sheds_idler (sheds_says _)) sheds_speak)
        (keeps_then (a ⨾ b) words.speak (keeps_then a b keeps_idler (keeps_says _)) keeps_speak) sheds_ask keeps_ask sound read)

    at_changing : (seen : ℕ → Bool) (r : Replica) (f : F) → IsSound r → r.checkpoint ≤ (rules.changing_ticks s r f).replica.checkpoint → AreRead s seen r f → Reads seen r f (rules.changing_ticks s r f)
    unfolding ◌⨾◌ change by after_all
    at_changing seen r f sound up read =
        let q : Replica = rules.idler r in
        let on : Word F = says (told.send_to_all told.start_view_change) ⨾ words.speak ⨾ words.visit ⨾ words.ask in
        elim (nat_le 10 q.idle) as (λ b. r.checkpoint ≤ ((change rules.idler ⨾ cond b rules.next_view on) s r f).replica.checkpoint → Reads seen r f ((change rules.idler ⨾ cond b rules.next_view on) s r f)) [
          | true ↦ λ u. read_sheds seen (change rules.idler ⨾ rules.next_view) r f (sheds_then _ _ sheds_idler sheds_next) sound u read
          | false ↦ λ u. at_speaking seen r f sound read
        ] up

    at_tick : (seen : ℕ → Bool) (x : Rule) (r : Replica) (f : F) → IsSound r → r.checkpoint ≤ (rules.obey_tick x s r f).replica.checkpoint → AreRead s seen r f → Reads seen r f (rules.obey_tick x s r f)
    at_tick seen TickedPrimary r f sound up read = at_primary seen r f sound read
    at_tick seen TickedBackup r f sound up read = at_backup seen r f sound up read
    at_tick seen TickedChanging r f sound up read = at_changing seen r f sound up read
    at_tick seen _ r f sound up read = read_sheds seen quiet r f sheds_quiet sound up read

    -- ---- steps

    module _ (program : IsProgram s) (names : HasNames s) where
      at_event : (seen : ℕ → Bool) (e : Event) (r : Replica) (f : F) → version r ≤ sturdy.stores.last → IsSound r → Fine f → IsEvent e → r.view ≤ last_view → r.checkpoint ≤ (rules.on_event e s r f).replica.checkpoint → AreRead s seen r f → Reads seen r f (rules.on_event e s r f)
      unfolding rules.on_tick by
      at_event seen (event.Request q) r f upto sound fine m last up read =
          read_still seen r (rules.on_request q s r f).replica f _ sound up (at_request s Fine sturdy program names q r f upto sound fine m last).leaves read
      at_event seen (event.Deliver message) r f upto sound fine m last up read =
          read_still seen r (rules.on_message message s r f).replica f _ sound up (at_message s Fine sturdy program names message r f upto sound fine m last).leaves read
      at_event seen event.Tick r f upto sound fine m last up read = at_tick seen (first_of (tick_table r)) r f sound up read

      pub step_reads : (seen : ℕ → Bool) (e : Event) (r : Replica) (f : F) → version r ≤ sturdy.stores.last → IsSound r → Fine f → IsEvent e → AreRead s seen r f → Reads seen r f (rules.react e s r f)
      unfolding rules.react by
      step_reads seen e r f upto sound fine m read =
          let up = (steps_rise s f r e sound m).checkpoint in
          elim (is_frozen r) as (λ b. is_frozen r ≡ b → r.checkpoint ≤ ((cond (not b) (rules.on_event e) quiet) s r f).replica.checkpoint → Reads seen r f ((cond (not b) (rules.on_event e) quiet) s r f)) [
            | true ↦ λ i u. read_sheds seen quiet r f sheds_quiet sound u read
            | false ↦ λ i u. at_event seen e r f upto sound fine m (ltb-false last_view r.view (or_parts (nat_lt last_view r.view) _ i).0) u read
          ] refl up

      -- ---- and many

      pub events_read : (es : List Event) (seen : ℕ → Bool) (r : Replica) (f : F) → version r ≤ sturdy.stores.last → IsSound r → Fine f → All IsEvent es → AreRead s seen r f
          → AreRead s (seen_after s es seen r f) (after_events s es r f).replica (after_events s es r f).disk
      unfolding seen_after after_events
      events_read [] seen r f upto sound fine m read = read
      events_read (e ∷ es) seen r f upto sound fine m read =
          let x = rules.react e s r f in
          let first = All-head IsEvent e es m in
          events_read es (both seen r x.replica) x.replica (after_all s f x.script) (subst (λ v. v ≤ sturdy.stores.last) (sym (step_version s e r f)) upto) (steps_stay_sound s f r e names sound first) (fine_after s Fine sturdy.stores x.script f fine) (All-tail IsEvent e es m)
          (step_reads seen e r f upto sound fine first read)

-- ---- the disks of the program

unfoldable pub sectors_sturdy : (v : ℕ) → Sturdy (sectors_by v) IsLong
sectors_sturdy v = record { stores = sectors_store v; rewritten = λ f h slot. header_entry v h f slot }

unfoldable pub lying_sturdy : (v : ℕ) → Sturdy lying (HasRoom v)
lying_sturdy v = record { stores = lying_stores v; rewritten = λ d h slot. header_entry d.version h d.face slot }

pub sectors_find : (v : ℕ) → VisitsFind (sectors_by v) (λ f. f) (λ f. v)
unfolding sectors_sturdy sectors_store
sectors_find v es seen r f face taken sound m read = events_read (sectors_by v) IsLong (sectors_sturdy v) (disks_fit.program v) (sectors_fit v).0 es seen r f taken sound face.count m read

pub lying_finds : VisitsFind lying (λ d. d.face) (λ d. d.version)
unfolding lying_sturdy lying_stores
lying_finds es seen r d face taken sound m read =
    let v = version r in events_read lying (HasRoom v) (lying_sturdy v) lies_fit.program lies_fit.names es seen r d (omega arith) sound (face.count, taken) m read

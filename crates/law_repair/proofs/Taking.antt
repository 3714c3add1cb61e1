-- The step of a copy that comes: its entry is stored and reads, and all that may be is applied.
use Rattle.std.proofs.Common.{arith, ℕ, ◌+◌, ◌-◌, ◌%◌, ◌^◌, ◌≡◌, ◌≢◌, ◌≤◌, ◌<◌, ◌∙◌, inl, inr, refl, sym, ap, subst, Bool, true, false, cond, List, [], ◌∷◌, Option, Some, None}
use Rattle.std.specs.Prelude.{◌&&◌, ◌||◌, not, nat_lt}
use Rattle.std.specs.Option.{option_and_then, option_map_or}
use Rattle.std.specs.Cmp.Derive.{both_true}
use Rattle.std.proofs.lemmas.Bool.{cases_eq, cases_lt, eq-eqb, ne_eqb, le-ltb, lt-ltb}
use Rattle.std.proofs.lemmas.Nat.{mod_below}
use Rattle.vr_header.specs.declared.header.Header.{Header}
use Rattle.vr_header.specs.declared.part.Part.{Part}
use Rattle.vr_header.specs.declared.part.Part.TheVariants.{Here}
use Rattle.vr_header.specs.Made.{Whole}
use Rattle.vr_header.specs.Same.{same_header}
use Rattle.vr_header.proofs.SameHeaders.{same_header_of}
use Rattle.vr_header.specs.Parts.{header_of}
use Rattle.vr_msg.specs.declared.event.Event.TheVariants as event
use Rattle.vr_msg.specs.declared.frame.Frame.TheVariants as frame
use Rattle.vr_msg.specs.declared.frame.GivePrepare.{GivePrepare}
use Rattle.vr_msg.specs.declared.output.Output.{Output}
use Rattle.vr_rings.specs.Slots.{IsWhole}
use Rattle.vr_rules.specs.Deciding.{first_of, give_prepare_table, is_from, is_known}
use Rattle.vr_rules.specs.declared.rule.Rule.{Rule}
use Rattle.vr_rules.specs.declared.rule.Rule.TheVariants.{EntryTaken, Ignored}
use Rattle.vr_rules.specs.Replica.{Replica, forgetting, is_absent, is_frozen, is_here, is_primary, is_started, last_view, part_at, version, with_part}
use Rattle.vr_rules.specs.Rules.{obey_give_prepare, on_event, on_give_prepare, react}
use Rattle.vr_rules.specs.Sound.{IsSound}
use Rattle.vr_rules.specs.Steps.{Effect, Write, Setting, Step, Word, ◌⨾◌, after_all, by, change, does, naming, says}
use Rattle.vr_rules.specs.Words.{apply, entry_of, may_be_stored, resend, stored, write, writes}
use Rattle.vr_rules.proofs.Halves.{after_both}
use Rattle.vr_rules.proofs.Heads.{forgetting_at, gone, head_within, with_part_at, with_part_other, with_part_spans}
use Rattle.vr_rules.proofs.Keeping.{spans_of}
use Rattle.vr_rules.proofs.Ruling.{may_store_given}
use Rattle.vr_rules.proofs.Storing.{kept_stored}
use Rattle.vr_rules.proofs.Wording.{keeps_apply}
use Rattle.law_repair.specs.Completing.{AllRead, IsCopy, LacksEntries}
use Rattle.law_repair.proofs.Disks.{Stores}
use Rattle.law_repair.proofs.Dry.{dry_apply, dry_resend, fine_after, same_entries}
use Rattle.law_repair.proofs.Applying.{apply_climbs, read_on, same_read, when_still, when_true}

-- ---- the rule

rule_taken : (a b c d : Bool) → a ≡ true → b ≡ true → c ≡ true → d ≡ true → first_of ((not a, Ignored) ∷ (b && (c && d), EntryTaken) ∷ []) ≡ EntryTaken
unfolding first_of
rule_taken a b c d p q u v = rw (p, q, u, v) refl

not_either : (a b : Bool) → a ≡ false → b ≡ false → not (a || b) ≡ true
not_either a b p q = rw (p, q) refl

not_frozen : (r : Replica) → r.view ≤ last_view → r.saved.fields.sequence ≤ 2 ^ 64 - 256 → not (is_frozen r) ≡ true
not_frozen r v l = not_either (nat_lt last_view r.view) (nat_lt (2 ^ 64 - 256) r.saved.fields.sequence) (le-ltb last_view r.view v) (le-ltb (2 ^ 64 - 256) r.saved.fields.sequence l)

copy_taken : (g : GivePrepare) (r : Replica) → IsSound r → IsCopy r g.entry.header.op g → r.applied < g.entry.header.op → is_absent (part_at r g.entry.header.op) ≡ true
    → first_of (give_prepare_table g r) ≡ EntryTaken
copy_taken g r sound copy above absent =
    let h : Header = g.entry.header in
    let order = sound.order.applied in
    let group = (sound.entries.each h.op h copy.named).1.of_group in
    rule_taken (is_from g.version h.cluster g.replica r) (nat_lt r.checkpoint h.op) (is_known h h.op r) (is_absent (part_at r h.op))
    (both_true (both_true (eq-eqb g.version (version r) copy.version) (eq-eqb h.cluster r.cluster group)) (both_true (lt-ltb g.replica r.n copy.member) (ap not (ne_eqb g.replica r.index copy.other))))
    (lt-ltb r.checkpoint h.op (omega arith))
    (ap (λ (o : Option Header). option_map_or (λ d. same_header d h) o false) copy.named ∙ same_header_of h h refl)
    absent

-- ---- the replica, once the entry is stored

part_checkpoint : (k : ℕ) (p : Part) (r : Replica) → (with_part k p r).checkpoint ≡ r.checkpoint
unfolding with_part
part_checkpoint k p r = refl

-- what is forgotten lies below the ops above the checkpoint
forgets_low : (k : ℕ) (p : Part) (r : Replica) → IsSound r → (with_part k p r).first + gone (with_part k p r) ≤ r.checkpoint + 1
forgets_low k p r sound =
    let w : Replica = with_part k p r in
    let spans = with_part_spans k p r (spans_of r sound) in
    let top = head_within w spans in
    let reach = spans.reach in
    let same = part_checkpoint k p r in
    omega (arith, top, reach, same)

stored_here : (e : Whole) (r : Replica) → IsSound r → r.checkpoint < e.header.op → e.header.op ≤ r.commit → part_at (stored e r) e.header.op ≡ Here e.header
stored_here e r sound above within =
    let k : ℕ = e.header.op in
    let low = forgets_low k (Here e.header) r sound in
    let reach = sound.lists.reach in
    let parts = sound.lists.parts in
    let known = sound.order.known in
    let window = sound.order.window in
    forgetting_at (with_part k (Here e.header) r) k (omega (arith, low, above)) ∙ with_part_at k (Here e.header) r (omega arith) (omega arith)

stored_other : (e : Whole) (r : Replica) (j : ℕ) → IsSound r → r.checkpoint < e.header.op → r.checkpoint < j → j ≢ e.header.op → part_at (stored e r) j ≡ part_at r j
stored_other e r j sound above from other =
    let k : ℕ = e.header.op in
    let low = forgets_low k (Here e.header) r sound in
    let reach = sound.lists.reach in
    forgetting_at (with_part k (Here e.header) r) j (omega (arith, low, from)) ∙ with_part_other k (Here e.header) r j (omega arith) other

record Alike (r q : Replica) : Type 0 where
  n : q.n ≡ r.n
  index : q.index ≡ r.index
  version : version q ≡ version r
  view : q.view ≡ r.view
  commit : q.commit ≡ r.commit
  applied : q.applied ≡ r.applied
  missing : q.missing ≡ r.missing
  saved : q.saved.fields.sequence ≡ r.saved.fields.sequence

stored_alike : (e : Whole) (r : Replica) → Alike r (stored e r)
unfolding forgetting with_part
stored_alike e r = record { n = refl; index = refl; version = refl; view = refl; commit = refl; applied = refl; missing = refl; saved = refl }

-- slots of ops of a window are apart
slots_apart : (c k j : ℕ) → c < k → k ≤ c + 64 → c < j → j ≤ c + 64 → k ≢ j → k % 64 ≢ j % 64
slots_apart c k j a b d l other = λ e. elim (cases_lt k j) [
  | inl below ↦ absurd (omega arith)
  | inr above ↦ let more : j < k = omega (arith, above, other) in absurd (omega arith)
]

module _ {F : Type 0} (s : Setting F) (Fine : F → Type 0) (store : Stores s Fine) where
  -- what the delivery of a copy of op k leaves
  pub record Taken (k : ℕ) (r q : Replica) (g : F) : Type 0 where
    pub lacks : LacksEntries s q g
    pub fine : Fine g
    pub n : q.n ≡ r.n
    pub index : q.index ≡ r.index
    pub version : version q ≡ version r
    pub commit : q.commit ≡ r.commit
    pub up : r.applied ≤ q.applied
    pub here : is_here (part_at q k) ≡ true
    pub parts : (j : ℕ) → r.checkpoint < j → j ≢ k → part_at q j ≡ part_at r j
    pub passed : (j : ℕ) → r.applied < j → j ≤ q.applied → is_here (part_at q j) ≡ true
    pub stops : q.applied < q.commit → is_here (part_at q (q.applied + 1)) ≡ false

  -- ---- what reads

  read_same : (h : Header) (e : Whole) (f : F) → e.header ≡ h → s.entry f (h.op % 64) ≡ Some e → entry_of h s f ≡ Some e
  read_same h e f same is =
      ap (λ (o : Option Whole). option_and_then (λ x. cond (same_header x.header h) (Some x) None) o) is ∙ ap (λ (b : Bool). cond b (Some e) None) (same_header_of e.header h same)

  stored_read : (e : Whole) (again : Bool) (r : Replica) (f g : F) → LacksEntries s r f → Fine f → IsWhole e → e.header.version ≤ store.last → r.checkpoint < e.header.op → e.header.op ≤ r.commit
      → ((slot : ℕ) → slot < 64 → s.entry g slot ≡ s.entry (s.after f (Write again e)) slot) → AllRead s (stored e r) g
  stored_read e again r f g lacks fine whole few above within same =
      λ j x a b is.
      let sound = lacks.sound in
      let like = stored_alike e r in
      let low = sound.order.applied in
      let known = sound.order.known in
      let window = sound.order.window in
      let from : r.applied < j = omega (arith, a, like.applied) in
      let upto : j ≤ r.commit = omega (arith, b, like.commit) in
      elim (cases_eq j e.header.op) [
        | inl same_op ↦
            let at : part_at (stored e r) e.header.op ≡ Here x = subst (λ i. part_at (stored e r) i ≡ Here x) same_op is in
            let two : Here e.header ≡ Here x = sym (stored_here e r sound above within) ∙ at in
            let one : e.header ≡ x = cc in
            let there : s.entry g (e.header.op % 64) ≡ Some e = same (e.header.op % 64) (mod_below e.header.op 64 (omega arith)) ∙ store.written f again e fine whole few in
            (e, subst (λ (h : Header). entry_of h s g ≡ Some e) one (read_same e.header e g refl there))
        | inr other ↦
            let old : part_at r j ≡ Here x = sym (stored_other e r j sound above (omega (arith, from, low)) other) ∙ is in
            let there = lacks.reads j x from upto old in
            let op : x.op ≡ j = (sound.entries.each j x (ap header_of old)).1.at_op in
            let apart : j % 64 ≢ e.header.op % 64 = slots_apart r.checkpoint j e.header.op (omega arith) (omega arith) above (omega arith) other in
            let far : x.op % 64 ≢ e.header.op % 64 = subst (λ i. i % 64 ≢ e.header.op % 64) (sym op) apart in
            let slot : s.entry g (x.op % 64) ≡ s.entry f (x.op % 64) = same (x.op % 64) (mod_below x.op 64 (omega arith)) ∙ store.others f again e (x.op % 64) far in
            (there.0, same_read s Fine store x f g slot ∙ there.1)
      ]

  -- ---- applying after it

  applied_taken : (e : Whole) (r : Replica) (f g : F) → LacksEntries s r f → Fine g → IsSound (stored e r) → AllRead s (stored e r) g → r.checkpoint < e.header.op → e.header.op ≤ r.commit
      → Taken e.header.op r (apply s (stored e r) g).replica (after_all s g (apply s (stored e r) g).script)
  applied_taken e r f g lacks fine sound reads above within =
      let q : Replica = stored e r in
      let like = stored_alike e r in
      let x = apply s q g in
      let c = apply_climbs s Fine store q g (like.missing ∙ lacks.loaded) reads in
      let up = c.up in
      let room = c.goes.room in
      let old = lacks.room in
      record {
        lacks = record {
          sound = ((keeps_apply {F = F}).every s q g sound).kept.sound;
          loaded = c.goes.missing ∙ like.missing ∙ lacks.loaded;
          reads = read_on s Fine store q x.replica g (after_all s g x.script) c.goes up (λ slot b. same_entries s Fine store x.script g slot (dry_apply.every s q g) b) reads;
          views = subst (λ v. v ≤ last_view) (sym (c.goes.view ∙ like.view)) lacks.views;
          room = omega (arith, room, old, like.saved, like.commit, like.applied);
        };
        fine = fine_after s Fine store x.script g fine;
        n = c.goes.n ∙ like.n;
        index = c.goes.index ∙ like.index;
        version = c.goes.version ∙ like.version;
        commit = c.goes.commit ∙ like.commit;
        up = omega (arith, up, like.applied);
        here = ap is_here (c.goes.parts e.header.op ∙ stored_here e r lacks.sound above within);
        parts = λ j a n. c.goes.parts j ∙ stored_other e r j lacks.sound above a n;
        passed = λ j a b. ap is_here (c.goes.parts j) ∙ c.passed j (omega (arith, a, like.applied)) b;
        stops = λ l. ap is_here (c.goes.parts (x.replica.applied + 1)) ∙ c.stops (omega (arith, l, c.goes.commit));
      }

  -- ---- the words of the step

  -- what holds at the end of the second word holds at the end of both
  at_end : (P : Replica → F → Type 0) (v w : Word F) (r : Replica) (f : F)
      → P (w s (v s r f).replica (after_all s f (v s r f).script)).replica (after_all s (after_all s f (v s r f).script) (w s (v s r f).replica (after_all s f (v s r f).script)).script)
      → P ((v ⨾ w) s r f).replica (after_all s f ((v ⨾ w) s r f).script)
  unfolding ◌⨾◌
  at_end P v w r f h =
      let a = v s r f in
      let b = w s a.replica (after_all s f a.script) in
      subst (P b.replica) (sym (after_both s f a.script b.script)) h

  either_still : (b : Bool) (x y : Replica → List Output) (r : Replica) (f : F) → (cond b (says x) (says y) s r f).replica ≡ r
  unfolding says
  either_still true x y r f = refl
  either_still false x y r f = refl

  resend_still : (e : Whole) (r : Replica) (f : F) → (resend e s r f).replica ≡ r
  unfolding resend naming by
  resend_still e r f = when_still s (is_started r && nat_lt r.commit e.header.op) _ r f (either_still (is_primary r) _ _ r f)

  write_is : (e : Whole) (r : Replica) (f : F) → write e s r f ≡ record { replica = stored e r; script = writes e r ∷ [] }
  unfolding write ◌⨾◌ does change
  write_is e r f = refl

  after_one : (f : F) (e : Effect) → after_all s f (e ∷ []) ≡ s.after f e
  unfolding after_all
  after_one f e = refl

  -- from the written entry on
  told_taken : (e : Whole) (r : Replica) (f : F) → LacksEntries s r f → Fine f → IsSound (stored e r) → IsWhole e → e.header.version ≤ store.last → r.checkpoint < e.header.op → e.header.op ≤ r.commit
      → let g = after_all s f (writes e r ∷ []) in
      Taken e.header.op r ((resend e ⨾ apply) s (stored e r) g).replica (after_all s g ((resend e ⨾ apply) s (stored e r) g).script)
  told_taken e r f lacks fine sound whole few above within =
      let q : Replica = stored e r in
      let g = after_all s f (writes e r ∷ []) in
      let x = resend e s q g in
      let g2 = after_all s g x.script in
      let fine2 : Fine g2 = fine_after s Fine store x.script g (fine_after s Fine store (writes e r ∷ []) f fine) in
      let reads : AllRead s q g2 =
      stored_read e (may_be_stored (part_at r e.header.op)) r f g2 lacks fine whole few above within
      (λ slot b. same_entries s Fine store x.script g slot ((dry_resend e).every s q g) b ∙ ap (λ (y : F). s.entry y slot) (after_one f (writes e r))) in
      at_end (Taken e.header.op r) (resend e) apply q g
      (subst (λ (p : Replica). Taken e.header.op r (apply s p g2).replica (after_all s g2 (apply s p g2).script)) (sym (resend_still e q g)) (applied_taken e r f g2 lacks fine2 sound reads above within))

  all_taken : (e : Whole) (r : Replica) (f : F) → LacksEntries s r f → Fine f → IsSound (stored e r) → IsWhole e → e.header.version ≤ store.last → r.checkpoint < e.header.op → e.header.op ≤ r.commit
      → let x = (write e ⨾ (resend e ⨾ apply)) s r f in Taken e.header.op r x.replica (after_all s f x.script)
  all_taken e r f lacks fine sound whole few above within =
      at_end (Taken e.header.op r) (write e) (resend e ⨾ apply) r f
      (subst (λ (y : Step). let g = after_all s f y.script in Taken e.header.op r ((resend e ⨾ apply) s y.replica g).replica (after_all s g ((resend e ⨾ apply) s y.replica g).script)) (sym (write_is e r f))
      (told_taken e r f lacks fine sound whole few above within))

  react_is : (g : GivePrepare) (r : Replica) (f : F) → not (is_frozen r) ≡ true → first_of (give_prepare_table g r) ≡ EntryTaken
      → react (event.Deliver (frame.GivePrepare g)) s r f ≡ (write g.entry ⨾ (resend g.entry ⨾ apply)) s r f
  unfolding react on_give_prepare by
  react_is g r f warm rule =
      when_true s (not (is_frozen r)) (on_event (event.Deliver (frame.GivePrepare g))) r f warm ∙ ap (λ (x : Rule). obey_give_prepare g x s r f) rule

  -- ---- the step

  op_taken : (g : GivePrepare) (r : Replica) (f : F) → version r ≤ store.last → LacksEntries s r f → Fine f → IsCopy r g.entry.header.op g → r.applied < g.entry.header.op → g.entry.header.op ≤ r.commit
      → is_absent (part_at r g.entry.header.op) ≡ true
      → let x = react (event.Deliver (frame.GivePrepare g)) s r f in Taken g.entry.header.op r x.replica (after_all s f x.script)
  op_taken g r f taken lacks fine copy from upto absent =
      let e : Whole = g.entry in
      let sound = lacks.sound in
      let low = sound.order.applied in
      let above : r.checkpoint < e.header.op = omega (arith, low, from) in
      let room = lacks.room in
      let warm = not_frozen r lacks.views (omega (arith, room)) in
      let rule = copy_taken g r sound copy from absent in
      let known : is_known e.header e.header.op r ≡ true =
      ap (λ (o : Option Header). option_map_or (λ d. same_header d e.header) o false) copy.named ∙ same_header_of e.header e.header refl in
      let may = may_store_given e r sound above known in
      let of_version = may.is_entry.of_version in
      let few : e.header.version ≤ store.last = omega (arith, of_version, taken) in
      let keeps = kept_stored e r sound may in
      subst (λ (y : Step). Taken e.header.op r y.replica (after_all s f y.script)) (sym (react_is g r f warm rule)) (all_taken e r f lacks fine keeps.sound copy.entry few above upto)

  pub copy_comes : (g : GivePrepare) (k : ℕ) (r : Replica) (f : F) → version r ≤ store.last → LacksEntries s r f → Fine f → IsCopy r k g → r.applied < k → k ≤ r.commit → is_absent (part_at r k) ≡ true
      → let x = react (event.Deliver (frame.GivePrepare g)) s r f in Taken k r x.replica (after_all s f x.script)
  copy_comes g k r f taken lacks fine copy =
      let x = react (event.Deliver (frame.GivePrepare g)) s r f in
      let op : g.entry.header.op ≡ k = (lacks.sound.entries.each k g.entry.header copy.named).1.at_op in
      subst (λ i. IsCopy r i g → r.applied < i → i ≤ r.commit → is_absent (part_at r i) ≡ true → Taken i r x.replica (after_all s f x.script)) op
      (λ c a b absent. op_taken g r f taken lacks fine c a b absent) copy

-- One copy after the other: what is committed gets here, up to the commit number, and is applied.
use Rattle.std.proofs.Common.{arith, ℕ, zero, suc, ◌+◌, ◌-◌, ◌≡◌, ◌≢◌, ◌≤◌, ◌<◌, ◌∙◌, inl, inr, refl, sym, ap, subst, Bool, true, false, cond, List, ◌∷◌, map}
use Rattle.std.specs.List.{range_with_len}
use Rattle.std.specs.Prelude.{filter}
use Rattle.std.proofs.lemmas.Bool.{cases_eq, cases_lt, true≢false}
use Rattle.vr_header.specs.declared.part.Part.{Part}
use Rattle.vr_header.specs.declared.part.Part.TheVariants.{Here, Lost, Wanted, Unknown, Nothing}
use Rattle.vr_header.specs.Parts.{has_header, header_of}
use Rattle.vr_msg.specs.declared.event.Event.TheVariants as event
use Rattle.vr_msg.specs.declared.frame.Frame.TheVariants as frame
use Rattle.vr_msg.specs.declared.frame.GivePrepare.{GivePrepare}
use Rattle.vr_rules.specs.Replica.{Replica, is_absent, is_here, part_at, version}
use Rattle.vr_rules.specs.Rules.{react}
use Rattle.vr_rules.specs.Sectors.{sectors_by}
use Rattle.vr_rules.specs.Steps.{Setting, Step, after_all}
use Rattle.vr_rules.proofs.Heads.{head_knows}
use Rattle.vr_rules.proofs.Keeping.{spans_of}
use Rattle.vr_rules.specs.Sound.{IsCaughtUp}
use Rattle.vr_world.specs.Lying.{lying}
use Rattle.law_repair.specs.Completing.{CopiesComplete, IsCopy, LacksEntries, absent_ops, after_copies}
use Rattle.law_repair.proofs.Disks.{HasRoom, IsLong, Stores, lying_stores, sectors_store}
use Rattle.law_repair.proofs.Taking.{Taken, copy_comes}

known_here : (p : Part) → has_header p ≡ true → is_absent p ≡ false → is_here p ≡ true
known_here (Here h) k a = refl
known_here (Lost h) k a = absurd cc
known_here (Wanted h) k a = absurd cc
known_here Unknown k a = absurd cc
known_here Nothing k a = absurd cc

here_absent : (p : Part) → is_here p ≡ true → is_absent p ≡ true → ⊥
here_absent (Here h) k a = absurd cc
here_absent (Lost h) k a = absurd cc
here_absent (Wanted h) k a = absurd cc
here_absent Unknown k a = absurd cc
here_absent Nothing k a = absurd cc

module _ {F : Type 0} (s : Setting F) (Fine : F → Type 0) (store : Stores s Fine) (old : Replica) (taken : version old ≤ store.last) (copy : ℕ → GivePrepare)
    (copies : (k : ℕ) → old.applied < k → k ≤ old.commit → is_absent (part_at old k) ≡ true → IsCopy old k (copy k)) where
  -- the copies of the ops up to lo have come
  record Stands (lo : ℕ) (r : Replica) (f : F) : Type 0 where
    lacks : LacksEntries s r f
    fine : Fine f
    n : r.n ≡ old.n
    index : r.index ≡ old.index
    version : version r ≡ version old
    commit : r.commit ≡ old.commit
    up : old.applied ≤ r.applied
    from : old.applied ≤ lo
    done : (k : ℕ) → r.applied < k → k ≤ lo → k ≤ old.commit → is_here (part_at r k) ≡ true
    todo : (k : ℕ) → lo < k → r.applied < k → k ≤ old.commit → part_at r k ≡ part_at old k
    behind : (k : ℕ) → lo < k → k ≤ old.commit → is_absent (part_at old k) ≡ true → r.applied < k

  -- what is applied ends before an op that isn't here
  abbrev Stops : Replica → Type 0
  Stops r = r.applied < old.commit → is_here (part_at r (r.applied + 1)) ≡ false

  goes_by : (lo : ℕ) (r : Replica) (f : F) → Stands lo r f → is_absent (part_at old (lo + 1)) ≡ false → Stands (lo + 1) r f
  goes_by lo r f h present =
      let from = h.from in
      let low = h.lacks.sound.order.applied in
      let known = h.lacks.sound.order.known in
      record {
        lacks = h.lacks;
        fine = h.fine;
        n = h.n;
        index = h.index;
        version = h.version;
        commit = h.commit;
        up = h.up;
        from = omega arith;
        done = λ k a b c. elim (cases_eq k (lo + 1)) [
          | inl same ↦
              let there : part_at r (lo + 1) ≡ part_at old (lo + 1) = h.todo (lo + 1) (omega arith) (omega (arith, a, same)) (omega (arith, c, same)) in
              let header : has_header (part_at r (lo + 1)) ≡ true = head_knows r (lo + 1) (spans_of r h.lacks.sound) (omega (arith, a, same, low)) (omega (arith, c, same, known, h.commit)) in
              subst (λ i. is_here (part_at r i) ≡ true) (sym same) (known_here (part_at r (lo + 1)) header (ap is_absent there ∙ present))
          | inr other ↦ h.done k a (omega (arith, b, other)) c
        ];
        todo = λ k a b c. h.todo k (omega (arith, a)) b c;
        behind = λ k a b c. h.behind k (omega (arith, a)) b c;
      }

  old_copy : (lo : ℕ) (r : Replica) (f : F) → Stands lo r f → lo + 1 ≤ old.commit → is_absent (part_at old (lo + 1)) ≡ true → IsCopy r (lo + 1) (copy (lo + 1))
  old_copy lo r f h within absent =
      let from = h.from in
      let c = copies (lo + 1) (omega arith) within absent in
      let same : part_at r (lo + 1) ≡ part_at old (lo + 1) = h.todo (lo + 1) (omega arith) (h.behind (lo + 1) (omega arith) within absent) within in
      record {
        entry = c.entry;
        named = ap header_of same ∙ c.named;
        version = c.version ∙ sym h.version;
        member = subst (λ n. (copy (lo + 1)).replica < n) (sym h.n) c.member;
        other = subst (λ i. (copy (lo + 1)).replica ≢ i) (sym h.index) c.other;
      }

  -- the replica and the disk once the copy of the next op has come
  abbrev given : ℕ → Replica → F → Step
  given k r f = react (event.Deliver (frame.GivePrepare (copy k))) s r f

  next_taken : (lo : ℕ) (r : Replica) (f : F) → Stands lo r f → lo + 1 ≤ old.commit → is_absent (part_at old (lo + 1)) ≡ true
      → Taken s Fine store (lo + 1) r (given (lo + 1) r f).replica (after_all s f (given (lo + 1) r f).script)
  next_taken lo r f h within absent =
      let above = h.behind (lo + 1) (omega arith) within absent in
      let same : part_at r (lo + 1) ≡ part_at old (lo + 1) = h.todo (lo + 1) (omega arith) above within in
      copy_comes s Fine store (copy (lo + 1)) (lo + 1) r f (subst (λ v. v ≤ store.last) (sym h.version) taken) h.lacks h.fine (old_copy lo r f h within absent) above (omega (arith, within, h.commit)) (ap is_absent same ∙ absent)

  goes_on : (lo : ℕ) (r q : Replica) (f g : F) → Stands lo r f → Taken s Fine store (lo + 1) r q g → Stands (lo + 1) q g
  goes_on lo r q f g h t =
      let from = h.from in
      let up = h.up in
      let more = t.up in
      let low = h.lacks.sound.order.applied in
      record {
        lacks = t.lacks;
        fine = t.fine;
        n = t.n ∙ h.n;
        index = t.index ∙ h.index;
        version = t.version ∙ h.version;
        commit = t.commit ∙ h.commit;
        up = omega arith;
        from = omega arith;
        done = λ k a b c. elim (cases_eq k (lo + 1)) [
          | inl same ↦ subst (λ i. is_here (part_at q i) ≡ true) (sym same) t.here
          | inr other ↦ ap is_here (t.parts k (omega (arith, a, more, low)) other) ∙ h.done k (omega (arith, a, more)) (omega (arith, b, other)) c
        ];
        todo = λ k a b c. t.parts k (omega (arith, b, more, low)) (λ e. omega (arith, e, a)) ∙ h.todo k (omega (arith, a)) (omega (arith, b, more)) c;
        behind = λ k a b c. elim (cases_lt q.applied k) [
          | inl above ↦ above
          | inr passed ↦
              let before : r.applied < k = h.behind k (omega (arith, a)) b c in
              let same : part_at q k ≡ part_at old k = t.parts k (omega (arith, before, low)) (λ e. omega (arith, e, a)) ∙ h.todo k (omega (arith, a)) before b in
              absurd (here_absent (part_at q k) (t.passed k before passed) (ap is_absent same ∙ c))
        ];
      }

  stops_there : (k : ℕ) (r q : Replica) (g : F) → r.commit ≡ old.commit → Taken s Fine store k r q g → Stops q
  stops_there k r q g same t = λ l. t.stops (omega (arith, l, same, t.commit))

  ends : (r : Replica) (f : F) → Stands old.commit r f → Stops r → old.commit ≤ r.applied
  ends r f h stops = elim (cases_lt r.applied old.commit) [
    | inl before ↦ absurd (true≢false (sym (h.done (r.applied + 1) (omega arith) (omega (arith, before)) (omega (arith, before))) ∙ stops before))
    | inr past ↦ past
  ]

  abbrev wanting : ℕ → Bool
  wanting k = is_absent (part_at old k)

  -- the copies of the next n ops
  complete : (n lo : ℕ) (r : Replica) (f : F) → lo + n ≡ old.commit → Stands lo r f → Stops r
      → old.commit ≤ (after_copies s (map copy (filter wanting (range_with_len (lo + 1) n))) r f).applied
  unfolding after_copies
  complete zero lo r f m h stops = let at : lo ≡ old.commit = omega (arith, m) in ends r f (subst (λ i. Stands i r f) at h) stops
  complete (suc n) lo r f m h stops =
      let rest : List ℕ = filter wanting (range_with_len (lo + 1 + 1) n) in
      let within : lo + 1 ≤ old.commit = omega (arith, m) in
      let go : (b : Bool) → wanting (lo + 1) ≡ b → old.commit ≤ (after_copies s (map copy (cond b ((lo + 1) ∷ rest) rest)) r f).applied = elim [
        | true ↦ λ absent.
            let x = given (lo + 1) r f in
            let g = after_all s f x.script in
            let t = next_taken lo r f h within absent in
            complete n (lo + 1) x.replica g (omega (arith, m)) (goes_on lo r x.replica f g h t) (stops_there (lo + 1) r x.replica g h.commit t)
        | false ↦ λ present. complete n (lo + 1) r f (omega (arith, m)) (goes_by lo r f h present) stops
      ] in
      go (wanting (lo + 1)) refl

  begins : (f : F) → LacksEntries s old f → Fine f → Stands old.applied old f
  begins f lacks fine = record {
    lacks = lacks;
    fine = fine;
    n = refl;
    index = refl;
    version = refl;
    commit = refl;
    up = omega arith;
    from = omega arith;
    done = λ k a b c. absurd (omega (arith, a, b));
    todo = λ k a b c. refl;
    behind = λ k a b c. a;
  }

  pub completed : (f : F) → LacksEntries s old f → Fine f → IsCaughtUp old → old.commit ≤ (after_copies s (map copy (absent_ops old)) old f).applied
  unfolding absent_ops
  completed f lacks fine up =
      let order = lacks.sound.order.commit in
      complete (old.commit - old.applied) old.applied old f (omega (arith, order)) (begins f lacks fine) (λ l. up.next lacks.loaded l)

pub sectors_complete : (v : ℕ) → CopiesComplete (sectors_by v) (λ f. f) (λ f. v)
unfolding sectors_store
sectors_complete v r f copy face taken lacks up copies = completed (sectors_by v) IsLong (sectors_store v) r taken copy copies f lacks face.count up

pub lying_complete : CopiesComplete lying (λ d. d.face) (λ d. d.version)
unfolding lying_stores
lying_complete r d copy face taken lacks up copies = completed lying (HasRoom (version r)) (lying_stores (version r)) r (omega arith) copy copies d lacks (face.count, taken) up

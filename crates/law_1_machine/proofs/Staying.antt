-- What stays in one move.
-- What was sent and chosen stays, and so does each header that a running member knows above its checkpoint, as long as it doesn't take
-- over the log of a later view.
use Rattle.std.proofs.Common.{ℕ, ◌≤◌, ◌<◌, ◌≡◌, inl, inr, arith, refl, sym, ap, ◌∙◌, Option, Some, None, subst}
use Rattle.std.proofs.lemmas.Bool.{cases_lt}
use Rattle.law_1_machine.specs.Basics.{In}
use Rattle.law_1_machine.specs.Quorums.{Quorums}
use Rattle.law_1_machine.specs.Headers.{Headers}
use Rattle.law_1_machine.specs.History.{History, InLog}
use Rattle.law_1_machine.specs.Parts.{Here, Lost, header}
use Rattle.law_1_machine.specs.Members.{Memory, Choice, Message}
use Rattle.law_1_machine.specs.Group.{Member, Group, becomes}
use Rattle.law_1_machine.specs.Machine.{Running, Remember, loses, learns, hears, tallies, applies, loads, forgets, Save, enters, checkpoints, takes_over, jumps, Step, remembers, saves, saves_cut, chooses, chooses_cut, makes, begins_write, ends_write, stops, opens_last, opens_cut, writes_header, starts, accepts, prepares, says}
use Rattle.law_1_machine.specs.Claims.{MemoryOk}
use Rattle.law_1_machine.specs.Invariant.{Invariant}
use Rattle.law_1_machine.specs.Laws.{KnowsStill}
use Rattle.law_1_machine.proofs.Counting.{at_update}
use Rattle.law_1_machine.proofs.Moves.{memory_of, next_ok, source_known}

module _ {H : Type 0} (q : Quorums) (hs : Headers H) (s : Group H) where
  pub stays : (s' : Group H) → Step q hs s s' → ((m : Message H) → In m s.sent → In m s'.sent) × ((c : Choice H) → In c s.chosen → In c s'.chosen)
  stays _ (remembers r m m' runs move) = (λ m i. i, λ c i. i)
  stays _ (saves r m m' named runs move names) = (λ m i. i, λ c i. i)
  stays _ (saves_cut r m m' named runs move names) = (λ m i. i, λ c i. i)
  stays _ (chooses r m parts c n named runs b names) = (λ m i. i, λ c i. inr i)
  stays _ (chooses_cut r m parts c n named runs b names) = (λ m i. i, λ c i. inr i)
  stays _ (makes r m e runs at leads number made on new) = (λ m i. i, λ c i. i)
  stays _ (begins_write r m k e o runs source lo hi free drop keep) = (λ m i. i, λ c i. i)
  stays _ (ends_write r m k e n runs source lo hi reach up) = (λ m i. i, λ c i. i)
  stays _ (stops r) = (λ m i. i, λ c i. i)
  stays _ (opens_last r) = (λ m i. i, λ c i. i)
  stays _ (opens_cut r x e) = (λ m i. i, λ c i. i)
  stays _ (writes_header r k e o stopped clean lo hi source drop keep) = (λ m i. i, λ c i. i)
  stays _ (starts r parts slots n stopped clean sound opened reach) = (λ m i. i, λ c i. i)
  stays _ (accepts r m k x runs b) = (λ m i. inr i, λ c i. i)
  stays _ (prepares r m k x c runs b leads l) = (λ m i. inr i, λ c i. i)
  stays _ (says r m x runs b) = (λ m i. inr i, λ c i. i)

some_same : {X : Type 0} (a b : X) → Some a ≡ Some b → a ≡ b
some_same a b e = cc

none_some : {X : Type 0} (x : X) → None ≡ Some x → ⊥
none_some x e = cc

module _ {H : Type 0} (q : Quorums) (hs : Headers H) (g : History H) (s : Group H) (y : Invariant q hs g s) where
  -- the log of one view has one entry at a number
  one_entry : (v w k : ℕ) (a b : H) → v ≡ w → InLog g v k a → InLog g w k b → b ≡ a
  one_entry v w k a b same x z = z.2 ∙ (sym (ap (λ i. g.log i k) same) ∙ sym x.2)

  -- what a memory of the same log view has no gap at, it knows as before
  still : (r : ℕ) (m m' : Memory H) → Running q hs s r m → MemoryOk q g r (s.members r).slots m' → m.log_view ≡ m'.log_view
      → (k : ℕ) (h : H) → m'.checkpoint < k → k ≤ m'.head → header (m.parts k) ≡ Some h → header (m'.parts k) ≡ Some h
  still r m m' runs ok same k h lo hi e =
      let w = ok.knows.whole k lo hi in
      w.1 ∙ ap Some (one_entry m.log_view m'.log_view k h w.0 same ((memory_of q hs g s y r m runs).1.knows.of_log k h e) (ok.knows.of_log k w.0 w.1))

  remembers_it : (r : ℕ) (m m' : Memory H) → Running q hs s r m → Remember q hs s m m' → KnowsStill m m'
  remembers_it r m _ runs (loses j x e) = λ k h lo a.
      inl (at_update (λ p. header p ≡ Some h) m.parts j (Lost x) k (λ at. let b : Some x ≡ Some h = ap header (sym e) ∙ (ap (λ i. header (m.parts i)) (sym at) ∙ a) in b) (λ _. a))
  remembers_it r m _ runs (learns from v c d i a b l) = λ k h lo a. inl a
  remembers_it r m _ runs (hears from j d c x i a b l) = λ k h lo a. inl a
  remembers_it r m _ runs (tallies set enough each l) = λ k h lo a. inl a
  remembers_it r m _ runs (applies x l is a b e) = λ k h lo a. inl a
  remembers_it r m _ runs (loads none) = λ k h lo a. inl a
  remembers_it r m _ runs (forgets parts above fewer) = λ k h lo a. inl (ap header (above k lo) ∙ a)

  saves_it : (r : ℕ) (m m' : Memory H) → Running q hs s r m → Save q hs s m m' → KnowsStill m m'
  saves_it r m _ runs (enters v up) = λ k h lo a. inl a
  saves_it r m _ runs (checkpoints x l is most e) = λ k h lo a. inl a
  saves_it r m _ runs (takes_over from v low head c headers parts commit n i t) = λ k h lo a.
      let old = (memory_of q hs g s y r m runs).1 in
      let ok = (next_ok q hs g s y r m _ runs (takes_over from v low head c headers parts commit n i t)).1 in
      elim (cases_lt m.log_view v) [
        | inl later ↦ inr later
        | inr not ↦
            let same : m.log_view ≡ v = (let u = t.view in let o = old.order in omega arith) in
            elim (cases_lt n k) [
              | inr within ↦ inl (still r m _ runs ok same k h lo within a)
              | inl beyond ↦ elim (t.above k (let u = t.reach in let z = u.0 in omega arith)) [ inl p ↦ inr p.0 | inr p ↦ inl (ap header p.1 ∙ a) ]
            ]
      ]
  saves_it r m _ runs (jumps from v low head c p headers parts commit n i from' rt j t) = λ k h lo a.
      let old = (memory_of q hs g s y r m runs).1 in
      let ok = (next_ok q hs g s y r m _ runs (jumps from v low head c p headers parts commit n i from' rt j t)).1 in
      elim (cases_lt m.log_view v) [
        | inl later ↦ inr later
        | inr not ↦
            let same : m.log_view ≡ v = (let u = t.view in let o = old.order in omega arith) in
            elim (cases_lt n k) [
              | inr within ↦ inl (still r m _ runs ok same k h lo within a)
              | inl beyond ↦ elim (t.above k (let u = t.reach in let z = u.0 in omega arith)) [
                | inl p ↦ inr p.0
                | inr p ↦ elim p.1 [
                  | inl b ↦ inl (ap header b ∙ a)
                  | inr b ↦ (let w = old.reach k h a in let z = b.0 in absurd (omega arith))
                ]
              ]
            ]
      ]

  same_memory : (m m' : Memory H) (o : Option (Memory H)) → o ≡ Some m → o ≡ Some m' → KnowsStill m m'
  same_memory m m' o a b = subst (KnowsStill m) (some_same m m' (sym a ∙ b)) (λ k h lo e. inl e)

  -- one member changes
  by_one : (i : ℕ) (z : Member H) → ((m m' : Memory H) → Running q hs s i m → z.memory ≡ Some m' → KnowsStill m m')
      → (r : ℕ) (m m' : Memory H) → Running q hs s r m → Running q hs (becomes s i z) r m' → KnowsStill m m'
  by_one i z f r m m' a b =
      at_update (λ (x : Member H). x.memory ≡ Some m' → KnowsStill m m') s.members i z r
      (λ e now. f m m' (subst (λ j. Running q hs s j m) e a) now) (λ _ now. same_memory m m' (s.members r).memory a now) b

  -- it becomes a memory that knows what its old one knew
  to : (m0 m1 m m' : Memory H) (o : Option (Memory H)) → o ≡ Some m0 → KnowsStill m0 m1 → o ≡ Some m → Some m1 ≡ Some m' → KnowsStill m m'
  to m0 m1 m m' o runs k a b = subst (λ x. KnowsStill x m') (some_same m0 m (sym runs ∙ a)) (subst (KnowsStill m0) (some_same m1 m' b) k)

  pub knows_still : (s' : Group H) → Step q hs s s' → (r : ℕ) (m m' : Memory H) → Running q hs s r m → Running q hs s' r m' → KnowsStill m m'
  knows_still _ (remembers i m0 m1 runs move) = by_one i (record (s.members i) { memory = Some m1 }) (λ m m' a b. to m0 m1 m m' (s.members i).memory runs (remembers_it i m0 m1 runs move) a b)
  knows_still _ (saves i m0 m1 named runs move names) = by_one i _ (λ m m' a b. to m0 m1 m m' (s.members i).memory runs (saves_it i m0 m1 runs move) a b)
  knows_still _ (saves_cut i m0 m1 named runs move names) = by_one i _ (λ m m' a b. absurd (none_some m' b))
  knows_still _ (chooses i m0 parts c n named runs d names) = by_one i _ (λ m m' a b. to m0 _ m m' (s.members i).memory runs (λ k h lo e. inr d.lower) a b)
  knows_still _ (chooses_cut i m0 parts c n named runs d names) = by_one i _ (λ m m' a b. absurd (none_some m' b))
  knows_still _ (makes i m0 e runs at leads number made on new) = λ r m m' a b. same_memory m m' (s.members r).memory a b
  knows_still _ (begins_write i m0 k e o runs source lo hi free drop keep) = by_one i _ (λ m m' a b. same_memory m m' (s.members i).memory a b)
  knows_still _ (ends_write i m0 j e n runs source lo hi reach up) = by_one i _ (λ m m' a b. to m0 _ m m' (s.members i).memory runs
      (λ k h low x. inl (at_update (λ p. header p ≡ Some h) m0.parts j (Here e) k
      (λ at. let ok = (memory_of q hs g s y i m0 runs).1 in
      ap Some (one_entry m0.log_view m0.log_view j h e refl (ok.knows.of_log j h (ap (λ z. header (m0.parts z)) (sym at) ∙ x)) (source_known q hs g s y i (s.members i).slots m0 j e ok source)))
      (λ _. x))) a b)
  knows_still _ (stops i) = by_one i _ (λ m m' a b. absurd (none_some m' b))
  knows_still _ (opens_last i) = by_one i _ (λ m m' a b. same_memory m m' (s.members i).memory a b)
  knows_still _ (opens_cut i x e) = by_one i _ (λ m m' a b. absurd (none_some m' b))
  knows_still _ (writes_header i k e o stopped clean lo hi source drop keep) = by_one i _ (λ m m' a b. same_memory m m' (s.members i).memory a b)
  knows_still _ (starts i parts slots n stopped clean sound opened reach) = by_one i _ (λ m m' a b. absurd (none_some m (sym stopped ∙ a)))
  knows_still _ (accepts i m0 k x runs b) = λ r m m' a b. same_memory m m' (s.members r).memory a b
  knows_still _ (prepares i m0 k x c runs b leads l) = λ r m m' a b. same_memory m m' (s.members r).memory a b
  knows_still _ (says i m0 x runs b) = λ r m m' a b. same_memory m m' (s.members r).memory a b

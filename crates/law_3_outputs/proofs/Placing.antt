-- Each running member of a run has its place among the others, and what a move puts out carries its values.
use Rattle.vr_base.specs.declared.kind.Kind.{Kind}
use Rattle.std.proofs.Common.{ℕ, zero, suc, ◌+◌, ◌<◌, ◌≤◌, ◌^◌, ◌≡◌, ◌∙◌, ◌⊎◌, inl, inr, arith, ap, subst, List, [], ◌∷◌, Some}
use Rattle.std.specs.Prelude.{All, slice_get, slice_set}
use Rattle.std.proofs.lemmas.List.Elements.{All-head, All-tail}
use Rattle.vr_super.specs.Copies.{IsGood, SuperValue}
use Rattle.vr_msg.specs.declared.event.Event.{Event}
use Rattle.vr_rules.specs.Replica.{Replica}
use Rattle.vr_world.specs.Lying.{Lying, lying}
use Rattle.vr_rules.specs.Laws.{Answers, IsPlaced, IsPresent}
use Rattle.vr_rules.specs.Opening.{AreKinds, blank, fresh}
use Rattle.vr_world.specs.Group.{Member, Group, Move, Moved, Moves, Played, Run, Runs, ended, goes, fresh_group, opening_script, resumed, stepped}
use Rattle.vr_world.specs.Group as group
use Rattle.vr_world.specs.GroupFit.{IsFitGroup, IsFitMove}
use Rattle.vr_rules.proofs.FitFresh.{fresh_fits}
use Rattle.vr_world.proofs.FitGroups.{fresh_at, fresh_group_fits, groups_fit}
use Rattle.vr_world.proofs.InTwo.{opening_in_two}
use Rattle.vr_rules.proofs.SendsSteps.{steps_are_present}
use Rattle.vr_rules.proofs.SendsOpening.{openings_are_present}
use Rattle.law_3_outputs.specs.Followed.{IsFitRun}
use Rattle.law_3_outputs.proofs.Fitting.{opening_of}

-- each running member
abbrev pub ArePlaced : Group → Type 0
ArePlaced g = (at : ℕ) (m : Member) (r : Replica) → Runs g at m r → IsPlaced r

-- the other members of a group in which one was set
set_other : {X : Type 0} (xs : List X) (i j : ℕ) (y x : X) → slice_get (slice_set xs i y) j ≡ Some x → (y ≡ x) ⊎ (slice_get xs j ≡ Some x)
set_other [] i j y x e = absurd cc
set_other (z ∷ zs) zero zero y x e = inl cc
set_other (z ∷ zs) zero (suc j) y x e = inr e
set_other (z ∷ zs) (suc i) zero y x e = inr e
set_other (z ∷ zs) (suc i) (suc j) y x e = set_other zs i j y x e

-- what a step and an opening put out
pub step_present : (r : Replica) (e : Event) (d : Lying) → IsPlaced r → IsPresent (Answers e) r (stepped e r d)
step_present r e d h = steps_are_present lying d r e h

pub opening_present : (v : SuperValue) (d : Lying) → IsGood v → IsPresent (λ to view. ⊥) (blank v) (record { replica = (resumed v d).replica; script = opening_script v d })
opening_present v d g = subst (IsPresent (λ to view. ⊥) (blank v)) (opening_in_two v d) (openings_are_present lying d v g)

module _ (g : Group) (at : ℕ) (placed : ArePlaced g) where
  -- one member runs on, or has stopped
  set_placed : (n : Member) (h : (r : Replica) → n.replica ≡ Some r → IsPlaced r) (j : ℕ) (m : Member) (r : Replica) → slice_get (slice_set g.members at n) j ≡ Some m → m.replica ≡ Some r → IsPlaced r
  set_placed n h j m r e runs =
      elim (set_other g.members at j n m e) [
        | inl same ↦ h r (ap (λ (z : Member). z.replica) same ∙ runs)
        | inr old ↦ placed j m r (record { member = old; running = runs })
      ]

move_placed : (c : ℕ) (g : Group) (move : Move) (moved : Moved) → IsFitGroup c g → IsFitMove move → Moves g move moved → ArePlaced g → ArePlaced moved.group
move_placed c g _ _ fit h (group.steps at a e d m r runs i) placed = λ j n q x.
    set_placed g at placed _ (λ q2 s. let same : (stepped e r d).replica ≡ q2 = cc in subst IsPlaced same (step_present r e d (placed at m r runs)).placed) j n q x.member x.running
move_placed c g _ _ fit h (group.cuts at a e d k m r runs i) placed = λ j n q x. set_placed g at placed _ (λ q2 s. absurd cc) j n q x.member x.running
move_placed c g _ _ fit h (group.crashes at m there) placed = λ j n q x. set_placed g at placed _ (λ q2 s. absurd cc) j n q x.member x.running
move_placed c g _ _ fit h (group.recovers at v d m o) placed = λ j n q x.
    set_placed g at placed _ (λ q2 s. let same : (resumed v d).replica ≡ q2 = cc in subst IsPlaced same (opening_present v d (opening_of c g at m v fit o.member o.value)).placed) j n q x.member x.running
move_placed c g _ _ fit h (group.recovers_cut at v d k m o) placed = λ j n q x. set_placed g at placed _ (λ q2 s. absurd cc) j n q x.member x.running
move_placed c g _ _ fit h (group.migrates at v m o) placed = λ j n q x. set_placed g at placed _ (λ q2 s. absurd cc) j n q x.member x.running
move_placed c g _ _ fit h (group.migrates_cut at v k m o) placed = λ j n q x. set_placed g at placed _ (λ q2 s. absurd cc) j n q x.member x.running

runs_placed : (c : ℕ) (g : Group) (ps : List Played) → Run g ps → IsFitGroup c g → All (λ p. IsFitMove p.move) ps → ArePlaced g → (t : ℕ) (p : Played) → slice_get ps t ≡ Some p → ArePlaced p.before
runs_placed c g _ (ended _) fit h placed t p e = absurd cc
runs_placed c g _ (goes _ move moved later moves rest) fit h placed zero p e =
    let q : Played = record { before = g; move = move; moved = moved } in
    let same : q ≡ p = (let o : Some q ≡ Some p = e in cc) in
    subst (λ (p : Played). ArePlaced p.before) same placed
runs_placed c g _ (goes _ move moved later moves rest) fit h placed (suc t) p e =
    let q : Played = record { before = g; move = move; moved = moved } in
    let one = All-head (λ (p : Played). IsFitMove p.move) q later h in
    runs_placed c moved.group later rest (groups_fit.each c g move moved fit one moves) (All-tail (λ (p : Played). IsFitMove p.move) q later h) (move_placed c g move moved fit one moves placed) t p e

fresh_placed : (kinds : ℕ → Kind) (c n : ℕ) → AreKinds kinds n → c < 2 ^ 64 → n ≤ 6 → ArePlaced (fresh_group kinds c n)
unfolding fresh_group
fresh_placed kinds c n are l b at m r x =
    let k = fresh_at kinds c n 0 n at m x.member in
    let j : 0 + at ≡ at = omega arith in
    let is : group.fresh_member (kinds at) c n at ≡ m = subst (λ i. group.fresh_member (kinds i) c n i ≡ m) j k.0 in
    let same : Some (fresh (kinds at) c n at) ≡ Some r = ap (λ (z : Member). z.replica) is ∙ x.running in
    let one : fresh (kinds at) c n at ≡ r = cc in
    subst IsPlaced one (fresh_fits (kinds at) c n at (are at k.1).0 l (are at k.1).1 b k.1).placed

-- in each group of a run
pub placed_at : (cluster n : ℕ) (run : List Played) → IsFitRun cluster n run → (t : ℕ) (p : Played) → slice_get run t ≡ Some p → ArePlaced p.before
placed_at cluster n run x t p is =
    runs_placed cluster (fresh_group x.kinds cluster n) run x.of_run (fresh_group_fits x.kinds cluster n x.are_kinds x.number x.some x.many) x.moves (fresh_placed x.kinds cluster n x.are_kinds x.number x.many) t p is

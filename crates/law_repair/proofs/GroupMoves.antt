-- Each move of a group leaves its running replicas caught up.
use Rattle.std.proofs.Common.{◌≡◌, ◌+◌, ◌⊎◌, ◌∙◌, inl, inr, ap, subst, ℕ, zero, suc, List, [], ◌∷◌, Some, None}
use Rattle.std.specs.Prelude.{All, slice_get, slice_set}
use Rattle.std.proofs.lemmas.List.Elements.{All-nil, All-cons, All-head, All-tail}
use Rattle.vr_base.specs.declared.kind.Kind.{Kind}
use Rattle.vr_rules.specs.Opening.{blank, fresh, opening}
use Rattle.vr_rules.specs.Replica.{Replica}
use Rattle.vr_rules.specs.Steps.{Step}
use Rattle.vr_rules.proofs.FitOpening.{headers_of}
use Rattle.vr_world.specs.Group.{Member, Group, Move, Moved, Moves, Played, Run, fresh_group, resumed}
use Rattle.vr_world.specs.Group as group
use Rattle.vr_world.specs.GroupFit.{IsFitGroup, IsFitMove}
use Rattle.vr_world.specs.Lying.{lying}
use Rattle.vr_world.proofs.FitLies.{lies_fit}
use Rattle.vr_world.proofs.FitGroups.{arrives, fresh_at, fresh_group_fits, good_value, groups_fit}
use Rattle.vr_world.proofs.InTwo.{opening_in_two}
use Rattle.law_repair.specs.CaughtUp.{KeepsUp}
use Rattle.law_repair.specs.Groups.{AllKeepUp, GroupsKeepUp}
use Rattle.law_repair.proofs.KeepingUp.{fresh_keep_up, openings_keep_up, steps_keep_up}

-- what stands at a place of a list in which one was set
pub set_at : {X : Type 0} (xs : List X) (at j : ℕ) (x y : X) → slice_get (slice_set xs at x) j ≡ Some y → (x ≡ y) ⊎ (slice_get xs j ≡ Some y)
set_at [] at j x y e = inr e
set_at (z ∷ zs) zero zero x y e = inl cc
set_at (z ∷ zs) zero (suc j) x y e = inr e
set_at (z ∷ zs) (suc at) zero x y e = inr e
set_at (z ∷ zs) (suc at) (suc j) x y e = set_at zs at j x y e

-- one member changed
one_up : (g : Group) (at : ℕ) (m : Member) → AllKeepUp g → ((r : Replica) → m.replica ≡ Some r → KeepsUp r)
    → (j : ℕ) (x : Member) (r : Replica) → slice_get (slice_set g.members at m) j ≡ Some x → x.replica ≡ Some r → KeepsUp r
one_up g at m h k j x r e i = elim (set_at g.members at j m x e) [
  | inl same ↦ k r (ap (λ (y : Member). y.replica) same ∙ i)
  | inr old ↦ h j x r old i
]

-- a member that runs with this replica then
runs_up : (q r : Replica) → KeepsUp q → Some q ≡ Some r → KeepsUp r
runs_up q r u e = let same : q ≡ r = cc in subst KeepsUp same u

stopped_up : (r : Replica) → None ≡ Some r → KeepsUp r
stopped_up r e = absurd cc

moves_up : (c : ℕ) (g : Group) (move : Move) (moved : Moved) → IsFitGroup c g → AllKeepUp g → IsFitMove move → Moves g move moved → AllKeepUp moved.group
moves_up c g _ _ h u k (group.steps at arrival e d m r runs i) =
    let fit = ((h.members at m runs.member).running r runs.running).0 in
    one_up g at _ u (λ q same. runs_up _ q (steps_keep_up lying d r e lies_fit.names fit.sound (arrives c g at arrival e h k.0 i) (u at m r runs.member runs.running)) same)
moves_up c g _ _ h u k (group.cuts at arrival e d j m r runs i) = one_up g at _ u (λ q same. stopped_up q same)
moves_up c g _ _ h u k (group.crashes at m there) = one_up g at _ u (λ q same. stopped_up q same)
moves_up c g _ _ h u k (group.recovers at v d m o) =
    let good = good_value c g.n at m v (h.members at m o.member) o.value in
    let up : KeepsUp (opening v lying (blank v) d).replica = openings_keep_up lying d v (headers_of lying d k) good.0 in
    one_up g at _ u (λ q same. runs_up (resumed v d).replica q (subst (λ (x : Step). KeepsUp x.replica) (opening_in_two v d) up) same)
moves_up c g _ _ h u k (group.recovers_cut at v d j m o) = one_up g at _ u (λ q same. stopped_up q same)
moves_up c g _ _ h u k (group.migrates at v m o) = one_up g at _ u (λ q same. stopped_up q same)
moves_up c g _ _ h u k (group.migrates_cut at v j m o) = one_up g at _ u (λ q same. stopped_up q same)

-- ---- runs

fresh_up : (kinds : ℕ → Kind) (c n : ℕ) → AllKeepUp (fresh_group kinds c n)
unfolding fresh_group
fresh_up kinds c n at m r e i =
    let k = fresh_at kinds c n 0 n at m e in
    let same : Some (fresh (kinds (0 + at)) c n (0 + at)) ≡ Some r = ap (λ (y : Member). y.replica) k.0 ∙ i in
    runs_up (fresh (kinds (0 + at)) c n (0 + at)) r (fresh_keep_up (kinds (0 + at)) c n (0 + at)) same

run_up : (c : ℕ) (g : Group) (run : List Played) → IsFitGroup c g → AllKeepUp g → All (λ p. IsFitMove p.move) run → Run g run → All (λ (p : Played). AllKeepUp p.before × AllKeepUp p.moved.group) run
run_up c g _ h u k (group.ended _) = All-nil _
run_up c g _ h u k (group.goes _ move moved later m rest) =
    let p : Played = record { before = g; move = move; moved = moved } in
    let fit = All-head (λ (p : Played). IsFitMove p.move) p later k in
    let after = moves_up c g move moved h u fit m in
    All-cons (λ (p : Played). AllKeepUp p.before × AllKeepUp p.moved.group) p later (u, after)
    (run_up c moved.group later (groups_fit.each c g move moved h fit m) after (All-tail (λ (p : Played). IsFitMove p.move) p later k) rest)

pub groups_keep_up : GroupsKeepUp
groups_keep_up kinds c n run are l a b k r = run_up c (fresh_group kinds c n) run (fresh_group_fits kinds c n are l a b) (fresh_up kinds c n) k r

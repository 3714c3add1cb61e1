-- Every move, and every run, of a group is one of the machine.
use Rattle.vr_base.specs.declared.kind.Kind.{Kind}
use Rattle.vr_rules.specs.Opening.{AreKinds}
use Rattle.std.specs.Prelude.{ℕ, ◌^◌, ◌<◌, ◌≤◌, ◌≡◌, List, All}
use Rattle.vr_header.specs.declared.header.Header.{Header}
use Rattle.vr_world.specs.Lying.{lying}
use Rattle.vr_world.specs.Group as group
use Rattle.vr_world.specs.Group.{Move, Moved, Moves, Played, Run, fresh_group}
use Rattle.vr_world.specs.GroupFit.{IsFitGroup, IsFitMove}
use Rattle.law_1_machine.specs.Group.{Group}
use Rattle.law_2_chains.specs.Chains.{Setup}
use Rattle.law_2_chains.specs.Tables.{Fits}
use Rattle.law_2_chains.specs.Bridge.{Bridges, Chained, Follows, FollowsFresh}

-- of a fit group, as every one of a run from a fresh one is, with the program's names and the quorums of its size
abbrev pub MovesAreChains : Type 0
MovesAreChains =
    (u : Setup) (g : group.Group) (s : Group Header) (move : Move) (moved : Moved) → Fits u → u.hash ≡ lying.hash → IsFitGroup u.cluster g → IsFitMove move → Moves g move moved → Bridges u g s
    → (a : Group Header) × Chained u s a (record { before = g; move = move; moved = moved })

abbrev pub RunsAreChains : Type 0
RunsAreChains =
    (u : Setup) (g : group.Group) (s : Group Header) (run : List Played) → Fits u → u.hash ≡ lying.hash → IsFitGroup u.cluster g → All (λ p. IsFitMove p.move) run → Run g run → Bridges u g s
    → Follows u s run

-- and so is every one of a group that was just made
abbrev pub FreshRunsAreChains : Type 0
FreshRunsAreChains =
    (kinds : ℕ → Kind) (cluster n : ℕ) (run : List Played) → AreKinds kinds n → cluster < 2 ^ 64 → 1 ≤ n → n ≤ 6 → All (λ p. IsFitMove p.move) run → Run (fresh_group kinds cluster n) run → FollowsFresh kinds cluster n run

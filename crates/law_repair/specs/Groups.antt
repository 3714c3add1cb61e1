-- In a run of a group each running replica has applied all that it can.
use Rattle.std.specs.Prelude.{ℕ, ◌^◌, ◌<◌, ◌≤◌, ◌≡◌, List, All, slice_get, Some}
use Rattle.vr_base.specs.declared.kind.Kind.{Kind}
use Rattle.vr_rules.specs.Opening.{AreKinds}
use Rattle.vr_rules.specs.Replica.{Replica}
use Rattle.vr_world.specs.Group.{Group, Member, Played, Run, fresh_group}
use Rattle.vr_world.specs.GroupFit.{IsFitMove}
use Rattle.law_repair.specs.CaughtUp.{KeepsUp}

abbrev pub AllKeepUp : Group → Type 0
AllKeepUp g = (at : ℕ) (m : Member) (r : Replica) → slice_get g.members at ≡ Some m → m.replica ≡ Some r → KeepsUp r

-- each move of a run of a fresh group leaves them so, whatever is delivered, cut, stopped, started and read
abbrev pub GroupsKeepUp : Type 0
GroupsKeepUp =
    (kinds : ℕ → Kind) (cluster n : ℕ) (run : List Played) → AreKinds kinds n → cluster < 2 ^ 64 → 1 ≤ n → n ≤ 6 → All (λ p. IsFitMove p.move) run → Run (fresh_group kinds cluster n) run
    → All (λ p. AllKeepUp p.before × AllKeepUp p.moved.group) run

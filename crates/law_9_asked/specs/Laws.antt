-- The log of a group has the order of time.
use Rattle.std.specs.Prelude.{ℕ, ◌^◌, ◌<◌, ◌≤◌, List, length}
use Rattle.std.specs.List.{AllByRecursion}
use Rattle.vr_base.specs.Groups.{least_members}
use Rattle.vr_base.specs.declared.kind.Kind.{Kind}
use Rattle.vr_header.specs.NoCollision.{NoCollision}
use Rattle.vr_rules.specs.Opening.{AreKinds, IsKind}
use Rattle.vr_world.specs.Lying.{hazards}
use Rattle.vr_world.specs.World.{Happening, fresh_world, happen}
use Rattle.law_4_disks.specs.Worlds.{IsLine, first_world}
use Rattle.law_6_one_log.specs.Laws.{KeepsLog, KeepsOneLog}
use Rattle.law_6_one_log.specs.Schedules.{IsHashedOf, MayAll, room}
use Rattle.law_9_asked.specs.Asked.{KeepsOrder}

-- Whatever happens to a group that was just made keeps one log, which has the order of what happened.
abbrev pub WorldsKeepOrder : Type 0
WorldsKeepOrder =
    (kinds : ℕ → Kind) (cluster n : ℕ) (xs : List Happening) → AreKinds kinds n → cluster < 2 ^ 64 → 1 ≤ n → n ≤ 6 → length xs < room cluster → AllByRecursion IsLine xs → NoCollision (IsHashedOf cluster (first_world kinds cluster n) xs)
    → (k : KeepsLog kinds cluster n (happen hazards (first_world kinds cluster n) xs)) × KeepsOrder (first_world kinds cluster n) k.safe.log xs

-- The group that a schedule begins keeps one log, which has the order of the lines: over each list of fewer than 2^60 lines that may happen to it.
abbrev pub SchedulesKeepOrder : Type 0
SchedulesKeepOrder =
    (kind : Kind) (n : ℕ) (xs : List Happening) → IsKind kind → least_members kind.version ≤ n → n ≤ 6 → length xs < 2 ^ 60 → MayAll (fresh_world hazards kind n) xs
    → (k : KeepsOneLog kind n (happen hazards (fresh_world hazards kind n) xs)) × KeepsOrder (fresh_world hazards kind n) k.safe.log xs

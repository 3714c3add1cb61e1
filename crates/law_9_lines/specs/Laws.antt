-- The log of a schedule has the order of its lines.
use Rattle.std.specs.Prelude.{ℕ, ◌^◌, ◌<◌, List}
use Rattle.vr_base.specs.Kinds.{strict}
use Rattle.vr_base.specs.declared.kind.Kind.{Kind}
use Rattle.vr_group.specs.Lines.{happenings}
use Rattle.vr_header.specs.NoCollision.{NoCollision}
use Rattle.vr_lines.specs.declared.line.Line.{Line}
use Rattle.cmd_replay.specs.Schedule.{Schedule, schedule_of}
use Rattle.cmd_soak.specs.Made.{lines_from, size_of}
use Rattle.vr_world.specs.Lying.{hazards}
use Rattle.vr_world.specs.World.{fresh_world, happen}
use Rattle.law_6_one_log.specs.Laws.{KeepsOneLog}
use Rattle.law_6_one_log.specs.Schedules.{IsHashed}
use Rattle.law_9_asked.specs.Asked.{KeepsOrder}

-- A group of n members that was just made, on files of this kind, keeps one log over these lines, which has their order: where names don't collide.
abbrev pub LinesKeepOrder : Kind → ℕ → List Line → Type 0
LinesKeepOrder kind n lines =
    NoCollision (IsHashed (fresh_world hazards kind n) (happenings lines))
    → (k : KeepsOneLog kind n (happen hazards (fresh_world hazards kind n) (happenings lines))) × KeepsOrder (fresh_world hazards kind n) k.safe.log (happenings lines)

-- of the lines that are played: those after the first and before the first that is refused
abbrev pub ScheduleKeepsOrder : Schedule → Type 0
ScheduleKeepsOrder s = 0 < s.n → LinesKeepOrder s.kind s.n s.lines

abbrev pub ReplaysKeepOrder : Type 0
ReplaysKeepOrder = (bytes : List ℕ) → ScheduleKeepsOrder (schedule_of bytes)

abbrev pub SoaksKeepOrder : Type 0
SoaksKeepOrder = (seed count : ℕ) → count < 2 ^ 60 → LinesKeepOrder strict (size_of seed) (lines_from seed count)

-- What is so of whatever happens to a group that was just made: there is one log.
use Rattle.std.specs.Prelude.{ℕ, ◌^◌, ◌<◌, ◌≤◌, ◌≡◌, ⊤, List}
use Rattle.std.specs.List.{AllByRecursion}
use Rattle.vr_base.specs.Groups.{least_members}
use Rattle.vr_base.specs.declared.kind.Kind.{Kind}
use Rattle.vr_header.specs.NoCollision.{NoCollision}
use Rattle.vr_lines.specs.declared.line.Line.{Line}
use Rattle.vr_lines.specs.declared.line.Line.TheVariants.{Request}
use Rattle.vr_world.specs.Lying.{Lying, hazards}
use Rattle.vr_rules.specs.Fit.{IsAsked}
use Rattle.vr_rules.specs.Opening.{IsKind}
use Rattle.vr_world.specs.World.{World, fresh_world, happen}
use Rattle.law_6_one_log.specs.Schedules.{IsHashed}
use Rattle.law_6_one_log.specs.Laws.{KeepsOneLog}
use Rattle.vr_group.specs.Lines.{happenings}

-- a group of so many members as files of this kind allow, as it is made on such files
pub record IsJustMade (kind : Kind) (w : World Lying) : Type 0 where
  pub few : least_members kind.version ≤ w.n
  pub many : w.n ≤ 6
  pub version : IsKind kind
  pub fresh : w ≡ fresh_world hazards kind w.n

-- what the type of a line's request keeps: it can be asked
abbrev pub HasAsked : Line → Type 0
HasAsked (Request replica request) = IsAsked request × (request.cluster < 2 ^ 64)
HasAsked _ = ⊤

abbrev pub HaveAsked : List Line → Type 0
HaveAsked lines = AllByRecursion HasAsked lines

-- A group of n members that was just made, on files of this kind, keeps one log, on disks that lie within their premise, whatever these lines
-- are: where names of what is read, held and written don't collide.
abbrev pub LinesKeepOneLog : Kind → ℕ → List Line → Type 0
LinesKeepOneLog kind n lines =
    NoCollision (IsHashed (fresh_world hazards kind n) (happenings lines)) → KeepsOneLog kind n (happen hazards (fresh_world hazards kind n) (happenings lines))

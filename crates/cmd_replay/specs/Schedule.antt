-- A schedule: the group that its first line makes, the lines after, the first line that is refused, and what the lines before
-- it come to.
use Rattle.std.specs.Prelude.{ℕ, ◌+◌, nat_lt, List, [], ◌∷◌, Option, Some, None, if◌then◌else◌}
use Rattle.std.specs.Option.{option_map_or}
use Rattle.vr_base.specs.Kinds.{strict}
use Rattle.vr_base.specs.declared.kind.Kind.{Kind}
use Rattle.vr_world.specs.Lying.{Lying, hazards}
use Rattle.vr_world.specs.World.{Happened, fresh_world, happen}
use Rattle.vr_lines.specs.Cuts.{lines_of}
use Rattle.vr_lines.specs.Grammar.{parse}
use Rattle.vr_lines.specs.declared.line.Line.{Line}
use Rattle.vr_lines.specs.declared.line.Line.TheVariants.{Cluster}
use Rattle.vr_group.specs.Outputs.{Numbered, numbered}
use Rattle.vr_group.specs.Lines.{happenings}

-- lines of a group, up to the first that is refused
pub record Accepted : Type 0 where
  pub lines : List Line
  pub refused : Option ℕ  -- its number

pub record Schedule : Type 0 where
  pub kind : Kind  -- what the files of the group are made as
  pub n : ℕ  -- the size of the group, 0 where none is made
  pub lines : List Line  -- those after the first and before the first that is refused
  pub refused : Option ℕ  -- the number of the first line that is refused

-- at most so many lines
abbrev pub limit : ℕ
limit = 1000000

-- the line of a version after so many others, in a group of n replicas, which is 0 before the first line
abbrev pub line_at : ℕ → ℕ → ℕ → List ℕ → Option Line
line_at version n number text = if nat_lt number limit then parse version n text else None

abbrev pub refuses : ℕ → Accepted
refuses number = record { lines = []; refused = Some number }

abbrev pub with_line : Line → Accepted → Accepted
with_line line a = record { lines = line ∷ a.lines; refused = a.refused }

-- further lines of a group of n and of its version, after so many others
unfoldable pub accepted : ℕ → ℕ → ℕ → List (List ℕ) → Accepted
accepted version n number [] = record { lines = []; refused = None }
accepted version n number (text ∷ texts) =
    option_map_or (λ line. with_line line (accepted version n (number + 1) texts)) (line_at version n number text) (refuses (number + 1))

-- no group is made
abbrev pub no_group : Option ℕ → Schedule
no_group refused = record { kind = strict; n = 0; lines = []; refused = refused }

-- a group, and the lines after
abbrev pub of_group : Kind → ℕ → Accepted → Schedule
of_group kind n a = record { kind = kind; n = n; lines = a.lines; refused = a.refused }

-- the first line makes the group
abbrev pub begun : List (List ℕ) → Line → Schedule
begun texts (Cluster n kind) = of_group kind n (accepted kind.version n 1 texts)
begun texts _ = no_group (Some 1)

-- lines to which others may come
abbrev pub so_far : List (List ℕ) → Schedule
so_far [] = no_group None
so_far (text ∷ texts) = option_map_or (begun texts) (line_at 1 0 0 text) (no_group (Some 1))

-- all lines; a schedule has at least one
abbrev pub schedule : List (List ℕ) → Schedule
schedule [] = no_group (Some 1)
schedule (text ∷ texts) = so_far (text ∷ texts)

abbrev pub schedule_of : List ℕ → Schedule
schedule_of bytes = schedule (lines_of bytes)

-- what a schedule comes to
abbrev pub replayed : Schedule → Happened Lying
replayed s = happen hazards (fresh_world hazards s.kind s.n) (happenings s.lines)

-- its outputs, with the numbers of messages
abbrev pub put_out : Schedule → List Numbered
put_out s = numbered 0 (replayed s).outputs

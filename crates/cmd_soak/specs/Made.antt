-- The schedule that a number makes.
use Rattle.std.specs.Prelude.{ℕ, zero, suc, List, [], ◌∷◌, ◌++◌, length}
use Rattle.vr_base.specs.Kinds.{strict}
use Rattle.vr_draws.specs.Asking.{next_requests}
use Rattle.vr_draws.specs.Draws.{Drawn}
use Rattle.vr_draws.specs.Drawn.{drawn_line, drawn_size}
use Rattle.vr_group.specs.Lines.{happenings}
use Rattle.vr_lines.specs.declared.line.Line.{Line}
use Rattle.vr_world.specs.Lying.{Lying, hazards}
use Rattle.vr_world.specs.World.{Happened, fresh_world, happen}

-- lines, and the number that is drawn from next
pub record Made : Type 0 where
  pub lines : List Line
  pub number : ℕ

-- what lines come to in a new group of n replicas, on strict files
abbrev pub come_to : ℕ → List Line → Happened Lying
come_to n lines = happen hazards (fresh_world hazards strict n) (happenings lines)

-- a line more
abbrev pub with_line : Made → Drawn Line → Made
with_line m d = record { lines = m.lines ++ d.value ∷ []; number = d.number }

-- the line that is drawn where lines have come to this
abbrev pub line_after : ℕ → ℕ → Happened Lying → Drawn Line
line_after n number h = drawn_line n (length h.world.sent) (next_requests h.outputs) number

-- so many lines for a group of n, drawn from a number, each by what those before it have come to
unfoldable pub made : ℕ → ℕ → ℕ → Made
made n number zero = record { lines = []; number = number }
made n number (suc k) = let m = made n number k in with_line m (line_after n m.number (come_to n m.lines))

-- the group and the lines of a seed
abbrev pub size_of : ℕ → ℕ
size_of seed = (drawn_size seed).value

abbrev pub lines_from : ℕ → ℕ → List Line
lines_from seed count = (made (size_of seed) (drawn_size seed).number count).lines

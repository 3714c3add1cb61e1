-- What comes next of a schedule, whose lines have room.
use Rattle.std.proofs.Common.{ℕ, ◌∙◌, List, Bool, take_all, ap, sym, arith}
use Rattle.vr_lines.specs.Cuts.{whole_lines}
use Rattle.vr_lines.specs.Grammar.{longest_line}
use Rattle.vr_lines.specs.Held.{Gives, GivesWithin, Held, room}
use Rattle.vr_lines.specs.declared.lines.Next.{Next}
use Rattle.vr_lines.specs.declared.lines.Next.TheVariants as next

pub gives : (ended : Bool) (old : List ℕ) (new : Held) (what : Next) → GivesWithin longest_line ended old new what → Gives ended old new what
gives ended old new next.Line g = g.0
gives ended old new next.TooLong g = (ap whole_lines (sym (take_all room old g.2)) ∙ g.0, omega (arith, g.1, g.2), g.3)
gives ended old new next.End g = g
gives ended old new next.More g = (g.0, g.1, omega (arith, g.2), g.3)

-- What a line comes to, by whether it is taken, and sinks that took nothing.
use Rattle.std.proofs.Common.{◌≡◌, ℕ, List, ap, refl, Option, Some, None}
use Rattle.vr_edge.specs.Told.{AppendsFront}
use Rattle.vr_edge.proofs.Told.{appends_nil}
use Rattle.vr_lines.specs.declared.line.Line.{Line}
use Rattle.cmd_replay.specs.Schedule.{line_at}
use Rattle.cmd_replay.specs.Playing.{Scene, taken, judged}

pub taken_some : (w : Scene) (number : ℕ) (text : List ℕ) (l : Line) → line_at w.version w.world.n number text ≡ Some l → taken w number text ≡ judged w number (Some l)
unfolding taken
taken_some w number text l e = ap (judged w number) e

pub taken_none : (w : Scene) (number : ℕ) (text : List ℕ) → line_at w.version w.world.n number text ≡ None → taken w number text ≡ judged w number None
unfolding taken
taken_none w number text e = ap (judged w number) e

pub front_nil : (a : Option (List ℕ)) (bytes : List ℕ) → AppendsFront a a bytes
front_nil a bytes = (_, bytes, appends_nil a, refl)

use Rattle.std.proofs.Common.{◌≡◌, ◌+◌, ◌-◌}
use Rattle.vr_codec.specs.Shapes.{headers_fit}
use Rattle.vr_codec.proofs.shape.headers_fit.Given as goal

abbrev pub invariant-loop-i : goal.invariant-loop-i
invariant-loop-i l = headers_fit l.version l.cluster l.last (l.count - l.i) (l.op + l.i) l.rest ≡ headers_fit l.fn.version l.fn.cluster l.fn.last l.fn.count l.fn.op l.fn.bytes

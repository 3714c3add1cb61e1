use Rattle.std.proofs.Common.{◌≡◌, arith}
use Rattle.vr_edge.proofs.Writing.{none_taken}
use Rattle.vr_edge.proofs.write_all.write_some.Goals as goal

pub returns-in-Ok-eq0-clause-bytes : goal.returns-in-Ok-eq0-clause-bytes
returns-in-Ok-eq0-clause-bytes g c =
    let none : c.in-Ok-eq0.field-0 ≡ 0 = omega arith in
    none_taken _ _ (rw none at c.in-Ok-eq0.ensures.bytes)

use Rattle.std.proofs.Common.{arith, refl, None}
use Rattle.vr_io_policy.proofs.Marks.{no_marks}
use Rattle.vr_io_policy.proofs.answers.Answers.new.Goals as goal

pub invariant_of-result : goal.invariant_of-result
invariant_of-result g c =
    (record { size = rw c.in_ok-places.ensures refl; within = omega arith }, rw (c.in_ok-places.ensures, c.in_ok-marks.ensures) (no_marks g.row.A.Denot 512))

pub returns : goal.returns
returns g c = rw c.in_ok-places.ensures refl

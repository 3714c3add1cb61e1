use Rattle.std.proofs.Common.{◌≡◌, vec_len}
use Rattle.vr_real.proofs.slots.meet.Given as goal

abbrev pub invariant-loop-at : goal.invariant-loop-at
invariant-loop-at l = vec_len l.slots ≡ vec_len l.fn.slots

use Rattle.std.proofs.Common.{◌≡◌, vec_len}
use Rattle.vr_real.proofs.slots.read_ready.Given as goal

abbrev pub invariant-loop : goal.invariant-loop
invariant-loop l = (vec_len l.slots ≡ vec_len l.fn.slots) × (l.count ≡ vec_len l.fn.slots)

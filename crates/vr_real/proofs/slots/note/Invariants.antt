use Rattle.std.proofs.Common.{◌≡◌, vec_len}
use Rattle.vr_real.proofs.slots.note.Given as goal

abbrev pub invariant-loop-event : goal.invariant-loop-event
invariant-loop-event l = vec_len l.slots ≡ vec_len l.fn.slots

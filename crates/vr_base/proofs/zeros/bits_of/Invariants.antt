use Rattle.std.proofs.Common.{◌≡◌, ◌==◌, take}
use Rattle.vr_base.specs.Bytes.{is_zeros}
use Rattle.vr_base.proofs.zeros.bits_of.Given as goal

abbrev pub invariant-loop-byte : goal.invariant-loop-byte
invariant-loop-byte l = (l.bits == 0) ≡ is_zeros (take l.byte-index l.bytes)

use Rattle.std.proofs.Common.{◌≡◌, take, drop, ◌++◌}
use Rattle.std.specs.Prelude.{bit_xor, map}
use Rattle.vr_mem.proofs.bytes.damage_all.Given as goal

abbrev pub invariant-loop-i : goal.invariant-loop-i
invariant-loop-i l = l.bytes ≡ map (λ b. bit_xor b 255) (take l.i l.fn.bytes) ++ drop l.i l.fn.bytes

use Rattle.std.specs.Prelude.{replicate}
use Rattle.std.proofs.Common.{◌≡◌, ◌-◌, ◌*◌, drop, length}
use Rattle.vr_disk.proofs.memo.zeros_behind.Given as goal

abbrev pub invariant-loop-k : goal.invariant-loop-k
invariant-loop-k l = drop (length l.bytes - 512 * l.k) l.bytes ≡ replicate (512 * l.k) 0

use Rattle.std.proofs.Common.{◌≡◌, ◌<◌, ℕ, true}
use Rattle.vr_mem.specs.Cells.{disk_of}
use Rattle.vr_lie.specs.Table.{reads_alike}
use Rattle.vr_lie.proofs.trial.are_alike.Given as goal

abbrev pub invariant-loop-k : goal.invariant-loop-k
invariant-loop-k l = record {
  told : disk_of l.disk ≡ disk_of l.fn.disk;
  faults : l.disk.faults ≡ l.fn.disk.faults;
  alike : (k : ℕ) → k < l.k → reads_alike (disk_of l.fn.disk).face k ≡ true;
}

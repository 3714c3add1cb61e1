use Rattle.std.proofs.Common.{◌≡◌, drop, length}
use Rattle.std.specs.Prelude.{map}
use Rattle.vr_disk.specs.DiskState.{settled}
use Rattle.vr_embed.specs.Seen.{cell_of, waiting_of}
use Rattle.vr_embed.proofs.sectors.take_back.Given as goal

abbrev pub invariant-loop-w : goal.invariant-loop-w
invariant-loop-w l = record {
  same : settled 0 (map waiting_of (drop l.w-index l.unsynced)) (map cell_of l.slots) ≡ settled 0 (map waiting_of l.unsynced) (map cell_of l.fn.slots);
  len : length l.slots ≡ length l.fn.slots;
}

-- What a call leaves that at most reads a disk.
use Rattle.std.specs.Prelude.{◌≡◌}
use Rattle.vr_disk.specs.declared.disk.SectorDisk as of_disk

-- The disk was at most read: what it tells is as it was, and no write or sync of it failed.
pub record Untouched {D : Type 0} (d : of_disk.Ghosts D) (disk disk' : D) : Type 0 where
  pub told : d.told disk' ≡ d.told disk
  pub faults : d.faults disk' ≡ d.faults disk

-- Disks whose sectors read as what they should hold.
use Rattle.std.specs.Prelude.{◌≡◌, Some}
use Rattle.std.specs.List.{All}
use Rattle.vr_disk.specs.DiskState.{Cell, Face, Waiting}

-- also those that a stop brings back
pub record IsHonest (f : Face) : Type 0 where
  pub cells : All (λ (c : Cell). c.reads ≡ Some c.truth) f.cells
  pub waiting : All (λ (w : Waiting). w.was.reads ≡ Some w.was.truth) f.waiting

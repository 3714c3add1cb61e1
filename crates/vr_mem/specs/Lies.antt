-- Sectors that read as something else than they should hold.
use Rattle.std.specs.Prelude.{ℕ, List, Option, slice_set}
use Rattle.vr_disk.specs.DiskState.{Face, cell}

-- a sector reads as this from now on; what it should hold stays
unfoldable pub lied : Face → ℕ → Option (List ℕ) → Face
lied f i reads = record { cells = slice_set f.cells i (record (cell f i) { reads = reads }); waiting = f.waiting }

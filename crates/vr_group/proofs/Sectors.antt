-- Lines speak of sectors of the disk.
use Rattle.std.proofs.Common.{ℕ, ◌<◌, arith}
use Rattle.vr_base.proofs.Versions.{between}
use Rattle.vr_disk.specs.Regions.{sectors}
use Rattle.vr_lines.specs.Fits.{IsSector}

pub on_disk : (version sector : ℕ) → IsSector version sector → sector < sectors
on_disk version sector l = let few = between version 1424 3984 (omega arith) in omega (arith, few.1, l)

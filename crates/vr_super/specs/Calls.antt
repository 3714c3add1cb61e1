-- The calls that write a value and mend its copies.
use Rattle.std.specs.Prelude.{ℕ, zero, suc, ◌+◌, ◌*◌, if◌then◌else◌, List, [], ◌∷◌, ◌++◌, drop}
use Rattle.vr_base.specs.Bytes.{piece}
use Rattle.vr_disk.specs.DiskState.{Call, Write, Sync, Face}
use Rattle.vr_disk.specs.Sectors.{has, writes}
use Rattle.vr_super.specs.Copies.{SuperValue, copy_bytes}
use Rattle.vr_super.specs.Opens.{copy_reading}

-- a copy written and synced
unfoldable pub copy_calls : ℕ → List ℕ → List Call
copy_calls copy bytes = writes (20 * copy) 20 bytes ++ Sync ∷ []

-- the first sector written and synced, then the others
unfoldable pub mend_copy : ℕ → List ℕ → List Call
mend_copy copy bytes = Write (20 * copy) (piece 0 512 bytes) ∷ Sync ∷ (writes (20 * copy + 1) 19 (drop 512 bytes) ++ Sync ∷ [])

-- unless the copy reads as these bytes
abbrev pub mend_unless : ℕ → List ℕ → Face → List Call
mend_unless copy bytes f = if has bytes (copy_reading f copy) then [] else mend_copy copy bytes

-- so many copies from one on
unfoldable pub mend_from : ℕ → ℕ → List ℕ → Face → List Call
mend_from copy zero bytes f = []
mend_from copy (suc n) bytes f = mend_unless copy bytes f ++ mend_from (copy + 1) n bytes f

unfoldable pub save_from : ℕ → ℕ → List ℕ → List Call
save_from copy zero bytes = []
save_from copy (suc n) bytes = copy_calls copy bytes ++ save_from (copy + 1) n bytes

-- each copy that doesn't read as the value
abbrev pub mend_calls : SuperValue → Face → List Call
mend_calls v f = mend_from 0 4 (copy_bytes v) f

-- the old value is mended, then all four copies are written
abbrev pub write_calls : SuperValue → SuperValue → Face → List Call
write_calls old new f = mend_calls old f ++ save_from 0 4 (copy_bytes new)

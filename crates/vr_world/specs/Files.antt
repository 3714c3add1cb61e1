-- The version of the files that members of a group read.
use Rattle.std.specs.Prelude.{ℕ, ◌≡◌, ⊤, slice_get, Some}
use Rattle.vr_world.specs.Group.{Group, Member, Move, Steps, Cuts, Crashes, Recovers, RecoversCut, Migrates, MigratesCut}
use Rattle.vr_world.specs.Lying.{Lying}

-- a disk with the file of this member
abbrev pub IsFileAt : Group → ℕ → Lying → Type 0
IsFileAt g at disk = (m : Member) → slice_get g.members at ≡ Some m → disk.version ≡ m.last.fields.version

-- What a move reads is a file of its member's version: that of the value that it last wrote or mended, or of the one that it opens.
abbrev pub IsOfFile : Group → Move → Type 0
IsOfFile g (Steps at arrival event disk) = IsFileAt g at disk
IsOfFile g (Cuts at arrival event disk effects) = IsFileAt g at disk
IsOfFile g (Crashes at) = ⊤
IsOfFile g (Recovers at value disk) = disk.version ≡ value.fields.version
IsOfFile g (RecoversCut at value disk effects) = disk.version ≡ value.fields.version
IsOfFile g (Migrates at value) = ⊤
IsOfFile g (MigratesCut at value effects) = ⊤

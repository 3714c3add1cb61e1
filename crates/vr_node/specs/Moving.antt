-- The file of a member becomes one of version 2.
use Rattle.std.specs.Prelude.{◌≡◌, ◌⊎◌, true, false, List, ℕ, Option, Err, Ok}
use Rattle.vr_base.specs.declared.table.Config.{Config}
use Rattle.vr_disk.specs.DiskState.{Attaches, Disk}
use Rattle.vr_disk.specs.declared.fault.Halt.TheVariants as halt
use Rattle.vr_opening.specs.Migration.{Migrated}
use Rattle.vr_opening.specs.declared.reopen.Refusal.TheVariants as found
use Rattle.vr_base.specs.declared.status.Status.{Status}
use Rattle.vr_base.specs.declared.status.Status.TheVariants.{Done, SuperLost, OtherMember, DiskFault, NoMemory}
use Rattle.vr_super.specs.declared.recovering.CopyVerdict.{CopyVerdict}

-- how the migration of the file on a disk ends, for this member
abbrev pub MovesFile : Config → Option Disk → Option Disk → Status → Type 0
MovesFile c d d' Done = Migrated c d d' (Ok tt)
MovesFile c d d' SuperLost = (verdicts : List CopyVerdict) × Migrated c d d' (Err (found.Lost verdicts))
MovesFile c d d' (OtherMember other asked) = (asked ≡ c) × Migrated c d d' (Err (found.OtherMember other))
MovesFile c d d' DiskFault = Migrated c d d' (Err (found.Halted halt.DiskFault))
MovesFile c d d' NoMemory = Migrated c d d' (Err (found.Halted halt.NoMemory))
MovesFile c d d' _ = ⊥

-- How the migration of a member's file of this name ends: its disk is attached by that name, and by no other, and then its file is moved; or it couldn't be
-- attached
abbrev pub MigrationEnds : Config → List ℕ → Option Disk → Option Disk → Status → Type 0
MigrationEnds c file d d' status =
    ((status ≡ DiskFault) × Attaches file d d' false)
    ⊎ ((disk : Option Disk) × Attaches file d disk true × MovesFile c disk d' status)

-- A member is made, or found again, on its disk.
use Rattle.std.specs.Prelude.{◌≡◌, ◌≤◌, List, [], Option, Some, None, Result, Ok, Err, IfOk, true}
use Rattle.vr_base.specs.Groups.{least_members}
use Rattle.vr_base.specs.declared.kind.Kind.{Kind}
use Rattle.vr_base.specs.declared.table.Config.{Config}
use Rattle.vr_disk.specs.Counts.{CountsFault}
use Rattle.vr_disk.specs.DiskState.{Disk}
use Rattle.vr_disk.specs.declared.disk.SectorDisk as of_disk
use Rattle.vr_msg.specs.declared.output.Output.{Output}
use Rattle.vr_opening.specs.Making.{Made}
use Rattle.vr_opening.specs.Recovering.{Recovered}
use Rattle.vr_opening.specs.declared.new_member.FreshFault.TheVariants as made
use Rattle.vr_opening.specs.declared.reopen.Refusal.TheVariants as found
use Rattle.vr_replica.specs.Running.{Running}
use Rattle.vr_rules.specs.Replica.{Replica}
use Rattle.vr_base.specs.declared.status.Status.{Status}
use Rattle.vr_base.specs.declared.status.Status.TheVariants.{SuperLost, OtherMember, DiskFault, NoMemory, Occupied}
use Rattle.vr_disk.specs.declared.fault.Halt.TheVariants as halt
use Rattle.vr_super.specs.declared.recovering.CopyVerdict.{CopyVerdict}

-- files of a kind are of version 1 or 2, and of groups of so many members as that version allows
abbrev pub MayMake : Kind → Config → Type 0
MayMake kind c = (1 ≤ kind.version) × (kind.version ≤ 2) × (least_members kind.version ≤ c.n)

-- the member of a disk, made anew as a file of this kind, or found again, and what its opening puts out: one that is made puts out nothing
abbrev pub Opens : Option Kind → Config → Option Disk → Option Disk → List Output → Replica → Type 0
Opens (Some kind) c d d' first r = (MayMake kind c × Made kind c d d' (Ok r)) × (first ≡ [])
Opens None c d d' first r = Recovered c d d' [] first (Ok r)

-- why there is none: anew, or not
abbrev pub MakesNone : Kind → Config → Option Disk → Option Disk → Status → Type 0
MakesNone kind c d d' Occupied = MayMake kind c × Made kind c d d' (Err made.Occupied)
MakesNone kind c d d' DiskFault = MayMake kind c × Made kind c d d' (Err made.DiskFault)
MakesNone kind c d d' NoMemory = MayMake kind c × Made kind c d d' (Err made.NoMemory)
MakesNone kind c d d' _ = ⊥

abbrev pub FindsNone : Config → Option Disk → Option Disk → Status → Type 0
FindsNone c d d' SuperLost = (verdicts : List CopyVerdict) × Recovered c d d' [] [] (Err (found.Lost verdicts))
FindsNone c d d' (OtherMember other asked) = (asked ≡ c) × Recovered c d d' [] [] (Err (found.OtherMember other))
FindsNone c d d' DiskFault = Recovered c d d' [] [] (Err (found.Halted halt.DiskFault))
FindsNone c d d' NoMemory = Recovered c d d' [] [] (Err (found.Halted halt.NoMemory))
FindsNone c d d' _ = ⊥

abbrev pub OpensNone : Option Kind → Config → Option Disk → Option Disk → Status → Type 0
OpensNone (Some kind) c d d' status = MakesNone kind c d d' status
OpensNone None c d d' status = FindsNone c d d' status

abbrev pub Opening : Option Kind → Config → Option Disk → Option Disk → List Output → Result Running Status → Type 0
Opening fresh c d d' first (Ok r) = Opens fresh c d d' first r.memory
Opening fresh c d d' first (Err status) = OpensNone fresh c d d' status

-- a member was opened and runs, or there is none; a fault of the disk is told: no other end leaves one
pub record OpensMember {D : Type 0} (d : of_disk.Ghosts D) (fresh : Option Kind) (c : Config) (disk disk' : D) (first : List Output) (result : Result Running Status) : Type 0 where
  pub running : IfOk result (λ r. r.running ≡ true)
  pub cause : CountsFault DiskFault (d.faults disk) (d.faults disk') result
  pub opened : Opening fresh c (d.told disk) (d.told disk') first result

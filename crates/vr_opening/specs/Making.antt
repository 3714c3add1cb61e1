-- A new member is made on its disk.
use Rattle.vr_base.specs.declared.kind.Kind.{Kind}
use Rattle.std.specs.Prelude.{◌≡◌, Bool, true, false, Option, is_some, IfSome, Result, Ok, Err}
use Rattle.vr_base.specs.declared.table.Config.{Config}
use Rattle.vr_disk.specs.DiskState.{Disk, Runs}
use Rattle.vr_super.specs.Opens.{good_copies, opened}
use Rattle.vr_rules.specs.Formatting.{format_calls}
use Rattle.vr_rules.specs.Opening.{fresh}
use Rattle.vr_rules.specs.Replica.{Replica}
use Rattle.vr_opening.specs.declared.new_member.FreshFault.{FreshFault}
use Rattle.vr_opening.specs.declared.new_member.FreshFault.TheVariants.{Occupied, DiskFault, NoMemory}

-- two good copies of a superblock agree, where the disk tells
abbrev pub Agrees : Option Disk → Bool → Type 0
Agrees d b = IfSome d (λ x. b ≡ is_some (opened (good_copies x.face)))

-- the calls that format the disk of this member, for a file of this kind
abbrev pub Formats : Kind → Config → Option Disk → Option Disk → Bool → Type 0
Formats kind c d d' ok = Runs (format_calls kind c.cluster c.n c.replica) d d' ok

abbrev pub MadeAs : Kind → Config → Option Disk → Option Disk → Result Replica FreshFault → Type 0
MadeAs kind c d d' (Ok r) = Agrees d false × (r ≡ fresh kind c.cluster c.n c.replica) × Formats kind c d d' true
MadeAs kind c d d' (Err Occupied) = Agrees d true × (d' ≡ d)
MadeAs kind c d d' (Err DiskFault) = Agrees d false × Formats kind c d d' false
MadeAs kind c d d' (Err NoMemory) = Agrees d false × (d' ≡ d)

-- the replica and its disk; or why there is none
pub record Made (kind : Kind) (c : Config) (d d' : Option Disk) (result : Result Replica FreshFault) : Type 0 where
  pub is : MadeAs kind c d d' result

-- What a disk tells that keeps beside its sectors what its slots hold.
use Rattle.std.specs.Prelude.{ℕ, ◌-◌, ◌≡◌, false, List, [], length, Option, Some, None}
use Rattle.vr_disk.specs.DiskState.{Beside, Call, CallVerdict, Disk, Face, Fuse}
use Rattle.vr_lie.specs.Faults.{held_as, held_at}
use Rattle.vr_rules.specs.Replica.{Replica}
use Rattle.vr_world.specs.Lying.{Lying, each_slot, settled}
use Rattle.vr_world.specs.World.{Host}

-- what a call leaves of what the slots hold, in a file of a version
abbrev pub next_held : ℕ → Face → Call → CallVerdict → List (Option (List ℕ)) → List (Option (List ℕ))
next_held version f c v held = each_slot (λ slot. held_as version f c v slot (held_at held slot))

-- what the slots hold, beside the sectors, and the name
abbrev pub slots : ℕ → List (Option (List ℕ)) → Option (List ℕ) → Beside
slots version held name = record { rows = held; next = next_held version; name = name }

-- the disk of the definitions, of a file of a version
abbrev pub lying_in : ℕ → Disk → Lying
lying_in version d = record { face = d.face; held = d.beside.rows; version = version }

-- it tells what its 64 slots hold, as a file of a version has them, and no call of it fails but by its fuse
pub record IsTold (version : ℕ) (d : Disk) : Type 0 where
  pub alive : d.fate.dead ≡ false
  pub sure : d.fate.failing ≡ []
  pub count : length d.beside.rows ≡ 64
  pub next : d.beside.next ≡ next_held version

-- with a fuse that lets so many writes and syncs through, and cuts the next one by this code
abbrev pub armed : ℕ → ℕ → Disk → Disk
armed calls code d = record d { fate = record d.fate { fuse = Some (record { calls = calls; code = code }) } }

-- the fuse after so many calls
abbrev pub burnt : ℕ → Option Fuse → Option Fuse
burnt n None = None
burnt n (Some u) = Some (record { calls = u.calls - n; code = u.code })

-- what hosts a member, by what its disk tells
abbrev pub host_on : ℕ → Option Replica → Disk → Host Lying
host_on version r d = record { replica = r; disk = lying_in version d; fuse = d.fate.fuse }

-- of a stopped member, once the version of its file is that of the value that it opens as
abbrev pub settled_on : ℕ → Disk → Host Lying
settled_on version d = record { replica = None; disk = settled (lying_in version d); fuse = d.fate.fuse }

-- A member and its disk, as the definitions have them.
use Rattle.std.specs.Prelude.{ℕ, ◌≡◌, true, List, [], Option, IfSome}
use Rattle.std.specs.Option.{option_map}
use Rattle.vr_disk.specs.DiskState.{Disk}
use Rattle.vr_msg.specs.declared.output.Output.{Output}
use Rattle.vr_rules.specs.Replica.{version}
use Rattle.vr_replica.specs.Running.{Running}
use Rattle.vr_world.specs.Lying.{Lying}
use Rattle.vr_world.specs.World.{Acted, Happened, Host, at_member}
use Rattle.vr_lie.specs.Told.{version_by}
use Rattle.vr_host_disk.specs.Disks.{told_by}
use Rattle.vr_host_disk.specs.Told.{IsTold, host_on}
use Rattle.vr_host_disk.specs.declared.disk.HostDisk.{HostDisk}

-- on a disk for a file of a version
abbrev pub host_by : ℕ → Option Running → Disk → Host Lying
host_by v r d = host_on v (option_map (λ (q : Running). q.memory) r) d

-- a replica that is there takes steps, and is of the file's version; and no call of the disk fails but by its fuse
pub record IsHostBy (v : ℕ) (r : Option Running) (d : Disk) : Type 0 where
  pub running : IfSome r (λ q. q.running ≡ true)
  pub version : IfSome r (λ q. version q.memory ≡ v)
  pub told : IsTold v d

-- by the version of the disk
abbrev pub host_of : Option Running → HostDisk → Host Lying
host_of r m = host_by (version_by m.lie) r (told_by m)

abbrev pub IsHost : Option Running → HostDisk → Type 0
IsHost r m = IsHostBy (version_by m.lie) r (told_by m)

-- what it left of a member, and put out
pub record HasActed (a : Acted Lying) (host : Host Lying) (out : List Output) : Type 0 where
  pub member : host ≡ a.member
  pub outputs : out ≡ a.outputs

-- one of some members acts
abbrev pub acted_at : List (Host Lying) → ℕ → (ℕ → Host Lying → Acted Lying) → Happened Lying
acted_at members index act = at_member (record { n = 0; members = members; sent = [] }) index act

pub record HaveActed (act : ℕ → Host Lying → Acted Lying) (old new : List (Host Lying)) (index : ℕ) (out : List Output) : Type 0 where
  pub members : new ≡ (acted_at old index act).world.members
  pub outputs : out ≡ (acted_at old index act).outputs

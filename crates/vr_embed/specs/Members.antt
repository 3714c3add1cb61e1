-- A replica and its disk as a member of a world.
use Rattle.std.specs.Prelude.{ℕ, ◌≡◌, List, Option, None}
use Rattle.vr_base.specs.declared.kind.Kind.{Kind}
use Rattle.vr_base.specs.declared.mode.Mode.TheVariants.{Strict}
use Rattle.vr_disk.specs.DiskState.{Disk}
use Rattle.vr_world.specs.Lying.{Lying}
use Rattle.vr_host_disk.specs.Told.{slots}
use Rattle.vr_world.specs.World.{Acted, Host}
use Rattle.vr_msg.specs.declared.output.Output.{Output}
use Rattle.vr_replica.specs.Running.{Running}
use Rattle.vr_group.specs.Hosts.{IsHostBy, host_by}

-- of what kind each member's file is
abbrev pub kind : Kind
kind = record { mode = Strict; version = 2 }

-- the disk of a file of version 2, beside what its slots hold
abbrev pub with_held : Disk → List (Option (List ℕ)) → Disk
with_held d held = record { face = d.face; fate = d.fate; beside = slots 2 held None }

-- A replica, none while it is stopped, on a disk that tells this, is this member: by some list of what its slots hold.
pub record Shows (r : Option Running) (d : Disk) (h : Host Lying) : Type 0 where
  pub held : List (Option (List ℕ))
  pub is : IsHostBy 2 r (with_held d held)
  pub host : h ≡ host_by 2 r (with_held d held)

-- it is the member that an act leaves, and what was put out is what the act puts out
pub record ShowsActed (r : Option Running) (d : Disk) (out : List Output) (a : Acted Lying) : Type 0 where
  pub member : Shows r d a.member
  pub outputs : out ≡ a.outputs

-- whichever member of a world it was, it did what that member does
abbrev pub Acts : (Host Lying → Acted Lying) → Option Running → Disk → Option Running → Disk → List Output → Type 0
Acts act r d r' d' out = (h : Host Lying) → Shows r d h → ShowsActed r' d' out (act h)

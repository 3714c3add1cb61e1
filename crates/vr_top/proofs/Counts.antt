-- The counts of faults, by an answer that is no fault of theirs.
use Rattle.std.proofs.Common.{◌≡◌, ℕ, refl}
use Rattle.vr_node.specs.Stops.{disk_after}
use Rattle.vr_base.specs.Counts.{reads_after, writes_after}
use Rattle.vr_base.specs.declared.status.Status.{Status}
use Rattle.vr_base.specs.declared.status.Status.TheVariants as status

pub no_read : (s : Status) (k : ℕ) → (s ≡ status.ReadFault → ⊥) → k ≡ reads_after s k
no_read status.Done k h = refl
no_read status.Usage k h = refl
no_read (status.Refused line) k h = refl
no_read status.SessionLost k h = refl
no_read status.ReadFault k h = absurd (h refl)
no_read status.WriteFault k h = refl
no_read status.DiskFault k h = refl
no_read status.LinkFault k h = refl
no_read status.SuperLost k h = refl
no_read (status.OtherMember found asked) k h = refl
no_read status.NoMemory k h = refl
no_read status.Occupied k h = refl
no_read status.NoAnswer k h = refl
no_read status.SpawnFault k h = refl

pub no_write : (s : Status) (k : ℕ) → (s ≡ status.WriteFault → ⊥) → k ≡ writes_after s k
no_write status.Done k h = refl
no_write status.Usage k h = refl
no_write (status.Refused line) k h = refl
no_write status.SessionLost k h = refl
no_write status.ReadFault k h = refl
no_write status.WriteFault k h = absurd (h refl)
no_write status.DiskFault k h = refl
no_write status.LinkFault k h = refl
no_write status.SuperLost k h = refl
no_write (status.OtherMember found asked) k h = refl
no_write status.NoMemory k h = refl
no_write status.Occupied k h = refl
no_write status.NoAnswer k h = refl
no_write status.SpawnFault k h = refl

pub no_disk : (s : Status) (k : ℕ) → (s ≡ status.DiskFault → ⊥) → k ≡ disk_after s k
no_disk status.Done k h = refl
no_disk status.Usage k h = refl
no_disk (status.Refused line) k h = refl
no_disk status.SessionLost k h = refl
no_disk status.ReadFault k h = refl
no_disk status.WriteFault k h = refl
no_disk status.DiskFault k h = absurd (h refl)
no_disk status.LinkFault k h = refl
no_disk status.SuperLost k h = refl
no_disk (status.OtherMember found asked) k h = refl
no_disk status.NoMemory k h = refl
no_disk status.Occupied k h = refl
no_disk status.NoAnswer k h = refl
no_disk status.SpawnFault k h = refl

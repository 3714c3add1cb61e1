-- Why a loop of turns ended before they were done.
use Rattle.std.specs.Prelude.{ℕ, ◌≤◌, ◌≡◌, Result, Err}
use Rattle.vr_base.specs.Causes.{one_more}
use Rattle.vr_disk.specs.declared.fault.Halt.{Halt}
use Rattle.vr_disk.specs.declared.fault.Halt.TheVariants as halt
use Rattle.vr_mail.specs.declared.receiving.ReceiveFault.{ReceiveFault}
use Rattle.vr_mail.specs.declared.receiving.ReceiveFault.TheVariants as received
use Rattle.vr_serve.specs.declared.stop.Stop.{Stop}
use Rattle.vr_serve.specs.declared.stop.Stop.TheVariants as stop

abbrev pub stop_of : Halt → Stop
stop_of halt.DiskFault = stop.Disk
stop_of halt.NoMemory = stop.NoMemory

abbrev pub received_stop : ReceiveFault → Stop
received_stop received.Link = stop.Link
received_stop received.NoMemory = stop.NoMemory

-- the counts of faults of the disk, the sink and the link
pub record Counts : Type 0 where
  pub disk : ℕ
  pub write : ℕ
  pub link : ℕ

abbrev pub counts : ℕ → ℕ → ℕ → Counts
counts disk write link = record { disk = disk; write = write; link = link }

-- the count of the disk's faults at the end of a loop: one more where it ended for its disk
abbrev pub disk_after : {T : Type 0} → Result T Stop → ℕ → ℕ
disk_after (Err stop.Disk) count = one_more count
disk_after _ count = count

-- that of the sink's
abbrev pub writes_after : {T : Type 0} → Result T Stop → ℕ → ℕ
writes_after (Err stop.Write) count = one_more count
writes_after _ count = count

-- that of the link's
abbrev pub links_after : {T : Type 0} → Result T Stop → ℕ → ℕ
links_after (Err stop.Link) count = one_more count
links_after _ count = count

-- A fault of the disk, of the sink or of the link is told: no other end leaves one. The link's count doesn't fall.
pub record HasCauses {T : Type 0} (before now : Counts) (result : Result T Stop) : Type 0 where
  pub disk : now.disk ≡ disk_after result before.disk
  pub write : now.write ≡ writes_after result before.write
  pub link : now.link ≡ links_after result before.link
  pub later : before.link ≤ now.link

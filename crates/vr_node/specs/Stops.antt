-- The status of a loop that ended early, and the count of the disk's faults at an end.
use Rattle.std.specs.Prelude.{ℕ}
use Rattle.vr_base.specs.Causes.{one_more}
use Rattle.vr_serve.specs.declared.stop.Stop.{Stop}
use Rattle.vr_serve.specs.declared.stop.Stop.TheVariants as stop
use Rattle.vr_base.specs.declared.status.Status.{Status}
use Rattle.vr_base.specs.declared.status.Status.TheVariants.{DiskFault, LinkFault, NoMemory, WriteFault}

abbrev pub status_of : Stop → Status
status_of stop.Disk = DiskFault
status_of stop.Link = LinkFault
status_of stop.Write = WriteFault
status_of stop.NoMemory = NoMemory

-- the count of the disk's faults at the end: one more where it ended with a fault of the disk
abbrev pub disk_after : Status → ℕ → ℕ
disk_after DiskFault count = one_more count
disk_after _ count = count

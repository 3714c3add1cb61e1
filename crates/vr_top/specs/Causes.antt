-- The cause that an answer has in the objects that were handed in.
use Rattle.std.specs.Prelude.{◌≡◌}
use Rattle.vr_edge.specs.Failing.{LinkFailure}
use Rattle.vr_node.specs.Stops.{disk_after}
use Rattle.vr_base.specs.Counts.{links_after, reads_after, writes_after}
use Rattle.vr_base.specs.declared.status.Status.{Status}
use Rattle.vr_base.specs.declared.status.Status.TheVariants.{LinkFault}
use Rattle.vr_top.specs.Outside.{Outside}

-- A failed read of the source, a failed write, a failed attach, write or sync of the disk, and a failed attach or receive of the link is told: it
-- adds one to the count of its object, and no other answer leaves one. A fault of the link has its cause there.
pub record HasCauses {S K D L C : Type 0} (o o' : Outside S K D L C) (status : Status) : Type 0 where
  pub read : o'.source.faults ≡ reads_after status o.source.faults
  pub write : o'.sink.faults ≡ writes_after status o.sink.faults
  pub disk : o'.disk.faults ≡ disk_after status o.disk.faults
  pub links : o'.link.faults ≡ links_after status o.link.faults
  pub link : status ≡ LinkFault → LinkFailure o.link.faults o'.link.faults o.link.attached o'.link.attached o.link.received o'.link.received

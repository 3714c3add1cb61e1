-- What the pieces of a member's run leave.
use Rattle.std.specs.Prelude.{ℕ, ◌≡◌, true, List, string_bytes, Result, Err, OnOk, IfErr}
use Rattle.vr_disk.specs.declared.disk.SectorDisk as of_disk
use Rattle.vr_edge.specs.Attaching.{texts_of}
use Rattle.vr_edge.specs.Failing.{EndsFailed, LinkFailure}
use Rattle.vr_edge.specs.declared.clock.Clock as of_clock
use Rattle.vr_edge.specs.declared.link.Link as of_link
use Rattle.vr_edge.specs.declared.sink.Sink as of_sink
use Rattle.vr_msg.specs.declared.output.Output.{Output}
use Rattle.vr_node.specs.Running.{EndsAttached, GroupEnds, IsCut, NodeEnds, Outside, outside}
use Rattle.vr_node.specs.Steps.{steps}
use Rattle.vr_node.specs.Stops.{disk_after}
use Rattle.vr_node.specs.declared.node.Node.{Node}
use Rattle.vr_node.specs.declared.role.Role.{Role}
use Rattle.vr_rules.specs.Replica.{version}
use Rattle.vr_serve.specs.Causes.{Counts, HasCauses, counts}
use Rattle.vr_serve.specs.Runs.{IsServed}
use Rattle.vr_serve.specs.declared.stop.Stop.{Stop}
use Rattle.vr_serve.specs.declared.stop.Stop.TheVariants as stop
use Rattle.vr_base.specs.Counts.{links_after, writes_after}
use Rattle.vr_base.specs.declared.status.Status.{Status}
use Rattle.vr_base.specs.declared.status.Status.TheVariants.{LinkFault}

-- what these objects tell
abbrev pub outside_of : {D L C K : Type 0} → of_disk.Ghosts D → of_link.Ghosts L → of_clock.Ghosts C → of_sink.Ghosts K → D → L → C → K → Outside
outside_of d l c k disk link clock sink = outside (d.told disk) (c.left clock) (l.received link) (k.taken sink) (l.sent link) (l.attached link)

-- the faults that they count
abbrev pub faults_of : {D L K : Type 0} → of_disk.Ghosts D → of_link.Ghosts L → of_sink.Ghosts K → D → L → K → Counts
faults_of d l k disk link sink = counts (d.faults disk) (k.faults sink) (l.faults link)

-- a member served its group for so many turns, or its loop ended early
pub record ServesGroup {D L C K : Type 0} (d : of_disk.Ghosts D) (l : of_link.Ghosts L) (c : of_clock.Ghosts C) (k : of_sink.Ghosts K) (turns : ℕ) (first : List Output)
    (node node' : Node) (disk0 disk1 : D) (link0 link1 : L) (clock0 clock1 : C) (sink0 sink1 : K) (result : Result (Unit {0}) Stop) : Type 0 where
  pub running : OnOk result (node'.replica.running ≡ true)
  pub causes : HasCauses (faults_of d l k disk0 link0 sink0) (faults_of d l k disk1 link1 sink1) result
  pub linked : result ≡ Err stop.Link → EndsFailed (l.received link0) (l.received link1)
  pub attached : l.attached link1 ≡ l.attached link0
  pub done : OnOk result (IsServed steps (version node.replica.memory) node.replica.memory.cluster turns first node node' (d.told disk0) (d.told disk1)
      (c.left clock0) (c.left clock1) (l.received link0) (l.received link1) (k.taken sink0) (k.taken sink1) (l.sent link0) (l.sent link1))
  pub cut : IfErr result (IsCut turns first node (outside_of d l c k disk0 link0 clock0 sink0) (outside_of d l c k disk1 link1 clock1 sink1))

-- a way to end
abbrev pub Ending : Type 1
Ending = Outside → Outside → Counts → Counts → Status → Type 0

-- the ways of a member in this role: once it is opened, and once its disk is attached
abbrev pub InGroup : Role → List Output → Node → Ending
InGroup role first node = GroupEnds (texts_of role.peers.items) role.config.replica role.turns first node

abbrev pub OnDisk : Role → Ending
OnDisk role = EndsAttached role.fresh role.config (texts_of role.peers.items) role.turns

-- it ended in this way, and a fault of the disk, of the sink or of the link is told: no other end leaves one
pub record Ends {D L C K : Type 0} (d : of_disk.Ghosts D) (l : of_link.Ghosts L) (c : of_clock.Ghosts C) (k : of_sink.Ghosts K) (way : Ending)
    (disk0 disk1 : D) (link0 link1 : L) (clock0 clock1 : C) (sink0 sink1 : K) (status : Status) : Type 0 where
  pub ends : way (outside_of d l c k disk0 link0 clock0 sink0) (outside_of d l c k disk1 link1 clock1 sink1)
      (faults_of d l k disk0 link0 sink0) (faults_of d l k disk1 link1 sink1) status
  pub disk : d.faults disk1 ≡ disk_after status (d.faults disk0)
  pub write : k.faults sink1 ≡ writes_after status (k.faults sink0)
  pub links : l.faults link1 ≡ links_after status (l.faults link0)

-- the same of a whole run; and a fault of the link has its cause there: where it tells, the attach failed or the last receive
pub record RunsNode {D L C K : Type 0} (d : of_disk.Ghosts D) (l : of_link.Ghosts L) (c : of_clock.Ghosts C) (k : of_sink.Ghosts K) (role : Role)
    (disk0 disk1 : D) (link0 link1 : L) (clock0 clock1 : C) (sink0 sink1 : K) (status : Status) : Type 0 where
  pub ends : NodeEnds role.fresh role.config (string_bytes role.file) (texts_of role.peers.items) role.turns (outside_of d l c k disk0 link0 clock0 sink0)
      (outside_of d l c k disk1 link1 clock1 sink1) (faults_of d l k disk0 link0 sink0) (faults_of d l k disk1 link1 sink1) status
  pub disk : d.faults disk1 ≡ disk_after status (d.faults disk0)
  pub write : k.faults sink1 ≡ writes_after status (k.faults sink0)
  pub links : l.faults link1 ≡ links_after status (l.faults link0)
  pub link : status ≡ LinkFault → LinkFailure (l.faults link0) (l.faults link1) (l.attached link0) (l.attached link1) (l.received link0) (l.received link1)

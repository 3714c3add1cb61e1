-- The whole run of a member.
use Rattle.std.specs.Prelude.{ℕ, ◌≡◌, ◌⊎◌, true, false, Bool, List, [], ◌∷◌, Option, get_or}
use Rattle.vr_base.specs.Causes.{Rose}
use Rattle.vr_base.specs.declared.kind.Kind.{Kind}
use Rattle.vr_base.specs.declared.table.Config.{Config}
use Rattle.vr_disk.specs.DiskState.{Attaches, Disk}
use Rattle.vr_edge.specs.Attaching.{attach_of}
use Rattle.vr_edge.specs.Datagrams.{Arrival}
use Rattle.vr_edge.specs.Failing.{EndsFailed}
use Rattle.vr_edge.specs.Told.{Grows}
use Rattle.vr_edge.specs.declared.attach.Attach.{Attach}
use Rattle.vr_edge.specs.declared.datagram.Datagram.{Datagram}
use Rattle.vr_msg.specs.declared.output.Output.{Output}
use Rattle.vr_node.specs.Opening.{Opens, OpensNone}
use Rattle.vr_node.specs.Steps.{steps, stops}
use Rattle.vr_node.specs.declared.node.Node.{Node}
use Rattle.vr_rules.specs.Replica.{version}
use Rattle.vr_serve.specs.Causes.{Counts}
use Rattle.vr_serve.specs.Runs.{End, IsCutBefore, IsCutInTurn, IsServed, end_at}
use Rattle.vr_serve.specs.declared.stop.Stop.{Stop}
use Rattle.vr_serve.specs.declared.stop.Stop.TheVariants as stop
use Rattle.vr_base.specs.declared.status.Status.{Status}
use Rattle.vr_base.specs.declared.status.Status.TheVariants.{Done, WriteFault, DiskFault, LinkFault, NoMemory}

-- what is outside of a member: what disk, clock, link and sink tell
pub record Outside : Type 0 where
  pub disk : Option Disk
  pub left : Option (List ℕ)
  pub got : Option (List Arrival)
  pub taken : Option (List ℕ)
  pub sent : Option (List (Option Datagram))
  pub attached : Option (List Attach)

abbrev pub outside : Option Disk → Option (List ℕ) → Option (List Arrival) → Option (List ℕ) → Option (List (Option Datagram)) → Option (List Attach) → Outside
outside disk left got taken sent attached = record { disk = disk; left = left; got = got; taken = taken; sent = sent; attached = attached }

-- with this told by the disk
abbrev pub on_disk : Option Disk → Outside → Outside
on_disk d o = record o { disk = d }

-- an early end that leaves this outside
abbrev pub end_in : Stop → Outside → End
end_in why o = end_at why o.disk o.taken o.sent

-- a front of the run was put out, no message before the whole text of its event; the disk is as the steps left it, the last of which may have stopped; and the clock
-- gave the numbers of that front, and no more
abbrev pub IsCut : ℕ → List Output → Node → Outside → Outside → Stop → Type 0
IsCut turns first node o o' why =
    IsCutBefore first o.disk o.left o'.left o.got o'.got o.taken o.sent (end_in why o')
    ⊎ IsCutInTurn steps stops (version node.replica.memory) node.replica.memory.cluster turns first node o.disk o.left o'.left o.got o'.got o.taken o.sent (end_in why o')

-- how a member ends that serves so many turns
abbrev pub ServeEnds : ℕ → List Output → Node → Outside → Outside → Counts → Counts → Status → Type 0
ServeEnds turns first node o o' before now Done =
    (node' : Node) × IsServed steps (version node.replica.memory) node.replica.memory.cluster turns first node node' o.disk o'.disk o.left o'.left o.got o'.got o.taken o'.taken o.sent o'.sent
ServeEnds turns first node o o' before now DiskFault = Rose before.disk now.disk × IsCut turns first node o o' stop.Disk
ServeEnds turns first node o o' before now LinkFault = Rose before.link now.link × EndsFailed o.got o'.got × IsCut turns first node o o' stop.Link
ServeEnds turns first node o o' before now WriteFault = Rose before.write now.write × IsCut turns first node o o' stop.Write
ServeEnds turns first node o o' before now NoMemory = IsCut turns first node o o' stop.NoMemory
ServeEnds turns first node o o' before now _ = ⊥

-- the link was attached, once: the member's own address is that with its number among those of all
abbrev pub TakesLink : List (List ℕ) → ℕ → Bool → Outside → Outside → Type 0
TakesLink peers member is_done o o' = Grows o.attached o'.attached (attach_of (get_or peers member []) peers is_done ∷ [])

-- the link couldn't be attached
pub record Unlinked (peers : List (List ℕ)) (member : ℕ) (o o' : Outside) (before now : Counts) (status : Status) : Type 0 where
  pub is : status ≡ LinkFault
  pub rose : Rose before.link now.link
  pub attached : TakesLink peers member false o o'
  pub same : o' ≡ record o { attached = o'.attached }

-- how a member ends that was opened: first its link, then its turns
abbrev pub GroupEnds : List (List ℕ) → ℕ → ℕ → List Output → Node → Outside → Outside → Counts → Counts → Status → Type 0
GroupEnds peers member turns first node o o' before now status =
    Unlinked peers member o o' before now status ⊎ (TakesLink peers member true o o' × ServeEnds turns first node o o' before now status)

-- a member that was opened
pub record Ran (fresh : Option Kind) (c : Config) (peers : List (List ℕ)) (turns : ℕ) (o o' : Outside) (before now : Counts) (status : Status) : Type 0 where
  pub disk : Option Disk
  pub first : List Output
  pub node : Node
  pub opens : Opens fresh c o.disk disk first node.replica.memory
  pub runs : node.replica.running ≡ true
  pub ends : GroupEnds peers c.replica turns first node (on_disk disk o) o' before now status

-- there is no member to be run: the link isn't attached
pub record Unopened (fresh : Option Kind) (c : Config) (o o' : Outside) (before now : Counts) (status : Status) : Type 0 where
  pub why : OpensNone fresh c o.disk o'.disk status
  pub rose : status ≡ DiskFault → Rose before.disk now.disk
  pub same : o' ≡ on_disk o'.disk o

-- the disk couldn't be attached by this name
pub record Unattached (file : List ℕ) (o o' : Outside) (before now : Counts) (status : Status) : Type 0 where
  pub is : status ≡ DiskFault
  pub failed : Attaches file o.disk o'.disk false
  pub rose : Rose before.disk now.disk
  pub same : o' ≡ on_disk o'.disk o

-- how a member ends whose disk is attached
abbrev pub EndsAttached : Option Kind → Config → List (List ℕ) → ℕ → Outside → Outside → Counts → Counts → Status → Type 0
EndsAttached fresh c peers turns o o' before now status =
    Unopened fresh c o o' before now status ⊎ Ran fresh c peers turns o o' before now status

-- How a member of this number ends, made anew as a file of this kind or found again, whose file has this name, whose group has these addresses and that is to serve so many turns: first its disk is attached by that name, and by no other, then come its superblock, its link, and its events in turn
abbrev pub NodeEnds : Option Kind → Config → List ℕ → List (List ℕ) → ℕ → Outside → Outside → Counts → Counts → Status → Type 0
NodeEnds fresh c file peers turns o o' before now status =
    Unattached file o o' before now status
    ⊎ ((disk : Option Disk) × Attaches file o.disk disk true × EndsAttached fresh c peers turns (on_disk disk o) o' before now status)

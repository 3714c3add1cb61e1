-- What one run of a member's program comes to: an opening, and events that were handled one after the other.
use Rattle.std.specs.Prelude.{ℕ, ◌≡◌, ◌⊎◌, ◌++◌, List, Option}
use Rattle.vr_base.specs.declared.kind.Kind.{Kind}
use Rattle.vr_base.specs.declared.table.Config.{Config}
use Rattle.vr_disk.specs.DiskState.{Disk}
use Rattle.vr_disk.specs.declared.fault.Halt.{Halt}
use Rattle.vr_edge.specs.Told.{AppendsFront}
use Rattle.vr_msg.specs.declared.event.Event.{Event}
use Rattle.vr_msg.specs.declared.output.Output.{Output}
use Rattle.vr_serve.specs.Causes.{Counts}
use Rattle.vr_serve.specs.Outputs.{numbers_after, text_from}
use Rattle.vr_serve.specs.Runs.{Did, IsRun, texts_of}
use Rattle.vr_node.specs.Opening.{Opens}
use Rattle.vr_node.specs.Running.{Outside, Ran}
use Rattle.vr_node.specs.Steps.{steps, stops}
use Rattle.vr_node.specs.declared.node.Node.{Node}
use Rattle.vr_base.specs.declared.status.Status.{Status}

-- an event whose step stopped was the last, and left the disk so
pub record Stopped (node : Node) (d d' : Option Disk) : Type 0 where
  pub event : Event
  pub halt : Halt
  pub after : Node
  pub left : stops node d event halt after d'

-- It was made or found; each event is a whole step, on the disk that the one before left; the disk at the end is as the last of them left it, or as
-- one more step left it, that stopped; and what was written is a front of their text.
pub record HasDeeds (fresh : Option Kind) (c : Config) (o o' : Outside) : Type 0 where
  pub disk : Option Disk
  pub first : List Output
  pub node : Node
  pub opens : Opens fresh c o.disk disk first node.replica.memory
  pub dids : List (Did Node)
  pub last : Node
  pub left : Option Disk
  pub run : IsRun steps node disk dids last left
  pub ends : (o'.disk ≡ left) ⊎ Stopped last left o'.disk
  pub taken : AppendsFront o.taken o'.taken (text_from 0 first ++ texts_of (numbers_after 0 first) dids)

-- so does each run of a member whose disk was attached and that was opened, however it ends
abbrev pub RunsAreDeeds : Type 0
RunsAreDeeds = (fresh : Option Kind) (c : Config) (peers : List (List ℕ)) (turns : ℕ) (o o' : Outside) (before now : Counts) (status : Status) → Ran fresh c peers turns o o' before now status → HasDeeds fresh c o o'

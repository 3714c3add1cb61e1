-- What a replica has of which its checkpoints are written, and what is written of blocks.
use Rattle.std.specs.Prelude.{ℕ, ◌<◌, ◌≡◌, ⊤, List, slice_get, Some}
use Rattle.std.specs.List.{AllByRecursion}
use Rattle.vr_base.specs.Bytes.{IsBytes}
use Rattle.vr_disk.specs.Stops.{IsCall}
use Rattle.vr_msg.specs.declared.event.Event.{Event}
use Rattle.vr_msg.specs.declared.event.Event.TheVariants as event
use Rattle.vr_msg.specs.declared.frame.Frame.{Frame}
use Rattle.vr_msg.specs.declared.frame.Frame.TheVariants as frame
use Rattle.vr_msg.specs.declared.output.Output.{Output}
use Rattle.vr_msg.specs.declared.output.Output.TheVariants as output
use Rattle.vr_msg.specs.declared.output.Sent.{Sent}
use Rattle.vr_state.specs.Kv.{IsKv}
use Rattle.vr_state.specs.Sessions.{IsSessions}
use Rattle.vr_state.specs.StateTexts.{texts_of}
use Rattle.vr_state.specs.declared.texts.Texts.{Texts}
use Rattle.vr_state.specs.declared.state.State.{State}
use Rattle.vr_ckpt.specs.Grid.{put_calls}
use Rattle.vr_ckpt.specs.Places.{grid_size}
use Rattle.vr_ckpt.specs.declared.name.Name.{Name}
use Rattle.vr_ckpt.specs.declared.table.PayloadTable.{PayloadTable}
use Rattle.vr_ckpt.specs.Saves.{save_calls}
use Rattle.vr_ckpt.specs.declared.table.Payload.{Payload}
use Rattle.vr_rules.specs.Replica.{Replica}
use Rattle.vr_rules.specs.Sound.{IsNameBytes}
use Rattle.vr_rules.specs.Steps.{Effect, Checkpoint, PutBlock, Say}
use Rattle.vr_world.specs.Group.{Group, Member}

-- the name of a payload's block
pub record IsPlaced (name : Name) : Type 0 where
  pub sum : IsNameBytes name.sum.0
  pub some : 0 < name.address
  pub few : name.address < grid_size

abbrev pub IsNamed : Payload → Type 0
IsNamed p = IsPlaced p.name

-- its state is one of the program's, and the payloads of its last checkpoint have names
pub record IsStocked (r : Replica) : Type 0 where
  pub sessions : IsSessions r.state.sessions
  pub machine : IsKv r.state.machine
  pub old_sessions : AllByRecursion IsNamed r.table.sessions
  pub old_keys : AllByRecursion IsNamed r.table.keys

-- this is so of a block that is given
abbrev pub IsGiven : (List ℕ → Type 0) → Frame → Type 0
IsGiven P (frame.GiveBlock g) = P g.block
IsGiven P _ = ⊤

abbrev pub IsGivenOutput : (List ℕ → Type 0) → Output → Type 0
IsGivenOutput P (output.Send s) = IsGiven P s.message
IsGivenOutput P _ = ⊤

abbrev pub IsGivenEvent : (List ℕ → Type 0) → Event → Type 0
IsGivenEvent P (event.Deliver m) = IsGiven P m
IsGivenEvent P _ = ⊤

-- the texts of a checkpoint are those of a state of the program, and the payloads of the one before have names
pub record IsOfState (texts : Texts) (old : PayloadTable) : Type 0 where
  pub state : State
  pub are : texts ≡ texts_of state
  pub sessions : IsSessions state.sessions
  pub machine : IsKv state.machine
  pub old_sessions : AllByRecursion IsNamed old.sessions
  pub old_keys : AllByRecursion IsNamed old.keys

-- Blocks are written in sectors of their size. Of those that are given P is so, and Q of those that are put in their places.
abbrev pub WritesBlocks : (P Q : List ℕ → Type 0) → Effect → Type 0
WritesBlocks P Q (Checkpoint cluster texts op old) = AllByRecursion IsCall (save_calls cluster texts op old) × IsOfState texts old
WritesBlocks P Q (PutBlock name block) = AllByRecursion IsCall (put_calls name.address block) × Q block
WritesBlocks P Q (Say o) = IsGivenOutput P o
WritesBlocks P Q _ = ⊤

pub record IsStockedGroup (g : Group) : Type 0 where
  pub running : (at : ℕ) (m : Member) (r : Replica) → slice_get g.members at ≡ Some m → m.replica ≡ Some r → IsStocked r
  pub sent : (number : ℕ) (s : Sent) → slice_get g.sent number ≡ Some s → IsGiven IsBytes s.message

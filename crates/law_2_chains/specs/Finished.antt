-- The end of a step: what it said is sent in the machine, and nothing else is.
use Rattle.std.specs.Prelude.{ℕ, ◌<◌, ◌≤◌, ◌≡◌, ◌≢◌, ◌⊎◌, ⊤, List, Option, Some}
use Rattle.vr_header.specs.declared.header.Header.{Header}
use Rattle.vr_header.specs.Names.{name_by}
use Rattle.vr_msg.specs.declared.frame.Frame.{Frame}
use Rattle.vr_msg.specs.declared.frame.Frame.TheVariants as frame
use Rattle.vr_msg.specs.declared.frame.Prepare.{Prepare}
use Rattle.vr_msg.specs.declared.frame.PrepareOk.{PrepareOk}
use Rattle.vr_msg.specs.declared.output.Output.{Output}
use Rattle.vr_msg.specs.declared.output.Output.TheVariants as output
use Rattle.vr_msg.specs.declared.output.Sent.{Sent}
use Rattle.vr_rules.specs.Replica.{Replica}
use Rattle.vr_rules.specs.Steps.{Step}
use Rattle.vr_rules.specs.Sound.{IsSound}
use Rattle.law_1_machine.specs.Basics.{In}
use Rattle.law_1_machine.specs.Group.{Group}
use Rattle.law_1_machine.specs.Members.{Choice, Memory, Message}
use Rattle.law_1_machine.specs.Members as machine
use Rattle.law_2_chains.specs.Local.{Local, carried, WhereverCut}
use Rattle.law_1_machine.specs.Laws.{Backed}
use Rattle.law_2_chains.specs.Reflecting.{entries_by, Reflects, IsDisk, KeepsStored}
use Rattle.law_2_chains.specs.Chains.{Setup, IsReached, WasSent, IsBackedLine, Every, WasMade, Stopped}

-- a message of the machine is one of those said. Of messages that vouch for nothing it isn't asked
pub data IsSaid (u : Setup) (said : List Output) : Message Header → Type 0 where
  acknowledged : (s : Sent) (a : PrepareOk) (h : Header) → In (output.Send s) said → s.message ≡ frame.PrepareOk a → name_by u.hash h ≡ a.name → IsSaid u said (machine.Prepare_ok a.replica a.view a.op h)
  prepared : (s : Sent) (p : Prepare) → In (output.Send s) said → s.message ≡ frame.Prepare p → IsSaid u said (machine.Prepare p.replica p.view p.entry.header.op p.entry.header p.commit)
  a_commit : (from view commit : ℕ) → IsSaid u said (machine.Commit from view commit)
  a_start : (from view lo top commit : ℕ) (headers : ℕ → Option Header) → IsSaid u said (machine.Start_view from view lo top commit headers)
  a_checkpoint : (from view checkpoint : ℕ) (root : List Header) → IsSaid u said (machine.Checkpoint from view checkpoint root)
  a_statement : (from view : ℕ) (t : machine.Statement Header) → IsSaid u said (machine.Do_view_change from view t)

-- each number up to a commit number is committed, in a view up to this one
abbrev pub AreBacked : Setup → List (Message Header) → ℕ → ℕ → Type 0
AreBacked u sent view commit = (k : ℕ) → 0 < k → k ≤ commit → (h : Header) × Backed u.quorums (entries_by u.hash u.cluster) sent view k h

-- the commit number of a message is backed
abbrev pub IsNumbered : Setup → List (Message Header) → Frame → Type 0
IsNumbered u sent (frame.Prepare p) = AreBacked u sent p.view p.commit
IsNumbered u sent (frame.Commit c) = AreBacked u sent c.view c.commit
IsNumbered u sent (frame.StartView v) = AreBacked u sent v.view v.commit
IsNumbered u sent (frame.SyncView v) = AreBacked u sent v.view v.commit
IsNumbered u sent _ = ⊤

-- what was put out is true: messages were sent, and their commit numbers, and lines, are backed by what was sent before
abbrev pub IsTrue : Setup → List (Message Header) → List (Message Header) → Output → Type 0
IsTrue u before sent (output.Send s) = WasSent u sent s.message × IsNumbered u before s.message
IsTrue u before sent (output.Commit c) = IsBackedLine u before c.entry.header
IsTrue u before sent _ = ⊤

pub record Finished (u : Setup) (start : Group Header) (i : ℕ) (r : Replica) (l : Local) (s : Group Header) : Type 0 where
  pub reached : IsReached u s
  pub others : (j : ℕ) → j ≢ i → s.members j ≡ start.members j
  pub disk : IsDisk l.member (s.members i)
  pub made : Every (WasMade s.made) l.made
  -- nothing was made in it
  pub none_made : s.made ≡ start.made
  pub memory : Memory Header
  pub running : (s.members i).memory ≡ Some memory
  pub reflects : Reflects r memory
  pub sound : IsSound r
  pub place : r.index ≡ i
  pub size : r.n ≡ u.quorums.n
  pub stored : KeepsStored r l.member
  -- its commit number is backed by what was sent before
  pub served : AreBacked u start.sent memory.log_view memory.commit
  -- all that was sent before is sent, all that was said is true, and nothing else was sent
  pub kept : (m : Message Header) → In m start.sent → In m s.sent
  pub chosen : (c : Choice Header) → In c start.chosen → In c s.chosen
  pub told : Every (IsTrue u start.sent s.sent) l.said
  pub only : (m : Message Header) → In m s.sent → In m start.sent ⊎ IsSaid u l.said m

-- a step can be carried out, and cut, in the machine
pub record Finishes (u : Setup) (start : Group Header) (i : ℕ) (l : Local) (x : Step) : Type 0 where
  pub after : Group Header
  pub ends : Finished u start i x.replica (carried x.script l) after
  pub cuts : WhereverCut (Stopped u start i) x.script l
  -- it may stop at its end, before anything is put out
  pub stopped : Stopped u start i (carried x.script l)

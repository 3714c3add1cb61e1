-- A replica that is a group by itself. It hears of nobody, so what it has stored counts by itself: in the machine it vouches for that
-- in the middle of its step, and goes on from there; and at its end once more.
use Rattle.std.specs.Prelude.{ℕ, ◌<◌, ◌≡◌, ◌⊎◌, List, [], ◌++◌, length, take, Contains}
use Rattle.vr_header.specs.declared.header.Header.{Header}
use Rattle.vr_header.specs.declared.part.Part.TheVariants.{Here}
use Rattle.vr_msg.specs.declared.event.Event.{Event}
use Rattle.vr_msg.specs.declared.output.Chosen.{Chosen}
use Rattle.vr_msg.specs.declared.output.Output.TheVariants as output
use Rattle.vr_rules.specs.Replica.{Replica, part_at}
use Rattle.vr_rules.specs.Steps.{Effect, Step, outputs}
use Rattle.vr_world.specs.Commitment.{Stored}
use Rattle.vr_world.specs.Storing.{here_in, in_view, stored_by}
use Rattle.law_1_machine.specs.Basics.{In}
use Rattle.law_1_machine.specs.Group.{Group}
use Rattle.law_1_machine.specs.Members.{Message, Prepare_ok}
use Rattle.law_2_chains.specs.Local.{Local, carried}
use Rattle.law_2_chains.specs.Chains.{Setup, IsReached, Goes, Every, AsksNothing}
use Rattle.law_2_chains.specs.Begins.{Begins}
use Rattle.law_2_chains.specs.Choices.{IsMadeFrom}
use Rattle.law_2_chains.specs.Tables.{HasTables}
use Rattle.law_2_chains.specs.Finished.{Finishes}

-- a vouch in its view, where that has begun, for what the replica has stored above its checkpoint
pub record IsStored (i : ℕ) (r : Replica) (m : Message Header) : Type 0 where
  pub begun : r.view ≡ r.log_view
  pub op : ℕ
  pub above : r.checkpoint < op
  pub header : Header
  pub here : part_at r op ≡ Here header
  pub is : m ≡ Prepare_ok i r.view op header

-- The machine's group b after replica r, member i of the group s, has vouched for what it has stored above its checkpoint, where its view has
-- begun. Nothing else was sent, and nothing else has changed.
pub record Vouched (i : ℕ) (r : Replica) (s b : Group Header) : Type 0 where
  pub kept : (m : Message Header) → In m s.sent → In m b.sent
  pub only : (m : Message Header) → In m b.sent → In m s.sent ⊎ IsStored i r m
  pub made : b.made ≡ s.made
  pub chosen : b.chosen ≡ s.chosen
  pub members : b.members ≡ s.members
  pub all : r.view ≡ r.log_view → (k : ℕ) (h : Header) → r.checkpoint < k → part_at r k ≡ Here h → In (Prepare_ok i r.view k h) b.sent

-- what counts as stored of a replica: what it has when its step begins, and what comes to count by effects that it then finished
abbrev pub counted_by : Replica → List Effect → List Stored
counted_by r es = in_view r.saved (here_in r) ++ stored_by r.saved (here_in r) es

-- member i's vouch for it
abbrev pub vouch_for : ℕ → Stored → Message Header
vouch_for i x = Prepare_ok i x.view x.header.op x.header

-- no more counts by the effects es than by fs
abbrev pub CountsNoMore : Replica → List Effect → List Effect → Type 0
CountsNoMore r es fs = (x : Stored) → In x (counted_by r es) → In x (counted_by r fs)

-- A step of r in two parts. In the first the replica stores, and says nothing that asks something; then it vouches for what counts by then:
-- nothing comes to count before that part has ended, or by the second. The second begins in the group in which it has vouched: what it puts
-- out is backed by that. At its end it vouches once more. Nothing is made but an entry that it then writes first; and at the end its tables
-- are true, unless it is frozen.
pub record IsLoneChain (u : Setup) (start : Group Header) (i : ℕ) (l : Local) (r : Replica) (x : Step) : Type 0 where
  pub first : Step
  pub second : Step
  pub script : x.script ≡ first.script ++ second.script
  pub replica : x.replica ≡ second.replica
  pub begun : Group Header
  pub begins : Begins u start i x.script begun
  pub goes : Goes u begun i l first
  pub silent : Every AsksNothing (carried first.script l).said
  pub early : (k : ℕ) → k < length first.script → CountsNoMore r (take k first.script) []
  pub late : (k : ℕ) → CountsNoMore r (first.script ++ take k second.script) first.script
  pub ground : Group Header
  pub grounds : Vouched i first.replica goes.after ground
  pub held : (m : Message Header) → IsStored i first.replica m → (x : Stored) × In x (counted_by r first.script) × (m ≡ vouch_for i x)
  pub counted : (x : Stored) → In x (stored_by r.saved (here_in r) first.script) → In (vouch_for i x) ground.sent
  pub finishes : Finishes u ground i (carried first.script l) second
  pub after : Group Header
  pub reached : IsReached u after
  pub vouches : Vouched i x.replica finishes.after after
  pub tables : HasTables u after i x.replica

-- such a step of r, and each of its choose lines is of a choice that was made by its end
pub record LoneChooses (u : Setup) (start : Group Header) (i : ℕ) (l : Local) (e : Event) (r : Replica) (x : Step) : Type 0 where
  pub chain : IsLoneChain u start i l r x
  pub choices : (c : Chosen) → Contains (outputs x.script) (output.Choose c) → IsMadeFrom chain.after.chosen e r c

-- How the machine's group stands for a group of the rules, and what of it a move carries on.
use Rattle.vr_base.specs.declared.kind.Kind.{Kind}
use Rattle.std.specs.Prelude.{ℕ, ◌+◌, ◌<◌, ◌≤◌, ◌≡◌, ◌⊎◌, ⊤, List, [], ◌∷◌, ◌++◌, length, All, Contains, slice_get, Some, None}
use Rattle.vr_header.specs.declared.header.Header.{Header}
use Rattle.vr_header.specs.declared.part.Part.TheVariants.{Here}
use Rattle.vr_msg.specs.declared.output.Chosen.{Chosen}
use Rattle.vr_msg.specs.declared.output.Committed.{Committed}
use Rattle.vr_msg.specs.declared.output.Output.{Output}
use Rattle.vr_msg.specs.declared.output.Output.TheVariants as output
use Rattle.vr_msg.specs.declared.output.Sent.{Sent}
use Rattle.vr_rules.specs.Replica.{Replica, part_at}
use Rattle.vr_world.specs.Lying.{lying}
use Rattle.vr_rules.specs.Steps.{Effect, outputs}
use Rattle.vr_world.specs.Commitment.{Stored}
use Rattle.vr_world.specs.Storing.{done_in, stored_from}
use Rattle.vr_world.specs.Group as group
use Rattle.vr_world.specs.Group.{Move, Steps, Runs, Played, made_in, stepped}
use Rattle.law_1_machine.specs.Basics.{In}
use Rattle.law_1_machine.specs.Group.{Group, Made}
use Rattle.law_1_machine.specs.Members.{Choice, Memory, Message, Prepare_ok}
use Rattle.law_2_chains.specs.Reflecting.{IsDisk, KeepsStored, Reflects}
use Rattle.law_2_chains.specs.Chains.{Setup, IsReached, Every, AsksNothing, IsBackedLine, WasMade, WasSent}
use Rattle.law_2_chains.specs.Choices.{IsMadeFrom}
use Rattle.law_2_chains.specs.Finished.{AreBacked, IsSaid, IsTrue}
use Rattle.law_2_chains.specs.Lone.{vouch_for}
use Rattle.law_2_chains.specs.Tables.{Fits, HasTables}

-- A running replica is what a memory of the machine says, what it has stored is kept, and its tables are true; and one that is a group by
-- itself has vouched for all that it has stored above its checkpoint, where its view has begun.
pub record IsRunning (u : Setup) (s : Group Header) (i : ℕ) (m : group.Member) (r : Replica) : Type 0 where
  pub memory : Memory Header
  pub running : (s.members i).memory ≡ Some memory
  pub reflects : Reflects r memory
  pub stored : KeepsStored r m
  pub tables : HasTables u s i r
  pub vouched : u.quorums.n ≡ 1 → r.view ≡ r.log_view → (k : ℕ) (h : Header) → r.checkpoint < k → part_at r k ≡ Here h → In (Prepare_ok i r.view k h) s.sent

pub record IsMember (u : Setup) (s : Group Header) (i : ℕ) (m : group.Member) : Type 0 where
  pub disk : IsDisk m (s.members i)
  pub running : (r : Replica) → m.replica ≡ Some r → IsRunning u s i m r
  pub stopped : m.replica ≡ None → (s.members i).memory ≡ None

abbrev pub IsSent : Setup → Group Header → Sent → Type 0
IsSent u s w = WasSent u s.sent w.message

-- the machine's group stands for the group: each member for its member, and what was sent and made was so in the machine
pub record Bridges (u : Setup) (g : group.Group) (s : Group Header) : Type 0 where
  pub reached : IsReached u s
  pub size : g.n ≡ u.quorums.n
  pub members : (i : ℕ) (m : group.Member) → slice_get g.members i ≡ Some m → IsMember u s i m
  pub sent : All (IsSent u s) g.sent
  pub made : All (WasMade s.made) g.made

-- each choose line of a step is of one of these choices, from what its member had heard
abbrev pub ChoosesWell : group.Group → Move → List (Choice Header) → List Output → Type 0
ChoosesWell g (Steps at arrival e d) chosen os = (m : group.Member) (r : Replica) → Runs g at m r → (c : Chosen) → Contains os (output.Choose c) → IsMadeFrom chosen e r c
ChoosesWell g _ chosen os = ⊤

-- what the member of a step has committed at its end is so by these messages
abbrev pub ServesWell : Setup → group.Group → Move → List (Message Header) → Type 0
ServesWell u g (Steps at arrival e d) sent = (m : group.Member) (r : Replica) → Runs g at m r → AreBacked u sent (stepped e r d).replica.log_view (stepped e r d).replica.commit
ServesWell u g _ sent = ⊤

-- a vouch of the replica that is a group by itself, for what counts as stored by these effects of its own
pub record IsOwnVouch (u : Setup) (g : group.Group) (es : List Effect) (m : Message Header) : Type 0 where
  pub alone : u.quorums.n ≡ 1
  pub stored : Stored
  pub counts : Contains (stored_from g es) stored
  pub is : m ≡ vouch_for 0 stored

-- What was sent by the time at which a move puts something out: what was sent before it, and where the replica is a group by itself, its
-- vouches for what counts as stored by then.
pub record IsGround (u : Setup) (g : group.Group) (es : List Effect) (s ground : Group Header) : Type 0 where
  pub before : (m : Message Header) → In m s.sent → In m ground.sent
  pub own : (m : Message Header) → In m ground.sent → In m s.sent ⊎ IsOwnVouch u g es m
  pub several : 2 ≤ u.quorums.n → ground.sent ≡ s.sent

-- What a move leaves: nothing is taken back, what was put out is true by what was sent by then, and nothing else was sent or made, at most
-- one entry in all. A replica that is a group by itself vouches in it, once the first of its effects are finished, by which it puts out
-- nothing that asks something, and once more at its end; and for all that comes to count as stored by effects that were finished.
pub record Chained (u : Setup) (s a : Group Header) (p : Played) : Type 0 where
  pub bridges : Bridges u p.moved.group a
  pub sent : (m : Message Header) → In m s.sent → In m a.sent
  pub chosen : (c : Choice Header) → In c s.chosen → In c a.chosen
  pub first : List Effect
  pub second : List Effect
  pub parts : done_in p.move p.moved.script ≡ first ++ second
  pub silent : Every AsksNothing (outputs first)
  pub ground : Group Header
  pub grounds : IsGround u p.before first s ground
  pub told : Every (IsTrue u ground.sent a.sent) p.moved.outputs
  pub served : ServesWell u p.before p.move ground.sent
  -- each commit line that it began to put out is of an entry that is committed by then
  pub lines : (c : Committed) → In (output.Commit c) (outputs p.moved.script) → IsBackedLine u a.sent c.entry.header
  pub only : (m : Message Header) → In m a.sent
      → In m s.sent ⊎ (IsSaid u p.moved.outputs m ⊎ (IsOwnVouch u p.before (done_in p.move p.moved.script) m ⊎ IsOwnVouch u p.moved.group [] m))
  pub counted : u.quorums.n ≡ 1 → (x : Stored) → Contains (stored_from p.before (done_in p.move p.moved.script)) x → In (vouch_for 0 x) a.sent
  pub made : (x : Made Header) → In x a.made → In x s.made ⊎ In x.entry (made_in p.moved.script)
  pub few : length a.made ≤ length s.made + 1
  pub choices : ChoosesWell p.before p.move a.chosen p.moved.outputs

-- a run, move by move
abbrev pub Follows : Setup → Group Header → List Played → Type 0
Follows u s [] = ⊤
Follows u s (p ∷ ps) = (a : Group Header) × Chained u s a p × Follows u a ps

-- A run of a group that was just made, from a group of the machine on in which nothing was sent or made; with the names of the program
-- and the quorums of its size.
pub record FollowsFresh (kinds : ℕ → Kind) (cluster n : ℕ) (run : List Played) : Type 0 where
  pub setup : Setup
  pub fits : Fits setup
  pub hash_is : setup.hash ≡ lying.hash
  pub cluster_is : setup.cluster ≡ cluster
  pub size_is : setup.quorums.n ≡ n
  pub first : Group Header
  pub bridges : Bridges setup (group.fresh_group kinds cluster n) first
  pub none_sent : first.sent ≡ []
  pub none_made : first.made ≡ []
  pub follows : Follows setup first run

-- What the machine of small moves gives of a run of a group: for each move of the run a chain of the machine's, at whose end all that
-- was put out is so, and nothing else was sent, made or chosen. It is what a run of the machine gives for what is said of its outputs.
use Rattle.vr_base.specs.declared.kind.Kind.{Kind}
use Rattle.std.specs.Prelude.{ℕ, suc, ◌^◌, ◌<◌, ◌≤◌, ◌≡◌, ◌==◌, ◌⊎◌, ⊤, List, [], ◌++◌, map, length, All, slice_get, Some, if◌then◌else◌}
use Rattle.vr_base.specs.Bytes.{name_of}
use Rattle.vr_header.specs.declared.header.Header.{Header}
use Rattle.vr_header.specs.Bodies.{operation_bytes}
use Rattle.vr_header.specs.Made.{IsBodyOf, Whole}
use Rattle.vr_header.specs.Names.{root_header}
use Rattle.vr_header.specs.Spelling.{IsHeader}
use Rattle.vr_msg.specs.declared.choice.Choice.TheVariants.{Ends}
use Rattle.vr_msg.specs.declared.event.Event.{Event}
use Rattle.vr_msg.specs.declared.frame.Frame.{Frame}
use Rattle.vr_msg.specs.declared.frame.Frame.TheVariants as frame
use Rattle.vr_msg.specs.declared.output.Chosen.{Chosen}
use Rattle.vr_msg.specs.declared.output.Committed.{Committed as Line}
use Rattle.vr_msg.specs.declared.output.Output.{Output}
use Rattle.vr_msg.specs.declared.output.Output.TheVariants as output
use Rattle.vr_msg.specs.declared.output.Sent.{Sent}
use Rattle.vr_msg.specs.Choice.{choice, named, top_commit, top_view}
use Rattle.vr_msg.specs.Logs.{IsStatement}
use Rattle.vr_base.specs.Groups.{quorums_of}
use Rattle.vr_base.specs.declared.table.Quorums.{Quorums}
use Rattle.vr_world.specs.Commitment.{Stored}
use Rattle.vr_world.specs.Group.{Played, Run, fresh_group, made_in}
use Rattle.vr_world.specs.Files.{IsOfFile}
use Rattle.vr_world.specs.GroupFit.{IsFitMove}
use Rattle.vr_rules.specs.Opening.{AreKinds}
use Rattle.law_2_chains.specs.Lone.{vouch_for}
use Rattle.vr_rules.specs.Replica.{Replica, version}
use Rattle.vr_rules.specs.Steps.{outputs}
use Rattle.vr_world.specs.Storing.{done_in, stored_from, stored_of, until_said}
use Rattle.vr_rules.specs.Words.{log_end}
use Rattle.law_1_machine.specs.Basics.{In}
use Rattle.law_1_machine.specs.Group.{Group, Made}
use Rattle.law_1_machine.specs.Laws.{Committed}
use Rattle.law_1_machine.specs.Members.{Choice, Message}
use Rattle.law_2_chains.specs.Reflecting.{entries_by}
use Rattle.law_2_chains.specs.Bridge.{ServesWell}
use Rattle.law_2_chains.specs.Chains.{Setup, IsBackedLine, IsReached, WasSent}
use Rattle.law_2_chains.specs.Choices.{told_if}
use Rattle.law_2_chains.specs.Finished.{IsNumbered, IsSaid}
use Rattle.law_2_chains.specs.Tables.{Fits}
use Rattle.vr_world.specs.Safe.{IsHashed, actor, all_heard, event_of, heard_from}

-- ---- a group of one

-- the vouches of its replica in the machine, for what it had stored; of another group none
unfoldable pub own_vouches : Setup → List Stored → List (Message Header)
own_vouches u xs = if u.quorums.n == 1 then map (vouch_for 0) xs else []

-- what it had stored by the time at which a move puts out the output of this number
abbrev pub stored_until : Played → ℕ → List Stored
stored_until p number = stored_from p.before (until_said number (done_in p.move p.moved.script))

-- what counts by then: what was sent before the move, and what was stored
abbrev pub by_then : Setup → Group Header → Played → ℕ → List (Message Header)
by_then u before p number = before.sent ++ own_vouches u (stored_until p number)

-- ---- what is so of each output of a move

-- a message of one replica names it
abbrev pub IsFrom : ℕ → Frame → Type 0
IsFrom from (frame.Prepare p) = from ≡ p.replica
IsFrom from (frame.PrepareOk a) = from ≡ a.replica
IsFrom from _ = ⊤

pub record IsSaidSo (u : Setup) (before after : List (Message Header)) (s : Sent) : Type 0 where
  pub sent : WasSent u after s.message
  pub from : IsFrom s.from s.message
  -- by what counts before it
  pub numbered : IsNumbered u before s.message

-- an entry with the values of the program
pub record IsGoodEntry (e : Whole) : Type 0 where
  pub header : IsHeader e.header
  pub body : IsBodyOf e.header e.operation

-- a commit line is of an entry that is committed by what counts before it, and that was read or written in the run: its operation's bytes
-- were hashed
pub record IsLineOf (cluster : ℕ) (u : Setup) (run : List Played) (before : List (Message Header)) (e : Whole) : Type 0 where
  pub view : ℕ
  pub committed : Committed u.quorums (entries_by u.hash u.cluster) before view e.header.op e.header
  pub hashed : IsHashed run (root_header cluster) (operation_bytes e.operation)

-- a choose line is of a choice of the rules from what was heard, and that is one of the machine
pub record IsChoiceLine (u : Setup) (chosen : List (Choice Header)) (p : Played) (l : Chosen) : Type 0 where
  pub replica : Replica
  pub is_of : actor p l.replica ≡ Some replica
  pub event : Event
  pub by_event : event_of p.move ≡ Some event
  -- of the rules
  pub statements : All (IsStatement (version replica) u.cluster) (all_heard l.view event replica)
  pub sizes : Quorums
  pub sizes_are : quorums_of u.quorums.n ≡ Some sizes
  pub headers : List Header
  pub ends : choice sizes (all_heard l.view event replica) ≡ Ends headers
  pub log_view : l.log_view ≡ top_view (all_heard l.view event replica)
  pub commit : l.commit ≡ top_commit (all_heard l.view event replica)
  pub reach : l.head ≡ log_end (top_commit (all_heard l.view event replica)) headers
  -- of the machine
  pub made : Choice Header
  pub is_made : In made chosen
  pub of_view : made.view ≡ l.view
  pub of_log_view : made.log_view ≡ l.log_view
  pub of_head : made.head ≡ l.head
  pub of_heard : (j : ℕ) → made.heard j ≡ told_if (heard_from l.view event replica j)
  pub of_log : (k : ℕ) → made.log k ≡ named (all_heard l.view event replica) k

abbrev pub IsSo : ℕ → Setup → List Played → List (Message Header) → Group Header → Played → Output → Type 0
IsSo cluster u run before after p (output.Send s) = IsSaidSo u before after.sent s
IsSo cluster u run before after p (output.Commit c) = IsLineOf cluster u run before c.entry
IsSo cluster u run before after p (output.Choose l) = IsChoiceLine u after.chosen p l
IsSo cluster u run before after p _ = ⊤

-- ---- a move, and a run

-- a run of a group that is made, in which each move reads what the program has, on the member's file
pub record IsFitRun (cluster n : ℕ) (run : List Played) : Type 0 where
  pub number : cluster < 2 ^ 64
  pub some : 1 ≤ n
  pub many : n ≤ 6
  pub moves : All (λ p. IsFitMove p.move) run
  pub files : All (λ p. IsOfFile p.before p.move) run
  pub kinds : ℕ → Kind  -- of the files of its members
  pub are_kinds : AreKinds kinds n
  pub of_run : Run (fresh_group kinds cluster n) run

pub record IsCarried (cluster : ℕ) (u : Setup) (run : List Played) (before after : Group Header) (p : Played) : Type 0 where
  -- nothing is taken back
  pub sent : (m : Message Header) → In m before.sent → In m after.sent
  pub chosen : (c : Choice Header) → In c before.chosen → In c after.chosen
  -- what was put out is so
  pub said : (number : ℕ) (o : Output) → slice_get p.moved.outputs number ≡ Some o → IsSo cluster u run (by_then u before p number) after p o
  -- the replica of a group of one has vouched for what it had stored
  pub vouched : (m : Message Header) → In m (own_vouches u (stored_of p)) → In m after.sent
  -- nothing else was sent, but for what counts from the beginning of the next move on; and only what was written was made
  pub only : (m : Message Header) → In m after.sent → In m before.sent ⊎ (IsSaid u p.moved.outputs m ⊎ In m (own_vouches u (stored_of p ++ stored_from p.moved.group [])))
  pub made : (x : Made Header) → In x after.made → In x before.made ⊎ In x.entry (made_in p.moved.script)
  -- after a commit line all that the replica of a step has committed at its end is so by what counts
  pub served : (line number : ℕ) (c : Line) → line < number → slice_get p.moved.outputs line ≡ Some (output.Commit c) → ServesWell u p.before p.move (by_then u before p number)
  -- each commit line that it began to put out is of an entry that is committed in the machine
  pub lines : (c : Line) → In (output.Commit c) (outputs p.moved.script) → IsBackedLine u after.sent c.entry.header

pub record IsFollowed (cluster n : ℕ) (u : Setup) (run : List Played) : Type 0 where
  pub hash_is : u.hash ≡ name_of
  pub cluster_is : u.cluster ≡ cluster
  pub size_is : u.quorums.n ≡ n
  pub fits : Fits u
  pub fit : IsFitRun cluster n run
  -- the machine's group after so many moves of the run
  pub group : ℕ → Group Header
  pub reached : (t : ℕ) → t ≤ length run → IsReached u (group t)
  pub none_sent : (group 0).sent ≡ []
  pub none_made : (group 0).made ≡ []
  pub carried : (t : ℕ) (p : Played) → slice_get run t ≡ Some p → IsCarried cluster u run (group t) (group (suc t)) p

-- What the run of a group gives beside, for its replies: that commit numbers are backed before a step, and don't fall in it; and that a checkpoint that is loaded
-- is that of the log.
use Rattle.std.specs.Prelude.{ℕ, ◌-◌, ◌<◌, ◌≤◌, ◌≡◌, false, List, length, slice_get, Some}
use Rattle.vr_header.specs.declared.header.Header.{Header}
use Rattle.vr_header.specs.Made.{Whole}
use Rattle.vr_msg.specs.declared.event.Event.{Event}
use Rattle.vr_msg.specs.declared.output.Output.{Output}
use Rattle.vr_msg.specs.declared.output.Output.TheVariants as output
use Rattle.vr_msg.specs.declared.frame.Frame.TheVariants as frame
use Rattle.vr_msg.specs.declared.frame.SyncView.{SyncView}
use Rattle.vr_msg.specs.declared.output.Sent.{Sent}
use Rattle.vr_msg.specs.declared.reply.ReplyFields.{ReplyFields}
use Rattle.vr_ckpt.specs.declared.name.Name.{Name}
use Rattle.vr_world.specs.Checkpoints.{IsCheckpointOf}
use Rattle.vr_super.specs.Copies.{SuperValue}
use Rattle.vr_world.specs.Group.{Arrival, Member, Played, Runs, Recovers, Steps, mended, recovered, resumed, stepped}
use Rattle.vr_header.specs.Bodies.{operation_bytes}
use Rattle.vr_header.specs.Names.{root_header}
use Rattle.vr_header.specs.NoCollision.{NoCollision}
use Rattle.vr_world.specs.Safe.{IsHashed}
use Rattle.vr_rules.specs.Replica.{Replica, is_frozen}
use Rattle.vr_world.specs.Lying.{Lying, lying}
use Rattle.vr_rules.specs.Steps.{Step, ◌⨾◌, after_all, outputs, says}
use Rattle.vr_rules.specs.Opening.{leave_view}
use Rattle.vr_rules.specs.Outputs.{start_line}
use Rattle.vr_rules.specs.Words.{load}
use Rattle.law_1_machine.specs.Basics.{In}
use Rattle.law_1_machine.specs.Laws.{Committed}
use Rattle.law_1_machine.specs.Members.{Message}
use Rattle.law_2_chains.specs.Reflecting.{entries_by}
use Rattle.law_2_chains.specs.Chains.{Setup}
use Rattle.law_2_chains.specs.Finished.{AreBacked}
use Rattle.law_3_outputs.specs.Followed.{IsFollowed, IsGoodEntry}
use Rattle.law_3_outputs.specs.Answering.{HasState, PutsWell}

-- what a replica has applied is committed
pub record IsServed (u : Setup) (sent : List (Message Header)) (q : Replica) : Type 0 where
  pub applied : q.applied ≤ q.commit
  pub views : q.log_view ≤ q.view
  pub backed : AreBacked u sent q.log_view q.commit

-- a step from r to q
pub record IsStepped (r q : Replica) (os : List Output) : Type 0 where
  pub applied : q.applied ≤ q.commit
  pub views : q.log_view ≤ q.view
  pub rises : r.log_view ≤ q.log_view
  pub present : (a : ReplyFields) → In (output.Reply a) os → (a.replica ≡ r.index) × (a.view ≡ q.view)

-- a log that has what is committed, each entry with its operation
pub record HasEntry (cluster : ℕ) (run : List Played) (log : List Whole) (k : ℕ) (c : Header) : Type 0 where
  pub entry : Whole
  pub at : slice_get log (k - 1) ≡ Some entry
  pub is : entry.header ≡ c
  pub good : IsGoodEntry entry
  pub hashed : IsHashed run (root_header cluster) (operation_bytes entry.operation)

abbrev pub IsLogOf : ℕ → Setup → List Played → List (Message Header) → List Whole → Type 0
IsLogOf cluster u run sent log = (v k : ℕ) (c : Header) → 0 < k → Committed u.quorums (entries_by u.hash u.cluster) sent v k c → HasEntry cluster run log k c

-- an opening once it has loaded its checkpoint
abbrev pub has_loaded : SuperValue → Lying → Step
has_loaded v d = (leave_view ⨾ says start_line ⨾ load) lying (recovered v d) (after_all lying d (mended v d).script)

-- the root that comes with the log of a view
abbrev pub root_told : SyncView → Name
root_told v = record { address = v.root_address; sum = v.root_name }

pub record IsReplied (cluster n : ℕ) (u : Setup) (run : List Played) (x : IsFollowed cluster n u run) : Type 0 where
  -- of each member that runs before a move
  pub served : (t at : ℕ) (p : Played) (m : Member) (r : Replica) → slice_get run t ≡ Some p → Runs p.before at m r → IsServed u (x.group t).sent r
  pub steps : (t at : ℕ) (arrival : Arrival) (p : Played) (e : Event) (d : Lying) (m : Member) (r : Replica) → slice_get run t ≡ Some p → p.move ≡ Steps at arrival e d → Runs p.before at m r
      → IsStepped r (stepped e r d).replica (outputs (stepped e r d).script)
  -- a checkpoint that is loaded is that of the log, where names don't collide
  pub puts : NoCollision (IsHashed run (root_header cluster)) → (log : List Whole) → IsLogOf cluster u run (x.group (length run)).sent log
      → (t at : ℕ) (arrival : Arrival) (p : Played) (e : Event) (d : Lying) (m : Member) (r : Replica) → slice_get run t ≡ Some p → p.move ≡ Steps at arrival e d → Runs p.before at m r → PutsWell log lying r d e
  pub loads : NoCollision (IsHashed run (root_header cluster)) → (log : List Whole) → IsLogOf cluster u run (x.group (length run)).sent log
      → (t at : ℕ) (p : Played) (v : SuperValue) (d : Lying) → slice_get run t ≡ Some p → p.move ≡ Recovers at v d → is_frozen (resumed v d).replica ≡ false → HasState log (has_loaded v d).replica
  -- the checkpoint that is given with the log of a view is one of the log, where names don't collide
  pub offers : NoCollision (IsHashed run (root_header cluster)) → (log : List Whole) → IsLogOf cluster u run (x.group (length run)).sent log
      → (t number : ℕ) (p : Played) (s : Sent) (v : SyncView) → slice_get run t ≡ Some p → slice_get p.moved.outputs number ≡ Some (output.Send s) → s.message ≡ frame.SyncView v → IsCheckpointOf cluster log v.checkpoint (root_told v)

-- Which entries are committed, by the outputs of a group's replicas in the order in which they were put out, and in a group of one by what its
-- replica had stored; and what an output says.
use Rattle.std.specs.Prelude.{ℕ, ◌-◌, ◌<◌, ◌≤◌, ◌≡◌, ◌==◌, ⊤, Bool, true, false, List, take, count_by, slice_get, Some, Contains}
use Rattle.vr_base.specs.declared.replicas.Replicas.{Replicas}
use Rattle.vr_base.specs.Replicas.{has_replica, size}
use Rattle.vr_header.specs.declared.header.Header.{Header}
use Rattle.vr_header.specs.Made.{Whole}
use Rattle.vr_header.specs.Names.{header_name, root_header, StandsOn}
use Rattle.vr_state.specs.Sessions.{checked}
use Rattle.vr_state.specs.declared.session.SessionAnswer.{SessionAnswer}
use Rattle.vr_state.specs.declared.session.SessionAnswer.TheVariants as answer
use Rattle.vr_state.specs.Folds.{state_after, answer_at}
use Rattle.vr_msg.specs.declared.frame.Frame.{Frame}
use Rattle.vr_msg.specs.declared.frame.Frame.TheVariants as frame
use Rattle.vr_msg.specs.declared.frame.Prepare.{Prepare}
use Rattle.vr_msg.specs.declared.frame.PrepareOk.{PrepareOk}
use Rattle.vr_msg.specs.declared.output.Output.{Output}
use Rattle.vr_msg.specs.declared.output.Output.TheVariants as output
use Rattle.vr_msg.specs.declared.output.Committed.{Committed}
use Rattle.vr_msg.specs.declared.reply.Answered.{Answered}
use Rattle.vr_msg.specs.declared.reply.ReplyFields.{ReplyFields}
use Rattle.vr_msg.specs.declared.reply.ReplyKind.{ReplyKind}
use Rattle.vr_msg.specs.declared.reply.ReplyKind.TheVariants as reply
use Rattle.vr_rules.specs.Replica.{replication}
use Rattle.vr_world.specs.Checkpoints.{IsCheckpointOf}
use Rattle.vr_msg.specs.Normal.{primary}

-- ---- by what entries are committed

-- the entry of this header was stored in a view
pub record Stored : Type 0 where
  pub view : ℕ
  pub header : Header

-- what was put out, and what the replica of a group of one had stored
pub record Evidence : Type 0 where
  pub outputs : List Output
  pub stored : List Stored

-- ---- which entries are committed

-- a replica has sent this message
pub record HasSent (outputs : List Output) (replica : ℕ) (message : Frame) : Type 0 where
  pub at : ℕ
  pub to : ℕ
  pub is : slice_get outputs at ≡ Some (output.Send (record { from = replica; to = to; message = message }))

-- A replica vouches in a view for the entry of a header: it has acknowledged its op and name in that view, or it leads the
-- view and has prepared it there; or it is a group by itself, and had the entry stored in that view.
pub data Vouches (n : ℕ) (by : Evidence) (view replica : ℕ) (c : Header) : Type 0 where
  acknowledged : (a : PrepareOk) → HasSent by.outputs replica (frame.PrepareOk a) → a.view ≡ view → a.op ≡ c.op → a.name ≡ header_name c → Vouches n by view replica c
  prepared : (p : Prepare) → HasSent by.outputs replica (frame.Prepare p) → replica ≡ primary n view → p.view ≡ view → p.entry.header ≡ c → Vouches n by view replica c
  alone : n ≡ 1 → replica ≡ 0 → Contains by.stored (record { view = view; header = c }) → Vouches n by view replica c

-- a replication quorum of the n replicas vouches for it in that view
pub record HasQuorum (n : ℕ) (by : Evidence) (view : ℕ) (c : Header) : Type 0 where
  pub voters : Replicas
  pub enough : replication n ≤ size voters
  pub each : (r : ℕ) → has_replica voters r ≡ true → (r < n) × Vouches n by view r c

-- The root is committed; so is an entry for which a replication quorum vouches in a view, where it stands on one that is
-- committed in a view no later.
pub data IsCommitted (cluster n : ℕ) (by : Evidence) : ℕ → Header → Type 0 where
  root : IsCommitted cluster n by 0 (root_header cluster)
  stands_on : (earlier view : ℕ) (d c : Header) → IsCommitted cluster n by earlier d → earlier ≤ view → StandsOn c d → HasQuorum n by view c → IsCommitted cluster n by view c

-- the log has at this number an entry that is committed in a view up to this one
pub record IsCommittedAt (cluster n : ℕ) (by : Evidence) (log : List Whole) (last op : ℕ) : Type 0 where
  pub entry : Whole
  pub at : slice_get log (op - 1) ≡ Some entry
  pub number : entry.header.op ≡ op
  pub view : ℕ
  pub early : view ≤ last
  pub committed : IsCommitted cluster n by view entry.header

-- each number up to this one is
abbrev pub AreCommitted : ℕ → ℕ → Evidence → List Whole → ℕ → ℕ → Type 0
AreCommitted cluster n by log last commit = (op : ℕ) → 0 < op → op ≤ commit → IsCommittedAt cluster n by log last op

-- ---- what an output says is so by what was put out and stored before it; and the checkpoint that is given with the log of a view is one of the log

abbrev pub IsBackedMessage : ℕ → ℕ → Evidence → List Whole → Frame → Type 0
IsBackedMessage cluster n before log (frame.Prepare p) = AreCommitted cluster n before log p.view p.commit
IsBackedMessage cluster n before log (frame.Commit c) = AreCommitted cluster n before log c.view c.commit
IsBackedMessage cluster n before log (frame.StartView v) = AreCommitted cluster n before log v.view v.commit
IsBackedMessage cluster n before log (frame.SyncView v) =
    AreCommitted cluster n before log v.view v.commit × IsCheckpointOf cluster log v.checkpoint (record { address = v.root_address; sum = v.root_name })
IsBackedMessage cluster n before log _ = ⊤

-- a commit line is the log's entry at its number, and committed
pub record IsLine (cluster n : ℕ) (before : Evidence) (log : List Whole) (c : Committed) : Type 0 where
  pub at : slice_get log (c.entry.header.op - 1) ≡ Some c.entry
  pub number : 0 < c.entry.header.op
  pub view : ℕ
  pub committed : IsCommitted cluster n before view c.entry.header

-- ---- replies

abbrev pub is_line_of : ℕ → Output → Bool
is_line_of replica (output.Commit c) = c.replica == replica
is_line_of replica _ = false

-- so many entries has a replica applied: one for each of its commit lines
abbrev pub lines_by : ℕ → List Output → ℕ
lines_by replica before = count_by (is_line_of replica) before

-- what the sessions say to a request after the first m entries of the log
abbrev pub session_says : List Whole → ℕ → ReplyFields → SessionAnswer
session_says log m r = checked (state_after (take m log)).sessions r.client r.request

-- the entry of an op was executed for this client and number, with this outcome, after the entries before it
pub record IsOutcomeOf (log : List Whole) (lines : ℕ) (r : ReplyFields) (a : Answered) : Type 0 where
  pub op : (0 < a.op) × (a.op ≤ lines)
  pub answer : answer_at log a.op ≡ Some (record { client = r.client; request = r.request; answer = answer.Fresh; outcome = Some a.outcome })

-- any other reply but busy and redirect is what the sessions say after the entries that were applied
abbrev pub IsReplyOf : List Whole → ℕ → ℕ → ReplyFields → ReplyKind → Type 0
IsReplyOf log lines m r (reply.Outcome a) = IsOutcomeOf log lines r a
IsReplyOf log lines m r reply.Old = session_says log m r ≡ answer.Old
IsReplyOf log lines m r reply.Gap = session_says log m r ≡ answer.Gap
IsReplyOf log lines m r reply.Evicted = session_says log m r ≡ answer.Evicted
IsReplyOf log lines m r reply.Busy = ⊤
IsReplyOf log lines m r reply.Redirect = ⊤

-- One log, said of what was put out, in order; and of what the replica of a group of one had stored.
use Rattle.std.specs.Prelude.{ℕ, ◌+◌, ◌≡◌, ⊤, IsTrue, List, [], ◌∷◌, ◌++◌, take}
use Rattle.vr_header.specs.Made.{Whole}
use Rattle.vr_msg.specs.declared.output.Chosen.{Chosen}
use Rattle.vr_msg.specs.declared.output.Committed.{Committed}
use Rattle.vr_msg.specs.declared.output.Output.{Output}
use Rattle.vr_msg.specs.declared.output.Output.TheVariants as output
use Rattle.vr_msg.specs.declared.output.Sent.{Sent}
use Rattle.vr_msg.specs.declared.reply.ReplyFields.{ReplyFields}
use Rattle.vr_state.specs.Folds.{begins_session, fresh_at, state_after}
use Rattle.vr_world.specs.Commitment.{AreCommitted, Evidence, IsBackedMessage, IsLine, lines_by}
use Rattle.vr_world.specs.Group.{Played}
use Rattle.vr_world.specs.Safe as safe
use Rattle.vr_world.specs.Safe.{IsJustified, IsOutput, IsTrueReply}
use Rattle.vr_world.specs.Storing.{run_stored}
use Rattle.law_4_disks.specs.Worlds.{Said}

-- Where in the run an output was put out: what was put out before it is what stands before it here, but for lines of stops and faults.
pub record IsPlaced (run : List Played) (before : List Output) (o : Output) : Type 0 where
  pub move : ℕ
  pub number : ℕ
  pub moved : Played
  pub is : IsOutput run move number moved o
  pub place : Said before (safe.before run move number moved).outputs

-- what counts there: what stands before it here, and what was stored by then
abbrev pub counts_at : {run : List Played} {before : List Output} {o : Output} → IsPlaced run before o → Evidence
counts_at {run} {before} at = record { outputs = before; stored = (safe.before run at.move at.number at.moved).stored }

-- what counts in all
abbrev pub counts_in : List Output → List Played → Evidence
counts_in outputs run = record { outputs = outputs; stored = run_stored run }

-- a message, and a commit line, as it was put out
pub record IsTrueSend (cluster n : ℕ) (log : List Whole) (run : List Played) (before : List Output) (s : Sent) : Type 0 where
  pub at : IsPlaced run before (output.Send s)
  pub so : IsBackedMessage cluster n (counts_at at) log s.message

pub record IsTrueLine (cluster n : ℕ) (log : List Whole) (run : List Played) (before : List Output) (c : Committed) : Type 0 where
  pub at : IsPlaced run before (output.Commit c)
  pub so : IsLine cluster n (counts_at at) log c

-- A reply: the entries that its replica had applied are committed by what counts before it, and it is what the plain sessions and machine say
-- after them. The replica is as it was before the move of the run in which it answered.
pub record IsTrueAnswer (cluster n : ℕ) (log : List Whole) (run : List Played) (before : List Output) (a : ReplyFields) : Type 0 where
  pub at : IsPlaced run before (output.Reply a)
  pub so : IsTrueReply cluster n log run at.move at.number at.moved a
  pub committed : AreCommitted cluster n (counts_at at) log a.view (so.replica.applied + lines_by a.replica (take at.number at.moved.moved.outputs))

-- A choice of a log, from what its replica had heard in the move in which it chose: all above the commit number up to the log's head is intact
-- there, and a nack quorum denies the next, none of which vouches for it, in the log's view, in all that is put out and stored.
pub record IsCutByNacks (n : ℕ) (run : List Played) (before outputs : List Output) (l : Chosen) : Type 0 where
  pub at : IsPlaced run before (output.Choose l)
  pub so : IsJustified n (counts_in outputs run) at.moved l

-- what each output rests on, of what was put out and stored before it and of the log
abbrev pub RestsOn : ℕ → ℕ → List Whole → List Played → List Output → Output → Type 0
RestsOn cluster n log run before (output.Send s) = IsTrueSend cluster n log run before s
RestsOn cluster n log run before (output.Commit c) = IsTrueLine cluster n log run before c
RestsOn cluster n log run before (output.Reply a) = IsTrueAnswer cluster n log run before a
RestsOn cluster n log run before _ = ⊤

-- In one session no number is executed twice: between two entries of one client and number that are both executed, a session of the client begins.
abbrev pub IsOnceInSession : List Whole → Type 0
IsOnceInSession log =
    (before between later : List Whole) (d e : Whole) → log ≡ (before ++ (d ∷ between)) ++ (e ∷ later) → d.header.client ≡ e.header.client → d.header.request ≡ e.header.request
    → IsTrue (fresh_at (state_after before) d) → IsTrue (fresh_at (state_after (before ++ (d ∷ between))) e)
    → IsTrue (begins_session d.header.client (state_after (before ++ d ∷ [])) (between ++ e ∷ []))

-- What was asked of members of a group, and what their replies rest on.
use Rattle.std.specs.Prelude.{ℕ, ◌-◌, ◌<◌, ◌≤◌, ◌≡◌, List, ◌++◌, Contains, Option, None, Some, slice_get}
use Rattle.vr_header.specs.Made.{Whole}
use Rattle.vr_msg.specs.declared.output.Output.{Output}
use Rattle.vr_msg.specs.declared.output.Output.TheVariants as output
use Rattle.vr_msg.specs.declared.reply.Answered.{Answered}
use Rattle.vr_msg.specs.declared.reply.ReplyFields.{ReplyFields}
use Rattle.vr_msg.specs.declared.reply.ReplyKind.TheVariants as reply
use Rattle.vr_msg.specs.declared.request.RequestFields.{RequestFields}
use Rattle.vr_world.specs.Commitment.{IsReplyOf}
use Rattle.vr_world.specs.Group.{Arrival, Asked}
use Rattle.vr_world.specs.Safe.{KeepsEntry}
use Rattle.law_7_members.specs.Files.{Act, ActBy, Breaks, Handles}
use Rattle.law_7_members.specs.Whole.{all_said}
use Rattle.law_9_asked.specs.Asked.{IsMadeOf}

-- the request that is asked of a member, where it handles one, or is ended while it does
abbrev pub request_of : Arrival → Option RequestFields
request_of (Asked q) = Some q
request_of _ = None

abbrev pub request_in : Act → Option RequestFields
request_in (Handles arrival did) = request_of arrival
request_in (Breaks arrival e made code) = request_of arrival
request_in _ = None

-- the request of which an entry was made was asked of a member in these acts
pub record WasAsked (xs : List ActBy) (e : Whole) : Type 0 where
  pub act : ActBy
  pub among : Contains xs act
  pub request : RequestFields
  pub asks : request_in act.act ≡ Some request
  pub made_of : IsMadeOf e request

-- the log has an entry of this op, and the request of which it was made was asked in these acts
pub record IsAskedFor (log : List Whole) (xs : List ActBy) (op : ℕ) : Type 0 where
  pub entry : Whole
  pub at : slice_get log (op - 1) ≡ Some entry
  pub asked : WasAsked xs entry

-- A reply rests on so many of the log's first entries, all of which were asked for in these acts: an outcome is of one of them, and old, gap and
-- evicted are what the sessions say after some of them.
pub record RestsOnAsked (log : List Whole) (xs : List ActBy) (a : ReplyFields) : Type 0 where
  pub entries : ℕ
  pub after : ℕ
  pub some : after ≤ entries
  pub says : IsReplyOf log entries after a a.kind
  pub each : (op : ℕ) → 0 < op → op ≤ entries → IsAskedFor log xs op

-- so does each reply that was put out in the first of these acts, on what was asked in them
abbrev pub AsksComeFirst : List Whole → List ActBy → Type 0
AsksComeFirst log xs = (front rest : List ActBy) → xs ≡ front ++ rest → (a : ReplyFields) → Contains (all_said front) (output.Reply a) → RestsOnAsked log front a

-- the log's entry of this op keeps its number in every later view: what is said there, of all that was put out, has it
pub record IsLasting (log : List Whole) (outputs : List Output) (view op : ℕ) : Type 0 where
  pub entry : Whole
  pub at : slice_get log (op - 1) ≡ Some entry
  pub kept : (o : Output) → Contains outputs o → KeepsEntry view entry.header o

-- so does that of each outcome that was put out, from the view of its reply on
abbrev pub OutcomesLast : List Whole → List Output → Type 0
OutcomesLast log outputs = (r : ReplyFields) (a : Answered) → Contains outputs (output.Reply r) → r.kind ≡ reply.Outcome a → IsLasting log outputs r.view a.op

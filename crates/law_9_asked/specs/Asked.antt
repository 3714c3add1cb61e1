-- Which request an entry was made of, and when that was asked of a member.
use Rattle.std.specs.Prelude.{ℕ, ◌-◌, ◌<◌, ◌≤◌, ◌≡◌, ◌⊎◌, List, ◌++◌, Contains, slice_get, take, Some}
use Rattle.vr_state.specs.Folds.{check, outcome_of, state_after}
use Rattle.vr_state.specs.declared.session.SessionAnswer.TheVariants as session
use Rattle.vr_header.specs.Made.{Whole}
use Rattle.vr_header.specs.Names.{no_name, request_header}
use Rattle.vr_header.specs.declared.command.Command.TheVariants as command
use Rattle.vr_header.specs.declared.header.Header.{Header}
use Rattle.vr_msg.specs.declared.output.Output.TheVariants as output
use Rattle.vr_msg.specs.declared.reply.Answered.{Answered}
use Rattle.vr_msg.specs.declared.reply.ReplyFields.{ReplyFields}
use Rattle.vr_msg.specs.declared.reply.ReplyKind.TheVariants as reply
use Rattle.vr_msg.specs.declared.request.RequestFields.{RequestFields}
use Rattle.vr_world.specs.Commitment.{IsReplyOf}
use Rattle.vr_world.specs.Lying.{Lying, hazards}
use Rattle.vr_world.specs.World.{Asks, AsksInVersion, Happening, World, happen, in_version}

-- the header of a request, and of the one of which an entry was made
abbrev pub header_of : RequestFields → Header
header_of q = request_header q.version q.cluster q.client q.request q.operation

abbrev pub asked_by : Header → Header
asked_by h = record h { parent = no_name; request_name = no_name; view = 0; op = 0; command = command.Request }

-- the entry was made of this request: it has all that the request's header says, and its operation
pub record IsMadeOf (e : Whole) (q : RequestFields) : Type 0 where
  pub header : asked_by e.header ≡ header_of q
  pub operation : e.operation ≡ q.operation

-- the request of which an entry was made was asked of a member, by one of these lines
pub data WasAsked (xs : List Happening) (e : Whole) : Type 0 where
  asked : (at : ℕ) (q : RequestFields) → Contains xs (Asks at q) → IsMadeOf e q → WasAsked xs e
  asked_in_version : (at version : ℕ) (q : RequestFields) → Contains xs (AsksInVersion at q) → IsMadeOf e (in_version version q) → WasAsked xs e

-- the log has an entry of this op, and it was asked by then
pub record IsAskedFor (log : List Whole) (xs : List Happening) (op : ℕ) : Type 0 where
  pub entry : Whole
  pub at : slice_get log (op - 1) ≡ Some entry
  pub asked : WasAsked xs entry

-- A reply rests on so many of the log's first entries, all of which were asked by then: an outcome is of one of them, and old, gap and evicted
-- are what the sessions say after some of them.
pub record RestsOnAsked (log : List Whole) (xs : List Happening) (a : ReplyFields) : Type 0 where
  pub entries : ℕ
  pub after : ℕ
  pub some : after ≤ entries
  pub says : IsReplyOf log entries after a a.kind
  pub each : (op : ℕ) → 0 < op → op ≤ entries → IsAskedFor log xs op

-- A request was executed in a log, with this outcome: the entry of its op is of the request's client and number, the sessions find it fresh
-- after the entries before it, and the outcome is what the machine makes of its operation after these.
pub record IsExecuted (log : List Whole) (q : RequestFields) (a : Answered) : Type 0 where
  pub entry : Whole
  pub number : 0 < a.op
  pub at : slice_get log (a.op - 1) ≡ Some entry
  pub client : entry.header.client ≡ q.client
  pub request : entry.header.request ≡ q.request
  pub fresh : check (state_after (take (a.op - 1) log)) entry ≡ session.Fresh
  pub outcome : a.outcome ≡ outcome_of (state_after (take (a.op - 1) log)) entry

-- so it is with each reply, where it is put out
abbrev pub AsksComeFirst : World Lying → List Whole → List Happening → Type 0
AsksComeFirst w log xs =
    (front rest : List Happening) → xs ≡ front ++ rest → (a : ReplyFields) → Contains (happen hazards w front).outputs (output.Reply a) → RestsOnAsked log front a

-- no line asked with this client and number
abbrev pub IsNew : List Happening → RequestFields → Type 0
IsNew xs p = (at : ℕ) (q : RequestFields) → Contains xs (Asks at q) ⊎ Contains xs (AsksInVersion at q) → q.client ≡ p.client → q.request ≡ p.request → ⊥

-- The log has the order of the lines: what a reply rests on was asked before it; and what was put out as executed stands before whatever is executed
-- for a client and number with which no line had asked by then.
pub record KeepsOrder (w : World Lying) (log : List Whole) (xs : List Happening) : Type 0 where
  pub asks : AsksComeFirst w log xs
  pub real_time : (front rest : List Happening) → xs ≡ front ++ rest → (r : ReplyFields) (a b : Answered) (p : RequestFields) → Contains (happen hazards w front).outputs (output.Reply r) → r.kind ≡ reply.Outcome a → IsNew front p → IsExecuted log p b → a.op < b.op

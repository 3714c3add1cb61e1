-- A request takes effect although its client never hears of it: a schedule of two clients, in which views change between the first ask and its reply.
use Rattle.std.specs.Prelude.{ℕ, ◌<◌, ◌≡◌, List, [], ◌∷◌, Contains, codes, None, Some, slice_get, take}
use Rattle.vr_client.specs.declared.answer.Answer.TheVariants as answer
use Rattle.vr_group.specs.Lines.{happenings}
use Rattle.vr_header.specs.Made.{Whole}
use Rattle.vr_header.specs.NoCollision.{NoCollision}
use Rattle.vr_header.specs.declared.operation.Operation.TheVariants.{Register}
use Rattle.vr_header.specs.declared.outcome.Outcome.TheVariants.{Session}
use Rattle.vr_msg.specs.declared.output.Output.TheVariants as output
use Rattle.vr_msg.specs.declared.reply.Answered.{Answered}
use Rattle.vr_msg.specs.declared.reply.ReplyFields.{ReplyFields}
use Rattle.vr_msg.specs.declared.reply.ReplyKind.TheVariants as reply
use Rattle.vr_msg.specs.declared.request.RequestFields.{RequestFields}
use Rattle.cmd_replay.specs.Schedule.{Schedule, schedule_of}
use Rattle.vr_world.specs.Lying.{Lying, hazards}
use Rattle.vr_world.specs.World.{AsksInVersion, Happening, World, fresh_world, happen}
use Rattle.law_6_one_log.specs.Laws.{KeepsOneLog}
use Rattle.law_6_one_log.specs.Schedules.{IsHashed}
use Rattle.law_9_answers.specs.Heard.{Heard}
use Rattle.law_9_asked.specs.Asked.{IsExecuted, KeepsOrder}
use Rattle.law_9_answers.specs.History.{Asks, HasHeard, HasOneSessionEach, Hears, IsLinearizable, IsOrdered, Moment}
use Rattle.rows_computed.specs.Rows.{text}

-- ---- the schedule

-- Client 7 asks replica 0, which leads view 0, writes the entry and is stopped before it hears of the other two, who stored it. Replica 1 leads view 1,
-- and commits the entry there. Then client 8 asks replica 1, and is answered.
abbrev pub pending : List ℕ
pending = text (
    codes "cluster 3"
    ∷ codes "request 0 7 0 register"
    ∷ codes "deliver 0"
    ∷ codes "deliver 1"
    ∷ codes "stop 0"
    ∷ codes "tick 1"
    ∷ codes "tick 1"
    ∷ codes "tick 1"
    ∷ codes "tick 1"
    ∷ codes "tick 1"
    ∷ codes "deliver 5"
    ∷ codes "deliver 8"
    ∷ codes "deliver 10"
    ∷ codes "deliver 13"
    ∷ codes "request 1 8 0 register"
    ∷ codes "deliver 15"
    ∷ codes "deliver 16"
    ∷ [])

-- the world that its first line makes, and what the lines after are
abbrev pub first_of : Schedule → World Lying
first_of s = fresh_world hazards s.kind s.n

abbrev pub lines_of : Schedule → List Happening
lines_of s = happenings s.lines

-- ---- what its clients do

-- the request by which a client registers, and its outcome at an op
abbrev pub register_of : ℕ → RequestFields
register_of client = record { version = 1; cluster = 0; client = client; request = 0; operation = Register }

abbrev pub session_at : ℕ → Answered
session_at op = record { op = op; outcome = Session }

-- In the order of time: both ask, and the second one hears an outcome. The first one hears nothing.
abbrev pub hears : Heard
hears = record { request = register_of 8; answer = answer.Outcome (session_at 2); received = [] }

abbrev pub clients : List Moment
clients = Asks 0 (register_of 7) ∷ Asks 1 (register_of 8) ∷ Hears 1 hears ∷ []

-- ---- what is proved

-- these lines put out an outcome to a request's client and number, in a view
pub record IsPutOut (w : World Lying) (xs : List Happening) (view : ℕ) (q : RequestFields) (a : Answered) : Type 0 where
  pub given : ReplyFields
  pub among : Contains (happen hazards w xs).outputs (output.Reply given)
  pub client : given.client ≡ q.client
  pub number : given.request ≡ q.request
  pub outcome : given.kind ≡ reply.Outcome a
  pub in_view : given.view ≡ view

-- these lines put out no reply
abbrev pub IsSilent : World Lying → List Happening → Type 0
IsSilent w xs = (a : ReplyFields) → Contains (happen hazards w xs).outputs (output.Reply a) → ⊥

-- a log executes a request with this outcome, by an entry that was made in this view
pub record IsExecutedIn (log : List Whole) (view : ℕ) (q : RequestFields) (a : Answered) : Type 0 where
  pub executed : IsExecuted log q a
  pub in_view : executed.entry.header.view ≡ view

pub record TakesEffect (s : Schedule) : Type 0 where
  -- its first line makes a group, and each of its lines is played; names don't collide: so all is met that `replays_keep_order` asks
  pub group : 0 < s.n
  pub played : s.refused ≡ None
  pub names : NoCollision (IsHashed (first_of s) (lines_of s))
  -- it says of one log that it has the order of the lines
  pub one : KeepsOneLog s.kind s.n (happen hazards (first_of s) (lines_of s))
  pub order : KeepsOrder (first_of s) one.safe.log (lines_of s)
  -- the clients ask by these lines
  pub asked : slice_get (lines_of s) 0 ≡ Some (AsksInVersion 0 (register_of 7))
  pub asked_later : slice_get (lines_of s) 13 ≡ Some (AsksInVersion 1 (register_of 8))
  -- the first reply is put out by the line before the second one, in view 1, and lost; the other one by the last line
  pub silent : IsSilent (first_of s) (take 12 (lines_of s))
  pub lost : IsPutOut (first_of s) (take 13 (lines_of s)) 1 (register_of 7) (session_at 1)
  pub put_out : IsPutOut (first_of s) (lines_of s) 1 (register_of 8) (session_at 2)
  -- the pending request took effect, by the log's first entry, which was made in view 0; the second entry is of the other one, made in view 1
  pub pending : IsExecutedIn one.safe.log 0 (register_of 7) (session_at 1)
  pub answered : IsExecutedIn one.safe.log 1 (register_of 8) (session_at 2)
  -- by `order` it stands before whatever is executed for client 8's register
  pub before : (b : Answered) → IsExecuted one.safe.log (register_of 8) b → 1 < b.op
  -- what the clients do has the order of the log, although the first one hears nothing
  pub unheard : (a : Answered) → HasHeard clients (register_of 7) a → ⊥
  pub ordered : IsOrdered one.safe.log clients
  -- by these two entries, which begin one session of each client, it is linearizable
  pub sessions : HasOneSessionEach (take 2 one.safe.log)
  pub linearizable : IsLinearizable (take 2 one.safe.log) clients

abbrev pub PendingTakesEffect : Type 0
PendingTakesEffect = TakesEffect (schedule_of pending)

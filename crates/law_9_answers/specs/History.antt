-- What clients ask and hear, and what befalls members meanwhile, in the order of time; and when the log has that order.
use Rattle.std.specs.Prelude.{ℕ, ◌-◌, ◌<◌, ◌≤◌, ◌≡◌, IsTrue, List, [], ◌∷◌, ◌++◌, Contains, Some, is_some, length, slice_get, take}
use Rattle.std.specs.FinMap.Entries.{find}
use Rattle.std.specs.Ordering.{nat_cmp}
use Rattle.vr_base.specs.Versions.{session_limit}
use Rattle.vr_state.specs.Folds.{begins_session, empty, state_after}
use Rattle.vr_client.specs.declared.answer.Answer.TheVariants as answer
use Rattle.vr_header.specs.Made.{Whole}
use Rattle.vr_msg.specs.declared.output.Output.{Output}
use Rattle.vr_msg.specs.declared.output.Output.TheVariants as output
use Rattle.vr_msg.specs.declared.reply.Answered.{Answered}
use Rattle.vr_msg.specs.declared.reply.ReplyFields.{ReplyFields}
use Rattle.vr_msg.specs.declared.reply.ReplyKind.TheVariants as reply
use Rattle.vr_msg.specs.declared.request.RequestFields.{RequestFields}
use Rattle.vr_world.specs.Safe.{KeepsEntry}
use Rattle.law_7_members.specs.Files.{ActBy}
use Rattle.law_7_members.specs.Whole.{all_said}
use Rattle.law_9_answers.specs.Heard.{Heard}
use Rattle.law_9_asked.specs.Asked.{IsExecuted, IsMadeOf}
use Rattle.law_9_answers.specs.Order.{request_in}

pub data Moment : Type 0 where
  -- the client of this number among all begins to ask
  Asks : (by : ℕ) (request : RequestFields) → Moment
  -- it hears the answer to what it asked
  Hears : (by : ℕ) (heard : Heard) → Moment
  -- something befalls a member
  Befalls : (act : ActBy) → Moment

abbrev pub acts_in : List Moment → List ActBy
acts_in [] = []
acts_in (Asks by q ∷ h) = acts_in h
acts_in (Hears by t ∷ h) = acts_in h
acts_in (Befalls x ∷ h) = x ∷ acts_in h

-- a client asked this
pub record HasAsked (h : List Moment) (q : RequestFields) : Type 0 where
  pub by : ℕ
  pub moment : Contains h (Asks by q)

-- and heard this outcome of it
pub record HasHeard (h : List Moment) (q : RequestFields) (a : Answered) : Type 0 where
  pub by : ℕ
  pub heard : Heard
  pub moment : Contains h (Hears by heard)
  pub request : heard.request ≡ q
  pub outcome : heard.answer ≡ answer.Outcome a

-- ---- the network

-- an outcome was put out in a reply to this client and number
pub record IsPutOut (before : List Moment) (q : RequestFields) (a : Answered) : Type 0 where
  pub given : ReplyFields
  pub moment : Contains (all_said (acts_in before)) (output.Reply given)
  pub client : given.client ≡ q.client
  pub number : given.request ≡ q.request
  pub outcome : given.kind ≡ reply.Outcome a

-- It brings no request that nobody asked, and no outcome that no member put out. So both may be lost, come again and again, and in any order.
pub record IsCarried (h : List Moment) : Type 0 where
  pub asked : (before after : List Moment) (x : ActBy) (q : RequestFields) → h ≡ before ++ (Befalls x ∷ after) → request_in x.act ≡ Some q → HasAsked before q
  pub heard : (before after : List Moment) (by : ℕ) (t : Heard) (a : Answered) → h ≡ before ++ (Hears by t ∷ after) → t.answer ≡ answer.Outcome a → IsPutOut before t.request a

-- ---- the order of the log

-- the log's entry of an op was made of a request that was asked
pub record IsOfAsked (log : List Whole) (h : List Moment) (op : ℕ) : Type 0 where
  pub entry : Whole
  pub at : slice_get log (op - 1) ≡ Some entry
  pub request : RequestFields
  pub asked : HasAsked h request
  pub made_of : IsMadeOf entry request

-- nobody asked with this client's number and this request's
abbrev pub IsNew : List Moment → RequestFields → Type 0
IsNew before q = (p : RequestFields) → HasAsked before p → p.client ≡ q.client → p.request ≡ q.request → ⊥

-- whoever asked with these, asked just this: so it is where one process alone has the client's number
abbrev pub IsAlone : List Moment → RequestFields → Type 0
IsAlone h q = (p : RequestFields) → HasAsked h p → p.client ≡ q.client → p.request ≡ q.request → p ≡ q

-- it was executed, and what was executed is the operation that was asked
pub record IsExecutedAs (log : List Whole) (q : RequestFields) (a : Answered) : Type 0 where
  pub executed : IsExecuted log q a
  pub operation : executed.entry.operation ≡ q.operation

-- The log is one order of what is executed. Each outcome that is heard is of its place there, as the plain machine has it, and of the client's own
-- operation, where nobody else asks under its number. All up to that place was asked by then; and it stands before whatever is executed of what
-- nobody had asked by then.
pub record IsOrdered (log : List Whole) (h : List Moment) : Type 0 where
  pub executed : (q : RequestFields) (a : Answered) → HasHeard h q a → IsExecuted log q a
  pub own : (q : RequestFields) (a : Answered) → HasHeard h q a → IsAlone h q → IsExecutedAs log q a
  pub asked : (before after : List Moment) → h ≡ before ++ after → (q : RequestFields) (a : Answered) → HasHeard before q a → (op : ℕ) → 0 < op → op ≤ a.op → IsOfAsked log before op
  pub real_time : (before after : List Moment) → h ≡ before ++ after → (q p : RequestFields) (a b : Answered) → HasHeard before q a → IsNew before p → IsExecuted log p b → a.op < b.op

-- ---- what was heard lasts

-- An outcome was put out in a reply to this client and number. In every later view than the reply's the entry of its op keeps its number, in all that
-- members put out. And each outcome that is heard of what nobody had asked when this one was heard is of entries of the log that have that entry.
pub record Lasts (log : List Whole) (h : List Moment) (q : RequestFields) (a : Answered) : Type 0 where
  pub put_out : IsPutOut h q a
  pub executed : IsExecuted log q a
  pub kept : (o : Output) → Contains (all_said (acts_in h)) o → KeepsEntry put_out.given.view executed.entry.header o
  pub later : (before after : List Moment) → h ≡ before ++ after → HasHeard before q a → (p : RequestFields) (b : Answered) → IsNew before p → HasHeard h p b → slice_get (take (b.op - 1) log) (a.op - 1) ≡ Some executed.entry

-- ---- linearizable

-- no client's number begins a second session in the log
abbrev pub HasOneSessionEach : List Whole → Type 0
HasOneSessionEach log = (client : ℕ) (before later : List Whole) → log ≡ before ++ later → IsTrue (begins_session client empty before) → IsTrue (begins_session client (state_after before) later) → ⊥

-- no client's session is ever given up: once it has begun, it is there after each longer front of the log
abbrev pub KeepsSessions : List Whole → Type 0
KeepsSessions log = (client : ℕ) (before later : List Whole) → log ≡ before ++ later → IsTrue (begins_session client empty before) → IsTrue (is_some (find nat_cmp client (state_after before).sessions))

-- all that was ever asked was asked under so few client numbers that there is a session for each: 32 at most, or 64 if all asked in version 2
pub record AskFew (h : List Moment) : Type 0 where
  pub clients : List ℕ
  pub theirs : (q : RequestFields) → HasAsked h q → Contains clients q.client
  pub few : (q : RequestFields) → HasAsked h q → length clients ≤ session_limit q.version

-- whoever heard an outcome asked under a client's number and a request's that nobody else asked anything else under
abbrev pub HaveOwnNumbers : List Moment → Type 0
HaveOwnNumbers h = (q : RequestFields) (a : Answered) → HasHeard h q a → IsAlone h q

-- It has that order; each outcome that is heard is of the operation that was asked; and each request is executed at most once.
pub record IsLinearizable (log : List Whole) (h : List Moment) : Type 0 where
  pub ordered : IsOrdered log h
  pub executed : (q : RequestFields) (a : Answered) → HasHeard h q a → IsExecutedAs log q a
  pub once : (q p : RequestFields) (a b : Answered) → q.client ≡ p.client → q.request ≡ p.request → IsExecuted log q a → IsExecuted log p b → a ≡ b

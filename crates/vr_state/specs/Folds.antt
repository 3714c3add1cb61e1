-- The state after a list of entries, and what each of them answers.
use Rattle.std.specs.Prelude.{◌≡◌, ℕ, ◌-◌, ◌⊎◌, List, [], ◌∷◌, ◌++◌, Option, Some, None, Bool, false, ◌&&◌, ◌||◌, ◌==◌, fold, take, slice_get, IsTrue}
use Rattle.std.specs.Option.{option_map}
use Rattle.vr_header.specs.Made.{Whole}
use Rattle.vr_header.specs.declared.outcome.Outcome.{Outcome}
use Rattle.vr_state.specs.Kv as kv
use Rattle.vr_state.specs.Sessions as sess
use Rattle.vr_state.specs.Asks.{is_fresh}
use Rattle.vr_state.specs.declared.session.SessionAnswer.{SessionAnswer}
use Rattle.vr_state.specs.declared.session.SessionAnswer.TheVariants as answer
use Rattle.vr_state.specs.declared.reply.ReplyBody.{ReplyBody}
use Rattle.vr_state.specs.declared.reply.ReplyBody.TheVariants as reply
use Rattle.vr_state.specs.declared.state.State.{State}

-- no session and no key
abbrev pub empty : State
empty = record { sessions = []; machine = [] }

-- what the sessions say of an entry's request
abbrev pub check : State → Whole → SessionAnswer
check s e = sess.checked s.sessions e.header.client e.header.request

-- what the machine makes of an entry's operation
abbrev pub outcome_of : State → Whole → Outcome
outcome_of s e = (kv.applied s.machine e.operation).outcome

-- the request as it is stored
abbrev pub asked : State → Whole → sess.Asked
asked s e = record { op = e.header.op; client = e.header.client; request = e.header.request; outcome = outcome_of s e; version = e.header.version }

-- a state with what its last entry answers
pub record Applied : Type 0 where
  pub state : State
  pub reply : ReplyBody

abbrev pub answers : State → ReplyBody → Applied
answers s r = record { state = s; reply = r }

-- an entry whose request is fresh: the machine is changed, the outcome stored
unfoldable pub executed : State → Whole → Applied
executed s e =
    answers (record { sessions = sess.applied s.sessions (asked s e); machine = (kv.applied s.machine e.operation).machine }) (reply.Outcome (outcome_of s e) e.header.op)

-- any other changes nothing
unfoldable pub answered : State → Whole → SessionAnswer → Applied
answered s e answer.Fresh = executed s e
answered s e (answer.Repeat outcome op) = answers s (reply.Outcome outcome op)
answered s e answer.Old = answers s reply.Old
answered s e answer.Gap = answers s reply.Gap
answered s e answer.Evicted = answers s reply.Evicted

unfoldable pub applied : State → Whole → Applied
applied s e = answered s e (check s e)

-- the state after these entries, from none
abbrev pub state_after : List Whole → State
state_after entries = fold (λ s e. (applied s e).state) empty entries

-- of an entry: its client, its request's number, what the sessions said, and where that was fresh the outcome
pub record Answer : Type 0 where
  pub client : ℕ
  pub request : ℕ
  pub answer : SessionAnswer
  pub outcome : Option Outcome

abbrev pub fresh_outcome : State → Whole → SessionAnswer → Option Outcome
fresh_outcome s e answer.Fresh = Some (outcome_of s e)
fresh_outcome s e (answer.Repeat outcome op) = None
fresh_outcome s e answer.Old = None
fresh_outcome s e answer.Gap = None
fresh_outcome s e answer.Evicted = None

-- of the k-th entry, from 1 on, after those before it
unfoldable pub answer_at : List Whole → ℕ → Option Answer
answer_at entries k =
    let s = state_after (take (k - 1) entries) in
    option_map (λ e. record { client = e.header.client; request = e.header.request; answer = check s e; outcome = fresh_outcome s e (check s e) }) (slice_get entries (k - 1))

abbrev pub fresh_at : State → Whole → Bool
fresh_at s e = is_fresh (check s e)

-- what want of memory leaves: the sessions as they were, and the machine as it was or, of a fresh entry, changed
pub record LeavesOneTable (old new : State) (e : Whole) : Type 0 where
  pub sessions : new.sessions ≡ old.sessions
  pub machine : (new.machine ≡ old.machine) ⊎ (IsTrue (fresh_at old e) × (new.machine ≡ (kv.applied old.machine e.operation).machine))

-- one of these entries, from this state on, is a fresh register of this client: a session of it begins
unfoldable pub begins_session : ℕ → State → List Whole → Bool
begins_session client s [] = false
begins_session client s (e ∷ entries) = (fresh_at s e && (e.header.client == client && e.header.request == 0)) || begins_session client (applied s e).state entries

-- Two fresh entries of one client with one number are in two sessions of it: after the first and up to the second a session
-- of the client begins. So in one session each number is fresh at most once.
abbrev pub EachOnce : Type 0
EachOnce = (before between : List Whole) (d e : Whole) → d.header.client ≡ e.header.client → d.header.request ≡ e.header.request
    → IsTrue (fresh_at (state_after before) d) → IsTrue (fresh_at (state_after (before ++ (d ∷ between))) e)
    → IsTrue (begins_session d.header.client (state_after (before ++ d ∷ [])) (between ++ e ∷ []))

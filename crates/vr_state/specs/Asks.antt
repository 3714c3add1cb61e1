-- Sessions folded over a list of requests, of which those that are fresh are executed.
use Rattle.std.specs.Prelude.{◌≡◌, ℕ, List, [], ◌∷◌, ◌++◌, Bool, true, false, ◌&&◌, ◌||◌, ◌==◌, fold, if◌then◌else◌, IsTrue}
use Rattle.vr_state.specs.declared.session.SessionAnswer.{SessionAnswer}
use Rattle.vr_state.specs.declared.session.SessionAnswer.TheVariants.{Fresh, Repeat, Old, Gap, Evicted}
use Rattle.vr_state.specs.Sessions.{Map, Asked, checked, applied}

abbrev pub is_fresh : SessionAnswer → Bool
is_fresh Fresh = true
is_fresh (Repeat outcome op) = false
is_fresh Old = false
is_fresh Gap = false
is_fresh Evicted = false

abbrev pub fresh_at : Map → Asked → Bool
fresh_at m a = is_fresh (checked m a.client a.request)

-- a request that is not fresh changes nothing
unfoldable pub asked : Map → Asked → Map
asked m a = if fresh_at m a then applied m a else m

-- the sessions after these requests, from none
abbrev pub sessions_after : List Asked → Map
sessions_after asks = fold asked [] asks

-- one of these requests, from the sessions m on, is a fresh register of this client: a session of it begins
unfoldable pub begins_session : ℕ → Map → List Asked → Bool
begins_session client m [] = false
begins_session client m (a ∷ asks) = (fresh_at m a && (a.client == client && a.request == 0)) || begins_session client (asked m a) asks

-- Two fresh requests of one client with one number are in two sessions of it: after the first and up to the second a
-- session of the client begins. So in one session each number is fresh at most once.
abbrev pub AtMostOnce : Type 0
AtMostOnce = (before between : List Asked) (a b : Asked) → a.client ≡ b.client → a.request ≡ b.request
    → IsTrue (fresh_at (sessions_after before) a) → IsTrue (fresh_at (sessions_after (before ++ (a ∷ between))) b)
    → IsTrue (begins_session a.client (sessions_after (before ++ a ∷ [])) (between ++ b ∷ []))

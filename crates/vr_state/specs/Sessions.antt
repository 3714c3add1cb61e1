-- Sessions: a finite map from clients to what was last executed for each, by whole requests.
use Rattle.std.specs.Prelude.{◌≡◌, ℕ, ◌+◌, ◌<◌, ◌≤◌, ◌^◌, List, ◌++◌, ◌∷◌, length, Option, Some, None, is_some, nat_lt, nat_le, ◌==◌, if◌then◌else◌, fold}
use Rattle.std.specs.List.{AllByRecursion}
use Rattle.std.specs.Option.{option_map_or}
use Rattle.std.specs.Ordering.{nat_cmp}
use Rattle.std.specs.FinMap.Entries.{find, put}
use Rattle.vr_base.specs.Versions.{session_limit}
use Rattle.vr_header.specs.Bodies.{IsOutcome}
use Rattle.vr_header.specs.declared.outcome.Outcome.{Outcome}
use Rattle.vr_state.specs.Finite.{without, IsMap}
use Rattle.vr_state.specs.declared.session.Session.{Session}
use Rattle.vr_state.specs.declared.session.SessionAnswer.{SessionAnswer}
use Rattle.vr_state.specs.declared.session.SessionAnswer.TheVariants.{Fresh, Repeat, Old, Gap, Evicted}

-- the clients with their sessions, the clients ascending
abbrev pub Map : Type 0
Map = List (ℕ × Session)

-- what a request is to the client's session
abbrev pub judged : ℕ → Session → SessionAnswer
judged request s =
    if request == s.number then Repeat s.outcome s.op
    else (if nat_lt request s.number then Old
    else (if request == s.number + 1 then Fresh else Gap))

-- what a request is to the sessions
unfoldable pub checked : Map → ℕ → ℕ → SessionAnswer
checked m client request = option_map_or (judged request) (find nat_cmp client m) (if request == 0 then Fresh else Evicted)

-- of two clients with the last ops of their sessions the one with the lower op, the first where both are one
abbrev pub older : Option (ℕ × ℕ) → ℕ → ℕ → Option (ℕ × ℕ)
older None client op = Some (client, op)
older (Some d) client op = if nat_le d.1 op then Some d else Some (client, op)

-- the client whose session gives way, with the op, by going through all of them
unfoldable pub oldest : Map → Option (ℕ × ℕ)
oldest m = fold (λ d e. older d e.0 e.1.op) None m

unfoldable pub without_oldest : Map → Map
without_oldest m = option_map_or (λ d. without nat_cmp d.0 m) (oldest m) m

-- a request that was executed, as entry `op` of the log, what it gave, and the version of that entry
pub record Asked : Type 0 where
  pub op : ℕ
  pub client : ℕ
  pub request : ℕ
  pub outcome : Outcome
  pub version : ℕ

-- where as many sessions are there as the entry's version leaves, or more, and the client has none, one gives way
unfoldable pub applied : Map → Asked → Map
applied m a =
    let s : Session = record { number = a.request; op = a.op; outcome = a.outcome } in
    if nat_lt (length m) (session_limit a.version) then put nat_cmp a.client s m
    else (if is_some (find nat_cmp a.client m) then put nat_cmp a.client s m
    else put nat_cmp a.client s (without_oldest m))

-- the session whose last op is least, of several the one with the least client: those of lower clients have a higher op,
-- and no op is lower
pub record IsOldest (m : Map) (client : ℕ) : Type 0 where
  pub session : Session
  pub before : Map
  pub after : Map
  pub among : m ≡ before ++ ((client, session) ∷ after)
  pub first : AllByRecursion (λ d. session.op < d.1.op) before
  pub least : AllByRecursion (λ d. session.op ≤ d.1.op) after

-- an outcome of either version: version 2 has those of version 1 too
abbrev pub OutcomeFits : Outcome → Type 0
OutcomeFits o = IsOutcome 2 o

-- the greatest number of an entry
abbrev pub last_op : ℕ
last_op = 2 ^ 62

pub record Fits (e : ℕ × Session) : Type 0 where
  pub client : e.0 < 2 ^ 64
  pub number : e.1.number < 2 ^ 32
  pub op : e.1.op ≤ last_op
  pub outcome : OutcomeFits e.1.outcome

-- what is true of all sessions together
pub record IsSessions (m : Map) : Type 0 where
  pub is_map : IsMap nat_cmp m
  pub fit : AllByRecursion Fits m
  pub few : length m ≤ session_limit 2

-- each session's op is the number of an entry that may be
unfoldable pub HaveNumbers : Map → Type 0
HaveNumbers m = AllByRecursion (λ s. s.1.op ≤ last_op) m

-- What a stored request changes, by look-ups alone.
use Rattle.std.specs.Prelude.{◌≡◌, ◌≢◌, ◌≤◌, ℕ, ◌⊎◌, length, Option, Some, None}
use Rattle.std.specs.Ordering.{nat_cmp}
use Rattle.std.specs.FinMap.Entries.{find}
use Rattle.vr_base.specs.Versions.{session_limit}
use Rattle.vr_state.specs.declared.session.Session.{Session}
use Rattle.vr_state.specs.Sessions.{Map, Asked, IsOldest}

abbrev pub session_of : Map → ℕ → Option Session
session_of m client = find nat_cmp client m

abbrev pub stored : Asked → Session
stored a = record { number = a.request; op = a.op; outcome = a.outcome }

-- the session of the asking client is this request, and each other client has the one that it had
pub record Keeps (old new : Map) (a : Asked) : Type 0 where
  pub own : session_of new a.client ≡ Some (stored a)
  pub others : (q : ℕ) → q ≢ a.client → session_of new q ≡ session_of old q

-- as many sessions are there as the entry's version leaves, or more, and none of this client: the oldest is gone, and each
-- other client has the one that it had
pub record Evicts (old new : Map) (a : Asked) : Type 0 where
  pub full : session_limit a.version ≤ length old
  pub absent : session_of old a.client ≡ None
  pub evicted : ℕ
  pub oldest : IsOldest old evicted
  pub gone : session_of new evicted ≡ None
  pub own : session_of new a.client ≡ Some (stored a)
  pub others : (q : ℕ) → q ≢ a.client → q ≢ evicted → session_of new q ≡ session_of old q

abbrev pub Effect : Map → Map → Asked → Type 0
Effect old new a = Keeps old new a ⊎ Evicts old new a

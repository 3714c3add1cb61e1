-- Which port a sender has that isn't a peer.
use Rattle.std.specs.Prelude.{◌≡◌, ◌≤◌, ◌<◌, ◌+◌, ◌-◌, ◌^◌, ℕ, Bool, false, List, [], length, min, nat_lt, slice_get, slice_set, Option, Some, None, IfSome, MatchOption, if◌then◌else◌}
use Rattle.std.specs.List.{position}
use Rattle.std.specs.Option.{option_map_or}
use Rattle.vr_io_policy.specs.declared.ports.Sender.{Sender}

-- a port that nobody has yet
abbrev pub never : {A : Type 0} → Sender A
never = record { address = None; heard = 0 }

-- a sender has this address
abbrev pub at_address : {A : Type 0} → (A → A → Bool) → A → Sender A → Bool
at_address same a s = option_map_or (λ own. same own a) s.address false

-- of the senders at so many places none was heard longer ago than the one at this place
pub record IsOldest {A : Type 0} (others : List (Sender A)) (count : ℕ) (place : ℕ) : Type 0 where
  pub there : place < count
  pub least : (k : ℕ) → k < count → IfSome (slice_get others k) (λ s. IfSome (slice_get others place) (λ own. own.heard ≤ s.heard))

-- the place of a sender: its own; else that of the one that was heard longest ago, as one is that was never heard
abbrev pub IsSenderPlace : {A : Type 0} → (A → A → Bool) → List (Sender A) → A → ℕ → Type 0
IsSenderPlace same others a place = MatchOption (position (at_address same a) others) (IsOldest others (length others) place) (λ own. place ≡ own)

-- the address of a port: the peers', and after them those of the others
abbrev pub address_at : {A : Type 0} → List A → List (Sender A) → ℕ → Option A
address_at peers others port = if nat_lt port (length peers) then slice_get peers port else option_map_or (λ s. s.address) (slice_get others (port - length peers)) None

-- a sender is heard by so many datagrams: it has its place, and the port of it; where there are no places it has none, and the last port
pub record IsHeard {A : Type 0} (same : A → A → Bool) (old new : List (Sender A)) (a : A) (count : ℕ) (peers : ℕ) (port : ℕ) : Type 0 where
  pub place : ℕ
  pub own : 0 < length old → IsSenderPlace same old a place
  pub put : 0 < length old → new ≡ slice_set old place (record { address = Some a; heard = count })
  pub port_is : 0 < length old → port ≡ min (peers + place) (2 ^ 32 - 1)
  pub none : old ≡ [] → (new ≡ []) × (port ≡ 2 ^ 32 - 1)

-- What the order in which places are had comes to.
use Rattle.std.specs.Prelude.{◌≡◌, ◌≢◌, ◌≤◌, ◌<◌, ℕ, Bool, true, false, List, slice_get, Option, Some, None, ◌⊎◌}
use Rattle.std.specs.Option.{option_map_or}
use Rattle.vr_io_policy.specs.Guests.{answers, asks, comes, hears, waits}
use Rattle.vr_io_policy.specs.Places.{has_word, speaking}
use Rattle.vr_io_policy.specs.Turns.{claim_of, is_before}
use Rattle.vr_io_policy.specs.declared.guest.Guest.{Guest}
use Rattle.vr_io_policy.specs.declared.turn.Claim.{Claim}
use Rattle.vr_io_policy.specs.declared.turn.Newcomer.{Newcomer}

-- this one keeps its place before a newcomer
abbrev pub Keeps : Newcomer → Guest → Type 0
Keeps n g = claim_of n (Some g) ≡ None

-- it has to wait for nothing, or for its first answer, and can't be that of a member
abbrev pub IsLate : Newcomer → Guest → Type 0
IsLate n g = (waits n.now g ≡ false) ⊎ ((g.answered ≡ false) × (g.near ≡ false))

pub record PlacesAreFair : Type 0 where
  -- a stream that speaks as a member keeps its place before everybody
  pub members : (n : Newcomer) (g : Guest) (member : ℕ) → g.speaks ≡ Some member → Keeps n g
  -- each member is one stream: who brings a message of it takes its word from all others
  pub one : (member at k : ℕ) (guests : List (Option Guest)) → member < 6 → k ≢ at → option_map_or (has_word member) (slice_get (speaking member at guests) k) false ≡ false
  -- no number but those of members counts
  pub few : (member at : ℕ) (guests : List (Option Guest)) → 6 ≤ member → speaking member at guests ≡ guests
  -- neither by coming, nor by bytes or answers does a stream speak
  pub word : (near : Bool) (count now : ℕ) (g : Guest) → ((comes near now).speaks ≡ None) × ((hears count now g).speaks ≡ g.speaks) × ((answers now g).speaks ≡ g.speaks)
  -- a stranger that was answered and waits keeps it before all who can't be a member's
  pub served : (n : Newcomer) (g : Guest) → n.near ≡ false → g.answered ≡ true → waits n.now g ≡ true → Keeps n g
  -- a stranger that waits for nothing keeps it before nobody, nor does one that was never answered, wherever they come from
  pub idle : (n : Newcomer) (g : Guest) → g.speaks ≡ None → (waits n.now g ≡ false) ⊎ (g.answered ≡ false) → (c : Claim) × (claim_of n (Some g) ≡ Some c)
  -- no stranger keeps it before who may be a member's
  pub strangers : (n : Newcomer) (g : Guest) → n.near ≡ true → g.speaks ≡ None → (c : Claim) × (claim_of n (Some g) ≡ Some c)
  -- of two strangers that were answered, one that waits keeps it before one that waits for nothing
  pub asking : (n : Newcomer) (g h : Guest) (c d : Claim) → g.speaks ≡ None → g.answered ≡ true → waits n.now g ≡ true → h.speaks ≡ None → waits n.now h ≡ false
      → claim_of n (Some g) ≡ Some c → claim_of n (Some h) ≡ Some d → is_before c d ≡ false
  -- one that may be a member's and waits to be heard keeps it before strangers that wait for nothing, or for their first answer
  pub awaited : (n : Newcomer) (g h : Guest) (c d : Claim) → g.speaks ≡ None → g.near ≡ true → g.answered ≡ false → waits n.now g ≡ true → h.speaks ≡ None → IsLate n h
      → claim_of n (Some g) ≡ Some c → claim_of n (Some h) ≡ Some d → is_before c d ≡ false
  -- bytes of what has asked already begin no wait anew, nor do bytes by which nothing is asked yet
  pub renew : (g : Guest) (count now : ℕ) → (asks g ≡ true) ⊎ (asks (hears count now g) ≡ false) → (hears count now g).since ≡ g.since

-- Which place a newcomer gets.
use Rattle.std.specs.Prelude.{◌≡◌, ◌<◌, ◌/◌, ◌==◌, ℕ, Bool, true, false, nat_lt, ◌&&◌, ◌||◌, List, length, count_by, slice_get, slice_set, Option, Some, None, IfSome, if◌then◌else◌, option_map, map}
use Rattle.std.specs.Option.{option_map_or}
use Rattle.std.specs.List.{list_any}
use Rattle.vr_io_policy.specs.Guests.{speaks_as, speaks_for, yields}
use Rattle.vr_io_policy.specs.Turns.{claim_of, is_before, waits_first}
use Rattle.vr_io_policy.specs.declared.guest.Guest.{Guest}
use Rattle.vr_io_policy.specs.declared.places.Found.{Found}
use Rattle.vr_io_policy.specs.declared.turn.Claim.{Claim}
use Rattle.vr_io_policy.specs.declared.turn.Newcomer.{Newcomer}

-- more than half of the places have strangers that wait for their first answer
abbrev pub is_crowded : ℕ → List (Option Guest) → Bool
is_crowded now guests = nat_lt (length guests / 2) (count_by (waits_first now) guests)

-- who comes now, and may be a member or not
abbrev pub newcomer : Bool → ℕ → List (Option Guest) → Newcomer
newcomer near now guests = record { near = near; crowded = is_crowded now guests; now = now }

-- what it may claim of a place
abbrev pub claim_at : Newcomer → List (Option Guest) → ℕ → Option Claim
claim_at n guests k = option_map_or (claim_of n) (slice_get guests k) None

-- no other place is had before one that is claimed so
abbrev pub NoneBefore : Newcomer → List (Option Guest) → Claim → Type 0
NoneBefore n guests c = (k : ℕ) → IfSome (claim_at n guests k) (λ d. is_before d c ≡ false)

-- the place that it gets: one that it may claim, before which no other one is had; none only where it may claim none
unfoldable pub IsPlace : Newcomer → List (Option Guest) → Option ℕ → Type 0
IsPlace n guests None = (k : ℕ) → claim_at n guests k ≡ None
IsPlace n guests (Some at) = (c : Claim) × (claim_at n guests at ≡ Some c) × NoneBefore n guests c

-- which of two places is had first
unfoldable pub first_of : Option Found → ℕ → Option Claim → Option Found
first_of found at None = found
first_of None at (Some c) = Some (record { at = at; claim = c })
first_of (Some f) at (Some c) = if is_before c f.claim then Some (record { at = at; claim = c }) else Some f

-- a claim isn't before what was found; where nothing was there is none
abbrev pub NotBefore : Option Found → Option Claim → Type 0
NotBefore None d = d ≡ None
NotBefore (Some f) d = IfSome d (λ d. is_before d f.claim ≡ false)

-- of the places below a number this one is had first
pub record IsFirst (n : Newcomer) (guests : List (Option Guest)) (count : ℕ) (found : Option Found) : Type 0 where
  pub own : IfSome found (λ f. claim_at n guests f.at ≡ Some f.claim)
  pub each : (k : ℕ) → k < count → NotBefore found (claim_at n guests k)

-- something happens to what stands at a place; a free one stays free
abbrev pub at_place : (Guest → Guest) → ℕ → List (Option Guest) → List (Option Guest)
at_place f at guests = option_map_or (λ p. slice_set guests at (option_map f p)) (slice_get guests at) guests

-- what has a place speaks as this member
abbrev pub has_word : ℕ → Option Guest → Bool
has_word member place = option_map_or (speaks_for member) place false

-- a stream speaks as this member
abbrev pub is_heard : ℕ → List (Option Guest) → Bool
is_heard member guests = list_any (has_word member) guests

-- the stream at a place brought a message of this member: it speaks as that one, and no other stream does; where no member can have the number, nothing
abbrev pub speaking : ℕ → ℕ → List (Option Guest) → List (Option Guest)
speaking member at guests = if nat_lt member 6 then at_place (speaks_as member) at (map (option_map (yields member)) guests) else guests

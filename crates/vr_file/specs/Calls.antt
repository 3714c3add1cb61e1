-- What calls leave of a file that tells what its sectors are.
use Rattle.std.specs.Prelude.{ℕ, ◌+◌, ◌-◌, ◌*◌, ◌≤◌, ◌≡◌, ◌&&◌, ◌⊎◌, Bool, true, false, nat_le, nat_lt, if◌then◌else◌, List, [], ◌∷◌, ◌++◌, length, drop, take, Option, None, Some}
use Rattle.vr_disk.specs.Regions.{sectors}
use Rattle.vr_io_policy.specs.Files.{Spot, over, settled_as}

-- what becomes of each sector
abbrev pub Spots : Type 0
Spots = ℕ → Spot

-- ---- what a call asks for

-- the bytes of whole sectors, all of them within the file
pub record IsWithin (first : ℕ) (bytes : List ℕ) : Type 0 where
  pub count : ℕ
  pub whole : length bytes ≡ 512 * count
  pub below : first + count ≤ sectors

-- a call that was made: a read, a write, a sync, what isn't written is to be read anew, a pause, and the time that was taken
pub data Made : Type 0 where
  Asked : (i : ℕ) (ok : Bool) → Made
  Wrote : (first : ℕ) (bytes : List ℕ) (ok : Bool) → Made
  Synced : (ok : Bool) → Made
  Renewed : Made
  Paused : (millis : ℕ) → Made
  Told : (millis : ℕ) → Made

-- these calls were made, and no other
abbrev pub Makes : List Made → Option (List Made) → Option (List Made) → Type 0
Makes calls None new = new ≡ None
Makes calls (Some before) new = new ≡ Some (before ++ calls)

-- a read that is made again after each of these pauses, as long as it fails
abbrev pub AsksAgain : ℕ → List ℕ → Bool → List Made → Type 0
AsksAgain i [] ok calls = calls ≡ Asked i ok ∷ []
AsksAgain i (p ∷ ps) ok calls = ((ok ≡ true) × (calls ≡ Asked i true ∷ [])) ⊎ ((rest : List Made) × (calls ≡ Asked i false ∷ (Paused p ∷ rest)) × AsksAgain i ps ok rest)

-- a read was made so
pub record ReadsAgain (i : ℕ) (pauses : List ℕ) (ok : Bool) (old new : Option (List Made)) : Type 0 where
  pub calls : List Made
  pub again : AsksAgain i pauses ok calls
  pub made : Makes calls old new

-- ---- what it does

-- a read gives what the sector has; where there is nothing it fails
abbrev pub ReadsSpot : ℕ → Option Spots → Option (List ℕ) → Type 0
ReadsSpot i None given = Unit {0}
ReadsSpot i (Some f) given = (f i).now ≡ given

-- bytes that begin at a sector go as far as this one
abbrev pub is_within : ℕ → List ℕ → ℕ → Bool
is_within first bytes j = nat_le first j && nat_lt (512 * (j - first)) (length bytes)

abbrev pub piece_at : ℕ → List ℕ → ℕ → List ℕ
piece_at first bytes j = take 512 (drop (512 * (j - first)) bytes)

-- each sector of these bytes is written
abbrev pub spots_written : ℕ → List ℕ → Spots → ℕ → Spot
spots_written first bytes f j = if is_within first bytes j then over (f j) (piece_at first bytes j) else f j

-- all of them were written, or, where the call failed, some
pub record HasWritten (first : ℕ) (bytes : List ℕ) (ok : Bool) (f h : Spots) : Type 0 where
  pub whole : ok ≡ true → (j : ℕ) → h j ≡ spots_written first bytes f j
  pub some : (j : ℕ) → (h j ≡ f j) ⊎ (h j ≡ spots_written first bytes f j)

abbrev pub WritesSpots : ℕ → List ℕ → Bool → Option Spots → Option Spots → Type 0
WritesSpots first bytes ok None new = new ≡ None
WritesSpots first bytes ok (Some f) new = (h : Spots) × (new ≡ Some h) × HasWritten first bytes ok f h

-- what was written stays; where the call failed nothing is known to
abbrev pub SyncsSpots : Bool → Option Spots → Option Spots → Type 0
SyncsSpots ok None new = new ≡ None
SyncsSpots ok (Some f) new = (h : Spots) × (new ≡ Some h) × ((j : ℕ) → h j ≡ (if ok then settled_as (f j).now else f j))

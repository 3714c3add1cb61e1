-- What has come of a source, and the line that was given of it.
use Rattle.std.specs.Io.KnownBytes.{Consumes, IsAtEnd}
use Rattle.std.specs.Prelude.{ℕ, ◌+◌, ◌-◌, ◌≡◌, ◌≤◌, ◌<◌, ◌⊎◌, Bool, true, false, List, [], ◌∷◌, ◌++◌, Option, length, take, drop}
use Rattle.vr_lines.specs.Cuts.{whole_lines}
use Rattle.vr_lines.specs.declared.lines.Next.{Next}
use Rattle.vr_lines.specs.declared.lines.Next.TheVariants as next

pub record Held : Type 0 where
  -- what wasn't given yet
  pub bytes : List ℕ
  -- the line that was given last
  pub line : List ℕ

-- there is room for so many bytes: the longest line of any version, with its end
abbrev pub room : ℕ
room = 3112

-- the bytes from one place on, up to another
abbrev pub between : ℕ → ℕ → List ℕ → List ℕ
between from to buffer = take (to - from) (drop from buffer)

-- so many bytes of a source came after what stood, none only at its end; with them there is no more than the longest line with its end
pub record Fills (left left' : Option (List ℕ)) (old new : List ℕ) (count : ℕ) : Type 0 where
  pub piece : List ℕ
  pub size : length piece ≡ count
  pub consumed : Consumes left left' piece
  pub behind : new ≡ old ++ piece
  pub fits : length new ≤ room
  pub end : count ≡ 0 → IsAtEnd left'

-- a line that has ended, or at the end of the source what has not
abbrev pub IsGiven : Bool → List ℕ → Held → Type 0
IsGiven ended old new =
    ((whole_lines new.line ≡ []) × (old ≡ new.line ++ 10 ∷ new.bytes))
    ⊎ ((ended ≡ true) × (0 < length old) × (whole_lines old ≡ []) × (new.line ≡ old) × (new.bytes ≡ []))

-- what comes next of these bytes
abbrev pub Gives : Bool → List ℕ → Held → Next → Type 0
Gives ended old new next.Line = IsGiven ended old new
Gives ended old new next.TooLong = (whole_lines old ≡ []) × (length old ≡ room) × (new.bytes ≡ old)
Gives ended old new next.End = (ended ≡ true) × (old ≡ []) × (new.bytes ≡ old)
Gives ended old new next.More = (ended ≡ false) × (whole_lines old ≡ []) × (length old < room) × (new.bytes ≡ old)

-- the same of a source whose lines have at most so many bytes
abbrev pub GivesWithin : ℕ → Bool → List ℕ → Held → Next → Type 0
GivesWithin longest ended old new next.Line = IsGiven ended old new × (length new.line ≤ longest)
GivesWithin longest ended old new next.TooLong = (whole_lines (take (longest + 1) old) ≡ []) × (longest < length old) × (length old ≤ room) × (new.bytes ≡ old)
GivesWithin longest ended old new next.End = (ended ≡ true) × (old ≡ []) × (new.bytes ≡ old)
GivesWithin longest ended old new next.More = (ended ≡ false) × (whole_lines old ≡ []) × (length old ≤ longest) × (new.bytes ≡ old)

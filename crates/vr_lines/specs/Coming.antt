-- What comes next of a source, after bytes that had come of it.
use Rattle.std.specs.Io.KnownBytes.{Consumes, IsAtEnd}
use Rattle.std.specs.Prelude.{ℕ, ◌+◌, ◌≡◌, ◌≤◌, ◌<◌, ◌⊎◌, List, [], ◌∷◌, ◌++◌, Option, length, take}
use Rattle.vr_lines.specs.Cuts.{whole_lines}
use Rattle.vr_lines.specs.Held.{Held}
use Rattle.vr_lines.specs.declared.reading.Found.{Found}
use Rattle.vr_lines.specs.declared.reading.Found.TheVariants as found

-- a line, which its LF or the end of the source ends
pub record LineComes (longest : ℕ) (before : List ℕ) (left : Option (List ℕ)) (after : List ℕ) (left' : Option (List ℕ)) (line : List ℕ) : Type 0 where
  pub read : List ℕ
  pub consumed : Consumes left left' read
  pub part : whole_lines line ≡ []
  pub short : length line ≤ longest
  pub ended : (before ++ read ≡ line ++ 10 ∷ after) ⊎ ((before ++ read ≡ line) × (0 < length line) × (after ≡ []) × IsAtEnd left')

-- a line that is too long: its beginning has come, and stands still
pub record TooLongComes (longest : ℕ) (before : List ℕ) (left : Option (List ℕ)) (after : List ℕ) (left' : Option (List ℕ)) : Type 0 where
  pub read : List ℕ
  pub consumed : Consumes left left' read
  pub kept : after ≡ before ++ read
  pub long : longest < length after
  pub part : whole_lines (take (longest + 1) after) ≡ []

-- nothing: the source is at its end
pub record EndComes (before : List ℕ) (left : Option (List ℕ)) (after : List ℕ) (left' : Option (List ℕ)) : Type 0 where
  pub empty : before ≡ []
  pub none : after ≡ []
  pub consumed : Consumes left left' []
  pub end : IsAtEnd left'

abbrev pub Comes : ℕ → List ℕ → Option (List ℕ) → Held → Option (List ℕ) → Found → Type 0
Comes longest before left new left' found.Line = LineComes longest before left new.bytes left' new.line
Comes longest before left new left' found.TooLong = TooLongComes longest before left new.bytes left'
Comes longest before left new left' found.End = EndComes before left new.bytes left'

-- a read that failed in the midst of a line: what has come of it stands still
pub record Breaks (before : List ℕ) (left : Option (List ℕ)) (after : List ℕ) (left' : Option (List ℕ)) : Type 0 where
  pub read : List ℕ
  pub consumed : Consumes left left' read
  pub kept : after ≡ before ++ read
  pub part : whole_lines after ≡ []

-- The lines of a text.
use Rattle.std.specs.Prelude.{ℕ, ◌+◌, ◌≡◌, ◌==◌, List, [], ◌∷◌, ◌++◌, take, drop, if◌then◌else◌}

-- a text cut at each LF: the lines that end, and what stands after the last LF
pub record Cut : Type 0 where
  pub lines : List (List ℕ)
  pub last : List ℕ

-- a byte before the first line
abbrev pub joined : ℕ → List (List ℕ) → List ℕ → Cut
joined b [] last = record { lines = []; last = b ∷ last }
joined b (line ∷ lines) last = record { lines = (b ∷ line) ∷ lines; last = last }

abbrev pub before : ℕ → Cut → Cut
before b c = if b == 10 then record { lines = [] ∷ c.lines; last = c.last } else joined b c.lines c.last

unfoldable pub cut : List ℕ → Cut
cut [] = record { lines = []; last = [] }
cut (b ∷ bytes) = before b (cut bytes)

-- the lines that end
abbrev pub whole_lines : List ℕ → List (List ℕ)
whole_lines bytes = (cut bytes).lines

-- the first LF stands at this place
pub record IsEnd (bytes : List ℕ) (at : ℕ) : Type 0 where
  pub before : whole_lines (take at bytes) ≡ []
  pub whole : bytes ≡ take at bytes ++ 10 ∷ drop (at + 1) bytes

-- a line, where there is one
abbrev pub if_any : List ℕ → List (List ℕ)
if_any [] = []
if_any (b ∷ bytes) = (b ∷ bytes) ∷ []

-- all lines: the last may lack its end
abbrev pub lines_of : List ℕ → List (List ℕ)
lines_of bytes = whole_lines bytes ++ if_any (cut bytes).last

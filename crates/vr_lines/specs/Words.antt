-- The words of a line.
use Rattle.std.specs.Prelude.{ℕ, ◌==◌, Bool, true, false, List, [], ◌∷◌, Option, Some, None}
use Rattle.std.specs.List.{slice_split}
use Rattle.std.specs.Option.{option_map_or}
use Rattle.vr_lines.specs.declared.words.Words.{Words}

-- the words between single spaces: of a line that begins or ends with a space, or has two together, one is empty
unfoldable pub words_of : List ℕ → List (List ℕ)
words_of bytes = slice_split (λ b. b == 32) bytes

-- the words that are still to be read
abbrev pub words_left : Words → List (List ℕ)
words_left words = option_map_or (λ rest. words_of rest.now) words.rest []

-- the one word that is left
abbrev pub only_word : List (List ℕ) → Option (List ℕ)
only_word [] = None
only_word (word ∷ []) = Some word
only_word (word ∷ next ∷ words) = None

abbrev pub is_end : List (List ℕ) → Bool
is_end [] = true
is_end (word ∷ words) = false

-- The letters of Parts, from the last one on.
use Rattle.std.proofs.Common.{◌≡◌, ◌≢◌, ℕ, List, [], ◌∷◌, ◌++◌, map, refl, ap, ◌∙◌}
use Rattle.vr_header.specs.declared.part.Part.{Part}
use Rattle.vr_header.specs.declared.part.Part.TheVariants.{Here, Lost, Wanted, Unknown, Nothing}
use Rattle.vr_text.specs.Text.{letter, letters_of, before_letters}

pub no_letters : letters_of [] ≡ []
unfolding letters_of
no_letters = refl

-- a Nothing at the end has no letter
pub nothing_end : (parts : List Part) → letters_of (parts ++ Nothing ∷ []) ≡ letters_of parts
unfolding letters_of
nothing_end [] = refl
nothing_end (part ∷ parts) = ap (before_letters part) (nothing_end parts)

before_some : (part : Part) (l : ℕ) (ls : List ℕ) → before_letters part (l ∷ ls) ≡ letter part ∷ l ∷ ls
before_some (Here h) l ls = refl
before_some (Lost h) l ls = refl
before_some (Wanted h) l ls = refl
before_some Unknown l ls = refl
before_some Nothing l ls = refl

-- with another at the end, each has its letter
pub known_end : (parts : List Part) (part : Part) → part ≢ Nothing → letters_of (parts ++ part ∷ []) ≡ map letter (parts ++ part ∷ [])
unfolding letters_of
known_end [] (Here h) known = refl
known_end [] (Lost h) known = refl
known_end [] (Wanted h) known = refl
known_end [] Unknown known = refl
known_end [] Nothing known = absurd (known refl)
known_end (first ∷ []) part known = ap (before_letters first) (known_end [] part known) ∙ before_some first (letter part) []
known_end (first ∷ next ∷ parts) part known =
    ap (before_letters first) (known_end (next ∷ parts) part known) ∙ before_some first (letter next) (map letter (parts ++ part ∷ []))

-- Texts, one after another.
use Rattle.std.proofs.Common.{◌≡◌, ◌∙◌, ℕ, ◌+◌, ◌<◌, List, [], ◌∷◌, ◌++◌, map, length, take, get_or, ap, ap₂, sym}
use Rattle.std.proofs.lemmas.List.{map-append, take_more}
use Rattle.std.specs.Global.{Global}
use Rattle.std.specs.Prelude.{String, string_bytes}

-- one text more is copied
pub copied_more : (texts : List (List ℕ)) (text : List ℕ) (words : List (String Global)) (i : ℕ) (d : String Global) → i < length words
    → texts ≡ map string_bytes (take i words) → text ≡ string_bytes (get_or words i d)
    → texts ++ text ∷ [] ≡ map string_bytes (take (i + 1) words)
copied_more texts text words i d h same one =
    ap₂ (λ x y. x ++ y ∷ []) same one
    ∙ (sym (map-append string_bytes (take i words) (get_or words i d ∷ [])) ∙ ap (map string_bytes) (sym (take_more words i d h)))

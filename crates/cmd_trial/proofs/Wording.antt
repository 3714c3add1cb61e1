-- Words, one after another.
use Rattle.std.proofs.Common.{◌≡◌, ◌∙◌, ℕ, ◌+◌, ◌<◌, List, [], ◌∷◌, ◌++◌, map, length, take, get_or, append_assoc, refl, ap}
use Rattle.std.specs.Global.{Global}
use Rattle.std.specs.Prelude.{String, string_bytes}
use Rattle.vr_edge.proofs.Copying.{copied_more}

-- a word more is put after these
pub put_more : (before old new : List (List ℕ)) (text : List ℕ) (words : List (String Global)) (i : ℕ) (d : String Global) → i < length words
    → old ≡ before ++ map string_bytes (take i words) → text ≡ string_bytes (get_or words i d) → new ≡ old ++ text ∷ []
    → new ≡ before ++ map string_bytes (take (i + 1) words)
put_more before old new text words i d h same one put =
    put ∙ ap (λ x. x ++ text ∷ []) same ∙ append_assoc before (map string_bytes (take i words)) (text ∷ [])
    ∙ ap (λ x. before ++ x) (copied_more (map string_bytes (take i words)) text words i d h refl one)

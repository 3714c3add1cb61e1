-- The first word of a line.
use Rattle.std.proofs.Common.{◌≡◌, ◌==◌, ◌<◌, ℕ, ◌+◌, false, List, [], ◌∷◌, ◌++◌, length, get_or, take, drop, All, ap, sym, ◌∙◌, take-append-drop, eq-eqb}
use Rattle.std.proofs.lemmas.List.{drop_more}
use Rattle.std.proofs.lemmas.List.Splits.{slice_split_at, slice_split_none}
use Rattle.vr_lines.specs.Words.{words_of}

pub cut_at : (line : List ℕ) (at : ℕ) → at < length line → get_or line at 0 ≡ 32 → All (λ b. (b == 32) ≡ false) (take at line) → words_of line ≡ take at line ∷ words_of (drop (at + 1) line)
unfolding words_of
cut_at line at within space front =
    let parts : line ≡ take at line ++ get_or line at 0 ∷ drop (at + 1) line =
    sym (take-append-drop at line) ∙ ap (λ rest. take at line ++ rest) (drop_more line at 0 within) in
    ap words_of parts ∙ slice_split_at (λ b. b == 32) (take at line) (get_or line at 0) (drop (at + 1) line) front (eq-eqb (get_or line at 0) 32 space)

pub cut_none : (line : List ℕ) → All (λ b. (b == 32) ≡ false) line → words_of line ≡ line ∷ []
unfolding words_of
cut_none line none = slice_split_none (λ b. b == 32) line none

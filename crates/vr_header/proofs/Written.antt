-- Writes one after another, from the left and from the right.
use Rattle.std.proofs.Common.{◌≡◌, ℕ, List, ◌++◌, length, drop, ◌∙◌, ap, append_assoc}
use Rattle.std.proofs.lemmas.List.{drop_at}

regrouped : (z a b c d e f g h i j k l m : List ℕ)
    → (((((((((((((z ++ a) ++ b) ++ c) ++ d) ++ e) ++ f) ++ g) ++ h) ++ i) ++ j) ++ k) ++ l) ++ m)
    ≡ z ++ (a ++ (b ++ (c ++ (d ++ (e ++ (f ++ (g ++ (h ++ (i ++ (j ++ (k ++ (l ++ m))))))))))))
regrouped z a b c d e f g h i j k l m = simp append_assoc

-- thirteen writes after the first bytes
pub behind : (n : ℕ) (z a b c d e f g h i j k l m : List ℕ) → length z ≡ n
    → drop n (((((((((((((z ++ a) ++ b) ++ c) ++ d) ++ e) ++ f) ++ g) ++ h) ++ i) ++ j) ++ k) ++ l) ++ m)
    ≡ a ++ (b ++ (c ++ (d ++ (e ++ (f ++ (g ++ (h ++ (i ++ (j ++ (k ++ (l ++ m)))))))))))
behind n z a b c d e f g h i j k l m e' = ap (drop n) (regrouped z a b c d e f g h i j k l m) ∙ drop_at z _ n e'

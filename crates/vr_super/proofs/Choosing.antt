-- The best of the copies that were read.
use Rattle.std.proofs.Common.{ℕ, ◌+◌, ◌≤◌, ◌<◌, ◌≡◌, refl, sym, ap, ◌∙◌, Bool, true, false, cond, ◌&&◌, List, [], ◌∷◌, length, drop, get_or, Option, Some, None, add-one, drop-cons}
use Rattle.std.specs.Prelude.{count_by, map, nat_eq}
use Rattle.std.specs.Cmp.Lexicographic.{pointwise}
use Rattle.std.proofs.lemmas.List.{drop_all}
use Rattle.std.proofs.lemmas.List.Sums.{sum_by-cons}
use Rattle.vr_disk.specs.Sectors.{has}
use Rattle.vr_super.specs.declared.reading.Reading.{Reading}
use Rattle.vr_super.specs.Opens.{best_of, better, place_of}
use Rattle.vr_super.specs.Seen.{seen}

abbrev pub holds : List ℕ → Reading → Bool
holds b r = r.good && pointwise nat_eq r.bytes b

pub holds_has : (b : List ℕ) (r : Reading) → holds b r ≡ has b (seen r)
holds_has b r = elim r.good as (λ x. (x && pointwise nat_eq r.bytes b) ≡ has b (cond x (Some r.bytes) None)) [ true ↦ refl | false ↦ refl ]

pub counts : (b : List ℕ) (rs : List Reading) → count_by (λ (r : Reading). r.good && pointwise nat_eq r.bytes b) rs ≡ count_by (has b) (map seen rs)
counts b [] = refl
counts b (r ∷ rs) =
    let x = sum_by-cons (λ (r : Reading). cond (holds b r) 1 0) r rs in
    let y = sum_by-cons (λ (c : Option (List ℕ)). cond (has b c) 1 0) (seen r) (map seen rs) in
    let z : cond (holds b r) 1 0 ≡ cond (has b (seen r)) 1 0 = ap (λ t. cond t 1 0) (holds_has b r) in
    let w = counts b rs in
    x ∙ (ap (λ n. n + count_by (holds b) rs) z ∙ (ap (λ n. cond (has b (seen r)) 1 0 + n) w ∙ sym y))

seen_drop : (rs : List Reading) (i : ℕ) (d : Reading) → i < length rs → map seen (drop i rs) ≡ seen (get_or rs i d) ∷ map seen (drop (i + 1) rs)
seen_drop rs i d l = rw (add-one, drop-cons rs i d) refl

best_cons : (t : List ℕ → Bool) (best c : Option (List ℕ)) (cs : List (Option (List ℕ))) → best_of t best (c ∷ cs) ≡ best_of t (better t best c) cs
unfolding best_of
best_cons t best c cs = refl

pub best_step : (t : List ℕ → Bool) (best : Option (List ℕ)) (rs : List Reading) (i : ℕ) (d : Reading) → i < length rs → best_of t best (map seen (drop i rs)) ≡ best_of t (better t best (seen (get_or rs i d))) (map seen (drop (i + 1) rs))
best_step t best rs i d l = ap (best_of t best) (seen_drop rs i d l) ∙ best_cons t best (seen (get_or rs i d)) (map seen (drop (i + 1) rs))

pub best_past : (t : List ℕ → Bool) (best : Option (List ℕ)) (rs : List Reading) (i : ℕ) → length rs ≤ i → best_of t best (map seen (drop i rs)) ≡ best
unfolding best_of
best_past t best rs i l = rw (drop_all i rs l) refl

place_cons : (b : List ℕ) (c : Option (List ℕ)) (cs : List (Option (List ℕ))) → place_of b (c ∷ cs) ≡ cond (has b c) 0 (1 + place_of b cs)
unfolding place_of
place_cons b c cs = refl

pub place_here : (b : List ℕ) (rs : List Reading) (i : ℕ) (d : Reading) → i < length rs → holds b (get_or rs i d) ≡ true → place_of b (map seen (drop i rs)) ≡ 0
place_here b rs i d l h = ap (place_of b) (seen_drop rs i d l) ∙ (place_cons b (seen (get_or rs i d)) (map seen (drop (i + 1) rs)) ∙ ap (λ x. cond x 0 (1 + place_of b (map seen (drop (i + 1) rs)))) (sym (holds_has b (get_or rs i d)) ∙ h))

pub place_later : (b : List ℕ) (rs : List Reading) (i : ℕ) (d : Reading) → i < length rs → holds b (get_or rs i d) ≡ false → place_of b (map seen (drop i rs)) ≡ 1 + place_of b (map seen (drop (i + 1) rs))
place_later b rs i d l h = ap (place_of b) (seen_drop rs i d l) ∙ (place_cons b (seen (get_or rs i d)) (map seen (drop (i + 1) rs)) ∙ ap (λ x. cond x 0 (1 + place_of b (map seen (drop (i + 1) rs)))) (sym (holds_has b (get_or rs i d)) ∙ h))

pub place_none : (b : List ℕ) (rs : List Reading) (i : ℕ) → length rs ≤ i → place_of b (map seen (drop i rs)) ≡ 0
unfolding place_of
place_none b rs i l = rw (drop_all i rs l) refl

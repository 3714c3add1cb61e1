-- Copies read in their places, and judged.
use Rattle.std.proofs.Common.{ℕ, zero, suc, ◌<◌, ◌≡◌, arith, refl, ap, ◌∙◌, Bool, true, false, cond, ◌&&◌, List, [], ◌∷◌, length, get_or, Some, None}
use Rattle.std.specs.Prelude.{is_some, nat_eq}
use Rattle.std.specs.List.{AllByRecursion}
use Rattle.std.specs.Cmp.Lexicographic.{pointwise}
use Rattle.std.proofs.lemmas.Slice.Eq.{bytes_eq-Decides}
use Rattle.vr_super.specs.declared.reading.Reading.{Reading}
use Rattle.vr_super.specs.Copies.{value_of}
use Rattle.vr_super.specs.Opens.{if_good}
use Rattle.vr_super.specs.Seen.{IsHonest}

-- one that was read whole tells of the same bytes whether they are good
pub tells : (b : List ℕ) (r : Reading) → IsHonest r → r.whole ≡ true → pointwise nat_eq r.bytes b ≡ true → r.good ≡ is_some (value_of b)
tells b r h w e = h.judged w ∙ ap (λ y. is_some (value_of y)) ((bytes_eq-Decides r.bytes b).0 e)

pub honest_at : (rs : List Reading) (i : ℕ) (d : Reading) → AllByRecursion IsHonest rs → i < length rs → IsHonest (get_or rs i d)
honest_at [] i d h l = absurd (omega arith)
honest_at (r ∷ rs) zero d h l = h.0
honest_at (r ∷ rs) (suc i) d h l = honest_at rs i d h.1 (omega arith)

pub seen_by : (whole good : Bool) (b : List ℕ) → good ≡ (whole && is_some (value_of b)) → cond good (Some b) None ≡ if_good (cond whole (Some b) None)
seen_by true good b e = ap (λ x. cond x (Some b) None) e
seen_by false good b e = ap (λ x. cond x (Some b) None) e

pub judged_so : (whole result to : Bool) (b : List ℕ) → whole ≡ true → result ≡ is_some (value_of b) → to ≡ result → to ≡ (whole && is_some (value_of b))
judged_so whole result to b w r e = rw (w, e) r

pub judged_not : (whole to : Bool) (b : List ℕ) → whole ≡ false → to ≡ false → to ≡ (whole && is_some (value_of b))
judged_not whole to b w e = rw (w, e) refl

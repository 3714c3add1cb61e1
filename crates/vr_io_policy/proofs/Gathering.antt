-- The bytes of sectors, one after the other.
use Rattle.std.proofs.Common.{arith, refl, ◌≡◌, ◌∙◌, ◌+◌, ◌*◌, ◌<◌, ◌≤◌, ℕ, false, List, [], ◌∷◌, ◌++◌, ap, drop, inl, inr, length, get_or, replicate, sym, take}
use Rattle.std.proofs.lemmas.Bool.{cases_lt}
use Rattle.std.proofs.lemmas.Grind.{flat_map-append}
use Rattle.std.specs.List.{between}
use Rattle.std.proofs.lemmas.List.{append-nil, drop-append-le, length-take-le, take_more}
use Rattle.std.proofs.lemmas.Slice.{between_is}
use Rattle.vr_io_policy.specs.declared.cached.Cached.{Cached}
use Rattle.vr_io_policy.specs.declared.cached.Cached.TheVariants.{Unknown}
use Rattle.vr_io_policy.specs.Caches.{Cache, bytes_of, new_cache, stands_for}

one_more : (sectors : List Cached) (k : ℕ) → k < length sectors → bytes_of (take (k + 1) sectors) ≡ bytes_of (take k sectors) ++ stands_for (get_or sectors k Unknown)
one_more sectors k h =
    ap bytes_of (take_more sectors k Unknown h) ∙ (flat_map-append stands_for (take k sectors) (get_or sectors k Unknown ∷ []) ∙ ap (λ ys. bytes_of (take k sectors) ++ ys) (append-nil (stands_for (get_or sectors k Unknown))))

-- the next sector's bytes were put after those of the sectors before it
pub gathered : (sectors : List Cached) (k : ℕ) (old new bytes : List ℕ) → k < length sectors → length bytes ≡ 512 → bytes ≡ stands_for (get_or sectors k Unknown)
    → take (512 * k) old ≡ bytes_of (take k sectors) → take (512 * k + length bytes) new ≡ take (512 * k) old ++ bytes
    → take (512 * (k + 1)) new ≡ bytes_of (take (k + 1) sectors)
gathered sectors k old new bytes h size e front put =
    let n : 512 * (k + 1) ≡ 512 * k + length bytes = omega arith in
    rw (n, put, front, e, one_more sectors k h) refl

-- the next one is whole, as those before it
pub whole_more : (sectors : List Cached) (k : ℕ) (bytes : List ℕ) → length bytes ≡ 512 → bytes ≡ stands_for (get_or sectors k Unknown)
    → ((i : ℕ) → i < k → length (stands_for (get_or sectors i Unknown)) ≡ 512) → (i : ℕ) → i < k + 1 → length (stands_for (get_or sectors i Unknown)) ≡ 512
whole_more sectors k bytes size e h i l = elim (cases_lt i k) [
  | inl b ↦ h i b
  | inr g ↦ let same : i ≡ k = omega arith in rw (same, ← e) size
]

-- what stands between two places, before others
pub kept_between : (xs ys : List Cached) (i j : ℕ) → i ≤ j → j ≤ length xs → drop i (take j xs ++ ys) ≡ between i j xs ++ ys
kept_between xs ys i j h g = drop-append-le i (take j xs) ys (let n = length-take-le j xs g in omega arith) ∙ ap (λ zs. zs ++ ys) (sym (between_is xs i j))

abbrev of_sectors : List Cached → Cache
of_sectors xs = record { sectors = xs; first = 0; end = 0; tried = false; forgotten = 0 }

-- a cache of sectors that aren't known is a new one
pub begins : (xs : List Cached) → xs ≡ replicate 3984 Unknown → of_sectors xs ≡ new_cache
begins xs e = ap of_sectors e

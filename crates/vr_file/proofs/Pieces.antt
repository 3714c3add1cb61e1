-- The bytes of one sector among those of others.
use Rattle.std.specs.Prelude.{nat_le, nat_lt}
use Rattle.std.specs.List.{between}
use Rattle.std.proofs.Common.{arith, refl, sym, ap, ◌≡◌, ◌∙◌, ◌+◌, ◌-◌, ◌*◌, ◌<◌, ◌≤◌, ℕ, zero, suc, ◌&&◌, List, [], ◌∷◌, ◌++◌, length, length-append, get_or, take, drop}
use Rattle.std.proofs.Math.Seq.{take-append_seam, drop-append-add}
use Rattle.std.proofs.lemmas.Bool.Decides.{nat_tests}
use Rattle.std.proofs.lemmas.List.Edits.{get_or-between, length-between}
use Rattle.vr_io_policy.specs.declared.cached.Cached.{Cached}
use Rattle.vr_io_policy.specs.declared.cached.Cached.TheVariants.{Unknown}
use Rattle.vr_io_policy.specs.Caches.{AreWhole, bytes_of, stands_for}

abbrev Whole : List Cached → Type 0
Whole xs = (k : ℕ) → k < length xs → length (stands_for (get_or xs k Unknown)) ≡ 512

first_piece : (a r : List ℕ) → length a ≡ 512 → take 512 (a ++ r) ≡ a
first_piece a r e = ap (λ n. take n (a ++ r)) (sym e) ∙ take-append_seam a r

later_piece : (a r : List ℕ) (k : ℕ) → length a ≡ 512 → drop (512 * suc k) (a ++ r) ≡ drop (512 * k) r
later_piece a r k e = ap (λ n. drop n (a ++ r)) (let t : 512 * suc k ≡ length a + 512 * k = omega arith in t) ∙ drop-append-add a r (512 * k)

later : (x : Cached) (xs : List Cached) → Whole (x ∷ xs) → Whole xs
later x xs w k h = w (suc k) (omega arith)

pieces : (xs : List Cached) (k : ℕ) → k < length xs → Whole xs → take 512 (drop (512 * k) (bytes_of xs)) ≡ stands_for (get_or xs k Unknown)
pieces [] k h w = absurd (omega arith)
pieces (x ∷ xs) zero h w = first_piece (stands_for x) (bytes_of xs) (w 0 (omega arith))
pieces (x ∷ xs) (suc k) h w = ap (take 512) (later_piece (stands_for x) (bytes_of xs) k (w 0 (omega arith))) ∙ pieces xs k (omega arith) (later x xs w)

pub length_bytes : (xs : List Cached) → Whole xs → length (bytes_of xs) ≡ 512 * length xs
length_bytes [] w = refl
length_bytes (x ∷ xs) w =
    let first : length (stands_for x) ≡ 512 = w 0 (omega arith) in
    let rest : length (bytes_of xs) ≡ 512 * length xs = length_bytes xs (later x xs w) in
    length-append (stands_for x) (bytes_of xs) ∙ omega arith

pub piece_between : (xs : List Cached) (a b j : ℕ) → b ≤ length xs → AreWhole (between a b xs) → a ≤ j → j < b
    → take 512 (drop (512 * (j - a)) (bytes_of (between a b xs))) ≡ stands_for (get_or xs j Unknown)
piece_between xs a b j h w l m =
    let size : length (between a b xs) ≡ b - a = length-between xs a b h in
    let there : a + (j - a) ≡ j = omega arith in
    pieces (between a b xs) (j - a) (omega arith) w.each ∙ ap stands_for (get_or-between xs a b (j - a) Unknown (omega arith) ∙ ap (λ k. get_or xs k Unknown) there)

pub within_between : (xs : List Cached) (a b j : ℕ) → b ≤ length xs → AreWhole (between a b xs)
    → (nat_le a j && nat_lt (512 * (j - a)) (length (bytes_of (between a b xs)))) ≡ (nat_le a j && nat_lt j b)
within_between xs a b j h w =
    let size : length (between a b xs) ≡ b - a = length-between xs a b h in
    let long : length (bytes_of (between a b xs)) ≡ 512 * (b - a) = rw (length_bytes (between a b xs) w.each, size) refl in
    rw long (grind (arith, nat_tests))

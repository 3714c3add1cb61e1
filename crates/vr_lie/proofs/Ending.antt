-- Entries that end in the first sector of their prepare.
use Rattle.std.proofs.Common.{ℕ, Bool, ◌+◌, ◌-◌, ◌*◌, ◌<◌, ◌≤◌, ◌≡◌, ◌≢◌, refl, sym, ap, ◌∙◌, arith, true, false, cond, ◌&&◌, List, ◌++◌, length, take, drop, Option, Some, None}
use Rattle.std.specs.Prelude.{is_some, nat_eq, replicate}
use Rattle.std.specs.Option.{option_and_then}
use Rattle.std.specs.Cmp.Lexicographic.{pointwise}
use Rattle.std.proofs.Math.Bool.{and-false}
use Rattle.std.proofs.lemmas.Bool.{and_parts}
use Rattle.std.proofs.lemmas.List.{drop-drop, drop-replicate, drop_at, length-drop, length-take-le, take-append-drop, take-append-le, take-replicate, take-take}
use Rattle.std.proofs.lemmas.Slice.Eq.{bytes_eq-Decides}
use Rattle.vr_base.specs.Bytes.{is_zeros, piece}
use Rattle.vr_base.proofs.ZeroLaws.{are_zeros, zeros_are}
use Rattle.vr_disk.specs.DiskState.{Face, IsFace, reads}
use Rattle.vr_disk.specs.Regions.{prepare_place, prepare_sectors}
use Rattle.vr_disk.specs.Sectors.{has, together}
use Rattle.vr_disk.proofs.Together.{has_is}
use Rattle.vr_rings.specs.Held.{entry_of_both, found, header_sector, is_prepare, looked}
use Rattle.vr_rings.specs.Readings.{Begins}
use Rattle.vr_rings.specs.Slots.{header_reading, in_front, prepare_reading, size_at, whole_in, whole_of}
use Rattle.vr_rings.proofs.Short.{first_none, rest_other, rest_zeros}
use Rattle.vr_mem.proofs.Zeros.{zeros_has}
use Rattle.vr_lie.specs.Table.{IsOwnHeader, ends_first}
use Rattle.vr_lie.proofs.Early.{both_parts, both_true, free_found, same_bool, whole_looked}

-- ---- what is kept of them

first_size : (p : List ℕ) → length p ≡ 4096 → length (take 512 p) ≡ 512
first_size p n = length-take-le 512 p (omega (arith, n))

-- the first sector has the header
pub first_header : (s : Bool) (p x : List ℕ) → length p ≡ 4096 → x ≡ take 512 p → header_sector x ≡ header_sector (cond s (in_front (take 512 p)) p)
unfolding header_sector in_front
first_header true p x n e =
    let size = first_size p n in
    ap (λ t. take 128 t ++ replicate 384 0) e ∙ ap (λ t. t ++ replicate 384 0) (sym (take-append-le 128 (take 512 p) (replicate (4096 - length (take 512 p)) 0) (omega (arith, size))))
first_header false p x n e = ap (λ t. take 128 t ++ replicate 384 0) e ∙ ap (λ t. t ++ replicate 384 0) (take-take 128 512 p (omega arith))

-- bytes in front of zeros, compared by their two parts
pub front_parts : (f b : List ℕ) → length f ≡ 512 → length b ≡ 4096 → pointwise nat_eq (in_front f) b ≡ (pointwise nat_eq f (take 512 b) && is_zeros (drop 512 b))
unfolding in_front
front_parts f b n l =
    let zs : List ℕ = replicate (4096 - length f) 0 in
    let whole = take-append-drop 512 b in
    let front : length f ≡ length (take 512 b) = n ∙ sym (length-take-le 512 b (omega (arith, l))) in
    let rest : length (drop 512 b) ≡ 4096 - length f = length-drop 512 b ∙ omega (arith, n, l) in
    same_bool (pointwise nat_eq (f ++ zs) b) (pointwise nat_eq f (take 512 b) && is_zeros (drop 512 b))
    (λ h.
    let e : f ++ zs ≡ b = (bytes_eq-Decides (f ++ zs) b).0 h in
    let parts = both_parts f zs (take 512 b) (drop 512 b) front (e ∙ sym whole) in
    both_true (pointwise nat_eq f (take 512 b)) (is_zeros (drop 512 b)) ((bytes_eq-Decides f (take 512 b)).1 parts.0) (ap is_zeros (sym parts.1) ∙ zeros_are (4096 - length f)))
    (λ h.
    let q = and_parts (pointwise nat_eq f (take 512 b)) (is_zeros (drop 512 b)) h in
    let one = (bytes_eq-Decides f (take 512 b)).0 q.0 in
    let two : drop 512 b ≡ zs = are_zeros (drop 512 b) q.1 ∙ ap (λ n. replicate n 0) rest in
    (bytes_eq-Decides (f ++ zs) b).1 (ap (λ x. x ++ zs) one ∙ (ap (λ y. take 512 b ++ y) (sym two) ∙ whole)))

-- the other sectors are zeros
sector_zeros : (f : List ℕ) (k : ℕ) → length f ≡ 512 → 0 < k → k < 8 → take 512 (drop (512 * k) (in_front f)) ≡ replicate 512 0
unfolding in_front
sector_zeros f k n l m =
    let zs : List ℕ = replicate (4096 - length f) 0 in
    let at : 512 * k ≡ 512 + 512 * (k - 1) = omega (arith, l) in
    let past : drop (512 * k) (f ++ zs) ≡ drop (512 * (k - 1)) zs =
    ap (λ i. drop i (f ++ zs)) at ∙ (sym (drop-drop (512 * (k - 1)) 512 (f ++ zs)) ∙ ap (drop (512 * (k - 1))) (drop_at f zs 512 n)) in
    ap (take 512) (past ∙ drop-replicate (512 * (k - 1)) (4096 - length f) 0) ∙ take-replicate 512 (4096 - length f - 512 * (k - 1)) 0 (omega (arith, n, l, m))

pub zeros_behind : (s : Bool) (p b : List ℕ) (k : ℕ) → length p ≡ 4096 → length b ≡ 512 → k ≢ 0 → k < 8 → s ≡ true → is_zeros b ≡ pointwise nat_eq b (piece (512 * k) 512 (cond s (in_front (take 512 p)) p))
unfolding piece
zeros_behind s p b k n l d m e =
    let a : 0 < k = omega (arith, d) in
    zeros_has b l ∙ (ap (pointwise nat_eq b) (sym (sector_zeros (take 512 p) k (first_size p n) a m)) ∙ ap (λ s. pointwise nat_eq b (take 512 (drop (512 * k) (cond s (in_front (take 512 p)) p)))) (sym e))

-- and the first one stays
first_stays : (s : Bool) (p : List ℕ) → length p ≡ 4096 → take 512 p ≡ piece 0 512 (cond s (in_front (take 512 p)) p)
unfolding in_front piece
first_stays true p n =
    let size = first_size p n in
    sym (take-append-le 512 (take 512 p) (replicate (4096 - length (take 512 p)) 0) (omega (arith, size)) ∙ take-take 512 512 p (omega arith))
first_stays false p n = refl

pub first_sector : (s : Bool) (p b : List ℕ) (k : ℕ) → length p ≡ 4096 → k ≡ 0 → pointwise nat_eq b (take 512 p) ≡ pointwise nat_eq b (piece (512 * k) 512 (cond s (in_front (take 512 p)) p))
first_sector s p b k n e = ap (pointwise nat_eq b) (first_stays s p n ∙ ap (λ i. piece (512 * i) 512 (cond s (in_front (take 512 p)) p)) (sym e))

-- ---- what a slot reads as

pub short_looked : (ver : ℕ) (f : Face) (slot : ℕ) (first : List ℕ) (s : Bool) → length first ≡ 512 → Begins ver f slot first → IsOwnHeader ver f slot → ends_first ver f slot ≡ true → s ≡ is_prepare (in_front first)
    → cond s (Some (in_front first)) None ≡ looked ver f slot None
unfolding ends_first
short_looked ver f slot first s n b o e k = whole_looked ver f slot (in_front first) None (cond s (Some (in_front first)) None) o (rest_zeros ver slot f first n b e) (free_found s (in_front first) k)

no_entry : (header prepare : Option (List ℕ)) → option_and_then whole_of prepare ≡ None → None ≡ found (entry_of_both header prepare) None
unfolding entry_of_both
no_entry header None e = refl
no_entry header (Some p) e = let n : (has (header_sector p) header && is_prepare p) ≡ false = ap (λ o. has (header_sector p) header && is_some o) e ∙ and-false (has (header_sector p) header) in rw n refl

pub other_looked : (ver : ℕ) (f : Face) (slot : ℕ) (first : List ℕ) → IsFace f → slot < 64 → length first ≡ 512 → size_at first ≤ 512 → Begins ver f slot first → ends_first ver f slot ≡ false → None ≡ looked ver f slot None
unfolding ends_first whole_in
other_looked ver f slot first i l n s b e = no_entry (header_reading f slot) (prepare_reading ver f slot) (rest_other ver slot f first i l n s b e).whole

pub unread_looked : (ver : ℕ) (f : Face) (slot : ℕ) → reads f (prepare_place ver slot) ≡ None → None ≡ looked ver f slot None
unfolding whole_in
unread_looked ver f slot e = no_entry (header_reading f slot) (prepare_reading ver f slot) (first_none ver slot f e).whole

-- what stands in a slot that holds nothing means nothing
pub still_free : (s : Bool) (p q : List ℕ) → cond s (Some p) None ≡ None → cond s (Some q) None ≡ None
still_free true p q e = absurd cc
still_free false p q e = refl

-- the bytes of the entry that a slot holds
pub found_same : (h : Option (List ℕ)) (b : List ℕ) (t : Bool) → has b h ≡ true → h ≡ found (cond t (Some b) None) h
found_same h b true e = has_is b h e
found_same h b false e = refl

-- ---- sectors of zeros

pub same_ends : (ver : ℕ) (f : Face) (slot at count : ℕ) (r : Bool) → at ≡ prepare_place ver slot → count ≡ prepare_sectors ver → r ≡ has (replicate (512 * (count - 1)) 0) (together (at + 1) (count - 1) f) → r ≡ ends_first ver f slot
unfolding ends_first
same_ends ver f slot at count r a c e =
    e ∙ (ap (λ n. has (replicate (512 * (n - 1)) 0) (together (at + 1) (n - 1) f)) c ∙ ap (λ i. has (replicate (512 * (prepare_sectors ver - 1)) 0) (together (i + 1) (prepare_sectors ver - 1) f)) a)

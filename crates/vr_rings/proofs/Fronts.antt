-- The front of a prepare, after which zeros stand.
use Rattle.std.proofs.Common.{ℕ, Bool, ◌*◌, ◌+◌, ◌-◌, ◌≤◌, ◌≡◌, arith, refl, sym, ap, ◌∙◌, true, false, cond, ◌&&◌, ◌==◌, List, ◌++◌, length, take, drop, Option, Some, None, length-append}
use Rattle.std.specs.Prelude.{IfSome, min, replicate}
use Rattle.std.specs.Option.{option_map}
use Rattle.std.specs.Int.{from_be_bytes, w32}
use Rattle.std.proofs.lemmas.List.{append-nil, drop-append-le, drop-replicate, drop_at, length-drop, length-replicate, take-append-le, take_all}
use Rattle.std.proofs.lemmas.List.Folds.{list_all-append}
use Rattle.vr_base.specs.Bytes.{IsBytes, is_zeros, number}
use Rattle.vr_base.proofs.AreBytes.{IsBytes-append, IsBytes-zeros}
use Rattle.vr_base.proofs.ZeroLaws.{zeros_are}
use Rattle.vr_disk.proofs.Places.{counted}
use Rattle.vr_disk.specs.DiskState.{Disk}
use Rattle.vr_disk.specs.Regions.{prepare_place, prepare_sectors}
use Rattle.vr_disk.specs.Sectors.{together}
use Rattle.vr_header.proofs.Putting.{further}
use Rattle.vr_header.specs.Made.{Whole, entry_bytes, entry_of}
use Rattle.vr_rings.specs.Slots.{IsWhole, in_front, padded, prepare_bytes, prepare_reading, size_at, whole_of}
use Rattle.vr_rings.proofs.Spelling.{length_front, over_zeros, whole_capped}

pub length_in_front : (b : List ℕ) → length b ≤ 4096 → length (in_front b) ≡ 4096
unfolding in_front
length_in_front b l =
    let zs : List ℕ = replicate (4096 - length b) 0 in
    let a = length-append b zs in
    let z : length zs ≡ 4096 - length b = length-replicate {A = ℕ} (4096 - length b) 0 in
    omega (arith, a, z, l)

-- nothing stands after all of them
pub front_all : (b : List ℕ) → length b ≡ 4096 → in_front b ≡ b
unfolding in_front
front_all b n = ap (λ k. b ++ replicate (4096 - k) 0) n ∙ append-nil b

pub front_again : (b : List ℕ) → length b ≤ 4096 → in_front (in_front b) ≡ in_front b
front_again b l = front_all (in_front b) (length_in_front b l)

pub front_bytes : (b : List ℕ) → IsBytes b → IsBytes (in_front b)
unfolding in_front
front_bytes b f = IsBytes-append b (replicate (4096 - length b) 0) f (IsBytes-zeros (4096 - length b))

-- ---- zeros

and_true : (a b : Bool) → b ≡ true → (a && b) ≡ a
and_true true b e = e
and_true false b e = refl

before_zeros : (b : List ℕ) (n : ℕ) → is_zeros (b ++ replicate n 0) ≡ is_zeros b
before_zeros b n = list_all-append (λ b. b == 0) b (replicate n 0) ∙ and_true (is_zeros b) (is_zeros (replicate n 0)) (zeros_are n)

pub zeros_front : (b : List ℕ) → is_zeros (in_front b) ≡ is_zeros b
unfolding in_front
zeros_front b = before_zeros b (4096 - length b)

-- ---- a place in the front

pub take_front : (n : ℕ) (b : List ℕ) → n ≤ length b → take n (in_front b) ≡ take n b
unfolding in_front
take_front n b l = take-append-le n b (replicate (4096 - length b) 0) l

drop_zeros : (n : ℕ) (b : List ℕ) → n ≤ length b → is_zeros (drop n (in_front b)) ≡ is_zeros (drop n b)
unfolding in_front
drop_zeros n b l = ap is_zeros (drop-append-le n b (replicate (4096 - length b) 0) l) ∙ before_zeros (drop n b) (4096 - length b)

pub size_front : (b : List ℕ) → 128 ≤ length b → size_at (in_front b) ≡ size_at b
unfolding in_front size_at number
size_front b l =
    let zs : List ℕ = replicate (4096 - length b) 0 in
    let n = length-drop 104 b in
    let here : take 4 (drop 104 (b ++ zs)) ≡ take 4 (drop 104 b) = ap (take 4) (drop-append-le 104 b zs (omega (arith, l))) ∙ take-append-le 4 (drop 104 b) zs (omega (arith, l, n)) in
    ap (λ t. from_be_bytes w32 t) here

-- ---- the entry of a front

-- by the size that its header gives, where the front goes so far
whole_by : (b : List ℕ) (n : ℕ) → 128 ≤ length b → length b ≤ 4096 → n ≤ length b → n ≡ min (size_at b) 4096 → whole_of (in_front b) ≡ cond (is_zeros (drop n b)) (entry_of (take n b)) None
unfolding size_at
whole_by b n k l m e =
    let size : n ≡ min (size_at (in_front b)) 4096 = e ∙ ap (λ s. min s 4096) (sym (size_front b k)) in
    rw (whole_capped (in_front b) n (length_in_front b l) size, drop_zeros n b m, take_front n b m) refl

pub front_whole_by : (b : List ℕ) (n : ℕ) (front back : List ℕ) → 128 ≤ length b → length b ≤ 4096 → n ≤ length b → n ≡ min (size_at b) 4096 → front ≡ take n b → back ≡ drop n b → is_zeros back ≡ true
    → option_map (λ (e : Whole). e.header) (entry_of front) ≡ option_map (λ (e : Whole). e.header) (whole_of (in_front b))
front_whole_by b n front back k l m e p q z = let t : is_zeros (drop n b) ≡ true = rw q at z in rw (p, whole_by b n k l m e, t) refl

pub front_none_by : (b : List ℕ) (n : ℕ) (back : List ℕ) → 128 ≤ length b → length b ≤ 4096 → n ≤ length b → n ≡ min (size_at b) 4096 → back ≡ drop n b → is_zeros back ≡ false → None ≡ option_map (λ (e : Whole). e.header) (whole_of (in_front b))
front_none_by b n back k l m e q z = let t : is_zeros (drop n b) ≡ false = rw q at z in rw (whole_by b n k l m e, t) refl

-- a front put in front of zeros
pub put_in_front : (b new : List ℕ) → take (0 + length b) new ≡ b → drop (0 + length b) new ≡ drop (0 + length b) (replicate 4096 0) → new ≡ in_front b
unfolding in_front
put_in_front b new t d =
    let none : 0 + length b ≡ length b = omega arith in
    over_zeros 4096 (0 + length b) b new t d ∙ ap (λ n. b ++ replicate (4096 - n) 0) none

-- ---- the sectors of a front

-- after the bytes of a front zeros stand
pub past_front : (n : ℕ) (b : List ℕ) → length b ≤ n → drop n (in_front b) ≡ replicate (4096 - n) 0
unfolding in_front
past_front n b l =
    let zs : List ℕ = replicate (4096 - length b) 0 in
    further (length b) n (b ++ zs) (replicate 4096 0) l (drop_at b zs (length b) refl ∙ sym (drop-replicate (length b) 4096 0)) ∙ drop-replicate n 4096 0

-- so many bytes of a prepare, which are all of its entry, in front of zeros
pub front_prepare : (n : ℕ) (e : Whole) (bytes : List ℕ) → IsWhole e → length (entry_bytes e) ≤ n → n ≤ 4096 → bytes ≡ take n (prepare_bytes e) → in_front bytes ≡ prepare_bytes e
unfolding in_front prepare_bytes
front_prepare n e bytes w l m q =
    let x = entry_bytes e in
    let zs : List ℕ = replicate (4096 - length x) 0 in
    let here : drop (length x) (x ++ zs) ≡ drop (length x) (replicate 4096 0) = drop_at x zs (length x) refl ∙ sym (drop-replicate (length x) 4096 0) in
    let past = further (length x) n (x ++ zs) (replicate 4096 0) l here in
    ap (λ k. bytes ++ replicate (4096 - k) 0) (length_front n e bytes w m q) ∙ sym (over_zeros 4096 n bytes (x ++ zs) (sym q) past)

-- ---- a buffer that was filled

-- a front, and zeros after it
pub front_set : (b new : List ℕ) → length b ≤ 4096 → new ≡ b ++ replicate (4096 - length b) 0 → take 4096 new ≡ in_front b
unfolding in_front
front_set b new l e =
    let size : length (b ++ replicate (4096 - length b) 0) ≡ 4096 = length_in_front b l in
    ap (take 4096) e ∙ take_all 4096 (b ++ replicate (4096 - length b) 0) (omega (arith, size))

-- how many bytes a prepare has
pub front_size : (ver : ℕ) (b : List ℕ) → length b ≡ 512 * prepare_sectors ver → (2048 ≤ length b) × (length b ≤ 4096)
front_size ver b n = let c = counted ver in (omega (arith, n, c.0), omega (arith, n, c.1))

-- ---- what is read

padded_front : (ver : ℕ) (b : List ℕ) → length b ≡ 512 * prepare_sectors ver → padded ver b ≡ in_front b
unfolding in_front
padded_front ver b n = ap (λ k. b ++ replicate (4096 - k) 0) (sym n)

padded_read : (ver : ℕ) (r : Bool) (o : Option (List ℕ)) (front : List ℕ) → length front ≡ 512 * prepare_sectors ver → o ≡ cond r (Some front) None → option_map (padded ver) o ≡ cond r (Some (in_front front)) None
padded_read ver true o front n e = ap (option_map (padded ver)) e ∙ ap Some (padded_front ver front n)
padded_read ver false o front n e = ap (option_map (padded ver)) e

pub front_filled : (ver slot at count : ℕ) (t : Option Disk) (r : Bool) (front : List ℕ) → at ≡ prepare_place ver slot → count ≡ prepare_sectors ver → length front ≡ 512 * prepare_sectors ver → IfSome t (λ d. together at count d.face ≡ cond r (Some front) None)
    → IfSome t (λ d. prepare_reading ver d.face slot ≡ cond r (Some (in_front front)) None)
front_filled ver slot at count None r front a c n e = tt
front_filled ver slot at count (Some d) r front a c n e =
    let there : together (prepare_place ver slot) (prepare_sectors ver) d.face ≡ together at count d.face = ap (λ i. together i (prepare_sectors ver) d.face) (sym a) ∙ ap (λ n. together at n d.face) (sym c) in
    padded_read ver r (together (prepare_place ver slot) (prepare_sectors ver) d.face) front n (there ∙ e)

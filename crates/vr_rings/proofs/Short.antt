-- A prepare that ends in its first sector.
use Rattle.std.proofs.Common.{ℕ, suc, Bool, ◌*◌, ◌+◌, ◌-◌, ◌<◌, ◌≤◌, ◌≡◌, arith, refl, sym, ap, ◌∙◌, true, false, cond, ◌&&◌, ◌==◌, List, ◌++◌, length, take, drop, Option, Some, None, append_assoc, length-drop}
use Rattle.std.specs.Prelude.{IfSome, replicate}
use Rattle.std.specs.Option.{option_and_then, option_map, option_map_or}
use Rattle.std.specs.Int.{from_be_bytes, w32}
use Rattle.std.proofs.lemmas.List.{drop-append-le, replicate-append-replicate, take-append-le}
use Rattle.std.proofs.lemmas.List.Folds.{list_all-append}
use Rattle.std.proofs.lemmas.Slice.Eq.{bytes_eq-Decides}
use Rattle.vr_base.specs.Bytes.{is_zeros, number}
use Rattle.vr_base.proofs.ZeroLaws.{are_zeros}
use Rattle.vr_disk.specs.DiskState.{Disk, Face, IsFace, reads}
use Rattle.vr_disk.specs.Regions.{prepare_place, prepare_sectors}
use Rattle.vr_disk.specs.Sectors.{behind, has, together}
use Rattle.vr_disk.proofs.Faces.{there}
use Rattle.vr_disk.proofs.Places.{counted, inside}
use Rattle.vr_disk.proofs.Together.{has_is, together_cons, together_size}
use Rattle.vr_header.specs.Made.{entry_of}
use Rattle.vr_rings.specs.Readings.{Begins, IsNothing}
use Rattle.vr_rings.specs.Slots.{in_front, padded, prepare_reading, size_at, whole_in, whole_of}

-- ---- the first sector, and those after it

reading_parts : (ver slot : ℕ) (f : Face) → prepare_reading ver f slot ≡ option_map (padded ver) (behind (reads f (prepare_place ver slot)) (together (prepare_place ver slot + 1) (prepare_sectors ver - 1) f))
reading_parts ver slot f =
    let c = (counted ver).0 in
    let more : prepare_sectors ver ≡ suc (prepare_sectors ver - 1) = omega (arith, c) in
    ap (option_map (padded ver)) (ap (λ n. together (prepare_place ver slot) n f) more ∙ together_cons (prepare_sectors ver - 1) (prepare_place ver slot) f)

nothing_by : (ver slot : ℕ) (f : Face) → prepare_reading ver f slot ≡ None → IsNothing ver f slot
unfolding whole_in
nothing_by ver slot f e = record { whole = ap (option_and_then whole_of) e; blank = ap (λ o. option_map_or is_zeros o false) e }

-- a prepare whose first sector can't be read
pub first_none : (ver slot : ℕ) (f : Face) → reads f (prepare_place ver slot) ≡ None → IsNothing ver f slot
first_none ver slot f e = nothing_by ver slot f (reading_parts ver slot f ∙ ap (λ o. option_map (padded ver) (behind o (together (prepare_place ver slot + 1) (prepare_sectors ver - 1) f))) e)

rest_by : (ver slot : ℕ) (f : Face) (first : List ℕ) (r : Option (List ℕ)) → Begins ver f slot first → together (prepare_place ver slot + 1) (prepare_sectors ver - 1) f ≡ r → prepare_reading ver f slot ≡ option_map (padded ver) (behind (Some first) r)
rest_by ver slot f first r b e =
    reading_parts ver slot f
    ∙ (ap (λ o. option_map (padded ver) (behind o (together (prepare_place ver slot + 1) (prepare_sectors ver - 1) f))) b ∙ ap (λ o. option_map (padded ver) (behind (Some first) o)) e)

-- zeros stand after it
pub rest_zeros : (ver slot : ℕ) (f : Face) (first : List ℕ) → length first ≡ 512 → Begins ver f slot first → has (replicate (512 * (prepare_sectors ver - 1)) 0) (together (prepare_place ver slot + 1) (prepare_sectors ver - 1) f) ≡ true
    → prepare_reading ver f slot ≡ Some (in_front first)
unfolding in_front
rest_zeros ver slot f first n b h =
    let c = counted ver in
    let some : ℕ = 512 * (prepare_sectors ver - 1) in
    let more : ℕ = 4096 - 512 * prepare_sectors ver in
    let all : some + more ≡ 4096 - length first = omega (arith, n, c.0, c.1) in
    let read = rest_by ver slot f first (Some (replicate some 0)) b (has_is (replicate some 0) (together (prepare_place ver slot + 1) (prepare_sectors ver - 1) f) h) in
    read ∙ ap Some (append_assoc first (replicate some 0) (replicate more 0) ∙ ap (λ x. first ++ x) (replicate-append-replicate some more 0 ∙ ap (λ n. replicate {A = ℕ} n 0) all))

-- ---- something else stands after it

and_right : (p q : Bool) → (p && (false && q)) ≡ false
and_right true q = refl
and_right false q = refl

other_within : (a r z : List ℕ) → is_zeros r ≡ false → is_zeros (a ++ (r ++ z)) ≡ false
other_within a r z e =
    list_all-append (λ b. b == 0) a (r ++ z) ∙ (ap (λ t. is_zeros a && t) (list_all-append (λ b. b == 0) r z ∙ ap (λ t. t && is_zeros z) e) ∙ and_right (is_zeros a) (is_zeros z))

size_append : (b z : List ℕ) → 128 ≤ length b → size_at (b ++ z) ≡ size_at b
unfolding size_at number
size_append b z l =
    let n = length-drop 104 b in
    let here : take 4 (drop 104 (b ++ z)) ≡ take 4 (drop 104 b) = ap (take 4) (drop-append-le 104 b z (omega (arith, l))) ∙ take-append-le 4 (drop 104 b) z (omega (arith, l, n)) in
    ap (λ t. from_be_bytes w32 t) here

none_within : (first r z : List ℕ) → length first ≡ 512 → size_at first ≤ 512 → is_zeros r ≡ false → whole_of (first ++ (r ++ z)) ≡ None
unfolding whole_of
none_within first r z n s e =
    let b : List ℕ = first ++ (r ++ z) in
    let size = size_append first (r ++ z) (omega (arith, n)) in
    let rest : is_zeros (drop (size_at b) b) ≡ false = ap (λ k. is_zeros (drop k b)) size ∙ (ap is_zeros (drop-append-le (size_at first) first (r ++ z) (omega (arith, n, s))) ∙ other_within (drop (size_at first) first) r z e) in
    ap (λ t. cond t (entry_of (take (size_at b) b)) None) rest

not_zeros : (r : List ℕ) (n : ℕ) → length r ≡ n → has (replicate n 0) (Some r) ≡ false → is_zeros r ≡ false
not_zeros r n l h =
    elim (is_zeros r) as (λ t. is_zeros r ≡ t → t ≡ false) [
      | true ↦ λ e. sym ((bytes_eq-Decides r (replicate n 0)).1 (are_zeros r e ∙ ap (λ n. replicate n 0) l)) ∙ h
      | false ↦ λ e. refl
    ] refl

other_by : (ver slot : ℕ) (f : Face) (first : List ℕ) (r : Option (List ℕ)) → length first ≡ 512 → size_at first ≤ 512 → ((x : List ℕ) → r ≡ Some x → length x ≡ 512 * (prepare_sectors ver - 1)) → has (replicate (512 * (prepare_sectors ver - 1)) 0) r ≡ false
    → prepare_reading ver f slot ≡ option_map (padded ver) (behind (Some first) r) → IsNothing ver f slot
unfolding whole_in
other_by ver slot f first None n s g h e = nothing_by ver slot f e
other_by ver slot f first (Some r) n s g h e =
    let zs : List ℕ = replicate (4096 - 512 * prepare_sectors ver) 0 in
    let z = not_zeros r (512 * (prepare_sectors ver - 1)) (g r refl) h in
    let read : prepare_reading ver f slot ≡ Some (first ++ (r ++ zs)) = e ∙ ap Some (append_assoc first r zs) in
    record { whole = ap (option_and_then whole_of) read ∙ none_within first r zs n s z; blank = ap (λ o. option_map_or is_zeros o false) read ∙ other_within first r zs z }

pub rest_other : (ver slot : ℕ) (f : Face) (first : List ℕ) → IsFace f → slot < 64 → length first ≡ 512 → size_at first ≤ 512 → Begins ver f slot first
    → has (replicate (512 * (prepare_sectors ver - 1)) 0) (together (prepare_place ver slot + 1) (prepare_sectors ver - 1) f) ≡ false → IsNothing ver f slot
rest_other ver slot f first i l n s b h =
    let at : ℕ = prepare_place ver slot + 1 in
    let count : ℕ = prepare_sectors ver - 1 in
    let room = inside ver slot l in
    let c = (counted ver).0 in
    other_by ver slot f first (together at count f) n s (together_size count at f i (omega (arith, room, c))) h (rest_by ver slot f first (together at count f) b refl)

-- ---- what is looked at

same_rest : (ver slot at count : ℕ) (f : Face) → at ≡ prepare_place ver slot → count ≡ prepare_sectors ver
    → has (replicate (512 * (prepare_sectors ver - 1)) 0) (together (prepare_place ver slot + 1) (prepare_sectors ver - 1) f) ≡ has (replicate (512 * (count - 1)) 0) (together (at + 1) (count - 1) f)
same_rest ver slot at count f a c =
    ap (λ n. has (replicate (512 * (n - 1)) 0) (together (prepare_place ver slot + 1) (n - 1) f)) (sym c) ∙ ap (λ i. has (replicate (512 * (count - 1)) 0) (together (i + 1) (count - 1) f)) (sym a)

first_size : (ver slot : ℕ) (f : Face) (first : List ℕ) → IsFace f → slot < 64 → Begins ver f slot first → length first ≡ 512
first_size ver slot f first i l b =
    let room = inside ver slot l in
    let c = (counted ver).0 in
    ((there f (prepare_place ver slot) i (omega (arith, room, c))).reads first b).size

pub ends : (ver slot at count : ℕ) (t : Option Disk) (r : Bool) (first : List ℕ) → IfSome t (λ d. IsFace d.face) → slot < 64 → at ≡ prepare_place ver slot → count ≡ prepare_sectors ver → IfSome t (λ d. Begins ver d.face slot first)
    → IfSome t (λ d. r ≡ has (replicate (512 * (count - 1)) 0) (together (at + 1) (count - 1) d.face)) → IfSome t (λ d. r ≡ true → prepare_reading ver d.face slot ≡ Some (in_front first))
ends ver slot at count None r first i l a c b v = tt
ends ver slot at count (Some d) r first i l a c b v = λ e. rest_zeros ver slot d.face first (first_size ver slot d.face first i l b) b (same_rest ver slot at count d.face a c ∙ (sym v ∙ e))

pub goes_on : (ver slot at count : ℕ) (t : Option Disk) (r : Bool) (first : List ℕ) → IfSome t (λ d. IsFace d.face) → slot < 64 → size_at first ≤ 512 → at ≡ prepare_place ver slot → count ≡ prepare_sectors ver → IfSome t (λ d. Begins ver d.face slot first)
    → IfSome t (λ d. r ≡ has (replicate (512 * (count - 1)) 0) (together (at + 1) (count - 1) d.face)) → IfSome t (λ d. r ≡ false → IsNothing ver d.face slot)
goes_on ver slot at count None r first i l s a c b v = tt
goes_on ver slot at count (Some d) r first i l s a c b v = λ e. rest_other ver slot d.face first i l (first_size ver slot d.face first i l b) s b (same_rest ver slot at count d.face a c ∙ (sym v ∙ e))

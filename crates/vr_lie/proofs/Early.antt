-- A slot looked at by the first sector of its prepare.
use Rattle.std.proofs.Common.{ℕ, zero, suc, ◌-◌, ◌*◌, ◌<◌, ◌≤◌, ◌≡◌, refl, sym, ap, ◌∙◌, arith, Bool, true, false, cond, ◌&&◌, List, ◌++◌, length, take, drop, get_or, Option, Some, None, append_assoc}
use Rattle.std.specs.Prelude.{◌≢◌, if◌then◌else◌, is_some, nat_eq, replicate}
use Rattle.std.specs.Cmp.Lexicographic.{pointwise}
use Rattle.std.proofs.lemmas.Bool.{and_parts}
use Rattle.std.proofs.lemmas.List.{drop_at, get_or-take, get_or_append_left, get_or_default, length-drop, length-take-le, take-append-drop, take_at}
use Rattle.std.proofs.lemmas.Slice.Eq.{bytes_eq-Decides}
use Rattle.vr_base.specs.Bytes.{is_zeros}
use Rattle.vr_base.proofs.ZeroLaws.{are_zeros, zeros_are}
use Rattle.std.specs.Option.{option_map}
use Rattle.std.proofs.lemmas.List.{take-append-le}
use Rattle.vr_disk.specs.DiskState.{Face, IsFace, reads}
use Rattle.vr_disk.specs.Regions.{prepare_place, prepare_sectors}
use Rattle.vr_disk.specs.Sectors.{has, together}
use Rattle.vr_disk.proofs.Faces.{there}
use Rattle.vr_disk.proofs.Places.{counted, inside}
use Rattle.vr_disk.proofs.Together.{First, together_first}
use Rattle.vr_rings.specs.Held.{entry_of_both, found, header_sector, is_prepare, looked}
use Rattle.vr_rings.specs.Slots.{header_reading, in_front, padded, prepare_reading}
use Rattle.vr_lie.specs.Table.{IsOwnHeader, begins_alike, is_begun}

-- a prepare's header sector is that of its first sector
head_of : (p x rest : List ℕ) → p ≡ x ++ rest → 128 ≤ length x → header_sector p ≡ header_sector x
unfolding header_sector
head_of p x rest e l = ap (λ t. t ++ replicate 384 0) (ap (take 128) e ∙ take-append-le 128 x rest l)

-- the bytes of the sectors, in front of zeros
padded_from : (ver : ℕ) (o : Option (List ℕ)) (p : List ℕ) → option_map (padded ver) o ≡ Some p → (b : List ℕ) × (o ≡ Some b) × (padded ver b ≡ p)
padded_from ver None p e = absurd cc
padded_from ver (Some b) p e = (b, refl, cc)

some_first : (n i : ℕ) (f : Face) (b : List ℕ) → 1 ≤ n → together i n f ≡ Some b → First i f b
some_first zero i f b l e = absurd (omega arith)
some_first (suc n) i f b l e = together_first n i f b e

first_has : (ver : ℕ) (f : Face) (slot : ℕ) (p : List ℕ) → IsFace f → slot < 64 → prepare_reading ver f slot ≡ Some p → has (header_sector p) (header_reading f slot) ≡ begins_alike ver f slot
unfolding begins_alike
first_has ver f s p w l e =
    let count = counted ver in
    let within = inside ver s l in
    let x = padded_from ver (together (prepare_place ver s) (prepare_sectors ver) f) p e in
    let t = some_first (prepare_sectors ver) (prepare_place ver s) f x.0 (omega (arith, count.0)) x.1 in
    let zs : List ℕ = replicate (4096 - 512 * prepare_sectors ver) 0 in
    let whole : p ≡ t.first ++ (t.rest ++ zs) = sym x.2 ∙ (ap (λ b. b ++ zs) t.whole ∙ append_assoc t.first t.rest zs) in
    let n = ((there f (prepare_place ver s) w (omega (arith, count.0, within))).reads t.first t.reads).size in
    let h = head_of p t.first (t.rest ++ zs) whole (omega (arith, n)) in
    ap (λ z. has z (header_reading f s)) h ∙ ap (is_begun (header_reading f s)) (sym t.reads)

by_reading : (header prepare held : Option (List ℕ)) → ((p : List ℕ) → prepare ≡ Some p → has (header_sector p) header ≡ false) → held ≡ found (entry_of_both header prepare) held
unfolding entry_of_both
by_reading header None held h = refl
by_reading header (Some p) held h = rw (h p refl) refl

-- where the header sector isn't that of the first sector, the slot reads as no entry
pub early_looked : (ver : ℕ) (f : Face) (slot : ℕ) (held : Option (List ℕ)) → IsFace f → slot < 64 → begins_alike ver f slot ≡ false → held ≡ looked ver f slot held
early_looked ver f s held w l n = by_reading (header_reading f s) (prepare_reading ver f s) held (λ p e. first_has ver f s p w l e ∙ n)

pub early_own : (ver : ℕ) (f : Face) (slot : ℕ) → IsFace f → slot < 64 → begins_alike ver f slot ≡ true → IsOwnHeader ver f slot
early_own ver f s w l t = record { own = λ p e. first_has ver f s p w l e ∙ t }

-- where it is, the whole prepare tells
pub none_looked : (ver : ℕ) (f : Face) (slot : ℕ) (held : Option (List ℕ)) → prepare_reading ver f slot ≡ None → held ≡ looked ver f slot held
none_looked ver f s held e = by_reading (header_reading f s) (prepare_reading ver f s) held (λ p x. absurd (let y : None ≡ Some p = sym e ∙ x in cc))

pub whole_looked : (ver : ℕ) (f : Face) (slot : ℕ) (p : List ℕ) (held r : Option (List ℕ)) → IsOwnHeader ver f slot → prepare_reading ver f slot ≡ Some p → r ≡ found (cond (is_prepare p) (Some p) None) held → r ≡ looked ver f slot held
unfolding entry_of_both
whole_looked ver f s p held r h e k =
    k ∙ (ap (λ b. found (cond (b && is_prepare p) (Some p) None) held) (sym (h.own p e)) ∙ ap (λ r. found (entry_of_both (header_reading f s) r) held) (sym e))

-- ---- a header sector, by its two parts

pub both_true : (a b : Bool) → a ≡ true → b ≡ true → (a && b) ≡ true
both_true a b e k = rw (e, k) refl

pub same_bool : (a b : Bool) → (a ≡ true → b ≡ true) → (b ≡ true → a ≡ true) → a ≡ b
same_bool true b h k = sym (h refl)
same_bool false true h k = k refl
same_bool false false h k = refl

pub both_parts : (x y u v : List ℕ) → length x ≡ length u → x ++ y ≡ u ++ v → (x ≡ u) × (y ≡ v)
both_parts x y u v n e =
    (sym (take_at x y (length u) n) ∙ (ap (take (length u)) e ∙ take_at u v (length u) refl), sym (drop_at x y (length u) n) ∙ (ap (drop (length u)) e ∙ drop_at u v (length u) refl))

pub header_parts : (b p : List ℕ) → length b ≡ 512 → 128 ≤ length p → pointwise nat_eq b (header_sector p) ≡ (pointwise nat_eq (take 128 b) (take 128 p) && is_zeros (drop 128 b))
unfolding header_sector
header_parts b p n l =
    let zs : List ℕ = replicate 384 0 in
    let whole = take-append-drop 128 b in
    let front : length (take 128 b) ≡ length (take 128 p) = length-take-le 128 b (omega arith) ∙ sym (length-take-le 128 p l) in
    let rest : length (drop 128 b) ≡ 384 = length-drop 128 b ∙ omega arith in
    same_bool (pointwise nat_eq b (take 128 p ++ zs)) (pointwise nat_eq (take 128 b) (take 128 p) && is_zeros (drop 128 b))
    (λ h.
    let e : b ≡ take 128 p ++ zs = (bytes_eq-Decides b (take 128 p ++ zs)).0 h in
    let parts = both_parts (take 128 b) (drop 128 b) (take 128 p) zs front (whole ∙ e) in
    both_true (pointwise nat_eq (take 128 b) (take 128 p)) (is_zeros (drop 128 b)) ((bytes_eq-Decides (take 128 b) (take 128 p)).1 parts.0) (ap is_zeros parts.1 ∙ zeros_are 384))
    (λ h.
    let q = and_parts (pointwise nat_eq (take 128 b) (take 128 p)) (is_zeros (drop 128 b)) h in
    let one = (bytes_eq-Decides (take 128 b) (take 128 p)).0 q.0 in
    let two : drop 128 b ≡ zs = are_zeros (drop 128 b) q.1 ∙ ap (λ n. replicate n 0) rest in
    (bytes_eq-Decides b (take 128 p ++ zs)).1 (sym whole ∙ (ap (λ x. x ++ drop 128 b) one ∙ ap (λ y. take 128 p ++ y) two)))

-- one that begins with another byte
pub other_first : (b p : List ℕ) (d e : ℕ) → length b ≡ 512 → 128 ≤ length p → get_or b 0 d ≢ get_or p 0 e → false ≡ pointwise nat_eq b (header_sector p)
unfolding header_sector
other_first b p d e n l h =
    let zs : List ℕ = replicate 384 0 in
    same_bool false (pointwise nat_eq b (take 128 p ++ zs)) (λ x. absurd cc)
    (λ t.
    let same : b ≡ take 128 p ++ zs = (bytes_eq-Decides b (take 128 p ++ zs)).0 t in
    let front = length-take-le 128 p l in
    let one : get_or b 0 d ≡ get_or (take 128 p) 0 d = ap (λ x. get_or x 0 d) same ∙ get_or_append_left (take 128 p) zs d 0 (omega (arith, front)) in
    let two : get_or (take 128 p) 0 d ≡ get_or p 0 d = get_or-take 128 p 0 d (omega arith) in
    let three : get_or p 0 d ≡ get_or p 0 e = get_or_default p 0 d e (omega (arith, l)) in
    absurd (h (one ∙ (two ∙ three))))

-- where a sector reads as these bytes
pub header_has : (f : Face) (slot : ℕ) (b p : List ℕ) (r : Bool) → Some b ≡ header_reading f slot → r ≡ pointwise nat_eq b (header_sector p) → r ≡ has (header_sector p) (header_reading f slot)
header_has f s b p r e k = k ∙ ap (has (header_sector p)) e

pub header_none : (f : Face) (slot : ℕ) (p : List ℕ) → None ≡ header_reading f slot → false ≡ has (header_sector p) (header_reading f slot)
header_none f s p e = ap (has (header_sector p)) e

pub begins_has : (ver : ℕ) (f : Face) (slot : ℕ) (b : List ℕ) (r : Bool) → Some b ≡ reads f (prepare_place ver slot) → r ≡ has (header_sector b) (header_reading f slot) → r ≡ begins_alike ver f slot
unfolding begins_alike
begins_has ver f s b r e k = k ∙ ap (is_begun (header_reading f s)) e

pub begins_none : (ver : ℕ) (f : Face) (slot : ℕ) → None ≡ reads f (prepare_place ver slot) → false ≡ begins_alike ver f slot
unfolding begins_alike
begins_none ver f s e = ap (is_begun (header_reading f s)) e

by_found : (b : Bool) (p : List ℕ) → (if b then Some p else None) ≡ found (if b then Some p else None) None
by_found true p = refl
by_found false p = refl

-- a slot that holds nothing holds what it reads as
pub free_found : (b : Bool) (p : List ℕ) → b ≡ is_prepare p → (if b then Some p else None) ≡ found (if is_prepare p then Some p else None) None
free_found b p e = ap (λ x. cond x (Some p) None) e ∙ by_found (is_prepare p) p

-- what was read in front of zeros
pub front_held : (b z : List ℕ) (n : ℕ) → z ≡ replicate n 0 → n ≡ 4096 - length b → b ++ z ≡ in_front b
unfolding in_front
front_held b z n e k = ap (λ x. b ++ x) (e ∙ ap (λ n. replicate n 0) k)

pub some_map : {X Y : Type 0} → (f : X → Y) (o : Option X) → is_some (option_map f o) ≡ is_some o
some_map f None = refl
some_map f (Some x) = refl

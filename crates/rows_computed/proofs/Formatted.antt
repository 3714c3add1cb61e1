-- A disk that was just formatted: what its slots read as, that they hold nothing, and what it opens as; and once an entry was written.
use Rattle.std.proofs.Common.{ℕ, zero, suc, ◌+◌, ◌*◌, ◌≤◌, ◌<◌, ◌≡◌, ◌∙◌, inl, inr, arith, refl, sym, ap, subst, true, false, List, [], ◌∷◌, ◌++◌, length, map, Option, Some, None}
use Rattle.std.specs.Prelude.{is_some}
use Rattle.std.specs.List.{AllByRecursion, range_with_len}
use Rattle.std.specs.Option.{option_and_then}
use Rattle.std.proofs.lemmas.Bool.{cases_eq}
use Rattle.std.proofs.lemmas.List.{get_or-replicate, length-append, length-replicate, take_all}
use Rattle.vr_base.specs.Kinds.{strict}
use Rattle.vr_base.specs.Bytes.{is_zeros}
use Rattle.vr_disk.specs.DiskState.{Call, Cell, Face, Sync, Write, after, after_all, reads}
use Rattle.vr_disk.specs.Regions.{header_place, prepare_place, sectors}
use Rattle.vr_disk.specs.Sectors.{together, writes}
use Rattle.vr_disk.specs.Stops.{Spares, WritesOnly}
use Rattle.vr_disk.proofs.Frames.{frame_all, reads_back, reads_other}
use Rattle.vr_disk.proofs.Together.{after_all_append, length_after_all, only_append, spares_append, together_synced, together_written}
use Rattle.vr_super.specs.Calls.{copy_calls, save_from}
use Rattle.vr_super.specs.Copies.{copy_bytes, front_bytes, list_bytes, named_bytes, zeros}
use Rattle.vr_super.specs.Opens.{copy_reading}
use Rattle.vr_super.proofs.Readings.{copy_within, other_after}
use Rattle.vr_base.specs.Bytes.{bytes16, bytes32, bytes64, name_of}
use Rattle.vr_base.proofs.FieldLaws.{length-name_of}
use Rattle.vr_rings.specs.Held.{entry_read, found, held_after, held_after_all}
use Rattle.vr_rings.specs.Slots.{header_in, header_of, header_reading, padded, prepare_reading, sector_of, whole_of}
use Rattle.vr_rings.proofs.Spelling.{header_again, zeros_none}
use Rattle.vr_rings.proofs.Standing.{both_is, both_whole}
use Rattle.vr_lie.specs.Faults.{held_at}
use Rattle.vr_rules.specs.Formatting.{format_calls, reserved_header, reserved_headers, zero_prepares, zero_sector}
use Rattle.vr_rules.specs.Opening.{first_value}
use Rattle.vr_rules.proofs.FitDisks.{save_spares}
use Rattle.vr_world.specs.Lying.{each_slot, zero_cell, zero_face}
use Rattle.law_4_disks.proofs.Calls.{reserved_is}
use Rattle.law_4_disks.proofs.Effects.{at_slot}

-- ---- header sectors

headers_spare : (n i k : ℕ) → k < header_place i → AllByRecursion (Spares k) (map (λ slot. Write (header_place slot) (sector_of (reserved_header 1 0 slot))) (range_with_len i n))
headers_spare zero i k l = tt
headers_spare (suc n) i k l = (λ e. omega (arith, e, l), headers_spare n (i + 1) k (omega (arith, l)))

headers_put : (n i slot : ℕ) (f : Face) → length f.cells ≡ sectors → i ≤ slot → slot < i + n → i + n ≤ 64 → reads (after_all f (map (λ slot. Write (header_place slot) (sector_of (reserved_header 1 0 slot))) (range_with_len i n))) (header_place slot) ≡ Some (sector_of (reserved_header 1 0 slot))
headers_put zero i slot f c l m n = absurd (omega (arith, l, m))
headers_put (suc n) i slot f c l m b =
    let b0 = sector_of (reserved_header 1 0 i) in
    let g = after f (Write (header_place i) b0) in
    elim (cases_eq slot i) [
      | inl same ↦
          let rest = map (λ slot. Write (header_place slot) (sector_of (reserved_header 1 0 slot))) (range_with_len (i + 1) n) in
          let at : reads (after_all g rest) (header_place i) ≡ Some b0 = ap (λ (c : Cell). c.reads) (frame_all rest g (header_place i) (headers_spare n (i + 1) (header_place i) (omega arith))) ∙ reads_back f (header_place i) b0 (omega (arith, c, b)) in
          subst (λ (s : ℕ). reads (after_all g rest) (header_place s) ≡ Some (sector_of (reserved_header 1 0 s))) (sym same) at
      | inr other ↦ headers_put n (i + 1) slot g (length_after_all (Write (header_place i) b0 ∷ []) f ∙ c) (omega (arith, l, other)) (omega (arith, m)) (omega (arith, b))
    ]

abbrev later : ℕ → List Call
later i = save_from 0 4 (copy_bytes (first_value strict 0 3 i))

abbrev face : ℕ → Face
face i = after_all zero_face (format_calls strict 0 3 i)

header_there : (i slot : ℕ) → slot < 64 → header_reading (face i) slot ≡ Some (sector_of (reserved_header 1 0 slot))
unfolding format_calls
header_there i slot l =
    let f1 = after_all zero_face (zero_prepares 1) in
    let f2 = after_all f1 (reserved_headers 1 0) in
    let count : length f1.cells ≡ sectors = length_after_all (zero_prepares 1) zero_face ∙ length-replicate sectors zero_cell in
    let all : face i ≡ after_all f2 (Sync ∷ later i) = after_all_append (zero_prepares 1) (reserved_headers 1 0 ++ Sync ∷ later i) zero_face ∙ after_all_append (reserved_headers 1 0) (Sync ∷ later i) f1 in
    ap (λ (g : Face). reads g (header_place slot)) all
    ∙ (ap (λ (c : Cell). c.reads) (frame_all (Sync ∷ later i) f2 (header_place slot) (tt, save_spares 4 0 (header_place slot) (copy_bytes (first_value strict 0 3 i)) (omega arith) (omega arith)))
    ∙ headers_put 64 0 slot f1 count (omega arith) (omega (arith, l)) (omega arith))

pub header_is : (i slot : ℕ) → slot < 64 → header_in (face i) slot ≡ Some (reserved_header 1 0 slot)
unfolding header_in
header_is i slot l = ap (option_and_then header_of) (header_there i slot l) ∙ header_again (reserved_header 1 0 slot) (reserved_is 1 0 slot (omega arith, omega arith) (omega arith) l)

-- ---- no slot holds anything

-- its prepare is zeros
record IsBlank (slot : ℕ) (f : Face) : Type 0 where
  count : length f.cells ≡ sectors
  zeros : (k : ℕ) → prepare_place 1 slot ≤ k → k < prepare_place 1 slot + 4 → reads f k ≡ Some zero_sector

-- calls that write nothing else there
abbrev KeepsBlank : ℕ → List Call → Type 0
KeepsBlank slot cs = (k : ℕ) → prepare_place 1 slot ≤ k → k < prepare_place 1 slot + 4 → AllByRecursion (WritesOnly k zero_sector) cs

blank_call : (slot : ℕ) (f : Face) (c : Call) → ((k : ℕ) → prepare_place 1 slot ≤ k → k < prepare_place 1 slot + 4 → WritesOnly k zero_sector c) → IsBlank slot f → slot < 64 → IsBlank slot (after f c)
blank_call slot f Sync w b l = record { count = b.count; zeros = b.zeros }
blank_call slot f (Write i bytes) w b l = record {
  count = length_after_all (Write i bytes ∷ []) f ∙ b.count;
  zeros = λ k m n. elim (cases_eq k i) [
    | inl same ↦
        let zero : bytes ≡ zero_sector = w k m n (sym same) in
        let c = b.count in
        subst (λ (j : ℕ). reads (after f (Write i bytes)) j ≡ Some zero_sector) (sym same) (reads_back f i bytes (omega (arith, same, n, l, c)) ∙ ap Some zero)
    | inr other ↦ reads_other f i k bytes other ∙ b.zeros k m n
  ];
}

blank_reads : (slot : ℕ) (f : Face) → IsBlank slot f → prepare_reading 1 f slot ≡ Some (padded 1 (zero_sector ++ (zero_sector ++ (zero_sector ++ (zero_sector ++ [])))))
unfolding together
blank_reads slot f b =
    let p = prepare_place 1 slot in
    rw (b.zeros p (omega arith) (omega arith), b.zeros (p + 1) (omega arith) (omega arith), b.zeros (p + 1 + 1) (omega arith) (omega arith), b.zeros (p + 1 + 1 + 1) (omega arith) (omega arith)) refl

zeros_are : is_zeros (padded 1 (zero_sector ++ (zero_sector ++ (zero_sector ++ (zero_sector ++ []))))) ≡ true
zeros_are = refl

blank_none : (slot : ℕ) (f : Face) → IsBlank slot f → (p : List ℕ) → entry_read 1 f slot ≡ Some p → ⊥
blank_none slot f b p e =
    let z : List ℕ = padded 1 (zero_sector ++ (zero_sector ++ (zero_sector ++ (zero_sector ++ [])))) in
    let parts = both_is (header_reading f slot) (prepare_reading 1 f slot) p e in
    let whole = both_whole (header_reading f slot) (prepare_reading 1 f slot) p e in
    let same : Some z ≡ Some p = sym (blank_reads slot f b) ∙ parts.1 in
    let is : z ≡ p = cc in
    let none : is_some (whole_of z) ≡ false = ap is_some (zeros_none z zeros_are) in
    let bad : false ≡ true = sym none ∙ (ap (λ b. is_some (whole_of b)) is ∙ whole) in
    absurd cc

found_none : (o : Option (List ℕ)) → ((p : List ℕ) → o ≡ Some p → ⊥) → found o None ≡ None
found_none None n = refl
found_none (Some p) n = absurd (n p refl)

blank_held : (cs : List Call) (slot : ℕ) (f : Face) → slot < 64 → KeepsBlank slot cs → IsBlank slot f → held_after_all 1 f cs slot None ≡ None
unfolding held_after_all held_after
blank_held [] slot f l k b = refl
blank_held (Sync ∷ cs) slot f l k b = blank_held cs slot (after f Sync) l (λ i m n. (k i m n).1) (blank_call slot f Sync (λ i m n. tt) b l)
blank_held (Write i bytes ∷ cs) slot f l k b =
    let c = Write i bytes in
    let g = blank_call slot f c (λ j m n. (k j m n).0) b l in
    ap (held_after_all 1 (after f c) cs slot) (found_none (entry_read 1 (after f c) slot) (blank_none slot (after f c) g)) ∙ blank_held cs slot (after f c) l (λ j m n. (k j m n).1) g

-- ---- the calls that format write nothing but zeros there

only_spared : (k : ℕ) (cs : List Call) → AllByRecursion (Spares k) cs → AllByRecursion (WritesOnly k zero_sector) cs
only_spared k [] s = tt
only_spared k (Sync ∷ cs) s = (tt, only_spared k cs s.1)
only_spared k (Write i bytes ∷ cs) s = (λ e. absurd (s.0 e), only_spared k cs s.1)

zeros_only : (n i k : ℕ) → AllByRecursion (WritesOnly k zero_sector) (map (λ i. Write i zero_sector) (range_with_len i n))
zeros_only zero i k = tt
zeros_only (suc n) i k = (λ e. refl, zeros_only n (i + 1) k)

heads_spare : (n i k : ℕ) → i + n ≤ 64 → 144 ≤ k → AllByRecursion (Spares k) (map (λ slot. Write (header_place slot) (sector_of (reserved_header 1 0 slot))) (range_with_len i n))
heads_spare zero i k l m = tt
heads_spare (suc n) i k l m = (λ e. omega (arith, e, l, m), heads_spare n (i + 1) k (omega (arith, l)) m)

format_blank : (i slot : ℕ) → KeepsBlank slot (format_calls strict 0 3 i)
unfolding format_calls
format_blank i slot k m n =
    only_append k zero_sector (zero_prepares 1) (reserved_headers 1 0 ++ Sync ∷ later i) (zeros_only 256 144 k)
    (only_spared k (reserved_headers 1 0 ++ Sync ∷ later i) (spares_append k (reserved_headers 1 0) (Sync ∷ later i) (heads_spare 64 0 k (omega arith) (omega (arith, m))) (tt, save_spares 4 0 k (copy_bytes (first_value strict 0 3 i)) (omega arith) (omega (arith, m)))))

zero_blank : (slot : ℕ) → slot < 64 → IsBlank slot zero_face
zero_blank slot l = record {
  count = length-replicate sectors zero_cell;
  zeros = λ k m n. ap (λ (c : Cell). c.reads) (get_or-replicate sectors k zero_cell _ (omega (arith, n, l)));
}

pub nothing_held : (i slot : ℕ) → slot < 64 → held_at (each_slot (λ slot. held_after_all 1 zero_face (format_calls strict 0 3 i) slot (held_at (each_slot (λ slot. None)) slot))) slot ≡ None
nothing_held i slot l =
    at_slot (λ slot. held_after_all 1 zero_face (format_calls strict 0 3 i) slot (held_at (each_slot (λ slot. None)) slot)) slot l
    ∙ (ap (held_after_all 1 zero_face (format_calls strict 0 3 i) slot) (at_slot (λ slot. None) slot l)
    ∙ blank_held (format_calls strict 0 3 i) slot zero_face l (format_blank i slot) (zero_blank slot l))

-- ---- and in the end each sector of a prepare reads as zeros

blank_all : (cs : List Call) (slot : ℕ) (f : Face) → slot < 64 → KeepsBlank slot cs → IsBlank slot f → IsBlank slot (after_all f cs)
blank_all [] slot f l k b = b
blank_all (Sync ∷ cs) slot f l k b = blank_all cs slot (after f Sync) l (λ i m n. (k i m n).1) (blank_call slot f Sync (λ i m n. tt) b l)
blank_all (Write i bytes ∷ cs) slot f l k b = blank_all cs slot (after f (Write i bytes)) l (λ j m n. (k j m n).1) (blank_call slot f (Write i bytes) (λ j m n. (k j m n).0) b l)

pub zero_there : (i slot k : ℕ) → slot < 64 → prepare_place 1 slot ≤ k → k < prepare_place 1 slot + 4 → reads (face i) k ≡ Some zero_sector
zero_there i slot k l m n = (blank_all (format_calls strict 0 3 i) slot zero_face l (format_blank i slot) (zero_blank slot l)).zeros k m n

-- ---- and each copy of the superblock as the first value

copy_read : (b : List ℕ) (f : Face) (c : ℕ) → length b ≡ 10240 → length f.cells ≡ sectors → c < 4 → copy_reading (after_all f (copy_calls c b)) c ≡ Some b
unfolding copy_reading copy_calls
copy_read b f c n l k =
    let g = after_all f (writes (20 * c) 20 b) in
    ap (λ h. together (20 * c) 20 h) (after_all_append (writes (20 * c) 20 b) (Sync ∷ []) f)
    ∙ (together_synced 20 (20 * c) g ∙ (together_written 20 (20 * c) b f (omega arith) ∙ ap Some (take_all (512 * 20) b (omega arith))))

copies_read : (n k : ℕ) (b : List ℕ) (f : Face) → length b ≡ 10240 → length f.cells ≡ sectors → k + n ≡ 4 → ((c : ℕ) → c < k → copy_reading f c ≡ Some b) → (c : ℕ) → c < 4 → copy_reading (after_all f (save_from k n b)) c ≡ Some b
unfolding save_from
copies_read zero k b f size l e h c m = h c (omega arith)
copies_read (suc n) k b f size l e h c m =
    let one = copy_calls k b in
    let g = after_all f one in
    let less : k < 4 = omega arith in
    let next : (c : ℕ) → c < k + 1 → copy_reading g c ≡ Some b = λ c a. elim (cases_eq c k) [
      | inl same ↦ subst (λ (c : ℕ). copy_reading g c ≡ Some b) (sym same) (copy_read b f k size l less)
      | inr other ↦ other_after one f k c (copy_within k b) (λ s. other (sym s)) ∙ h c (omega arith)
    ] in
    ap (λ (g : Face). copy_reading g c) (after_all_append one (save_from (k + 1) n b) f) ∙ copies_read n (k + 1) b g size (length_after_all one f ∙ l) (omega arith) next c m

copy_long : (i : ℕ) → length (copy_bytes (first_value strict 0 3 i)) ≡ 10240
unfolding copy_bytes named_bytes front_bytes list_bytes zeros bytes16 bytes32 bytes64
copy_long i = length-append (name_of (named_bytes (first_value strict 0 3 i))) (named_bytes (first_value strict 0 3 i)) ∙ ap (λ n. n + 10224) (length-name_of (named_bytes (first_value strict 0 3 i)))

pub copies_there : (i c : ℕ) → c < 4 → copy_reading (face i) c ≡ Some (copy_bytes (first_value strict 0 3 i))
unfolding format_calls
copies_there i c l =
    let f1 = after_all zero_face (zero_prepares 1) in
    let f2 = after_all f1 (reserved_headers 1 0) in
    let f3 = after f2 Sync in
    let all : face i ≡ after_all f3 (later i) = after_all_append (zero_prepares 1) (reserved_headers 1 0 ++ Sync ∷ later i) zero_face ∙ after_all_append (reserved_headers 1 0) (Sync ∷ later i) f1 in
    let count : length f3.cells ≡ sectors = length_after_all (reserved_headers 1 0) f1 ∙ (length_after_all (zero_prepares 1) zero_face ∙ length-replicate sectors zero_cell) in
    ap (λ (g : Face). copy_reading g c) all ∙ copies_read 4 0 (copy_bytes (first_value strict 0 3 i)) f3 (copy_long i) count (omega arith) (λ c m. absurd (omega arith)) c l

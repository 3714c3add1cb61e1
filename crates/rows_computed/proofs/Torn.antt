-- A write of the first entry that is cut at the third sector of its prepare, all three left damaged.
use Rattle.std.proofs.Common.{ℕ, ◌*◌, ◌≤◌, ◌<◌, ◌≡◌, ◌≢◌, ◌⊎◌, inl, inr, arith, refl, sym, ap, ◌∙◌, subst, drop, take, List, [], ◌∷◌, ◌++◌, length, get_or, set, Some, get_or-set_other, get_or-set_same, length-set}
use Rattle.std.specs.List.{AllByRecursion}
use Rattle.sha2.specs.Sha256.{sha256, first_words, schedule, rounds, compress, hash_after, digest_bytes}
use Rattle.vr_base.specs.Bytes.{bytes16, bytes32, bytes64, name_of, piece}
use Rattle.vr_disk.specs.DiskState.{Call, Cell, Face, Waiting, Write, blank as no_cell, cell, cut, damaged, reads, waits, written}
use Rattle.vr_disk.specs.Regions.{sectors}
use Rattle.vr_disk.specs.Sectors.{together, writes}
use Rattle.vr_disk.specs.Stops.{Spares}
use Rattle.vr_disk.proofs.Frames.{frame_cut}
use Rattle.vr_header.specs.Bodies.{operation_bytes}
use Rattle.vr_header.specs.Made.{entry_bytes}
use Rattle.vr_header.specs.Spelling.{header_bytes, named_bytes}
use Rattle.vr_rings.specs.Calls.{new_calls, prepare_calls}
use Rattle.vr_rings.specs.Slots.{padded, prepare_bytes, whole_in, whole_of}
use Rattle.vr_rings.proofs.Spelling.{padded_is, whole_again}
use Rattle.vr_rules.specs.Formatting.{zero_sector}
use Rattle.rows_computed.proofs.Entries.{first}
use Rattle.rows_computed.proofs.Taken.{first_taken}

-- ---- the three calls

abbrev pub three : List Call
three = Write 148 (piece 0 512 (prepare_bytes first)) ∷ Write 149 (piece 0 512 (drop 512 (prepare_bytes first))) ∷ Write 150 (piece 0 512 (drop 512 (drop 512 (prepare_bytes first)))) ∷ []

-- a cut at the third call is one of these three
pub cut_is : (f : Face) → cut 2 26 f (new_calls 1 first) ≡ cut 2 26 f three
unfolding cut prepare_calls writes
cut_is f = refl

spare_three : (i : ℕ) → i ≢ 148 → i ≢ 149 → i ≢ 150 → AllByRecursion (Spares i) three
spare_three i a b c = (λ e. a (sym e), (λ e. b (sym e), (λ e. c (sym e), tt)))

-- on a disk on which nothing waits other sectors stay
pub others_stay : (f : Face) (i : ℕ) → f.waiting ≡ [] → i ≢ 148 → i ≢ 149 → i ≢ 150 → cell (cut 2 26 f (new_calls 1 first)) i ≡ cell f i
others_stay f i rests a b c = ap (λ (g : Face). cell g i) (cut_is f) ∙ frame_cut three f i 2 26 (spare_three i a b c) (ap (waits i) rests)

-- ---- the first sector is damaged

abbrev at_rest : List Cell → Face
at_rest cells = record { cells = cells; waiting = [] }

three_set : (cells : List Cell) (x y z : Cell) → length cells ≡ sectors → get_or (set (set (set cells 148 x) 149 y) 150 z) 148 no_cell ≡ x
three_set cells x y z n =
    get_or-set_other (set (set cells 148 x) 149 y) 150 148 z no_cell (λ e. omega (arith, e))
    ∙ (get_or-set_other (set cells 148 x) 149 148 y no_cell (λ e. omega (arith, e)) ∙ get_or-set_same cells 148 x no_cell (omega (arith, n)))

abbrev turned : Cell → Cell
turned c = record { truth = damaged c.truth; reads = Some (damaged c.truth); before = c.before }

first_turned : (cells : List Cell) → length cells ≡ sectors → reads (cut 2 26 (at_rest cells) three) 148 ≡ Some (damaged (piece 0 512 (prepare_bytes first)))
unfolding cut
first_turned cells n =
    let w0 = written (get_or cells 148 no_cell) (piece 0 512 (prepare_bytes first)) in
    let c0 = set cells 148 w0 in
    let w1 = written (get_or c0 149 no_cell) (piece 0 512 (drop 512 (prepare_bytes first))) in
    let c1 = set c0 149 w1 in
    let w2 = written (get_or c1 150 no_cell) (piece 0 512 (drop 512 (drop 512 (prepare_bytes first)))) in
    let c2 = set c1 150 w2 in
    let size : length c2 ≡ sectors = length-set c1 150 w2 ∙ (length-set c0 149 w1 ∙ (length-set cells 148 w0 ∙ n)) in
    let x = turned (get_or c2 148 no_cell) in
    let y = turned (get_or (set c2 148 x) 149 no_cell) in
    let z = turned (get_or (set (set c2 148 x) 149 y) 150 no_cell) in
    ap (λ (c : Cell). c.reads) (three_set c2 x y z size) ∙ ap (λ (c : Cell). Some (damaged c.truth)) (three_set cells w0 w1 w2 n)

pub turned_148 : (f : Face) → f.waiting ≡ [] → length f.cells ≡ sectors → reads (cut 2 26 f (new_calls 1 first)) 148 ≡ Some (damaged (piece 0 512 (prepare_bytes first)))
turned_148 f rests n =
    ap (λ (g : Face). reads g 148) (cut_is f)
    ∙ (ap (λ (ws : List Waiting). reads (cut 2 26 (record { cells = f.cells; waiting = ws }) three) 148) rests ∙ first_turned f.cells n)

-- ---- after each call that went through, the prepare reads as the entry's: after its first sector all is zeros

abbrev pub zeros_behind : List ℕ
zeros_behind = zero_sector ++ (zero_sector ++ (zero_sector ++ []))

pub part_zero : (k : ℕ) → (k ≡ 1) ⊎ (k ≡ 2) → piece 0 512 (drop (512 * k) (prepare_bytes first)) ≡ zero_sector
unfolding piece prepare_bytes entry_bytes header_bytes named_bytes operation_bytes bytes16 bytes32 bytes64 name_of sha256 first_words schedule rounds compress hash_after digest_bytes
part_zero _ (inl e) = subst (λ (k : ℕ). piece 0 512 (drop (512 * k) (prepare_bytes first)) ≡ zero_sector) (sym e) refl
part_zero _ (inr e) = subst (λ (k : ℕ). piece 0 512 (drop (512 * k) (prepare_bytes first)) ≡ zero_sector) (sym e) refl

whole_front : piece 0 512 (prepare_bytes first) ++ zeros_behind ≡ take (512 * 4) (prepare_bytes first)
unfolding piece prepare_bytes entry_bytes header_bytes named_bytes operation_bytes bytes16 bytes32 bytes64 name_of sha256 first_words schedule rounds compress hash_after digest_bytes
whole_front = refl

-- a face whose slot 1 reads so
pub record IsFront (g : Face) : Type 0 where
  pub head : reads g 148 ≡ Some (piece 0 512 (prepare_bytes first))
  pub rest : (k : ℕ) → 149 ≤ k → k < 152 → reads g k ≡ Some zero_sector

pub front_reads : (g : Face) → IsFront g → whole_in 1 g 1 ≡ Some first
unfolding whole_in together
front_reads g r =
    rw (r.head, r.rest 149 (omega arith) (omega arith), r.rest 150 (omega arith) (omega arith), r.rest 151 (omega arith) (omega arith))
    (ap (λ b. whole_of (padded 1 b)) whole_front ∙ (ap whole_of (padded_is 1 first first_taken.whole first_taken.takes) ∙ whole_again first first_taken.whole))

-- A disk that was just formatted reads as no entry and as no block: its prepares and its grid are zeros.
use Rattle.vr_base.specs.declared.kind.Kind.{Kind}
use Rattle.vr_base.proofs.AreBytes.{IsBytes-append, IsBytes-zeros}
use Rattle.std.proofs.Common.{ℕ, zero, suc, ◌+◌, ◌-◌, ◌*◌, ◌≤◌, ◌<◌, ◌≡◌, arith, refl, sym, ap, ◌∙◌, subst, List, [], ◌∷◌, ◌++◌, length, map, take, replicate, get_or, Option, Some, None, Ok, inl, inr, append_assoc}
use Rattle.std.specs.List.{AllByRecursion, range_with_len}
use Rattle.std.specs.Option.{option_and_then, option_map}
use Rattle.std.proofs.lemmas.Bool.{cases_lt}
use Rattle.std.proofs.lemmas.List.{get_or-replicate, get_or_append_left, length-append, length-replicate}
use Rattle.vr_disk.specs.DiskState.{Call, Cell, Face, IsFace, Sync, Write, after_all, cell, reads}
use Rattle.vr_disk.specs.Regions.{block_place, header_place, prepare_place, prepare_sectors, sectors}
use Rattle.vr_disk.specs.Sectors.{together}
use Rattle.vr_disk.specs.Stops.{Spares}
use Rattle.vr_disk.proofs.Frames.{frame_all}
use Rattle.vr_disk.proofs.Places.{behind_headers, counted}
use Rattle.vr_disk.proofs.Together.{after_all_append, length_after_all, spares_append, together_bytes}
use Rattle.vr_header.specs.declared.header.Header.{Header}
use Rattle.vr_header.specs.Made.{Whole}
use Rattle.vr_header.specs.Spelling.{Spells, decoded}
use Rattle.vr_header.proofs.Faults.{sound}
use Rattle.vr_header.proofs.HeaderLaws.{decoded_again}
use Rattle.vr_super.specs.Copies.{copy_bytes}
use Rattle.vr_super.specs.Calls.{save_from}
use Rattle.vr_rings.specs.Slots.{padded, sector_of, whole_in, whole_of}
use Rattle.vr_rings.proofs.Spelling.{one_spelling, prepare_spells}
use Rattle.vr_ckpt.specs.Blocks.{Content}
use Rattle.vr_ckpt.specs.Grid.{block_reading, named_at}
use Rattle.vr_ckpt.specs.declared.name.Name.{Name}
use Rattle.vr_ckpt.proofs.Contents.{named_found, read_of}
use Rattle.vr_ckpt.proofs.Placing.{block_inside}
use Rattle.vr_rules.specs.Opening.{first_value}
use Rattle.vr_rules.specs.Formatting.{format_calls, reserved_header, reserved_headers, zero_prepares, zero_sector}
use Rattle.vr_world.specs.Lying.{hazards, zero_cell, zero_face}
use Rattle.vr_world.specs.Safe as safe
use Rattle.vr_world.specs.Safe.{IsRead}
use Rattle.vr_rules.proofs.FitDisks.{grid_behind, save_spares}
use Rattle.law_3_outputs.proofs.SlotCalls.{together_past}
use Rattle.law_4_disks.proofs.Calls.{format_is, prepares_fit}
use Rattle.law_5_seals.specs.Seals.{HasCell, HasSectors, Puts}
use Rattle.law_5_seals.proofs.Contents.{has_after_all, has_at}
use Rattle.law_5_seals.proofs.Turning.{no_fault}
use Rattle.law_6_one_log.proofs.Disks.{named_bytes_at}
use Rattle.law_5_seals.proofs.Moving.{behind_parts}

-- ---- zeros

abbrev IsZero : List ℕ → Type 0
IsZero b = b ≡ zero_sector

some_zero : (b : List ℕ) → Some zero_sector ≡ Some b → IsZero b
some_zero b e = let same : zero_sector ≡ b = cc in sym same

zero_has : HasSectors IsZero zero_face
zero_has = record {
  count = length-replicate sectors zero_cell;
  cells = λ k d l. let n = length-replicate sectors zero_cell in subst (HasCell IsZero) (sym (get_or-replicate sectors k zero_cell d (omega (arith, n, l)))) (record { truth = refl; reads = some_zero; before = refl });
  waiting = λ k d l. absurd (omega arith);
}

zeros_put : (n i : ℕ) → i + n ≤ sectors → AllByRecursion (Puts IsZero) (map (λ k. Write k zero_sector) (range_with_len i n))
zeros_put zero i l = tt
zeros_put (suc n) i l = ((omega (arith, l), refl), zeros_put n (i + 1) (omega (arith, l)))

heads_spare : (v n i k : ℕ) → i + n ≤ 64 → 144 ≤ k → AllByRecursion (Spares k) (map (λ slot. Write (header_place slot) (sector_of (reserved_header v 0 slot))) (range_with_len i n))
heads_spare v zero i k l m = tt
heads_spare v (suc n) i k l m = (λ e. omega (arith, e, l, m), heads_spare v n (i + 1) k (omega (arith, l)) m)

-- so many sectors
abbrev zeros : ℕ → List ℕ
zeros zero = []
zeros (suc n) = zero_sector ++ zeros n

length-zeros : (n : ℕ) → length (zeros n) ≡ 512 * n
length-zeros zero = refl
length-zeros (suc n) = let one = length-replicate {A = ℕ} 512 0 in let both = length-append zero_sector (zeros n) in let rest = length-zeros n in omega (arith, one, both, rest)

-- a header doesn't stand in front of a sector of zeros
no_header : (b rest : List ℕ) (h : Header) → b ≡ zero_sector ++ rest → decoded b ≡ Ok h → ⊥
no_header b rest h is read =
    let version = (sound b (no_fault b h read)).version in
    let size = length-replicate {A = ℕ} 512 0 in
    let there = ap (λ (x : List ℕ). get_or x 110 0) is ∙ (get_or_append_left zero_sector rest 0 110 (omega (arith, size)) ∙ get_or-replicate {A = ℕ} 512 110 0 0 (omega arith)) in
    omega (arith, version, there)

-- ---- the disk of a member

module _ (kind : Kind) (n i : ℕ) where
  abbrev pub fresh_face : Face
  fresh_face = after_all zero_face (format_calls kind 0 n i)

  abbrev v : ℕ
  v = kind.version

  abbrev later : List Call
  later = reserved_headers v 0 ++ Sync ∷ save_from 0 4 (copy_bytes (first_value kind 0 n i))

  later_spares : (k : ℕ) → 144 ≤ k → AllByRecursion (Spares k) later
  later_spares k l = spares_append k (reserved_headers v 0) (Sync ∷ save_from 0 4 (copy_bytes (first_value kind 0 n i))) (heads_spare v 64 0 k (omega arith) l) (tt, save_spares 4 0 k (copy_bytes (first_value kind 0 n i)) (omega arith) (omega (arith, l)))

  zero_at : (k : ℕ) (b : List ℕ) → 144 ≤ k → k < sectors → reads fresh_face k ≡ Some b → IsZero b
  zero_at k b l m e =
      let g = after_all zero_face (zero_prepares v) in
      let same : cell fresh_face k ≡ cell g k = ap (λ (h : Face). cell h k) (ap (after_all zero_face) (format_is kind 0 n i) ∙ after_all_append (zero_prepares v) later zero_face) ∙ frame_all later g k (later_spares k l) in
      (has_at IsZero g k (has_after_all IsZero (zero_prepares v) zero_face zero_has (zeros_put (64 * prepare_sectors v) (prepare_place v 0) (prepares_fit v))) m).reads b (ap (λ (c : Cell). c.reads) (sym same) ∙ e)

  count : length fresh_face.cells ≡ sectors
  count = length_after_all (format_calls kind 0 n i) zero_face ∙ length-replicate sectors zero_cell

  -- what reads after the header sectors is zeros
  all_zero : (k s : ℕ) (b : List ℕ) → 144 ≤ s → s + k ≤ sectors → together s k fresh_face ≡ Some b → b ≡ zeros k
  unfolding together
  all_zero zero s b l m r = let same : [] ≡ b = cc in sym same
  all_zero (suc k) s b l m r =
      let x = behind_parts (reads fresh_face s) (together (s + 1) k fresh_face) b r in
      x.4 ∙ (ap (λ (y : List ℕ). y ++ x.1) (zero_at s x.0 l (omega (arith, m)) x.2) ∙ ap (λ (y : List ℕ). zero_sector ++ y) (all_zero k (s + 1) x.1 (omega (arith, l)) (omega (arith, m)) x.3))

  -- ---- no entry, and no block

  no_reading : IsFace fresh_face → (slot : ℕ) (e : Whole) (o : Option (List ℕ)) → together (prepare_place v slot) (prepare_sectors v) fresh_face ≡ o → option_and_then whole_of (option_map (padded v) o) ≡ Some e → ⊥
  no_reading face slot e None r w = absurd cc
  no_reading face slot e (Some b) r w =
      let n = count in
      let m = prepare_sectors v in
      let few = counted v in
      let more : m ≡ suc (m - 1) = omega (arith, few.0) in
      elim (cases_lt (prepare_place v slot + (m - 1)) sectors) [
        | inr past ↦
            let gone = together_past (m - 1) (prepare_place v slot) fresh_face (omega (arith, n, past)) in
            let none : None ≡ Some b = sym gone ∙ (ap (λ (k : ℕ). together (prepare_place v slot) k fresh_face) (sym more) ∙ r) in
            absurd cc
        | inl within ↦
            let behind = behind_headers v slot in
            let k = 4096 - 512 * m in
            let after : List ℕ = replicate k 0 in
            let z = all_zero m (prepare_place v slot) b behind (omega (arith, within, few.0)) r in
            let is : padded v b ≡ zero_sector ++ (zeros (m - 1) ++ after) = ap (padded v) (z ∙ ap zeros more) ∙ append_assoc zero_sector (zeros (m - 1)) after in
            let size = ap length z ∙ length-zeros m in
            let all = length-append b after in
            let rest = length-replicate {A = ℕ} k 0 in
            let are = IsBytes-append b after (together_bytes m (prepare_place v slot) fresh_face face (omega (arith, within, few.0)) b r) (IsBytes-zeros k) in
            let found = one_spelling.entry_found (padded v b) e are (omega (arith, size, all, rest, few.1)) w in
            let spells : Spells e.header (padded v b) = ap (take 128) found.0 ∙ prepare_spells e found.1.header in
            no_header (padded v b) (zeros (m - 1) ++ after) e.header is (decoded_again e.header (padded v b) found.1.header spells)
      ]

  no_entry : IsFace fresh_face → (slot : ℕ) (e : Whole) → whole_in v fresh_face slot ≡ Some e → ⊥
  unfolding whole_in
  no_entry face slot e w = no_reading face slot e (together (prepare_place v slot) (prepare_sectors v) fresh_face) refl w

  no_block : (name : Name) (c : Content) → named_at fresh_face name ≡ Some c → ⊥
  unfolding block_reading
  no_block name c e =
      let x = named_bytes_at fresh_face name c e in
      let within = x.1 in
      let behind = grid_behind name.address in
      let z = all_zero 8 (block_place name.address) x.0 (omega (arith, behind)) (block_inside name.address within) x.2 in
      let r = read_of x.0 c (named_found name x.0 c x.3).0 in
      no_header x.0 (zeros 7) r.header z r.read

  pub reads_nothing : IsFace fresh_face → (bytes : List ℕ) → IsRead (hazards.formatted kind 0 n i) bytes → ⊥
  reads_nothing face _ (safe.IsRead.header slot e w) = no_entry face slot e w
  reads_nothing face _ (safe.IsRead.operation slot e w) = no_entry face slot e w
  reads_nothing face _ (safe.IsRead.block name c w) = no_block name c w
  reads_nothing face _ (safe.IsRead.payload name c w) = no_block name c w

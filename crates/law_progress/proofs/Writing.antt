-- What is written to a slot reads, on sectors that may lie.
use Rattle.std.proofs.Common.{arith, ◌≡◌, ◌-◌, ◌*◌, ◌≤◌, ◌%◌, ap, ◌∙◌, ℕ, Bool, true, false, cond, eqb, ◌++◌, length, take, replicate, Some}
use Rattle.std.specs.Option.{option_and_then, option_map}
use Rattle.vr_base.specs.Versions.{by_version}
use Rattle.vr_disk.specs.DiskState as disk
use Rattle.vr_disk.specs.DiskState.{Face}
use Rattle.vr_disk.specs.Regions.{prepare_sectors, sectors as sectors_count}
use Rattle.vr_disk.proofs.Places.{behind_headers, inside}
use Rattle.vr_disk.proofs.Together.{after_all_append, length_after_all}
use Rattle.vr_header.specs.declared.header.Header.{Header}
use Rattle.vr_header.specs.Made.{Whole}
use Rattle.vr_rings.specs.Calls.{header_calls, prepare_calls}
use Rattle.vr_rings.specs.Slots.{IsWhole, padded, prepare_bytes, whole_in, whole_of}
use Rattle.vr_rings.proofs.Spelling.{padded_is, whole_again}
use Rattle.vr_rules.specs.Sectors.{calls_by}
use Rattle.vr_rules.specs.Steps.{Write}
use Rattle.vr_rules.proofs.FitDisks.{front_reads, header_spares, same_entry, slot_below}
use Rattle.vr_world.specs.Lying.{Lying, lying}

-- a file has room for the entries that it takes
room : (v : ℕ) (e : Whole) → IsWhole e → e.header.version ≤ by_version v 1 2 → padded v (take (512 * prepare_sectors v) (prepare_bytes e)) ≡ prepare_bytes e
room v e w =
    elim (eqb v 2) as (λ t. e.header.version ≤ cond t 2 1 → take (512 * cond t 8 4) (prepare_bytes e) ++ replicate (4096 - 512 * cond t 8 4) 0 ≡ prepare_bytes e) [
      | true ↦ λ few. padded_is 2 e w (record { most = omega arith; taken = few })
      | false ↦ λ few. padded_is 1 e w (record { most = omega arith; taken = few })
    ]

prepare_reads : (v : ℕ) (e : Whole) (f : Face) → length f.cells ≡ sectors_count → IsWhole e → e.header.version ≤ by_version v 1 2 → whole_in v (disk.after_all f (prepare_calls v e)) (e.header.op % 64) ≡ Some e
unfolding whole_in
prepare_reads v e f n w few =
    let fits = inside v (e.header.op % 64) (slot_below e.header) in
    ap (λ o. option_and_then whole_of (option_map (padded v) o)) (front_reads v e f (omega (arith, n, fits))) ∙ (ap whole_of (room v e w few) ∙ whole_again e w)

-- a header sector is no part of a prepare
header_leaves : (v : ℕ) (h : Header) (f : Face) (slot : ℕ) → whole_in v (disk.after_all f (header_calls h)) slot ≡ whole_in v f slot
header_leaves v h f slot =
    let b = slot_below h in
    let behind = behind_headers v slot in
    same_entry v (header_calls h) f slot (λ k m n. header_spares h k (λ q. omega (arith, q, b, behind, m)))

face_reads : (v : ℕ) (f : Face) (again : Bool) (e : Whole) → length f.cells ≡ sectors_count → IsWhole e → e.header.version ≤ by_version v 1 2 → whole_in v (disk.after_all f (calls_by v (Write again e) f)) (e.header.op % 64) ≡ Some e
face_reads v f true e n w few =
    ap (λ (x : Face). whole_in v x (e.header.op % 64)) (after_all_append (header_calls e.header) (prepare_calls v e) f)
    ∙ prepare_reads v e (disk.after_all f (header_calls e.header)) (length_after_all (header_calls e.header) f ∙ n) w few
face_reads v f false e n w few =
    ap (λ (x : Face). whole_in v x (e.header.op % 64)) (after_all_append (prepare_calls v e) (header_calls e.header) f)
    ∙ header_leaves v e.header (disk.after_all f (prepare_calls v e)) (e.header.op % 64) ∙ prepare_reads v e f n w few

-- whatever it read as before
pub written_reads : (d : Lying) (again : Bool) (e : Whole) → length d.face.cells ≡ sectors_count → IsWhole e → e.header.version ≤ by_version d.version 1 2
    → lying.entry (lying.after d (Write again e)) (e.header.op % 64) ≡ Some e
written_reads d again e long w few = face_reads d.version d.face again e long w few

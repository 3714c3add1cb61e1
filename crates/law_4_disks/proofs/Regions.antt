-- Which sectors the calls of each effect write.
use Rattle.std.proofs.Common.{ℕ, zero, suc, ◌+◌, ◌*◌, ◌≤◌, ◌<◌, ◌≢◌, ◌⊎◌, inl, inr, arith, true, false, cond, List, [], ◌∷◌}
use Rattle.std.specs.List.{AllByRecursion}
use Rattle.std.proofs.lemmas.Bool.{cases_lt}
use Rattle.vr_disk.specs.DiskState.{Call, Write, Sync, Face}
use Rattle.vr_disk.specs.Regions.{block_place, prepare_place, prepare_sectors}
use Rattle.vr_disk.specs.Sectors.{has, writes}
use Rattle.vr_disk.proofs.Places.{behind_headers, grid_apart, in_order}
use Rattle.vr_disk.proofs.Together.{Within, writes_within}
use Rattle.vr_header.specs.declared.header.Header.{Header}
use Rattle.vr_header.specs.Made.{Whole}
use Rattle.vr_super.specs.Copies.{SuperValue, copy_bytes}
use Rattle.vr_super.specs.Opens.{copy_reading}
use Rattle.vr_super.specs.Calls.{copy_calls, mend_calls, mend_copy, mend_from, mend_unless, save_from, write_calls}
use Rattle.vr_super.proofs.Readings.{copy_within, mend_within}
use Rattle.vr_rings.specs.Calls.{again_calls, header_calls, new_calls, prepare_calls}
use Rattle.vr_rings.specs.Slots.{prepare_bytes, slot_of}
use Rattle.vr_rings.proofs.Cutting.{AllApart}
use Rattle.vr_ckpt.specs.Grid.{block_calls, put_calls}
use Rattle.vr_ckpt.specs.declared.block.Block.{Block}
use Rattle.vr_ckpt.specs.Saves.{blocks_calls, save_calls, written}
use Rattle.vr_state.specs.declared.texts.Texts.{Texts}
use Rattle.vr_ckpt.specs.declared.table.PayloadTable.{PayloadTable}
use Rattle.vr_rules.proofs.FitDisks.{grid_behind}
use Rattle.law_4_disks.proofs.Slots.{apart_append, within_low}
use Rattle.law_4_disks.proofs.Supers.{From, from_append, writes_from}

-- ---- the superblock's

mends_apart : (ver n k slot : ℕ) (b : List ℕ) (f : Face) → k + n ≤ 4 → AllByRecursion (AllApart ver slot) (mend_from k n b f)
unfolding mend_from
mends_apart ver zero k slot b f m = tt
mends_apart ver (suc n) k slot b f m =
    let one : AllByRecursion (AllApart ver slot) (mend_unless k b f) =
    elim (has b (copy_reading f k)) as (λ t. AllByRecursion (AllApart ver slot) (cond t [] (mend_copy k b))) [ true ↦ tt | false ↦ within_low ver (20 * k) (20 * k + 20) slot (mend_copy k b) (omega arith) (mend_within k b) ] in
    apart_append ver slot (mend_unless k b f) (mend_from (k + 1) n b f) one (mends_apart ver n (k + 1) slot b f (omega arith))

saves_apart : (ver n k slot : ℕ) (b : List ℕ) → k + n ≤ 4 → AllByRecursion (AllApart ver slot) (save_from k n b)
unfolding save_from
saves_apart ver zero k slot b m = tt
saves_apart ver (suc n) k slot b m = apart_append ver slot (copy_calls k b) (save_from (k + 1) n b) (within_low ver (20 * k) (20 * k + 20) slot (copy_calls k b) (omega arith) (copy_within k b)) (saves_apart ver n (k + 1) slot b (omega arith))

pub mend_apart : (ver : ℕ) (v : SuperValue) (f : Face) (slot : ℕ) → AllByRecursion (AllApart ver slot) (mend_calls v f)
mend_apart ver v f slot = mends_apart ver 4 0 slot (copy_bytes v) f (omega arith)

pub write_apart : (ver : ℕ) (old new : SuperValue) (f : Face) (slot : ℕ) → AllByRecursion (AllApart ver slot) (write_calls old new f)
write_apart ver old new f slot = apart_append ver slot (mend_calls old f) (save_from 0 4 (copy_bytes new)) (mend_apart ver old f slot) (saves_apart ver 4 0 slot (copy_bytes new) (omega arith))

-- ---- the grid's

-- no slot shares a sector with a block
within_grid : (ver slot address : ℕ) (cs : List Call) → slot < 64 → AllByRecursion (Within (block_place address) (block_place address + 8)) cs → AllByRecursion (AllApart ver slot) cs
unfolding Within
within_grid ver slot address [] l w = tt
within_grid ver slot address (Sync ∷ cs) l w = (tt, within_grid ver slot address cs l w.1)
within_grid ver slot address (Write i b ∷ cs) l w =
    let p = w.0 in
    let behind = grid_behind address in
    let other : (i < prepare_place ver slot) ⊎ (prepare_place ver slot + prepare_sectors ver ≤ i) = elim (grid_apart ver slot address l) [ inl low ↦ inr (omega (arith, low, p)) | inr high ↦ inl (omega (arith, high, p)) ] in
    (((λ e. omega (arith, behind, p, l)), other), within_grid ver slot address cs l w.1)

block_apart : (ver slot address : ℕ) (b : List ℕ) → slot < 64 → AllByRecursion (AllApart ver slot) (block_calls address b)
unfolding block_calls
block_apart ver slot address b l =
    let at = block_place address in
    within_grid ver slot address (writes at 8 b) l (writes_within at (at + 8) 8 at b (omega arith) (omega arith))

pub put_apart : (ver slot address : ℕ) (b : List ℕ) → slot < 64 → AllByRecursion (AllApart ver slot) (put_calls address b)
unfolding put_calls
put_apart ver slot address b l = apart_append ver slot (block_calls address b) (Sync ∷ []) (block_apart ver slot address b l) (tt, tt)

blocks_apart : (ver slot : ℕ) (bs : List Block) → slot < 64 → AllByRecursion (AllApart ver slot) (blocks_calls bs)
unfolding blocks_calls
blocks_apart ver slot [] l = tt
blocks_apart ver slot (b ∷ bs) l = apart_append ver slot (block_calls b.name.address b.bytes) (blocks_calls bs) (block_apart ver slot b.name.address b.bytes l) (blocks_apart ver slot bs l)

pub checkpoint_apart : (ver slot cluster : ℕ) (texts : Texts) (op : ℕ) (old : PayloadTable) → slot < 64 → AllByRecursion (AllApart ver slot) (save_calls cluster texts op old)
unfolding save_calls
checkpoint_apart ver slot cluster texts op old l =
    let bs = written cluster texts op old in
    apart_append ver slot (blocks_calls bs) (Sync ∷ []) (blocks_apart ver slot bs l) (tt, tt)

pub from_less : (low high : ℕ) (cs : List Call) → low ≤ high → AllByRecursion (From high) cs → AllByRecursion (From low) cs
from_less low high [] l a = tt
from_less low high (Sync ∷ cs) l a = (tt, from_less low high cs l a.1)
from_less low high (Write i b ∷ cs) l a = let x = a.0 in (omega arith, from_less low high cs l a.1)

block_from : (address : ℕ) (b : List ℕ) → AllByRecursion (From 400) (block_calls address b)
unfolding block_calls
block_from address b = writes_from 8 (block_place address) 400 b (grid_behind address)

pub put_from : (address : ℕ) (b : List ℕ) → AllByRecursion (From 400) (put_calls address b)
unfolding put_calls
put_from address b = from_append 400 (block_calls address b) (Sync ∷ []) (block_from address b) (tt, tt)

blocks_from : (bs : List Block) → AllByRecursion (From 400) (blocks_calls bs)
unfolding blocks_calls
blocks_from [] = tt
blocks_from (b ∷ bs) = from_append 400 (block_calls b.name.address b.bytes) (blocks_calls bs) (block_from b.name.address b.bytes) (blocks_from bs)

pub checkpoint_from : (cluster : ℕ) (texts : Texts) (op : ℕ) (old : PayloadTable) → AllByRecursion (From 400) (save_calls cluster texts op old)
unfolding save_calls
checkpoint_from cluster texts op old = from_append 400 (blocks_calls (written cluster texts op old)) (Sync ∷ []) (blocks_from (written cluster texts op old)) (tt, tt)

-- ---- the rings'

prepare_from : (ver : ℕ) (e : Whole) → AllByRecursion (From 80) (prepare_calls ver e)
unfolding prepare_calls
prepare_from ver e =
    let at = prepare_place ver (slot_of e.header) in
    let n = prepare_sectors ver in
    let behind = behind_headers ver (slot_of e.header) in
    from_append 80 (writes at n (prepare_bytes e)) (Sync ∷ []) (writes_from n at 80 (prepare_bytes e) (omega (arith, behind))) (tt, tt)

pub header_from : (h : Header) → AllByRecursion (From 80) (header_calls h)
unfolding header_calls
header_from h = (omega arith, (tt, tt))

pub new_from : (ver : ℕ) (e : Whole) → AllByRecursion (From 80) (new_calls ver e)
new_from ver e = from_append 80 (prepare_calls ver e) (header_calls e.header) (prepare_from ver e) (header_from e.header)

pub again_from : (ver : ℕ) (e : Whole) → AllByRecursion (From 80) (again_calls ver e)
again_from ver e = from_append 80 (header_calls e.header) (prepare_calls ver e) (header_from e.header) (prepare_from ver e)

ring_apart : (ver s slot : ℕ) (cs : List Call) → s < 64 → slot < 64 → s ≢ slot → AllByRecursion (Within (prepare_place ver s) (prepare_place ver s + prepare_sectors ver)) cs → AllByRecursion (AllApart ver slot) cs
unfolding Within
ring_apart ver s slot [] a b d w = tt
ring_apart ver s slot (Write i x ∷ cs) a b d w =
    let p = w.0 in
    let behind = behind_headers ver s in
    let other : (i < prepare_place ver slot) ⊎ (prepare_place ver slot + prepare_sectors ver ≤ i) = elim (cases_lt s slot) [
      | inl l ↦ let o = in_order ver s slot l in inl (omega (arith, o, p))
      | inr g ↦ let less : slot < s = omega (arith, g, d) in let o = in_order ver slot s less in inr (omega (arith, o, p))
    ] in
    (((λ e. omega (arith, b, behind, p)), other), ring_apart ver s slot cs a b d w.1)
ring_apart ver s slot (Sync ∷ cs) a b d w = (tt, ring_apart ver s slot cs a b d w.1)

prepare_apart : (ver : ℕ) (e : Whole) (slot : ℕ) → slot < 64 → slot_of e.header ≢ slot → AllByRecursion (AllApart ver slot) (prepare_calls ver e)
unfolding prepare_calls
prepare_apart ver e slot l d =
    let at = prepare_place ver (slot_of e.header) in
    let n = prepare_sectors ver in
    apart_append ver slot (writes at n (prepare_bytes e)) (Sync ∷ []) (ring_apart ver (slot_of e.header) slot (writes at n (prepare_bytes e)) (omega arith) l d (writes_within at (at + n) n at (prepare_bytes e) (omega arith) (omega arith))) (tt, tt)

pub header_apart : (ver : ℕ) (h : Header) (slot : ℕ) → slot < 64 → slot_of h ≢ slot → AllByRecursion (AllApart ver slot) (header_calls h)
unfolding header_calls
header_apart ver h slot l d = let behind = behind_headers ver slot in (((λ e. d (omega arith)), inl (omega (arith, behind))), (tt, tt))

pub new_apart : (ver : ℕ) (e : Whole) (slot : ℕ) → slot < 64 → slot_of e.header ≢ slot → AllByRecursion (AllApart ver slot) (new_calls ver e)
new_apart ver e slot l d = apart_append ver slot (prepare_calls ver e) (header_calls e.header) (prepare_apart ver e slot l d) (header_apart ver e.header slot l d)

pub again_apart : (ver : ℕ) (e : Whole) (slot : ℕ) → slot < 64 → slot_of e.header ≢ slot → AllByRecursion (AllApart ver slot) (again_calls ver e)
again_apart ver e slot l d = apart_append ver slot (header_calls e.header) (prepare_calls ver e) (header_apart ver e.header slot l d) (prepare_apart ver e slot l d)

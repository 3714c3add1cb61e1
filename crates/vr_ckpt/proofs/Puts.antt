-- A block that is put: what it reads as, and what else stays.
use Rattle.std.proofs.Common.{ℕ, ◌+◌, ◌<◌, ◌≡◌, arith, refl, ap, ◌∙◌, true, List, [], ◌∷◌, length, Option, Some, None}
use Rattle.std.specs.Prelude.{IfSome, is_some}
use Rattle.std.specs.List.{AllByRecursion}
use Rattle.std.proofs.lemmas.List.{take_all}
use Rattle.vr_disk.specs.DiskState.{Disk, Face, IsFace, Sync, after_all}
use Rattle.vr_disk.specs.Regions.{block_place, sectors}
use Rattle.vr_disk.specs.Sectors.{together}
use Rattle.vr_disk.proofs.Frames.{frame_all, frame_cut}
use Rattle.vr_disk.proofs.Telling.{if_some, some_if}
use Rattle.vr_disk.proofs.Together.{Within, after_all_append, together_synced, together_written, within_append, within_spares, writes_within}
use Rattle.vr_ckpt.specs.Blocks.{named}
use Rattle.vr_ckpt.specs.Grid.{block_calls, block_reading, put_calls}
use Rattle.vr_ckpt.specs.GridLaws.{PutLaw, PutLeaves}
use Rattle.vr_ckpt.specs.Places.{grid_size}
use Rattle.vr_ckpt.specs.declared.name.Name.{Name}
use Rattle.vr_ckpt.proofs.Placing.{block_inside}
use Rattle.vr_ckpt.proofs.Contents.{named_found, read_of, fits_address}

-- a block's sectors, written
pub written_reads : (address : ℕ) (bytes : List ℕ) (f : Face) → address < grid_size → length bytes ≡ 4096 → length f.cells ≡ sectors → block_reading (after_all f (block_calls address bytes)) address ≡ Some bytes
unfolding block_reading block_calls
written_reads address bytes f a l n =
    let inside = block_inside address a in
    together_written 8 (block_place address) bytes f (omega arith) ∙ ap Some (take_all 4096 bytes (omega arith))

pub block_within : (address : ℕ) (bytes : List ℕ) → AllByRecursion (Within (block_place address) (block_place address + 8)) (block_calls address bytes)
unfolding block_calls
block_within address bytes = writes_within (block_place address) (block_place address + 8) 8 (block_place address) bytes (omega arith) (omega arith)

put_within : (address : ℕ) (bytes : List ℕ) → AllByRecursion (Within (block_place address) (block_place address + 8)) (put_calls address bytes)
unfolding put_calls Within
put_within address bytes = within_append (block_place address) (block_place address + 8) (block_calls address bytes) (Sync ∷ []) (block_within address bytes) (tt, tt)

pub put_law : PutLaw
unfolding put_calls block_reading
put_law address bytes f a l h w = record {
  done = ap (together (block_place address) 8) (after_all_append (block_calls address bytes) (Sync ∷ []) f)
      ∙ (together_synced 8 (block_place address) (after_all f (block_calls address bytes)) ∙ written_reads address bytes f a l h.count);
  others = λ i o.
      let s = within_spares (block_place address) (block_place address + 8) (put_calls address bytes) i (put_within address bytes) o in
      (frame_all (put_calls address bytes) f i s, λ j code. frame_cut (put_calls address bytes) f i j code s (rw w refl));
}

-- a whole block of a name
pub some_there : {X : Type 0} → (o : Option X) → is_some o ≡ true → (x : X) × (o ≡ Some x)
some_there None e = absurd cc
some_there (Some x) e = (x, refl)

pub name_fits : (name : Name) (b : List ℕ) → is_some (named name b) ≡ true → (name.address < grid_size) × (length b ≡ 4096)
name_fits name b e =
    let p = some_there (named name b) e in
    let q = named_found name b p.0 p.1 in
    let r = read_of b p.0 q.0 in
    let a = fits_address b p.0 q.0 in
    let s : p.0.address ≡ name.address = ap (λ (n : Name). n.address) q.1 in
    (omega arith, r.size)

pub puts : (t : Option Disk) (name : Name) (b : List ℕ) → IfSome t (λ (d : Disk). IsFace d.face) → is_some (named name b) ≡ true
    → IfSome t (λ (d : Disk). d.face.waiting ≡ [] → PutLeaves name.address b d.face)
puts t name b h e =
    let p = name_fits name b e in
    if_some (λ (d : Disk). d.face.waiting ≡ [] → PutLeaves name.address b d.face) t (λ d s w. put_law name.address b d.face p.0 p.1 (some_if (λ (d : Disk). IsFace d.face) t d h s) w)

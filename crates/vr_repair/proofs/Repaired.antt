-- What a copy that comes makes good.
use Rattle.vr_ckpt.specs.Places.{grid_size}
use Rattle.std.proofs.Common.{arith, ◌≡◌, ◌≤◌, ◌<◌, ◌+◌, ◌-◌, ◌∙◌, refl, sym, subst, ℕ, Bool, true, false, not, cond, filter, set, List, [], ◌∷◌, Some, None, is_some}
use Rattle.std.specs.Prelude.{find, ◌==◌}
use Rattle.std.proofs.lemmas.Bool.{lt-ltb}
use Rattle.vr_disk.specs.DiskState as disk
use Rattle.vr_disk.specs.DiskState.{Face, Fate, IsFace, nothing_beside}
use Rattle.vr_ckpt.specs.Blocks.{named}
use Rattle.vr_ckpt.specs.Grid.{block_reading, named_at, put_calls}
use Rattle.vr_ckpt.specs.declared.name.Name.{Name}
use Rattle.vr_ckpt.proofs.Puts.{name_fits, put_law}
use Rattle.vr_header.specs.declared.part.Part.TheVariants.{Here}
use Rattle.vr_header.specs.Made.{Whole}
use Rattle.vr_volatile.specs.Ready.{IsReady, MayStore}
use Rattle.vr_rings.specs.Calls.{again_calls, new_calls}
use Rattle.vr_rings.specs.Slots.{IsWhole, Takes, slot_of, whole_in}
use Rattle.vr_rings.proofs.Leaving.{again_leaves, new_leaves}
use Rattle.vr_rules.specs.Replica.{Replica, head, part_at, version, with_part}
use Rattle.vr_rules.specs.Sectors.{block_in}
use Rattle.vr_rules.specs.Steps.{◌⨾◌, after_all, change, does}
use Rattle.vr_rules.specs.Words.{may_be_stored, stored, write}
use Rattle.vr_volatile.proofs.Memory.{entry_taken}
use Rattle.vr_rules.proofs.Heads.{Spans, forgetting_at, head_within, with_part_at, with_part_spans}
use Rattle.vr_rules.proofs.Keeping.{spans_of}
use Rattle.vr_repair.specs.Laws.{BlocksAreRepaired, EntriesAreRepaired}

-- ---- entries

-- an op above the checkpoint isn't forgotten when its entry is stored
stored_here : (e : Whole) (r : Replica) → IsReady r → MayStore e r → part_at (stored e r) e.header.op ≡ Here e.header
unfolding IsReady MayStore with_part
stored_here e r h m =
    let k : ℕ = e.header.op in
    let s = spans_of r h.sound in
    let q : Replica = record r { parts = set r.parts (k - r.first) (Here e.header) } in
    let t : Spans q = with_part_spans k (Here e.header) r s in
    let top : head q ≤ r.checkpoint + 64 = head_within q t in
    let above = m.above in
    let window = m.window in
    let reach = s.reach in
    let parts = s.parts in
    forgetting_at q k (omega (arith, top, above, reach)) ∙ with_part_at k (Here e.header) r (omega (arith, above, reach)) (omega (arith, window, parts))

-- the file of a replica that keeps its version still takes it
pub still_taken : (e : Whole) (r q : Replica) → IsReady r → MayStore e r → version q ≡ version r → e.header.version ≤ version q
still_taken e r q h m same = subst (λ v. e.header.version ≤ v) (sym same) (entry_taken e r h m).taken

calm : Fate
calm = record { fuse = None; made = 0; failing = []; dead = false }

entry_reads : (v : ℕ) (again : Bool) (e : Whole) (f : Face) → IsWhole e → Takes v e → IsFace f → f.waiting ≡ [] → whole_in v (disk.after_all f (cond again (again_calls v e) (new_calls v e))) (slot_of e.header) ≡ Some e
entry_reads v true e f w t h rest = (again_leaves v e (Some (record { face = f; fate = calm; beside = nothing_beside })) h w t rest).done.whole
entry_reads v false e f w t h rest = (new_leaves v e (Some (record { face = f; fate = calm; beside = nothing_beside })) h w t rest).done.whole

pub entries_repaired : EntriesAreRepaired
unfolding write ◌⨾◌ does change after_all
entries_repaired e r f h m w face rest = record {
  here = stored_here e r h m;
  reads = entry_reads (version r) (may_be_stored (part_at r e.header.op)) e f w (entry_taken e r h m) face rest;
}

-- ---- blocks

none_left : (name : Name) (names : List Name) → find (λ (m : Name). m.address == name.address) (filter (λ (m : Name). not (m.address == name.address)) names) ≡ None
none_left name [] = refl
none_left name (m ∷ names) =
    elim (m.address == name.address) as (λ b. (m.address == name.address) ≡ b → find (λ (x : Name). x.address == name.address) (cond (not b) (m ∷ filter (λ (x : Name). not (x.address == name.address)) names) (filter (λ (x : Name). not (x.address == name.address)) names)) ≡ None) [
      | true ↦ λ e. none_left name names
      | false ↦ λ e. rw e (none_left name names)
    ] refl

-- a whole block that its sectors read as is read under its name
pub block_there : (f : Face) (name : Name) (block : List ℕ) → is_some (named name block) ≡ true → name.address < grid_size → block_reading f name.address ≡ Some block → block_in f name ≡ Some block
unfolding named_at
block_there f name block n low read = rw (lt-ltb name.address grid_size low, read, n) refl

pub blocks_repaired : BlocksAreRepaired
unfolding after_all
blocks_repaired name block r f n face rest =
    let fits = name_fits name block n in
    let read = (put_law name.address block f fits.0 fits.1 face rest).done in
    record { gone = none_left name r.missing; reads = block_there (disk.after_all f (put_calls name.address block)) name block n fits.0 read }

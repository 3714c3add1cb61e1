-- What the effects of a step leave of the entries on a disk.
use Rattle.std.proofs.Common.{arith, ◌≡◌, ◌≢◌, ◌-◌, ◌*◌, ◌<◌, ◌≤◌, ◌%◌, refl, ap, ◌∙◌, ℕ, Bool, true, false, cond, eqb, List, [], ◌∷◌, ◌++◌, length, take, replicate, Some}
use Rattle.std.specs.Option.{option_and_then, option_map}
use Rattle.vr_disk.specs.DiskState as disk
use Rattle.vr_disk.specs.DiskState.{Call, Face, Sync}
use Rattle.vr_disk.specs.Regions.{prepare_sectors, sectors as sectors_count}
use Rattle.vr_disk.proofs.Places.{behind_headers, inside}
use Rattle.vr_disk.proofs.Together.{after_all_append, length_after_all}
use Rattle.vr_header.specs.declared.header.Header.{Header}
use Rattle.vr_header.specs.Made.{Whole}
use Rattle.vr_ckpt.specs.Grid.{block_calls, put_calls}
use Rattle.vr_super.specs.Calls.{mend_calls, write_calls}
use Rattle.vr_ckpt.specs.Saves.{blocks_calls, save_calls, written}
use Rattle.vr_rings.specs.Calls.{header_calls, prepare_calls}
use Rattle.vr_rings.specs.Slots.{IsWhole, padded, prepare_bytes, whole_in, whole_of}
use Rattle.vr_rings.proofs.Spelling.{padded_is, whole_again}
use Rattle.vr_world.specs.Lying.{Lying, lying}
use Rattle.vr_rules.specs.Sectors.{calls_by, sectors_by}
use Rattle.vr_rules.specs.Steps.{Effect, Write, Rewrite, Save, Mend, Checkpoint, PutBlock, Say, Setting}
use Rattle.vr_rules.proofs.FitDisks.{SparesSlots, apart, checkpoint_slots, front_reads, header_spares, mend_slots, prepare_spares, put_slots, same_entry, save_slots, slot_below}
use Rattle.law_repair.specs.Latest.{latest}

-- effects that write no slot
abbrev pub IsDry : Effect → Type 0
IsDry (Write again e) = ⊥
IsDry (Rewrite h) = ⊥
IsDry _ = Unit {0}

-- an entry of a version up to the latest that is taken reads at its slot, once it is written, and nothing else that a step does changes what a
-- slot reads as
pub record Stores {F : Type 0} (s : Setting F) (Fine : F → Type 0) : Type 0 where
  pub last : ℕ
  pub keeps : (f : F) (e : Effect) → Fine f → Fine (s.after f e)
  pub written : (f : F) (again : Bool) (e : Whole) → Fine f → IsWhole e → e.header.version ≤ last → s.entry (s.after f (Write again e)) (e.header.op % 64) ≡ Some e
  pub others : (f : F) (again : Bool) (e : Whole) (slot : ℕ) → slot ≢ e.header.op % 64 → s.entry (s.after f (Write again e)) slot ≡ s.entry f slot
  pub dry : (f : F) (e : Effect) (slot : ℕ) → IsDry e → slot < 64 → s.entry (s.after f e) slot ≡ s.entry f slot

-- calls that spare the slots leave what they read as
spared : (v : ℕ) (cs : List Call) (f : Face) (slot : ℕ) → slot < 64 → SparesSlots v cs → whole_in v (disk.after_all f cs) slot ≡ whole_in v f slot
spared v cs f slot l s = same_entry v cs f slot (λ k a b. s.prepare slot k (record { few = l; low = a; high = b }))

pub dry_effect : (v : ℕ) (f : Face) (e : Effect) (slot : ℕ) → IsDry e → slot < 64 → whole_in v (disk.after_all f (calls_by v e f)) slot ≡ whole_in v f slot
unfolding put_calls save_calls
dry_effect v f (Write again e) slot h l = absurd h
dry_effect v f (Rewrite e) slot h l = absurd h
dry_effect v f (Save old new) slot h l = spared v (write_calls old new f) f slot l (save_slots v old new f)
dry_effect v f (Mend value) slot h l = spared v (mend_calls value f) f slot l (mend_slots v value f)
dry_effect v f (Checkpoint cluster texts op old) slot h l = let bs = written cluster texts op old in spared v (blocks_calls bs ++ Sync ∷ []) f slot l (checkpoint_slots v bs)
dry_effect v f (PutBlock name block) slot h l = spared v (block_calls name.address block ++ Sync ∷ []) f slot l (put_slots v name.address block)
dry_effect v f (Say o) slot h l = refl

-- ---- an entry that is written

-- a header sector is no part of a prepare
pub header_entry : (v : ℕ) (h : Header) (f : Face) (slot : ℕ) → whole_in v (disk.after_all f (header_calls h)) slot ≡ whole_in v f slot
header_entry v h f slot =
    let b = slot_below h in
    let behind = behind_headers v slot in
    same_entry v (header_calls h) f slot (λ k m n. header_spares h k (λ q. omega (arith, q, b, behind, m)))

-- a file has room for the entries that it takes
room : (v : ℕ) (e : Whole) → IsWhole e → e.header.version ≤ latest v → padded v (take (512 * prepare_sectors v) (prepare_bytes e)) ≡ prepare_bytes e
room v e w =
    elim (eqb v 2) as (λ t. e.header.version ≤ cond t 2 1 → take (512 * cond t 8 4) (prepare_bytes e) ++ replicate (4096 - 512 * cond t 8 4) 0 ≡ prepare_bytes e) [
      | true ↦ λ few. padded_is 2 e w (record { most = omega arith; taken = few })
      | false ↦ λ few. padded_is 1 e w (record { most = omega arith; taken = few })
    ]

entry_there : (v : ℕ) (e : Whole) (f : Face) → length f.cells ≡ sectors_count → IsWhole e → e.header.version ≤ latest v → whole_in v (disk.after_all f (prepare_calls v e)) (e.header.op % 64) ≡ Some e
unfolding whole_in
entry_there v e f n w few =
    let fits = inside v (e.header.op % 64) (slot_below e.header) in
    ap (λ o. option_and_then whole_of (option_map (padded v) o)) (front_reads v e f (omega (arith, n, fits))) ∙ (ap whole_of (room v e w few) ∙ whole_again e w)

prepare_entry : (v : ℕ) (e : Whole) (f : Face) (slot : ℕ) → slot ≢ e.header.op % 64 → whole_in v (disk.after_all f (prepare_calls v e)) slot ≡ whole_in v f slot
prepare_entry v e f slot other = same_entry v (prepare_calls v e) f slot (λ k m n. prepare_spares v e k (apart v slot (e.header.op % 64) k other m n))

pub entry_written : (v : ℕ) (f : Face) (again : Bool) (e : Whole) → length f.cells ≡ sectors_count → IsWhole e → e.header.version ≤ latest v → whole_in v (disk.after_all f (calls_by v (Write again e) f)) (e.header.op % 64) ≡ Some e
entry_written v f true e n w few =
    let g = disk.after_all f (header_calls e.header) in
    ap (λ (x : Face). whole_in v x (e.header.op % 64)) (after_all_append (header_calls e.header) (prepare_calls v e) f) ∙ entry_there v e g (length_after_all (header_calls e.header) f ∙ n) w few
entry_written v f false e n w few =
    let g = disk.after_all f (prepare_calls v e) in
    ap (λ (x : Face). whole_in v x (e.header.op % 64)) (after_all_append (prepare_calls v e) (header_calls e.header) f) ∙ header_entry v e.header g (e.header.op % 64) ∙ entry_there v e f n w few

pub entry_spared : (v : ℕ) (f : Face) (again : Bool) (e : Whole) (slot : ℕ) → slot ≢ e.header.op % 64 → whole_in v (disk.after_all f (calls_by v (Write again e) f)) slot ≡ whole_in v f slot
entry_spared v f true e slot other =
    ap (λ (x : Face). whole_in v x slot) (after_all_append (header_calls e.header) (prepare_calls v e) f) ∙ prepare_entry v e (disk.after_all f (header_calls e.header)) slot other ∙ header_entry v e.header f slot
entry_spared v f false e slot other =
    ap (λ (x : Face). whole_in v x slot) (after_all_append (prepare_calls v e) (header_calls e.header) f) ∙ header_entry v e.header (disk.after_all f (prepare_calls v e)) slot ∙ prepare_entry v e f slot other

-- ---- the disks of the program

abbrev pub IsLong : Face → Type 0
IsLong f = length f.cells ≡ sectors_count

unfoldable pub sectors_store : (v : ℕ) → Stores (sectors_by v) IsLong
sectors_store v = record {
  last = latest v;
  keeps = λ f e n. length_after_all (calls_by v e f) f ∙ n;
  written = λ f again e n w few. entry_written v f again e n w few;
  others = λ f again e slot other. entry_spared v f again e slot other;
  dry = λ f e slot h l. dry_effect v f e slot h l;
}

-- a disk that lies, of a file that takes entries up to this version
abbrev pub HasRoom : ℕ → Lying → Type 0
HasRoom v d = IsLong d.face × (v ≤ latest d.version)

unfoldable pub lying_stores : (v : ℕ) → Stores lying (HasRoom v)
lying_stores v = record {
  last = v;
  keeps = λ d e n. (length_after_all (calls_by d.version e d.face) d.face ∙ n.0, n.1);
  written = λ d again e n w few. let most = n.1 in entry_written d.version d.face again e n.0 w (omega (arith, few, most));
  others = λ d again e slot other. entry_spared d.version d.face again e slot other;
  dry = λ d e slot h l. dry_effect d.version d.face e slot h l;
}

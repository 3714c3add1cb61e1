-- What effects leave of the blocks of the grid, and of the copies of the superblock.
use Rattle.std.proofs.Common.{arith, ℕ, zero, suc, ◌+◌, ◌*◌, ◌≡◌, ◌≢◌, ◌<◌, ◌≤◌, ◌∙◌, ◌⊎◌, inl, inr, refl, sym, ap, subst, Bool, true, false, cond, List, [], ◌∷◌, ◌++◌, length, Option, Some, None, is_some}
use Rattle.std.specs.Prelude.{nat_lt}
use Rattle.std.specs.List.{AllByRecursion}
use Rattle.std.specs.Option.{option_and_then}
use Rattle.std.proofs.lemmas.Bool.{cases_eq, lt-ltb}
use Rattle.vr_disk.specs.DiskState as disk
use Rattle.vr_disk.specs.DiskState.{Call, Face, Sync}
use Rattle.vr_disk.specs.Regions.{block_place}
use Rattle.vr_disk.specs.Sectors.{behind, has, together}
use Rattle.vr_disk.specs.Stops.{Spares}
use Rattle.vr_disk.proofs.Places.{behind_headers, grid_apart}
use Rattle.vr_disk.proofs.Together.{after_all_append, has_is, length_after_all, spares_append, together_same, together_synced, within_spares}
use Rattle.vr_ckpt.specs.Blocks.{named}
use Rattle.vr_ckpt.specs.Grid.{block_calls, block_reading, named_at, put_calls}
use Rattle.vr_ckpt.specs.Places.{grid_size}
use Rattle.vr_ckpt.specs.declared.name.Name.{Name}
use Rattle.vr_ckpt.proofs.Placing.{blocks_apart}
use Rattle.vr_ckpt.proofs.Puts.{block_within, name_fits, written_reads}
use Rattle.vr_header.specs.declared.header.Header.{Header}
use Rattle.vr_header.specs.Made.{Whole}
use Rattle.vr_ckpt.specs.Saves.{blocks_calls, save_calls, written}
use Rattle.vr_rings.specs.Calls.{header_calls, prepare_calls}
use Rattle.vr_rings.specs.Slots.{slot_of}
use Rattle.vr_super.specs.Calls.{copy_calls, mend_calls, mend_copy, mend_from, mend_unless, save_from, write_calls}
use Rattle.vr_super.specs.Copies.{IsGood, SuperValue, copy_bytes}
use Rattle.vr_super.specs.Laws.{AllRead}
use Rattle.vr_super.specs.Opens.{copy_reading}
use Rattle.vr_super.proofs.Format.{length-copy_bytes}
use Rattle.vr_super.proofs.Keeping.{copy_done, mend_done}
use Rattle.vr_super.proofs.Readings.{copy_within, mend_within, other_after}
use Rattle.vr_world.specs.Lying.{lying}
use Rattle.vr_rules.specs.Sectors.{block_in, calls_by, sectors_by}
use Rattle.vr_rules.specs.Steps.{Effect, Write, Rewrite, Save, Mend, Checkpoint, PutBlock, Say, Setting}
use Rattle.vr_rules.proofs.FitDisks.{block_spares, blocks_spare, grid_behind, header_spares, mend_spares, same_reads, save_spares, prepare_spares, slot_below}
use Rattle.law_repair.proofs.Disks.{HasRoom, IsLong}
use Rattle.law_repair.proofs.Standing.{SparesGrid}

-- ---- a disk that holds what was put and saved

-- effects that neither save nor mend
abbrev pub SparesCopies : Effect → Type 0
SparesCopies (Save old new) = ⊥
SparesCopies (Mend v) = ⊥
SparesCopies _ = Unit {0}

pub record Holds {F : Type 0} (s : Setting F) (Fine : F → Type 0) (Copies : F → SuperValue → Type 0) : Type 0 where
  pub block : (f : F) (e : Effect) (name : Name) → SparesGrid e → s.block (s.after f e) name ≡ s.block f name
  pub put : (f : F) (name : Name) (b : List ℕ) → Fine f → s.is_block name b ≡ true → s.block (s.after f (PutBlock name b)) name ≡ Some b
  pub beside : (f : F) (name other : Name) (b : List ℕ) → s.is_block name b ≡ true → other.address ≢ name.address → s.block (s.after f (PutBlock name b)) other ≡ s.block f other
  pub copies : (f : F) (e : Effect) (v : SuperValue) → SparesCopies e → Copies f v → Copies (s.after f e) v
  pub saved : (f : F) (old new : SuperValue) → Fine f → IsGood new → Copies (s.after f (Save old new)) new
  pub mended : (f : F) (v : SuperValue) → Fine f → IsGood v → Copies (s.after f (Mend v)) v

-- ---- blocks

-- what the bytes at its address show of a name
abbrev shown : Name → Option (List ℕ) → Option (List ℕ)
shown name o = cond (is_some (cond (nat_lt name.address grid_size) (option_and_then (named name) o) None)) o None

shows : (f : Face) (name : Name) → block_in f name ≡ shown name (block_reading f name.address)
unfolding named_at
shows f name = refl

block_spared : (cs : List Call) (f : Face) (name : Name) → ((i : ℕ) → block_place name.address ≤ i → i < block_place name.address + 8 → AllByRecursion (Spares i) cs)
    → block_in (disk.after_all f cs) name ≡ block_in f name
unfolding block_reading
block_spared cs f name h =
    let same : block_reading (disk.after_all f cs) name.address ≡ block_reading f name.address =
    together_same 8 (block_place name.address) f (disk.after_all f cs) (λ k a b. same_reads cs f k (h k a b)) in
    shows (disk.after_all f cs) name ∙ (ap (shown name) same ∙ sym (shows f name))

-- a sector of a block
record IsOf (address i : ℕ) : Type 0 where
  low : block_place address ≤ i
  high : i < block_place address + 8

header_high : (h : Header) (address i : ℕ) → IsOf address i → AllByRecursion (Spares i) (header_calls h)
header_high h address i is = let b = slot_below h in let high = grid_behind address in header_spares h i (λ q. omega (arith, q, b, high, is.low))

prepare_high : (v : ℕ) (e : Whole) (address i : ℕ) → IsOf address i → AllByRecursion (Spares i) (prepare_calls v e)
prepare_high v e address i is =
    prepare_spares v e i (elim (grid_apart v (slot_of e.header) address (slot_below e.header)) [ inl below ↦ inr (omega (arith, below, is.low)) | inr above ↦ inl (omega (arith, above, is.high)) ])

grid_spared : (v : ℕ) (e : Effect) (f : Face) (address i : ℕ) → SparesGrid e → IsOf address i → AllByRecursion (Spares i) (calls_by v e f)
grid_spared v (Write true e) f a i h l = spares_append i (header_calls e.header) (prepare_calls v e) (header_high e.header a i l) (prepare_high v e a i l)
grid_spared v (Write false e) f a i h l = spares_append i (prepare_calls v e) (header_calls e.header) (prepare_high v e a i l) (header_high e.header a i l)
grid_spared v (Rewrite x) f a i h l = header_high x a i l
grid_spared v (Save old new) f a i h l =
    let high = grid_behind a in
    spares_append i (mend_calls old f) (save_from 0 4 (copy_bytes new)) (mend_spares 4 0 i (copy_bytes old) f (omega arith) (omega (arith, high, l.low))) (save_spares 4 0 i (copy_bytes new) (omega arith) (omega (arith, high, l.low)))
grid_spared v (Mend value) f a i h l = let high = grid_behind a in mend_spares 4 0 i (copy_bytes value) f (omega arith) (omega (arith, high, l.low))
grid_spared v (Checkpoint cluster texts op old) f a i h l = absurd h
grid_spared v (PutBlock name block) f a i h l = absurd h
grid_spared v (Say o) f a i h l = tt

block_kept : (v : ℕ) (f : Face) (e : Effect) (name : Name) → SparesGrid e → block_in (disk.after_all f (calls_by v e f)) name ≡ block_in f name
block_kept v f e name h = block_spared (calls_by v e f) f name (λ i a b. grid_spared v e f name.address i h (record { low = a; high = b }))

pub grid_reads : (v : ℕ) (f : Face) (e : Effect) (address : ℕ) → SparesGrid e → block_reading (disk.after_all f (calls_by v e f)) address ≡ block_reading f address
unfolding block_reading
grid_reads v f e address h = together_same 8 (block_place address) f (disk.after_all f (calls_by v e f)) (λ k a b. same_reads (calls_by v e f) f k (grid_spared v e f address k h (record { low = a; high = b })))

put_reads : (f : Face) (name : Name) (b : List ℕ) → IsLong f → is_some (named name b) ≡ true → block_in (disk.after_all f (put_calls name.address b)) name ≡ Some b
unfolding put_calls block_reading
put_reads f name b long whole =
    let fits = name_fits name b whole in
    let calls = block_calls name.address b in
    let g : Face = disk.after_all f (calls ++ Sync ∷ []) in
    let reading : block_reading g name.address ≡ Some b =
    ap (together (block_place name.address) 8) (after_all_append calls (Sync ∷ []) f)
    ∙ (together_synced 8 (block_place name.address) (disk.after_all f calls) ∙ written_reads name.address b f fits.0 fits.1 long) in
    shows g name ∙ (ap (shown name) reading
    ∙ (ap (λ (t : Bool). cond (is_some (cond t (named name b) None)) (Some b) None) (lt-ltb name.address grid_size fits.0) ∙ ap (λ (t : Bool). cond t (Some b) None) whole))

put_beside : (f : Face) (name other : Name) (b : List ℕ) → is_some (named name b) ≡ true → other.address ≢ name.address
    → block_in (disk.after_all f (put_calls name.address b)) other ≡ block_in f other
unfolding put_calls
put_beside f name other b whole apart =
    let low = block_place name.address in
    let calls = block_calls name.address b in
    block_spared (calls ++ Sync ∷ []) f other (λ i x y.
    let outside : (i < low) ⊎ (low + 8 ≤ i) = elim (blocks_apart other.address name.address apart) [
      | inl before ↦ inl (omega (arith, y, before))
      | inr behind ↦ inr (omega (arith, x, behind))
    ] in
    spares_append i calls (Sync ∷ []) (within_spares low (low + 8) calls i (block_within name.address b) outside) (tt, tt))

-- ---- copies

copies_spared : (cs : List Call) (f : Face) (v : SuperValue) → ((i : ℕ) → i < 80 → AllByRecursion (Spares i) cs) → AllRead f v → AllRead (disk.after_all f cs) v
unfolding copy_reading
copies_spared cs f v h read = λ c l. together_same 20 (20 * c) f (disk.after_all f cs) (λ k a b. same_reads cs f k (h k (omega (arith, b, l)))) ∙ read c l

header_low : (h : Header) (i : ℕ) → i < 80 → AllByRecursion (Spares i) (header_calls h)
header_low h i l = header_spares h i (λ q. omega (arith, q, l))

prepare_low : (v : ℕ) (e : Whole) (i : ℕ) → i < 80 → AllByRecursion (Spares i) (prepare_calls v e)
prepare_low v e i l = let behind = behind_headers v (slot_of e.header) in prepare_spares v e i (inl (omega (arith, l, behind)))

low_spared : (v : ℕ) (e : Effect) (f : Face) (i : ℕ) → SparesCopies e → i < 80 → AllByRecursion (Spares i) (calls_by v e f)
unfolding put_calls save_calls
low_spared v (Write true e) f i h l = spares_append i (header_calls e.header) (prepare_calls v e) (header_low e.header i l) (prepare_low v e i l)
low_spared v (Write false e) f i h l = spares_append i (prepare_calls v e) (header_calls e.header) (prepare_low v e i l) (header_low e.header i l)
low_spared v (Rewrite x) f i h l = header_low x i l
low_spared v (Save old new) f i h l = absurd h
low_spared v (Mend value) f i h l = absurd h
low_spared v (Checkpoint cluster texts op old) f i h l =
    spares_append i (blocks_calls (written cluster texts op old)) (Sync ∷ []) (blocks_spare (written cluster texts op old) i (omega (arith, l))) (tt, tt)
low_spared v (PutBlock name block) f i h l = spares_append i (block_calls name.address block) (Sync ∷ []) (block_spares name.address i block (omega (arith, l))) (tt, tt)
low_spared v (Say o) f i h l = tt

copies_kept : (v : ℕ) (f : Face) (e : Effect) (value : SuperValue) → SparesCopies e → AllRead f value → AllRead (disk.after_all f (calls_by v e f)) value
copies_kept v f e value h read = copies_spared (calls_by v e f) f value (λ i l. low_spared v e f i h l) read

-- so many copies read as these bytes
record ReadTo (bytes : List ℕ) (k : ℕ) (f : Face) : Type 0 where
  count : IsLong f
  done : (c : ℕ) → c < k → copy_reading f c ≡ Some bytes

saves_read : (n k : ℕ) (bytes : List ℕ) (f : Face) → length bytes ≡ 10240 → k + n ≡ 4 → ReadTo bytes k f → ReadTo bytes 4 (disk.after_all f (save_from k n bytes))
unfolding save_from
saves_read zero k bytes f size e to = let four : k ≡ 4 = omega (arith, e) in subst (λ c. ReadTo bytes c f) four to
saves_read (suc n) k bytes f size e to =
    let calls = copy_calls k bytes in
    let g : Face = disk.after_all f calls in
    let low : k < 4 = omega (arith, e) in
    let next : ReadTo bytes (k + 1) g = record {
      count = length_after_all calls f ∙ to.count;
      done = λ c l. elim (cases_eq c k) [
        | inl same ↦ ap (copy_reading g) same ∙ copy_done bytes f k size to.count low
        | inr other ↦ other_after calls f k c (copy_within k bytes) (λ s. other (sym s)) ∙ to.done c (omega (arith, l, other))
      ];
    } in
    subst (ReadTo bytes 4) (sym (after_all_append calls (save_from (k + 1) n bytes) f)) (saves_read n (k + 1) bytes g size (omega (arith, e)) next)

saved_reads : (f : Face) (old new : SuperValue) → IsLong f → IsGood new → AllRead (disk.after_all f (write_calls old new f)) new
saved_reads f old new long good =
    let bytes = copy_bytes new in
    let g : Face = disk.after_all f (mend_calls old f) in
    let start : ReadTo bytes 0 g = record { count = length_after_all (mend_calls old f) f ∙ long; done = λ c l. absurd (omega (arith, l)) } in
    let all = saves_read 4 0 bytes g (length-copy_bytes new good) (omega arith) start in
    λ c l. ap (λ (x : Face). copy_reading x c) (after_all_append (mend_calls old f) (save_from 0 4 bytes) f) ∙ all.done c l

-- the copies after those read as they did
record MendedTo (bytes : List ℕ) (f : Face) (k : ℕ) (g : Face) : Type 0 where
  to : ReadTo bytes k g
  left : (c : ℕ) → k ≤ c → c < 4 → copy_reading g c ≡ copy_reading f c

mended_next : (bytes : List ℕ) (f g : Face) (k : ℕ) → length bytes ≡ 10240 → k < 4 → MendedTo bytes f k g → MendedTo bytes f (k + 1) (disk.after_all g (mend_unless k bytes f))
mended_next bytes f g k size low m =
    elim (has bytes (copy_reading f k)) as (λ b. has bytes (copy_reading f k) ≡ b → MendedTo bytes f (k + 1) (disk.after_all g (cond b [] (mend_copy k bytes)))) [
      | true ↦ λ h. record {
        to = record {
          count = m.to.count;
          done = λ c a. elim (cases_eq c k) [
            | inl e ↦ ap (copy_reading g) e ∙ (m.left k (omega arith) low ∙ has_is bytes (copy_reading f k) h)
            | inr d ↦ m.to.done c (omega (arith, a, d))
          ];
        };
        left = λ c a b. m.left c (omega (arith, a)) b;
      }
      | false ↦ λ h.
          let calls = mend_copy k bytes in
          let within = mend_within k bytes in
          record {
            to = record {
              count = length_after_all calls g ∙ m.to.count;
              done = λ c a. elim (cases_eq c k) [
                | inl e ↦ ap (copy_reading (disk.after_all g calls)) e ∙ mend_done bytes g k size m.to.count low
                | inr d ↦ other_after calls g k c within (λ s. d (sym s)) ∙ m.to.done c (omega (arith, a, d))
              ];
            };
            left = λ c a b. other_after calls g k c within (λ s. absurd (omega (arith, a, s))) ∙ m.left c (omega (arith, a)) b;
          }
    ] refl

mends_read : (n k : ℕ) (bytes : List ℕ) (f g : Face) → length bytes ≡ 10240 → k + n ≡ 4 → MendedTo bytes f k g → MendedTo bytes f 4 (disk.after_all g (mend_from k n bytes f))
unfolding mend_from
mends_read zero k bytes f g size e m = let four : k ≡ 4 = omega (arith, e) in subst (λ c. MendedTo bytes f c g) four m
mends_read (suc n) k bytes f g size e m =
    let calls = mend_unless k bytes f in
    let next = mended_next bytes f g k size (omega (arith, e)) m in
    subst (MendedTo bytes f 4) (sym (after_all_append calls (mend_from (k + 1) n bytes f) g)) (mends_read n (k + 1) bytes f (disk.after_all g calls) size (omega (arith, e)) next)

mended_reads : (f : Face) (v : SuperValue) → IsLong f → IsGood v → AllRead (disk.after_all f (mend_calls v f)) v
mended_reads f v long good =
    let start : MendedTo (copy_bytes v) f 0 f = record { to = record { count = long; done = λ c l. absurd (omega (arith, l)) }; left = λ c a b. refl } in
    (mends_read 4 0 (copy_bytes v) f f (length-copy_bytes v good) (omega arith) start).to.done

-- ---- the disks of the program

pub sectors_hold : (v : ℕ) → Holds (sectors_by v) IsLong AllRead
sectors_hold v = record {
  block = λ f e name h. block_kept v f e name h;
  put = put_reads;
  beside = put_beside;
  copies = λ f e value h read. copies_kept v f e value h read;
  saved = saved_reads;
  mended = mended_reads;
}

pub lying_holds : (v : ℕ) → Holds lying (HasRoom v) (λ d. AllRead d.face)
lying_holds v = record {
  block = λ d e name h. block_kept d.version d.face e name h;
  put = λ d name b room whole. put_reads d.face name b room.0 whole;
  beside = λ d name other b whole apart. put_beside d.face name other b whole apart;
  copies = λ d e value h read. copies_kept d.version d.face e value h read;
  saved = λ d old new room good. saved_reads d.face old new room.0 good;
  mended = λ d value room good. mended_reads d.face value room.0 good;
}

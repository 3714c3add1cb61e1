-- What reads of blocks after an effect: a block that is put, or what read before.
use Rattle.std.proofs.Common.{ℕ, ◌+◌, ◌≤◌, ◌<◌, ◌≡◌, ◌≢◌, ◌∙◌, ◌⊎◌, inl, inr, arith, refl, sym, ap, subst, Bool, true, false, cond, ltb, List, [], ◌∷◌, ◌++◌, length, Option, Some, None}
use Rattle.std.specs.Prelude.{⊤, is_some}
use Rattle.std.specs.List.{AllByRecursion}
use Rattle.std.specs.Option.{option_and_then}
use Rattle.std.proofs.lemmas.Bool.{cases_eq, cases_lt, ltb-true, lt-ltb}
use Rattle.std.proofs.lemmas.List.{take_all}
use Rattle.vr_disk.specs.DiskState as disk
use Rattle.vr_disk.specs.DiskState.{Call, Cell, Face, Sync}
use Rattle.vr_disk.specs.Regions.{block_place}
use Rattle.vr_disk.specs.Sectors.{together, writes}
use Rattle.vr_disk.specs.Stops.{Spares}
use Rattle.vr_disk.proofs.Frames.{frame_all}
use Rattle.vr_disk.proofs.Places.{grid_apart}
use Rattle.vr_disk.proofs.Together.{after_all_append, length_after_all, spares_append, together_same, together_synced, together_written, within_spares}
use Rattle.vr_header.specs.declared.header.Header.{Header}
use Rattle.vr_header.specs.Made.{Whole}
use Rattle.vr_super.specs.Copies.{copy_bytes}
use Rattle.vr_super.specs.Calls.{mend_calls, save_from, write_calls}
use Rattle.vr_rings.specs.Calls.{again_calls, header_calls, new_calls, prepare_calls}
use Rattle.vr_rings.specs.Slots.{slot_of}
use Rattle.vr_ckpt.specs.Blocks.{Content, content_of, named}
use Rattle.vr_ckpt.specs.Places.{grid_size}
use Rattle.vr_ckpt.specs.Grid.{block_calls, block_reading, named_at, put_calls}
use Rattle.vr_ckpt.specs.declared.name.Name.{Name}
use Rattle.vr_ckpt.proofs.Contents.{named_found}
use Rattle.vr_ckpt.proofs.Placing.{blocks_apart}
use Rattle.vr_ckpt.proofs.Puts.{block_within, name_fits}
use Rattle.vr_world.specs.Lying.{Lying, lying}
use Rattle.vr_world.specs.Safe as safe
use Rattle.vr_world.specs.Safe.{IsWritten}
use Rattle.vr_rules.specs.Steps.{Effect, Write, Rewrite, Save, Mend, Checkpoint, PutBlock, Say}
use Rattle.vr_rules.proofs.FitDisks.{grid_behind, header_spares, mend_spares, save_spares, prepare_spares, slot_below}
use Rattle.law_3_outputs.proofs.SlotCalls.{together_past}
use Rattle.law_6_one_log.specs.Hashed.{IsHashedBlock, ReadsHashed}

-- what it hashes was hashed
abbrev pub Begun : (List ℕ → Type 0) → Effect → Type 0
Begun H e = (bytes : List ℕ) → IsWritten e bytes → H bytes

-- a sector of a block
record IsOf (address i : ℕ) : Type 0 where
  low : block_place address ≤ i
  high : i < block_place address + 8

-- calls that leave the sectors of a block
named_same : (cs : List Call) (f : Face) (name : Name) → ((i : ℕ) → IsOf name.address i → AllByRecursion (Spares i) cs) → named_at (disk.after_all f cs) name ≡ named_at f name
unfolding named_at block_reading
named_same cs f name spare =
    ap (λ o. cond (ltb name.address grid_size) (option_and_then (named name) o) None)
    (together_same 8 (block_place name.address) f (disk.after_all f cs) (λ k l m. ap (λ (c : Cell). c.reads) (frame_all cs f k (spare k (record { low = l; high = m })))))

head_spares : (x : Header) (address i : ℕ) → IsOf address i → AllByRecursion (Spares i) (header_calls x)
head_spares x address i is = let b = slot_below x in let behind = grid_behind address in header_spares x i (λ q. omega (arith, q, b, behind, is.low))

body_spares : (v : ℕ) (e : Whole) (address i : ℕ) → IsOf address i → AllByRecursion (Spares i) (prepare_calls v e)
body_spares v e address i is =
    prepare_spares v e i (elim (grid_apart v (slot_of e.header) address (slot_below e.header)) [ inl low ↦ inr (omega (arith, low, is.low)) | inr high ↦ inl (omega (arith, high, is.high)) ])

write_same : (v : ℕ) (again : Bool) (e : Whole) (f : Face) (name : Name) → named_at (disk.after_all f (cond again (again_calls v e) (new_calls v e))) name ≡ named_at f name
write_same v true e f name =
    let a = name.address in named_same (again_calls v e) f name (λ i l. spares_append i (header_calls e.header) (prepare_calls v e) (head_spares e.header a i l) (body_spares v e a i l))
write_same v false e f name =
    let a = name.address in named_same (new_calls v e) f name (λ i l. spares_append i (prepare_calls v e) (header_calls e.header) (body_spares v e a i l) (head_spares e.header a i l))

-- effects that write no block
abbrev pub IsBeside : Effect → Type 0
IsBeside (Write again e) = ⊤
IsBeside (Rewrite h) = ⊤
IsBeside (Save old new) = ⊤
IsBeside (Mend v) = ⊤
IsBeside (Say o) = ⊤
IsBeside _ = ⊥

-- an effect leaves what reads under each name
pub beside_same : (d : Lying) (e : Effect) → IsBeside e → (name : Name) → named_at (lying.after d e).face name ≡ named_at d.face name
beside_same d (Write again e) h name = write_same d.version again e d.face name
beside_same d (Rewrite x) h name = named_same (header_calls x) d.face name (λ i l. head_spares x name.address i l)
beside_same d (Save old new) h name =
    named_same (write_calls old new d.face) d.face name
    (λ i l.
    let behind = grid_behind name.address in
    spares_append i (mend_calls old d.face) (save_from 0 4 (copy_bytes new)) (mend_spares 4 0 i (copy_bytes old) d.face (omega arith) (omega (arith, behind, l.low))) (save_spares 4 0 i (copy_bytes new) (omega arith) (omega (arith, behind, l.low))))
beside_same d (Mend v) h name = let behind = grid_behind name.address in named_same (mend_calls v d.face) d.face name (λ i l. mend_spares 4 0 i (copy_bytes v) d.face (omega arith) (omega (arith, behind, l.low)))
beside_same d (Checkpoint cluster texts op old) h name = absurd h
beside_same d (PutBlock n block) h name = absurd h
beside_same d (Say o) h name = refl

-- ---- a block that is put

-- a block reads where its eight sectors are
block_there : (f : Face) (a : ℕ) (b : List ℕ) → block_reading f a ≡ Some b → block_place a + 8 ≤ length f.cells
unfolding block_reading
block_there f a b is =
    elim (cases_lt (length f.cells) (block_place a + 8)) [
      | inl short ↦
          let none : None ≡ Some b = sym (together_past 7 (block_place a) f (omega arith)) ∙ is in
          absurd cc
      | inr enough ↦ enough
    ]

put_reads : (f : Face) (a : ℕ) (block b : List ℕ) → length block ≡ 4096 → block_reading (disk.after_all f (put_calls a block)) a ≡ Some b → b ≡ block
unfolding block_reading put_calls block_calls
put_reads f a block b size is =
    let at = block_place a in
    let g = disk.after_all f (writes at 8 block) in
    let long = block_there (disk.after_all f (writes at 8 block ++ Sync ∷ [])) a b is in
    let kept = length_after_all (writes at 8 block ++ Sync ∷ []) f in
    let all : together at 8 (disk.after_all f (writes at 8 block ++ Sync ∷ [])) ≡ Some block =
    ap (together at 8) (after_all_append (writes at 8 block) (Sync ∷ []) f) ∙ (together_synced 8 at g ∙ (together_written 8 at block f (omega arith) ∙ ap Some (take_all 4096 block (omega arith)))) in
    let same : Some block ≡ Some b = sym all ∙ is in
    let one : block ≡ b = cc in
    sym one

put_other : (f : Face) (a c : ℕ) (block : List ℕ) → c ≢ a → block_reading (disk.after_all f (put_calls a block)) c ≡ block_reading f c
unfolding block_reading put_calls
put_other f a c block other =
    let g = disk.after_all f (block_calls a block) in
    let apart : (k : ℕ) → block_place c ≤ k → k < block_place c + 8 → (k < block_place a) ⊎ (block_place a + 8 ≤ k) =
    λ k l m. elim (blocks_apart c a other) [ inl below ↦ inl (omega arith) | inr above ↦ inr (omega arith) ] in
    ap (together (block_place c) 8) (after_all_append (block_calls a block) (Sync ∷ []) f)
    ∙ (together_synced 8 (block_place c) g
    ∙ together_same 8 (block_place c) f g (λ k l m. ap (λ (x : Cell). x.reads) (frame_all (block_calls a block) f k (within_spares (block_place a) (block_place a + 8) (block_calls a block) k (block_within a block) (apart k l m)))))

-- the bytes that read under a name
pub named_bytes_at : (f : Face) (name : Name) (c : Content) → named_at f name ≡ Some c → (b : List ℕ) × (name.address < grid_size) × (block_reading f name.address ≡ Some b) × (named name b ≡ Some c)
unfolding named_at
named_bytes_at f name c e = by_test (ltb name.address grid_size) refl e
  where
    by_reading : (o : Option (List ℕ)) → block_reading f name.address ≡ o → name.address < grid_size → option_and_then (named name) o ≡ Some c → (b : List ℕ) × (name.address < grid_size) × (block_reading f name.address ≡ Some b) × (named name b ≡ Some c)
    by_reading None r l e = absurd cc
    by_reading (Some b) r l e = (b, l, r, e)

    by_test : (t : Bool) → ltb name.address grid_size ≡ t → cond t (option_and_then (named name) (block_reading f name.address)) None ≡ Some c → (b : List ℕ) × (name.address < grid_size) × (block_reading f name.address ≡ Some b) × (named name b ≡ Some c)
    by_test true t e = by_reading (block_reading f name.address) refl (ltb-true name.address grid_size t) e
    by_test false t e = absurd cc

named_there : (f : Face) (name : Name) (b : List ℕ) (c : Content) → name.address < grid_size → block_reading f name.address ≡ Some b → named name b ≡ Some c → named_at f name ≡ Some c
unfolding named_at
named_there f name b c l r n = rw (lt-ltb name.address grid_size l, r) n

some_content : (name : Name) (b : List ℕ) → is_some (named name b) ≡ true → (c : Content) × (named name b ≡ Some c)
some_content name b e = elim (named name b) as (λ o. named name b ≡ o → is_some o ≡ true → (c : Content) × (named name b ≡ Some c)) [ None ↦ λ n e. absurd cc | Some c ↦ λ n e. (c, n) ] refl e

module _ (H : List ℕ → Type 0) where
  pub put_hashed : (d : Lying) (name : Name) (block : List ℕ) → is_some (named name block) ≡ true → Begun H (PutBlock name block) → ReadsHashed H d.face → ReadsHashed H (lying.after d (PutBlock name block)).face
  put_hashed d name block whole begun reads other c e =
      let g = disk.after_all d.face (put_calls name.address block) in
      let x = named_bytes_at g other c e in
      elim (cases_eq other.address name.address) [
        | inr apart ↦ reads other c (named_there d.face other x.0 c x.1 (sym (put_other d.face name.address other.address block apart) ∙ x.2) x.3)
        | inl same ↦
            let s = some_content name block whole in
            let size = (name_fits name block whole).1 in
            let read : block_reading g name.address ≡ Some x.0 = subst (λ a. block_reading g a ≡ Some x.0) same x.2 in
            let bytes : x.0 ≡ block = put_reads d.face name.address block x.0 size read in
            let two : Some s.0 ≡ Some c = sym (named_found name block s.0 s.1).0 ∙ (ap content_of (sym bytes) ∙ (named_found other x.0 c x.3).0) in
            let one : s.0 ≡ c = cc in
            subst (IsHashedBlock H) one (record { payload = begun s.0.payload (safe.IsWritten.given name block s.0 s.1); header = begun _ (safe.IsWritten.put name block s.0 s.1) })
      ]

  pub beside_hashed : (d : Lying) (e : Effect) → IsBeside e → ReadsHashed H d.face → ReadsHashed H (lying.after d e).face
  beside_hashed d e h reads name c is = reads name c (sym (beside_same d e h name) ∙ is)

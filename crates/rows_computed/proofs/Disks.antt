-- Disks on which no block reads, and no entry but those of a list.
use Rattle.std.proofs.Common.{ℕ, ◌≡◌, ◌≢◌, inl, inr, arith, sym, ap, ◌∙◌, subst, Bool, true, false, cond, List, [], ◌∷◌, length, Option, Some, refl}
use Rattle.std.specs.Prelude.{⊤}
use Rattle.std.specs.List.{AllByRecursion}
use Rattle.std.specs.Option.{option_and_then, option_map}
use Rattle.std.proofs.lemmas.Bool.{cases_eq}
use Rattle.vr_disk.specs.DiskState as disk
use Rattle.vr_disk.specs.DiskState.{Face}
use Rattle.vr_disk.specs.Regions.{sectors}
use Rattle.vr_disk.proofs.Places.{behind_headers, inside}
use Rattle.vr_disk.proofs.Together.{after_all_append, length_after_all, spares_append}
use Rattle.vr_header.specs.declared.header.Header.{Header}
use Rattle.vr_header.specs.Made.{Whole}
use Rattle.vr_super.specs.Calls.{mend_calls, save_from, write_calls}
use Rattle.vr_super.specs.Copies.{SuperValue, copy_bytes}
use Rattle.vr_rings.specs.Calls.{again_calls, header_calls, new_calls, prepare_calls}
use Rattle.vr_rings.specs.Slots.{IsWhole, Takes, padded, slot_of, whole_in, whole_of}
use Rattle.vr_rings.proofs.Spelling.{padded_is, whole_again}
use Rattle.vr_ckpt.specs.Blocks.{Content}
use Rattle.vr_ckpt.specs.Grid.{named_at}
use Rattle.vr_ckpt.specs.declared.name.Name.{Name}
use Rattle.vr_rules.specs.Steps.{Effect, Write, Rewrite, Save, Mend, Checkpoint, PutBlock, Say, after_all}
use Rattle.vr_rules.proofs.FitDisks.{apart, front_reads, header_spares, mend_spares, prepare_spares, same_entry, save_spares, slot_below}
use Rattle.vr_world.specs.Lying.{Lying, lying}
use Rattle.law_1_machine.specs.Basics.{In}
use Rattle.law_6_one_log.proofs.Disks.{beside_same}

-- a file of this version
pub record PlainIn (v : ℕ) (entries : List Whole) (d : Lying) : Type 0 where
  pub version : d.version ≡ v
  pub count : length d.face.cells ≡ sectors
  pub reads : (slot : ℕ) (e : Whole) → whole_in v d.face slot ≡ Some e → In e entries
  pub blocks : (name : Name) (c : Content) → named_at d.face name ≡ Some c → ⊥

-- an entry that a file of this version takes
pub record IsTakenIn (v : ℕ) (e : Whole) : Type 0 where
  pub whole : IsWhole e
  pub takes : Takes v e

-- effects that write no other entry, and no block
abbrev pub IsOfIn : ℕ → List Whole → Effect → Type 0
IsOfIn v entries (Write again e) = In e entries × IsTakenIn v e
IsOfIn v entries (Rewrite h) = ⊤
IsOfIn v entries (Save old new) = ⊤
IsOfIn v entries (Mend value) = ⊤
IsOfIn v entries (Say o) = ⊤
IsOfIn v entries _ = ⊥

-- the same of version 1
abbrev pub Plain : List Whole → Lying → Type 0
Plain entries d = PlainIn 1 entries d

abbrev pub IsTaken : Whole → Type 0
IsTaken e = IsTakenIn 1 e

abbrev pub IsOf : List Whole → Effect → Type 0
IsOf entries e = IsOfIn 1 entries e

-- ---- what reads after a write

abbrev written : ℕ → Bool → Whole → Face → Face
written v again e f = disk.after_all f (cond again (again_calls v e) (new_calls v e))

prepare_there : (v : ℕ) (e : Whole) (f : Face) → length f.cells ≡ sectors → IsTakenIn v e → whole_in v (disk.after_all f (prepare_calls v e)) (slot_of e.header) ≡ Some e
unfolding whole_in
prepare_there v e f n w =
    let fits = inside v (slot_of e.header) (slot_below e.header) in
    ap (λ o. option_and_then whole_of (option_map (padded v) o)) (front_reads v e f (omega (arith, n, fits))) ∙ (ap whole_of (padded_is v e w.whole w.takes) ∙ whole_again e w.whole)

header_apart : (v : ℕ) (h : Header) (f : Face) (slot : ℕ) → whole_in v (disk.after_all f (header_calls h)) slot ≡ whole_in v f slot
header_apart v h f slot =
    let b = slot_below h in
    let behind = behind_headers v slot in
    same_entry v (header_calls h) f slot (λ k m n. header_spares h k (λ q. omega (arith, q, b, behind, m)))

prepare_apart : (v : ℕ) (e : Whole) (f : Face) (slot : ℕ) → slot ≢ slot_of e.header → whole_in v (disk.after_all f (prepare_calls v e)) slot ≡ whole_in v f slot
prepare_apart v e f slot other = same_entry v (prepare_calls v e) f slot (λ k m n. prepare_spares v e k (apart v slot (slot_of e.header) k other m n))

pub written_in : (v : ℕ) (again : Bool) (e : Whole) (f : Face) → length f.cells ≡ sectors → IsTakenIn v e → whole_in v (written v again e f) (slot_of e.header) ≡ Some e
written_in v true e f n w =
    ap (λ (g : Face). whole_in v g (slot_of e.header)) (after_all_append (header_calls e.header) (prepare_calls v e) f)
    ∙ prepare_there v e (disk.after_all f (header_calls e.header)) (length_after_all (header_calls e.header) f ∙ n) w
written_in v false e f n w =
    ap (λ (g : Face). whole_in v g (slot_of e.header)) (after_all_append (prepare_calls v e) (header_calls e.header) f)
    ∙ (header_apart v e.header (disk.after_all f (prepare_calls v e)) (slot_of e.header) ∙ prepare_there v e f n w)

pub spared_in : (v : ℕ) (again : Bool) (e : Whole) (f : Face) (slot : ℕ) → slot ≢ slot_of e.header → whole_in v (written v again e f) slot ≡ whole_in v f slot
spared_in v true e f slot other =
    ap (λ (g : Face). whole_in v g slot) (after_all_append (header_calls e.header) (prepare_calls v e) f)
    ∙ (prepare_apart v e (disk.after_all f (header_calls e.header)) slot other ∙ header_apart v e.header f slot)
spared_in v false e f slot other =
    ap (λ (g : Face). whole_in v g slot) (after_all_append (prepare_calls v e) (header_calls e.header) f)
    ∙ (header_apart v e.header (disk.after_all f (prepare_calls v e)) slot ∙ prepare_apart v e f slot other)

pub written_there : (again : Bool) (e : Whole) (f : Face) → length f.cells ≡ sectors → IsTaken e → whole_in 1 (written 1 again e f) (slot_of e.header) ≡ Some e
written_there again e f n w = written_in 1 again e f n w

pub written_apart : (again : Bool) (e : Whole) (f : Face) (slot : ℕ) → slot ≢ slot_of e.header → whole_in 1 (written 1 again e f) slot ≡ whole_in 1 f slot
written_apart again e f slot other = spared_in 1 again e f slot other

-- ---- such a disk stays one

some_same : (x e : Whole) → Some x ≡ Some e → x ≡ e
some_same x e q = cc

written_reads : (v : ℕ) (entries : List Whole) (again : Bool) (e : Whole) (d : Lying) → In e entries → IsTakenIn v e → PlainIn v entries d → (slot : ℕ) (x : Whole) → whole_in v (written v again e d.face) slot ≡ Some x → In x entries
written_reads v entries again e d i w p slot x is =
    elim (cases_eq slot (slot_of e.header)) [
      | inl same ↦ subst (λ (y : Whole). In y entries) (some_same e x (sym (written_in v again e d.face p.count w) ∙ (ap (λ (k : ℕ). whole_in v (written v again e d.face) k) (sym same) ∙ is))) i
      | inr other ↦ p.reads slot x (sym (spared_in v again e d.face slot other) ∙ is)
    ]

value_in : (v : ℕ) (old new : SuperValue) (f : Face) (slot : ℕ) → whole_in v (disk.after_all f (write_calls old new f)) slot ≡ whole_in v f slot
value_in v old new f slot =
    let behind = behind_headers v slot in
    same_entry v (write_calls old new f) f slot (λ k m n. spares_append k (mend_calls old f) (save_from 0 4 (copy_bytes new)) (mend_spares 4 0 k (copy_bytes old) f (omega arith) (omega (arith, m, behind))) (save_spares 4 0 k (copy_bytes new) (omega arith) (omega (arith, m, behind))))

mended_in : (v : ℕ) (value : SuperValue) (f : Face) (slot : ℕ) → whole_in v (disk.after_all f (mend_calls value f)) slot ≡ whole_in v f slot
mended_in v value f slot = let behind = behind_headers v slot in same_entry v (mend_calls value f) f slot (λ k m n. mend_spares 4 0 k (copy_bytes value) f (omega arith) (omega (arith, m, behind)))

pub value_apart : (old new : SuperValue) (f : Face) (slot : ℕ) → whole_in 1 (disk.after_all f (write_calls old new f)) slot ≡ whole_in 1 f slot
value_apart old new f slot = value_in 1 old new f slot

pub mend_apart : (v : SuperValue) (f : Face) (slot : ℕ) → whole_in 1 (disk.after_all f (mend_calls v f)) slot ≡ whole_in 1 f slot
mend_apart v f slot = mended_in 1 v f slot

-- a disk of these sectors, which hold so
abbrev pub file_in : ℕ → Face → List (Option (List ℕ)) → Lying
file_in v f held = record { face = f; held = held; version = v }

abbrev pub first_file : Face → List (Option (List ℕ)) → Lying
first_file f held = file_in 1 f held

plain_first : (v : ℕ) (entries : List Whole) (e : Effect) (f : Face) (held : List (Option (List ℕ))) → IsOfIn v entries e → PlainIn v entries (file_in v f held) → PlainIn v entries (lying.after (file_in v f held) e)
plain_first v entries (Write again e) f held i p = record {
  version = refl;
  count = length_after_all (cond again (again_calls v e) (new_calls v e)) f ∙ p.count;
  reads = written_reads v entries again e (file_in v f held) i.0 i.1 p;
  blocks = λ name c q. p.blocks name c (sym (beside_same (file_in v f held) (Write again e) tt name) ∙ q);
}
plain_first v entries (Rewrite h) f held i p = record {
  version = refl;
  count = length_after_all (header_calls h) f ∙ p.count;
  reads = λ slot x q. p.reads slot x (sym (header_apart v h f slot) ∙ q);
  blocks = λ name c q. p.blocks name c (sym (beside_same (file_in v f held) (Rewrite h) tt name) ∙ q);
}
plain_first v entries (Save old new) f held i p = record {
  version = refl;
  count = length_after_all (write_calls old new f) f ∙ p.count;
  reads = λ slot x q. p.reads slot x (sym (value_in v old new f slot) ∙ q);
  blocks = λ name c q. p.blocks name c (sym (beside_same (file_in v f held) (Save old new) tt name) ∙ q);
}
plain_first v entries (Mend value) f held i p = record {
  version = refl;
  count = length_after_all (mend_calls value f) f ∙ p.count;
  reads = λ slot x q. p.reads slot x (sym (mended_in v value f slot) ∙ q);
  blocks = λ name c q. p.blocks name c (sym (beside_same (file_in v f held) (Mend value) tt name) ∙ q);
}
plain_first v entries (Checkpoint cluster texts op old) f held i p = absurd i
plain_first v entries (PutBlock name block) f held i p = absurd i
plain_first v entries (Say o) f held i p = record { version = refl; count = p.count; reads = p.reads; blocks = p.blocks }

file_is : (v : ℕ) (d : Lying) → d.version ≡ v → d ≡ file_in v d.face d.held
file_is v d is = ap (λ (n : ℕ). let x : Lying = record { face = d.face; held = d.held; version = n } in x) is

pub plain_in : (v : ℕ) (entries : List Whole) (e : Effect) (d : Lying) → IsOfIn v entries e → PlainIn v entries d → PlainIn v entries (lying.after d e)
plain_in v entries e d i p =
    let is = file_is v d p.version in
    subst (λ (x : Lying). PlainIn v entries (lying.after x e)) (sym is) (plain_first v entries e d.face d.held i (subst (PlainIn v entries) is p))

pub plain_after : (entries : List Whole) (e : Effect) (d : Lying) → IsOf entries e → Plain entries d → Plain entries (lying.after d e)
plain_after entries e d i p = plain_in 1 entries e d i p

-- and what is written reads
pub entry_in : (v : ℕ) (entries : List Whole) (again : Bool) (e : Whole) (d : Lying) → PlainIn v entries d → IsTakenIn v e → lying.entry (lying.after d (Write again e)) (slot_of e.header) ≡ Some e
entry_in v entries again e d p w = subst (λ (x : Lying). lying.entry (lying.after x (Write again e)) (slot_of e.header) ≡ Some e) (sym (file_is v d p.version)) (written_in v again e d.face p.count w)

pub entry_there : (entries : List Whole) (again : Bool) (e : Whole) (d : Lying) → Plain entries d → IsTaken e → lying.entry (lying.after d (Write again e)) (slot_of e.header) ≡ Some e
entry_there entries again e d p w = entry_in 1 entries again e d p w

pub plain_all_in : (v : ℕ) (entries : List Whole) (es : List Effect) (d : Lying) → AllByRecursion (IsOfIn v entries) es → PlainIn v entries d → PlainIn v entries (after_all lying d es)
unfolding after_all
plain_all_in v entries [] d a p = p
plain_all_in v entries (e ∷ es) d a p = plain_all_in v entries es (lying.after d e) a.1 (plain_in v entries e d a.0 p)

pub plain_all : (entries : List Whole) (es : List Effect) (d : Lying) → AllByRecursion (IsOf entries) es → Plain entries d → Plain entries (after_all lying d es)
plain_all entries es d a p = plain_all_in 1 entries es d a p

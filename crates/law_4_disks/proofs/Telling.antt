-- Where names don't collide, no chance collision tells one prepare from another, and one copy from another.
use Rattle.std.proofs.Common.{ℕ, zero, suc, ◌<◌, ◌≡◌, ◌⊎◌, inl, inr, refl, sym, ap, ◌∙◌, true, List, [], ◌∷◌, ◌++◌, length, take, Option, Some, None}
use Rattle.std.specs.Prelude.{drop, is_some, replicate, ◌-◌}
use Rattle.std.specs.Option.{option_and_then}
use Rattle.vr_base.specs.Bytes.{name_of}
use Rattle.vr_disk.specs.DiskState.{Call, Face, IsFace, after_all, cut}
use Rattle.vr_disk.specs.Stops.{IsCall}
use Rattle.vr_disk.proofs.Faces.{face_after_all, face_cut}
use Rattle.vr_header.specs.declared.header.Header.{Header}
use Rattle.vr_header.specs.declared.operation.Operation.{Operation}
use Rattle.vr_header.specs.Bodies.{operation_bytes, operation_of}
use Rattle.vr_header.proofs.BodyLaws.{operation_again}
use Rattle.vr_header.specs.Made.{Whole, entry_bytes}
use Rattle.vr_header.specs.Spelling.{header_bytes}
use Rattle.std.specs.List.{AllByRecursion}
use Rattle.vr_super.specs.Copies.{SuperValue, named_bytes}
use Rattle.vr_super.specs.Laws.{TellsApart}
use Rattle.vr_rings.specs.Laws.{TellsPrepare}
use Rattle.vr_header.specs.NoCollision.{NoCollision}
use Rattle.vr_lie.specs.declared.fault.Fault.{Fault}
use Rattle.vr_lie.specs.Faults.{faulted, held_at}
use Rattle.vr_rules.specs.Steps as effect
use Rattle.vr_rules.specs.Steps.{Effect, Rewrite, Save, Mend, Checkpoint, PutBlock, Say}
use Rattle.vr_rules.specs.Sectors.{calls_by}
use Rattle.vr_world.specs.Lying.{Lying, lying}
use Rattle.vr_rings.specs.Held.{header_sector}
use Rattle.vr_rings.specs.Slots.{IsWhole, header_of, prepare_bytes, prepare_reading, sector_of, slot_of, whole_in, whole_of}
use Rattle.vr_rings.proofs.Spelling.{header_again, header_sector_is}
use Rattle.law_4_disks.specs.Beside.{IsInPlay, MayCome, MayGo, Tells, TellsEntry, TellsIn, value_after}
use Rattle.law_4_disks.proofs.Effects.{slot_less}
use Rattle.law_4_disks.specs.Naming.{EntriesTell, IsCopyText, IsHashedBy, IsHashedIn, IsHashedAfter, IsMet, IsNear, NamesTell, ValuesTell}
use Rattle.law_4_disks.proofs.Found.{read_whole}

some_of : {X : Type 0} (o : Option X) → is_some o ≡ true → (x : X) × (o ≡ Some x)
some_of None t = absurd cc
some_of (Some x) t = (x, refl)

some_header : (a b : Header) → Some a ≡ Some b → a ≡ b
some_header a b e = cc

some_list : (a b : List ℕ) → Some a ≡ Some b → a ≡ b
some_list a b e = cc

in_by : (v : ℕ) (g : Face) (slot : ℕ) (r : List ℕ) (e : Whole) → prepare_reading v g slot ≡ Some r → whole_of r ≡ Some e → whole_in v g slot ≡ Some e
unfolding whole_in
in_by v g slot r e reads w = ap (option_and_then whole_of) reads ∙ w

-- header and operation's bytes give the prepare
same_prepare : (a b : Whole) → a.header ≡ b.header → operation_bytes a.operation ≡ operation_bytes b.operation → prepare_bytes a ≡ prepare_bytes b
unfolding prepare_bytes entry_bytes
same_prepare a b h o =
    let bytes : header_bytes a.header ++ operation_bytes a.operation ≡ header_bytes b.header ++ operation_bytes b.operation = ap (λ (h : Header). header_bytes h ++ operation_bytes a.operation) h ∙ ap (λ (x : List ℕ). header_bytes b.header ++ x) o in
    ap (λ (x : List ℕ). x ++ replicate (4096 - length x) 0) bytes

pub names_tell : NamesTell
names_tell v g slot e f l w never other reads whole same =
    let x = some_of (whole_of other) whole in
    let d = x.0 in
    let inside : whole_in v g slot ≡ Some d = in_by v g slot other d reads x.1 in
    let y = read_whole v g slot d f l inside in
    let is : other ≡ prepare_bytes d = some_list other (prepare_bytes d) (sym reads ∙ y.reads) in
    let sectors : sector_of d.header ≡ sector_of e.header = sym (header_sector_is d y.whole.header) ∙ (ap header_sector (sym is) ∙ (same ∙ header_sector_is e w.header)) in
    let head : d.header ≡ e.header = some_header d.header e.header (sym (header_again d.header y.whole.header) ∙ (ap header_of sectors ∙ header_again e.header w.header)) in
    let names : name_of (operation_bytes d.operation) ≡ name_of (operation_bytes e.operation) = sym y.whole.entry.body.name ∙ (ap (λ (h : Header). h.body.0) head ∙ w.entry.body.name) in
    let bytes = never (operation_bytes d.operation) (operation_bytes e.operation) (inl (slot, d, l, inside, refl)) (inr refl) names in
    is ∙ same_prepare d e head bytes

-- ---- entries of one header, and copies of one name

same_operation : (a b : Whole) → IsWhole a → IsWhole b → a.header ≡ b.header → operation_bytes a.operation ≡ operation_bytes b.operation → a.operation ≡ b.operation
same_operation a b v w same e =
    let version = ap (λ (h : Header). operation_of h.version (operation_bytes a.operation)) same in
    let both : Some a.operation ≡ Some b.operation =
    sym (operation_again a.header.version a.operation v.entry.body.fits) ∙ (version ∙ (ap (operation_of b.header.version) e ∙ operation_again b.header.version b.operation w.entry.body.fits)) in
    cc

pub entries_tell : EntriesTell
entries_tell w e i k never same =
    let names : name_of (operation_bytes w.operation) ≡ name_of (operation_bytes e.operation) = sym i.entry.body.name ∙ (ap (λ (h : Header). h.body.0) same ∙ k.entry.body.name) in
    let bytes = never (operation_bytes w.operation) (operation_bytes e.operation) (inl refl) (inr refl) names in
    let operation = same_operation w e i k same bytes in
    ap (λ (h : Header). let x : Whole = record { header = h; operation = w.operation } in x) same ∙ ap (λ (o : Operation). let x : Whole = record { header = e.header; operation = o } in x) operation

pub values_tell : ValuesTell
values_tell g v never copy bytes l reads names = never (drop 16 bytes) (named_bytes v) (inl (copy, bytes, l, reads, refl)) (inr refl) names

-- ---- where a script is cut

pub fewer : (P Q : List ℕ → Type 0) → ((b : List ℕ) → Q b → P b) → NoCollision P → NoCollision Q
fewer P Q f never a b x y e = never a b (f a x) (f b y) e

front_are : (n : ℕ) (cs : List Call) → AllByRecursion IsCall cs → AllByRecursion IsCall (take n cs)
front_are zero cs a = tt
front_are (suc n) [] a = tt
front_are (suc n) (c ∷ cs) a = (a.0, front_are n cs a.1)

met_face : (e : Effect) (d : Lying) (j code : ℕ) (g : Face) → IsFace d.face → AllByRecursion IsCall (calls_by d.version e d.face) → IsMet e d j code g → IsFace g
met_face e d j code _ f a (IsMet.after k l) = face_after_all (take (suc k) (calls_by d.version e d.face)) d.face f (front_are (suc k) (calls_by d.version e d.face) a)
met_face e d j code _ f a IsMet.left = face_cut (calls_by d.version e d.face) d.face j code f a

tells_entry : (e : Effect) (d : Lying) (v : SuperValue) (j code : ℕ) → MayCome e d v → NoCollision (IsHashedBy e d j code) → TellsEntry e d
tells_entry (effect.Write again e) d v j code c never = λ w i held same.
    let P : List ℕ → Type 0 = IsHashedBy (effect.Write again e) d j code in
    let Q : List ℕ → Type 0 = λ b. (b ≡ operation_bytes w.operation) ⊎ (b ≡ operation_bytes e.operation) in
    let in_play : (b : List ℕ) → Q b → P b = λ b. elim [
      | inl x ↦ IsHashedBy.held (slot_of e.header, w, slot_less e.header, i, held, x)
      | inr x ↦ IsHashedBy.writes again e refl x
    ] in
    entries_tell w e i c.fit.0 (fewer P Q in_play never) same
tells_entry (Rewrite h) d v j code c never = tt
tells_entry (Save old new) d v j code c never = tt
tells_entry (Mend x) d v j code c never = tt
tells_entry (Checkpoint cluster texts op old) d v j code c never = tt
tells_entry (PutBlock name block) d v j code c never = tt
tells_entry (Say output) d v j code c never = tt

module _ (e : Effect) (d : Lying) (j code : ℕ) (f : IsFace d.face) (a : AllByRecursion IsCall (calls_by d.version e d.face)) (never : NoCollision (IsHashedBy e d j code)) where
  met_tells : (g : Face) → IsMet e d j code g → (slot : ℕ) (x : Whole) → slot < 64 → IsWhole x → held_at d.held slot ≡ Some (prepare_bytes x) → TellsPrepare d.version g slot (prepare_bytes x)
  met_tells g m slot x l w held =
      let in_play : (b : List ℕ) → IsNear d.version g x b → IsHashedBy e d j code b = λ b. elim [
        | inl y ↦ IsHashedBy.reads g m y
        | inr y ↦ IsHashedBy.held (slot, x, l, w, held, y)
      ] in
      names_tell d.version g slot x (met_face e d j code g f a m) l w (fewer (IsHashedBy e d j code) (IsNear d.version g x) in_play never)

  pub met_apart : (g : Face) → IsMet e d j code g → (v : SuperValue) → IsInPlay e v → TellsApart g v
  met_apart g m v i =
      let Q : List ℕ → Type 0 = λ b. IsCopyText g b ⊎ (b ≡ named_bytes v) in
      let in_play : (b : List ℕ) → Q b → IsHashedBy e d j code b = λ b. elim [
        | inl y ↦ IsHashedBy.copies g m y
        | inr y ↦ IsHashedBy.saves v i y
      ] in
      values_tell g v (fewer (IsHashedBy e d j code) Q in_play never)

pub tells_one : (e : Effect) (d : Lying) (v : SuperValue) (j code : ℕ) → IsFace d.face → MayCome e d v → NoCollision (IsHashedBy e d j code) → Tells e d j code
tells_one e d v j code f c never = record {
  front = λ slot x l w held k b. met_tells e d j code f c.calls never (after_all d.face (take (suc k) (calls_by d.version e d.face))) (IsMet.after k b) slot x l w held;
  cut = λ slot x l w held. met_tells e d j code f c.calls never (cut j code d.face (calls_by d.version e d.face)) IsMet.left slot x l w held;
  entry = tells_entry e d v j code c never;
  value = λ x i. met_apart e d j code f c.calls never (cut j code d.face (calls_by d.version e d.face)) IsMet.left x i;
}

-- where names don't collide, nothing that a cut of a script meets is taken for another thing
pub tells_in : (es : List Effect) (d : Lying) (v : SuperValue) (j code : ℕ) → IsFace d.face → MayGo es d v → NoCollision (IsHashedIn es d j code) → TellsIn es d j code
tells_in [] d v j code f go never = tt
tells_in (e ∷ es) d v j code f go never =
    let P : List ℕ → Type 0 = IsHashedIn (e ∷ es) d j code in
    let n = length (calls_by d.version e d.face) in
    let x : Lying = lying.after d e in
    let face : IsFace x.face = face_after_all (calls_by d.version e d.face) d.face f go.0.calls in (
      λ l. tells_one e d v j code f go.0 (fewer P (IsHashedBy e d j code) (λ b y. inl (l, y)) never),
      λ l. tells_in es x (value_after e v) (j - n) code face go.1 (fewer P (IsHashedIn es x (j - n) code) (λ b y. inr (l, y)) never),
    )

-- and so after a fault
pub fault_tells : (d : Lying) (fault : Fault) → IsFace (faulted d.face fault) → NoCollision (IsHashedAfter d fault)
    → (slot : ℕ) (x : Whole) → slot < 64 → IsWhole x → held_at d.held slot ≡ Some (prepare_bytes x) → TellsPrepare d.version (faulted d.face fault) slot (prepare_bytes x)
fault_tells d fault f never slot x l w held =
    let g = faulted d.face fault in
    let in_play : (b : List ℕ) → IsNear d.version g x b → IsHashedAfter d fault b = λ b. elim [
      | inl y ↦ inl y
      | inr y ↦ inr (slot, x, l, w, held, y)
    ] in
    names_tell d.version g slot x f l w (fewer (IsHashedAfter d fault) (IsNear d.version g x) in_play never)

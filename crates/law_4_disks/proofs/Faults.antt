-- A fault that is done leaves the disk beside the member.
use Rattle.std.proofs.Common.{ℕ, ◌<◌, ◌≡◌, ◌≢◌, arith, refl, sym, ap, ◌∙◌, subst, true, false, List, length, get_or, Option, Some, None, inl, inr, length-set}
use Rattle.std.specs.Prelude.{is_some, nat_eq, bit_xor}
use Rattle.std.specs.Cmp.Lexicographic.{pointwise}
use Rattle.std.specs.Option.{option_and_then, option_map_or}
use Rattle.std.proofs.lemmas.Slice.Eq.{bytes_eq-Decides}
use Rattle.std.proofs.lemmas.Bool.{cases_lt}
use Rattle.std.proofs.lemmas.List.{get_or-map, get_or_past, length-map}
use Rattle.std.proofs.lemmas.List.Elements.{All-set}
use Rattle.std.proofs.lemmas.Nat.{xor_of_8}
use Rattle.vr_base.specs.declared.mode.Mode.{Mode}
use Rattle.vr_base.specs.declared.mode.Mode.TheVariants.{Strict, Careful}
use Rattle.vr_disk.specs.DiskState.{Face, IsCell, IsContent, IsFace, cell, damaged}
use Rattle.vr_disk.proofs.Faces.{there}
use Rattle.vr_disk.specs.Regions.{sectors}
use Rattle.vr_header.specs.Made.{Whole}
use Rattle.vr_mem.specs.Lies.{lied}
use Rattle.vr_super.specs.Copies.{SuperValue}
use Rattle.vr_super.specs.Opens.{mode_in, opens}
use Rattle.vr_rings.specs.Held.{Holds, MayRead, entry_read, found, header_sector, is_header_sector, is_prepare, looked}
use Rattle.vr_rings.specs.Laws.{TellsPrepare}
use Rattle.vr_rings.specs.Slots.{IsWhole, header_reading, prepare_bytes, prepare_reading, whole_in, whole_of}
use Rattle.vr_rings.proofs.Spelling.{header_again, header_sector_is}
use Rattle.vr_rings.proofs.Standing.{both_is, both_whole}
use Rattle.vr_lie.specs.declared.fault.Fault.{Fault}
use Rattle.vr_lie.specs.declared.fault.Fault.TheVariants.{Damage, Stale, Unread, Misdirect}
use Rattle.vr_lie.specs.Faults.{HeldLooked, IsFault, KeepsPremise, faulted, held_at}
use Rattle.vr_lie.proofs.Premise.{fault_stands}
use Rattle.vr_world.specs.Lying.{Lying, keeps_premise, lied_to}
use Rattle.vr_world.specs.Group.{Member}
use Rattle.vr_world.proofs.Premises.{premise}
use Rattle.law_4_disks.specs.Beside.{IsCalm, IsHeld, IsOff, IsOn}
use Rattle.law_4_disks.proofs.Effects.{at_slot}
use Rattle.law_4_disks.proofs.Found.{read_whole}

-- ---- what is held stays

some_of : {X : Type 0} (o : Option X) → is_some o ≡ true → (x : X) × (o ≡ Some x)
some_of None t = absurd cc
some_of (Some x) t = (x, refl)

some_bytes : (a b : List ℕ) → Some a ≡ Some b → a ≡ b
some_bytes a b e = cc

in_by : (ver : ℕ) (g : Face) (slot : ℕ) (r : List ℕ) (e : Whole) → prepare_reading ver g slot ≡ Some r → whole_of r ≡ Some e → whole_in ver g slot ≡ Some e
unfolding whole_in
in_by ver g slot r e reads w = ap (option_and_then whole_of) reads ∙ w

valid : (ver : ℕ) (g : Face) (slot : ℕ) (r : List ℕ) → IsFace g → slot < 64 → prepare_reading ver g slot ≡ Some r → is_prepare r ≡ true → is_header_sector (header_sector r) ≡ true
valid ver g slot r f l reads t =
    let w = some_of (whole_of r) t in
    let x = read_whole ver g slot w.0 f l (in_by ver g slot r w.0 reads w.1) in
    let is : r ≡ prepare_bytes w.0 = some_bytes r (prepare_bytes w.0) (sym reads ∙ x.reads) in
    ap is_header_sector (ap header_sector is ∙ header_sector_is w.0 x.whole.header) ∙ ap is_some (header_again w.0.header x.whole.header)

-- an entry that may be read is the one that is held
own_read : (mode : Mode) (p r : List ℕ) (o : Option (List ℕ)) → o ≡ Some r → is_prepare r ≡ true → MayRead mode p o → Some r ≡ Some p
own_read Strict p r o e w m = sym e ∙ m
own_read Careful p r o e w m = ap Some (m r e (rw w refl))

look_stays : {mode : Mode} (ver : ℕ) (g : Face) (slot : ℕ) (p : List ℕ) → IsFace g → slot < 64 → Holds ver mode g slot (Some p) → TellsPrepare ver g slot p → looked ver g slot (Some p) ≡ Some p
look_stays {mode} ver g slot p f l h t =
    elim (entry_read ver g slot) as (λ o. entry_read ver g slot ≡ o → found o (Some p) ≡ Some p) [
      | None ↦ λ e. refl
      | Some r ↦ λ e.
          let x = both_is (header_reading g slot) (prepare_reading ver g slot) r e in
          let whole = both_whole (header_reading g slot) (prepare_reading ver g slot) r e in
          elim (pointwise nat_eq (header_sector r) (header_sector p)) as (λ b. pointwise nat_eq (header_sector r) (header_sector p) ≡ b → Some r ≡ Some p) [
            | true ↦ λ b. ap Some (t r x.1 whole ((bytes_eq-Decides (header_sector r) (header_sector p)).0 b))
            | false ↦ λ b.
                let apart : header_sector r ≢ header_sector p = λ s. (let bad : false ≡ true = sym b ∙ (bytes_eq-Decides (header_sector r) (header_sector p)).1 s in cc) in
                own_read mode p r (prepare_reading ver g slot) x.1 whole (h.prepare p (header_sector r) refl x.0 (valid ver g slot r f l x.1 whole) apart)
          ] refl
    ] refl

-- ---- the disk

-- readings that are contents leave a face
reads_face : (f : Face) (i : ℕ) (r : Option (List ℕ)) → IsFace f → i < sectors → ((b : List ℕ) → r ≡ Some b → IsContent b) → IsFace (lied f i r)
unfolding lied
reads_face f i r h l c =
    let was = there f i h l in
    record { count = length-set f.cells i (record (cell f i) { reads = r }) ∙ h.count; cells = All-set IsCell f.cells i (record (cell f i) { reads = r }) (record { truth = was.truth; reads = c; before = was.before }) h.cells; waiting = h.waiting }

content_is : (a b : List ℕ) → IsContent a → Some a ≡ Some b → IsContent b
content_is a b h e = let same : a ≡ b = cc in subst IsContent same h

damaged_is : (bytes : List ℕ) → IsContent bytes → IsContent (damaged bytes)
damaged_is bytes h = record {
  size = length-map bytes (λ b. bit_xor b 255) ∙ h.size;
  each = λ i. elim (cases_lt i (length bytes)) [
    | inl l ↦ rw (get_or-map (λ b. bit_xor b 255) bytes i 0 0 l) (xor_of_8 (get_or bytes i 0) 255 (h.each i) (omega arith))
    | inr g ↦ rw (get_or_past (damaged bytes) i 0 (let n = length-map bytes (λ b. bit_xor b 255) in omega arith)) (omega arith)
  ];
}

no_content : (b : List ℕ) → None ≡ Some b → IsContent b
no_content b e = absurd cc

pub fault_face : (f : Face) (x : Fault) → IsFault x → IsFace f → IsFace (faulted f x)
fault_face f (Damage i) l h = reads_face f i (Some (damaged (cell f i).truth)) h l (λ b e. content_is (damaged (cell f i).truth) b (damaged_is (cell f i).truth (there f i h l).truth) e)
fault_face f (Stale i) l h = reads_face f i (Some (cell f i).before) h l (λ b e. content_is (cell f i).before b (there f i h l).before e)
fault_face f (Unread i) l h = reads_face f i None h l no_content
fault_face f (Misdirect i k) l h =
    reads_face (lied f i (Some (cell f i).before)) k (Some (cell f i).truth) (reads_face f i (Some (cell f i).before) h l.0 (λ b e. content_is (cell f i).before b (there f i h l.0).before e)) l.1
    (λ b e. content_is (cell f i).truth b (there f i h l.0).truth e)

waits_on : (f : Face) (x : Fault) → (faulted f x).waiting ≡ f.waiting
unfolding lied
waits_on f (Damage i) = refl
waits_on f (Stale i) = refl
waits_on f (Unread i) = refl
waits_on f (Misdirect i k) = refl

-- how the slots of a file are judged that opens as a value
judged : (f : Face) (v : SuperValue) → opens f ≡ Some v → mode_in f ≡ v.fields.mode
judged f v e = ap (λ (o : Option SuperValue). option_map_or (λ (v : SuperValue). v.fields.mode) o Strict) e

module _ (d : Lying) (x : Fault) (t : keeps_premise d (faulted d.face x) ≡ true) (face : IsFace (faulted d.face x)) (tells : (slot : ℕ) (x0 : Whole) → slot < 64 → IsWhole x0 → held_at d.held slot ≡ Some (prepare_bytes x0) → TellsPrepare d.version (faulted d.face x) slot (prepare_bytes x0)) where
  abbrev mode : Mode
  mode = mode_in d.face

  kept : KeepsPremise d.version mode d.face (faulted d.face x) d.held
  kept = premise d (faulted d.face x) t

  looks : HeldLooked d.version (faulted d.face x) d.held (lied_to d (faulted d.face x)).held
  looks = record { each = λ slot l. at_slot (λ slot. looked d.version (faulted d.face x) slot (held_at d.held slot)) slot l }

  calm : IsCalm mode d → IsCalm mode (lied_to d (faulted d.face x))
  calm c = record { face = face; rests = waits_on d.face x ∙ c.rests; stand = fault_stands d.version d.face (faulted d.face x) d.held (lied_to d (faulted d.face x)).held kept looks c.stand }

  held : (q : Member) → IsCalm mode d → IsHeld d q → IsHeld (lied_to d (faulted d.face x)) q
  held q c h = record {
    count = h.count;
    each = λ slot g l e.
        let y = h.each slot g l e in
        let s = c.stand.each slot l in
        let now : Holds d.version mode (faulted d.face x) slot (Some (prepare_bytes y.entry)) = subst (Holds d.version mode (faulted d.face x) slot) y.there (kept.slots slot l s.holds) in
        let same = look_stays d.version (faulted d.face x) slot (prepare_bytes y.entry) face l now (tells slot y.entry l y.whole y.there) in
        record { entry = y.entry; whole = y.whole; header = y.header; group = y.group; version = y.version; there = looks.each slot l ∙ (ap (looked d.version (faulted d.face x) slot) y.there ∙ same) };
  }

  pub lie_on : (q : Member) → IsOn d q → IsOn (lied_to d (faulted d.face x)) q
  lie_on q o =
      let j : mode ≡ q.last.fields.mode = judged d.face q.last o.value in
      let was : IsCalm mode d = subst (λ (m : Mode). IsCalm m d) (sym j) o.calm in
      record { calm = subst (λ (m : Mode). IsCalm m (lied_to d (faulted d.face x))) j (calm was); held = held q was o.held; value = kept.opens ∙ o.value; file = o.file; under = o.under }

  pub lie_off : (q : Member) (v : SuperValue) → IsOff d q v → IsOff (lied_to d (faulted d.face x)) q v
  lie_off q v o =
      let j : mode ≡ v.fields.mode = judged d.face v o.value in
      let was : IsCalm mode d = subst (λ (m : Mode). IsCalm m d) (sym j) o.calm in
      record { calm = subst (λ (m : Mode). IsCalm m (lied_to d (faulted d.face x))) j (calm was); held = held q was o.held; value = kept.opens ∙ o.value; file = o.file; may = o.may; group = o.group }

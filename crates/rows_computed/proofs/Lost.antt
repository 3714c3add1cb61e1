-- A disk on which both places of the first entry were damaged, one after the other.
use Rattle.std.proofs.Common.{ℕ, ◌<◌, ◌≡◌, ◌≢◌, inl, inr, arith, refl, sym, ap, ◌∙◌, subst, true, false, eqb, List, Option, Some, None}
use Rattle.std.specs.Prelude.{is_some}
use Rattle.std.specs.Option.{option_and_then}
use Rattle.std.proofs.lemmas.Bool.{cases_eq, ne_eqb}
use Rattle.vr_base.specs.Bytes.{piece}
use Rattle.vr_disk.specs.DiskState.{Cell, Face, IsFace, cell, damaged}
use Rattle.vr_header.specs.Made.{Whole}
use Rattle.vr_super.specs.Copies.{SuperValue}
use Rattle.vr_super.specs.Opens.{opens}
use Rattle.vr_rings.specs.Held.{looked}
use Rattle.vr_rings.specs.Slots.{header_in, header_of, header_reading, prepare_bytes, prepare_reading, whole_in, whole_of}
use Rattle.vr_rings.proofs.Spelling.{whole_again}
use Rattle.vr_rings.proofs.Standing.{both_is, both_whole, look_cases}
use Rattle.vr_lie.specs.declared.fault.Fault.TheVariants.{Damage}
use Rattle.vr_lie.specs.Faults.{held_at}
use Rattle.vr_lie.proofs.Lies.{cell_lied, cells_lied}
use Rattle.vr_rules.specs.Opening.{Slot}
use Rattle.vr_world.specs.Lying.{Lying, lied_to}
use Rattle.law_1_machine.specs.Basics.{In}
use Rattle.law_4_disks.specs.Naming.{IsHashedAfter}
use Rattle.law_4_disks.proofs.Effects.{at_slot}
use Rattle.law_4_disks.proofs.Faults.{fault_face}
use Rattle.law_4_disks.proofs.Found.{read_whole}
use Rattle.rows_computed.proofs.Disks.{Plain}
use Rattle.rows_computed.proofs.Entries.{first}
use Rattle.rows_computed.proofs.Found.{Looks, look}
use Rattle.rows_computed.proofs.Lines.{IsText, operation}
use Rattle.rows_computed.proofs.Taken.{first_taken}
use Rattle.rows_computed.proofs.Starts.{but_first, kept_slot, lost_slot}
use Rattle.rows_computed.proofs.Stored.{Sits, one}
use Rattle.rows_computed.proofs.Struck.{IsGone, IsPlace, gone_148, gone_81, gone_header, lied_named, lied_opens, lost_prepare, other_header, struck, whole_81, whole_other}

-- ---- what a slot may hold

abbrev HoldsFirst : Lying → Type 0
HoldsFirst d = (slot : ℕ) (p : List ℕ) → slot < 64 → held_at d.held slot ≡ Some p → p ≡ prepare_bytes first

some_of : {X : Type 0} (o : Option X) → is_some o ≡ true → (x : X) × (o ≡ Some x)
some_of None t = absurd cc
some_of (Some x) t = (x, refl)

some_whole : (x y : Whole) → Some x ≡ Some y → x ≡ y
some_whole x y e = cc

whole_by : (f : Face) (slot : ℕ) (p : List ℕ) (x : Whole) → prepare_reading 1 f slot ≡ Some p → whole_of p ≡ Some x → whole_in 1 f slot ≡ Some x
unfolding whole_in
whole_by f slot p x r w = ap (option_and_then whole_of) r ∙ w

only_one : (x : Whole) → In x one → x ≡ first
only_one x (inl e) = e
only_one x (inr i) = absurd i

holds_still : (d : Lying) (g : Face) → d.version ≡ 1 → IsFace g → ((slot : ℕ) (x : Whole) → whole_in 1 g slot ≡ Some x → In x one) → HoldsFirst d → HoldsFirst (lied_to d g)
holds_still d g one face reads holds slot p l e =
    elim (look_cases 1 g slot (held_at d.held slot) p (ap (λ n. looked n g slot (held_at d.held slot)) (sym one) ∙ (sym (at_slot (λ slot. looked d.version g slot (held_at d.held slot)) slot l) ∙ e))) [
      | inr old ↦ holds slot p l old
      | inl new ↦
          let both = both_is (header_reading g slot) (prepare_reading 1 g slot) p new in
          let whole = some_of (whole_of p) (both_whole (header_reading g slot) (prepare_reading 1 g slot) p new) in
          let there = whole_by g slot p whole.0 both.1 whole.1 in
          let r = read_whole 1 g slot whole.0 face l there in
          let bytes : Some p ≡ Some (prepare_bytes whole.0) = sym both.1 ∙ r.reads in
          let is : p ≡ prepare_bytes whole.0 = cc in
          is ∙ ap prepare_bytes (only_one whole.0 (reads slot whole.0 there))
    ]

-- what a fault hashes
pub fault_text : (d : Lying) (i : ℕ) → d.version ≡ 1 → ((slot : ℕ) (x : Whole) → whole_in 1 (struck d.face i) slot ≡ Some x → In x one) → HoldsFirst d → (b : List ℕ) → IsHashedAfter d (Damage i) b → IsText one b
fault_text d i first_file reads holds b (inl h) = subst (IsText one) (sym h.4) (operation h.1 (reads h.0 h.1 (subst (λ n. whole_in n (struck d.face i) h.0 ≡ Some h.1) first_file h.3)))
fault_text d i first_file reads holds b (inr h) =
    let same : Some h.1 ≡ Some first = sym (whole_again h.1 h.3) ∙ (ap whole_of (holds h.0 (prepare_bytes h.1) h.2 h.4) ∙ whole_again first first_taken.whole) in
    let is : h.1 ≡ first = cc in
    subst (IsText one) (sym h.5) (operation h.1 (inl is))

-- ---- a fault leaves a disk such

plain_struck : (d : Lying) (i : ℕ) → i < 400 → ((slot : ℕ) (x : Whole) → whole_in 1 (struck d.face i) slot ≡ Some x → In x one) → Plain one d → Plain one (lied_to d (struck d.face i))
plain_struck d i l reads p = record {
  version = p.version;
  count = cells_lied d.face i (Some (damaged (cell d.face i).truth)) ∙ p.count;
  reads = reads;
  blocks = λ name c q. p.blocks name c (sym (lied_named d.face i (Some (damaged (cell d.face i).truth)) name l) ∙ q);
}

-- ---- the header sector

abbrev pub half_slot : Slot
half_slot = record { header = None; entry = Some first; blank = false }

pub record Half (v : SuperValue) (table : ℕ → Slot) (d : Lying) : Type 0 where
  pub plain : Plain one d
  pub face : IsFace d.face
  pub opens : opens d.face ≡ Some v
  pub looks : Looks table d
  pub held : HoldsFirst d
  pub gone : IsGone d.face
  pub prepare : (cell d.face 148).truth ≡ piece 0 512 (prepare_bytes first)

abbrev pub once : Lying → Lying
once d = lied_to d (struck d.face 81)

pub reads_once : (d : Lying) → Plain one d → (slot : ℕ) (x : Whole) → whole_in 1 (struck d.face 81) slot ≡ Some x → In x one
reads_once d p slot x e = p.reads slot x (sym (whole_81 d.face slot) ∙ e)

other_in : (f : Face) (i slot : ℕ) → IsPlace i → slot < 64 → slot ≢ 1 → header_in (struck f i) slot ≡ header_in f slot
unfolding header_in
other_in f i slot place l other = ap (option_and_then header_of) (other_header f i slot place l other)

look_other : (x y : Slot) (slot : ℕ) → slot ≢ 1 → but_first x slot ≡ but_first y slot
look_other x y slot other = let not : eqb slot 1 ≡ false = ne_eqb slot 1 other in rw not refl

once_look : (d : Lying) (slot : ℕ) → IsGone (struck d.face 81) → slot < 64 → look d slot ≡ but_first kept_slot slot → look (once d) slot ≡ but_first half_slot slot
once_look d slot g l was =
    elim (cases_eq slot 1) [
      | inl same ↦
          let before : look d 1 ≡ kept_slot = subst (λ (s : ℕ). look d s ≡ but_first kept_slot s) same was in
          let at : look (once d) 1 ≡ half_slot =
          ap (λ h. record { header = h; entry = whole_in 1 (struck d.face 81) 1; blank = false }) (gone_header (struck d.face 81) g)
          ∙ ap (λ e. record { header = None; entry = e; blank = false }) (whole_81 d.face 1 ∙ ap (λ (x : Slot). x.entry) before) in
          subst (λ (s : ℕ). look (once d) s ≡ but_first half_slot s) (sym same) at
      | inr other ↦
          ap (λ h. record { header = h; entry = whole_in 1 (struck d.face 81) slot; blank = false }) (other_in d.face 81 slot (inl refl) l other)
          ∙ (ap (λ e. record { header = header_in d.face slot; entry = e; blank = false }) (whole_81 d.face slot)
          ∙ (was ∙ look_other kept_slot half_slot slot other))
    ]

pub halved : (v : SuperValue) (d : Lying) → Sits v (but_first kept_slot) d → Half v (but_first half_slot) (once d)
halved v d s =
    let face = fault_face d.face (Damage 81) (omega arith) s.face in
    let g = gone_81 d.face s.plain.count s.header in
    record {
      plain = plain_struck d 81 (omega arith) (reads_once d s.plain) s.plain;
      face = face;
      opens = lied_opens d.face 81 (Some (damaged (cell d.face 81).truth)) (omega arith) ∙ s.opens;
      looks = record { version = s.plain.version; at = λ slot l. once_look d slot g l (s.looks.at slot l) };
      held = holds_still d (struck d.face 81) s.plain.version face (reads_once d s.plain) s.held;
      gone = g;
      prepare = ap (λ (c : Cell). c.truth) (cell_lied d.face 81 148 (Some (damaged (cell d.face 81).truth)) (λ e. omega (arith, e))) ∙ s.prepare;
    }

-- ---- and the prepare

pub record Lost (v : SuperValue) (table : ℕ → Slot) (d : Lying) : Type 0 where
  pub plain : Plain one d
  pub opens : opens d.face ≡ Some v
  pub looks : Looks table d

abbrev pub twice : Lying → Lying
twice d = lied_to d (struck d.face 148)

module _ (v : SuperValue) (d : Lying) (s : Half v (but_first half_slot) d) where
  pub face_twice : IsFace (struck d.face 148)
  face_twice = fault_face d.face (Damage 148) (omega arith) s.face

  none_there : (x : Whole) → whole_in 1 (struck d.face 148) 1 ≡ Some x → ⊥
  none_there x e = lost_prepare d.face x face_twice s.prepare s.plain.count e

  pub reads_twice : (slot : ℕ) (x : Whole) → whole_in 1 (struck d.face 148) slot ≡ Some x → In x one
  reads_twice slot x e =
      elim (cases_eq slot 1) [
        | inl same ↦ absurd (none_there x (subst (λ (s : ℕ). whole_in 1 (struck d.face 148) s ≡ Some x) same e))
        | inr other ↦ s.plain.reads slot x (sym (whole_other d.face slot other) ∙ e)
      ]

  none_in : whole_in 1 (struck d.face 148) 1 ≡ None
  none_in = elim (whole_in 1 (struck d.face 148) 1) as (λ o. whole_in 1 (struck d.face 148) 1 ≡ o → o ≡ None) [ None ↦ λ e. refl | Some x ↦ λ e. absurd (none_there x e) ] refl

  twice_look : (slot : ℕ) → slot < 64 → look (twice d) slot ≡ but_first lost_slot slot
  twice_look slot l =
      elim (cases_eq slot 1) [
        | inl same ↦
            let at : look (twice d) 1 ≡ lost_slot =
            ap (λ h. record { header = h; entry = whole_in 1 (struck d.face 148) 1; blank = false }) (gone_header (struck d.face 148) (gone_148 d.face s.gone))
            ∙ ap (λ e. record { header = None; entry = e; blank = false }) none_in in
            subst (λ (s : ℕ). look (twice d) s ≡ but_first lost_slot s) (sym same) at
        | inr other ↦
            ap (λ h. record { header = h; entry = whole_in 1 (struck d.face 148) slot; blank = false }) (other_in d.face 148 slot (inr refl) l other)
            ∙ (ap (λ e. record { header = header_in d.face slot; entry = e; blank = false }) (whole_other d.face slot other)
            ∙ (s.looks.at slot l ∙ look_other half_slot lost_slot slot other))
      ]

  pub lost : Lost v (but_first lost_slot) (twice d)
  lost = record {
    plain = plain_struck d 148 (omega arith) reads_twice s.plain;
    opens = lied_opens d.face 148 (Some (damaged (cell d.face 148).truth)) (omega arith) ∙ s.opens;
    looks = record { version = s.plain.version; at = twice_look };
  }

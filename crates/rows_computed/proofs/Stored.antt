-- A member's disk once the first entry was written to it.
use Rattle.std.proofs.Common.{ℕ, ◌<◌, ◌≡◌, ◌≢◌, inl, inr, arith, refl, sym, ap, ◌∙◌, subst, Bool, false, cond, eqb, drop, List, [], ◌∷◌, ◌++◌, length, Some, None}
use Rattle.std.specs.Prelude.{slice_get}
use Rattle.std.specs.List.{AllByRecursion}
use Rattle.std.proofs.lemmas.Bool.{cases_eq, ne_eqb}
use Rattle.std.proofs.Common.{get_or-set_same}
use Rattle.vr_base.specs.Kinds.{strict}
use Rattle.vr_base.specs.Bytes.{piece}
use Rattle.vr_base.specs.declared.mode.Mode.TheVariants.{Strict}
use Rattle.vr_disk.specs.DiskState.{Call, Cell, Face, IsFace, Sync, Write, after, after_all, blank as no_cell, cell, written}
use Rattle.vr_disk.specs.Regions.{header_place, sectors}
use Rattle.vr_disk.specs.Sectors.{writes}
use Rattle.vr_disk.specs.Stops.{Spares}
use Rattle.vr_disk.proofs.Frames.{frame_all}
use Rattle.vr_disk.proofs.Together.{after_all_append, length_after_all, spares_append, writes_spare}
use Rattle.vr_header.specs.Made.{Whole}
use Rattle.vr_super.specs.Copies.{SuperValue}
use Rattle.vr_super.specs.Opens.{opens}
use Rattle.vr_rings.specs.Calls.{header_calls, new_calls, prepare_calls}
use Rattle.vr_rings.specs.Held.{held_after_all}
use Rattle.vr_rings.specs.Laws.{NewLeaves}
use Rattle.vr_rings.specs.Slots.{header_in, prepare_bytes, sector_of, whole_in}
use Rattle.vr_rings.proofs.Leaving.{new_leaves}
use Rattle.vr_lie.specs.Faults.{held_at}
use Rattle.vr_rules.specs.Formatting.{reserved_header}
use Rattle.vr_rules.specs.Opening.{Slot, blank, fresh}
use Rattle.vr_rules.specs.Steps.{Say}
use Rattle.vr_rules.specs.Steps as effect
use Rattle.vr_rules.proofs.FitDisks.{header_reads, header_spares, prepare_spares, same_header}
use Rattle.vr_msg.specs.declared.output.Output.{Output}
use Rattle.vr_world.specs.Group.{Member, begins, ends}
use Rattle.vr_world.specs.Lying.{Lying, hazards, lying}
use Rattle.vr_world.specs.World.{fresh_host, fresh_world}
use Rattle.law_4_disks.specs.Beside.{IsOn, MayCome}
use Rattle.law_4_disks.proofs.Calls.{new_are}
use Rattle.law_4_disks.proofs.Effects.{at_slot, others_after, quiet_disk}
use Rattle.law_4_disks.proofs.Playing.{stay}
use Rattle.law_4_disks.proofs.Regions.{new_apart}
use Rattle.rows_computed.proofs.Disks.{Plain, plain_after, written_apart, written_there}
use Rattle.rows_computed.proofs.Entries.{first, first_header}
use Rattle.rows_computed.proofs.Formatted.{header_is, nothing_held}
use Rattle.rows_computed.proofs.Found.{Looks, look, value}
use Rattle.rows_computed.proofs.Lines.{beside, blank_disk, blank_plain}
use Rattle.rows_computed.proofs.Taken.{first_taken}
use Rattle.rows_computed.proofs.Starts.{but_first, kept_slot, reserved}

abbrev pub one : List Whole
one = first ∷ []

-- the slots of such a disk read as they should, and hold what was written
pub record Sits (v : SuperValue) (table : ℕ → Slot) (d : Lying) : Type 0 where
  pub plain : Plain one d
  pub face : IsFace d.face
  pub opens : opens d.face ≡ Some v
  pub looks : Looks table d
  pub held : (slot : ℕ) (p : List ℕ) → slot < 64 → held_at d.held slot ≡ Some p → p ≡ prepare_bytes first
  pub header : (cell d.face 81).truth ≡ sector_of first_header
  pub prepare : (cell d.face 148).truth ≡ piece 0 512 (prepare_bytes first)

-- ---- before it is written

none_read : (d : Lying) (slot : ℕ) → Plain [] d → whole_in 1 d.face slot ≡ None
none_read d slot p = elim (whole_in 1 d.face slot) as (λ o. whole_in 1 d.face slot ≡ o → o ≡ None) [ None ↦ λ e. refl | Some x ↦ λ e. absurd (p.reads slot x e) ] refl

pub blank_look : (i slot : ℕ) → Plain [] (blank_disk Strict i) → slot < 64 → look (blank_disk Strict i) slot ≡ reserved slot
blank_look i slot p l =
    ap (λ h. record { header = h; entry = whole_in 1 (blank_disk Strict i).face slot; blank = false }) (header_is i slot l)
    ∙ ap (λ e. record { header = Some (reserved_header 1 0 slot); entry = e; blank = false }) (none_read (blank_disk Strict i) slot p)

-- ---- what is written

abbrev stored : ℕ → Lying
stored i = lying.after (blank_disk Strict i) (effect.Write false first)

written_header : (f : Face) → length f.cells ≡ sectors → header_in (after_all f (new_calls 1 first)) 1 ≡ Some first_header
written_header f n =
    let g = after_all f (prepare_calls 1 first) in
    ap (λ (h : Face). header_in h 1) (after_all_append (prepare_calls 1 first) (header_calls first_header) f)
    ∙ header_reads first_header g (length_after_all (prepare_calls 1 first) f ∙ n) first_taken.whole.header

other_header : (f : Face) (slot : ℕ) → slot < 64 → slot ≢ 1 → header_in (after_all f (new_calls 1 first)) slot ≡ header_in f slot
other_header f slot l other =
    same_header (new_calls 1 first) f slot (spares_append (header_place slot) (prepare_calls 1 first) (header_calls first_header) (prepare_spares 1 first (header_place slot) (inl (omega (arith, l)))) (header_spares first_header (header_place slot) (λ q. other (omega (arith, q)))))

stored_look : (i slot : ℕ) → Plain [] (blank_disk Strict i) → slot < 64 → look (stored i) slot ≡ but_first kept_slot slot
stored_look i slot p l =
    elim (cases_eq slot 1) [
      | inl same ↦
          let at : look (stored i) 1 ≡ kept_slot =
          ap (λ h. record { header = h; entry = whole_in 1 (stored i).face 1; blank = false }) (written_header (blank_disk Strict i).face p.count)
          ∙ ap (λ e. record { header = Some first_header; entry = e; blank = false }) (written_there false first (blank_disk Strict i).face p.count first_taken) in
          subst (λ (s : ℕ). look (stored i) s ≡ but_first kept_slot s) (sym same) at
      | inr other ↦
          let not : eqb slot 1 ≡ false = ne_eqb slot 1 other in
          ap (λ h. record { header = h; entry = whole_in 1 (stored i).face slot; blank = false }) (other_header (blank_disk Strict i).face slot l other)
          ∙ (ap (λ e. record { header = header_in (blank_disk Strict i).face slot; entry = e; blank = false }) (written_apart false first (blank_disk Strict i).face slot other)
          ∙ (blank_look i slot p l
          ∙ ap (λ (b : Bool). cond b kept_slot (reserved slot)) (sym not)))
    ]

-- ---- what its sectors should hold

header_truth : (f : Face) → length f.cells ≡ sectors → (cell (after_all f (new_calls 1 first)) 81).truth ≡ sector_of first_header
unfolding header_calls
header_truth f n =
    let g = after_all f (prepare_calls 1 first) in
    let count : length g.cells ≡ sectors = length_after_all (prepare_calls 1 first) f ∙ n in
    ap (λ (h : Face). (cell h 81).truth) (after_all_append (prepare_calls 1 first) (Write 81 (sector_of first_header) ∷ Sync ∷ []) f)
    ∙ ap (λ (c : Cell). c.truth) (get_or-set_same g.cells 81 (written (cell g 81) (sector_of first_header)) no_cell (omega (arith, count)))

prepare_truth : (f : Face) → length f.cells ≡ sectors → (cell (after_all f (new_calls 1 first)) 148).truth ≡ piece 0 512 (prepare_bytes first)
unfolding prepare_calls writes
prepare_truth f n =
    let b = prepare_bytes first in
    let rest : List Call = writes 149 3 (drop 512 b) ++ Sync ∷ [] in
    let g = after f (Write 148 (piece 0 512 b)) in
    let spare : AllByRecursion (Spares 148) (rest ++ header_calls first_header) =
    spares_append 148 rest (header_calls first_header) (spares_append 148 (writes 149 3 (drop 512 b)) (Sync ∷ []) (writes_spare 3 149 148 (drop 512 b) (omega arith)) (tt, tt)) (header_spares first_header 148 (λ q. omega (arith, q))) in
    ap (λ (c : Cell). c.truth) (frame_all (rest ++ header_calls first_header) g 148 spare)
    ∙ ap (λ (c : Cell). c.truth) (get_or-set_same f.cells 148 (written (cell f 148) (piece 0 512 b)) no_cell (omega (arith, n)))

-- ---- the disk

some_bytes : (a b : List ℕ) → Some a ≡ Some b → a ≡ b
some_bytes a b e = cc

module _ (i : ℕ) (p : Plain [] (blank_disk Strict i)) (p1 : Plain one (blank_disk Strict i)) (m : Member) (on : IsOn (blank_disk Strict i) m) (last : value i ≡ m.last) where
  may : MayCome (effect.Write false first) (blank_disk Strict i) m.last
  may = record { fit = (first_taken.whole, ap (λ (v : SuperValue). v.fields.cluster) last, omega arith); calls = new_are 1 first first_taken.whole }

  then_on : IsOn (stored i) (ends (effect.Write false first) (begins (effect.Write false first) m))
  then_on = stay (effect.Write false first) (blank_disk Strict i) m on may

  held_own : held_at (stored i).held 1 ≡ Some (prepare_bytes first)
  held_own =
      let d = (blank_disk Strict) i in
      let leaves : NewLeaves 1 first d.face = new_leaves 1 first (Some (quiet_disk d.face)) on.calm.face first_taken.whole first_taken.takes on.calm.rests in
      at_slot (λ slot. held_after_all 1 d.face (new_calls 1 first) slot (held_at d.held slot)) 1 (omega arith) ∙ leaves.held m.last.fields.mode (held_at d.held 1) (on.calm.stand.each 1 (omega arith))

  held_all : (slot : ℕ) (b : List ℕ) → slot < 64 → held_at (stored i).held slot ≡ Some b → b ≡ prepare_bytes first
  held_all slot b l e =
      elim (cases_eq 1 slot) [
        | inl same ↦ some_bytes b (prepare_bytes first) (sym (subst (λ (s : ℕ). held_at (stored i).held s ≡ Some b) (sym same) e) ∙ held_own)
        | inr other ↦
            let none : held_at (stored i).held slot ≡ None = others_after (new_calls 1 first) (blank_disk Strict i) 1 on.calm (λ slot l d. new_apart 1 first slot l d) slot l other ∙ nothing_held i slot l in
            let bad : None ≡ Some b = sym none ∙ e in
            absurd cc
      ]

  stored_sits : Sits (value i) (but_first kept_slot) (stored i)
  stored_sits = record {
    plain = plain_after one (effect.Write false first) (blank_disk Strict i) (inl refl, first_taken) p1;
    face = then_on.calm.face;
    opens = then_on.value ∙ ap Some (sym last);
    looks = record { version = refl; at = λ slot l. stored_look i slot p l };
    held = held_all;
    header = header_truth (blank_disk Strict i).face p.count;
    prepare = prepare_truth (blank_disk Strict i).face p.count;
  }

-- what is said changes nothing
pub said : (v : SuperValue) (table : ℕ → Slot) (d : Lying) (o : Output) → Sits v table d → Sits v table (lying.after d (Say o))
unfolding held_after_all
said v table d o s = record {
  plain = plain_after one (Say o) d tt s.plain;
  face = s.face;
  opens = s.opens;
  looks = record { version = s.looks.version; at = s.looks.at };
  held = λ slot b l e. s.held slot b l (sym (at_slot (λ slot. held_at d.held slot) slot l) ∙ e);
  header = s.header;
  prepare = s.prepare;
}

-- ---- of the first two members

abbrev pub wrote : ℕ → Lying
wrote i = lying.after (blank_disk Strict i) (effect.Write false first)

sits : (i : ℕ) → slice_get (fresh_world hazards strict 3).members i ≡ Some (fresh_host hazards strict 3 i) → Plain [] (blank_disk Strict i) → Plain one (blank_disk Strict i) → (fresh strict 0 3 i).saved ≡ value i → Sits (value i) (but_first kept_slot) (wrote i)
sits i at p p1 saved =
    let q = (beside Strict).each i (fresh_host hazards strict 3 i) at in
    let on = q.2.running (fresh strict 0 3 i) refl in
    stored_sits i p p1 q.0 on.0 (sym saved ∙ on.1)

pub sits_0 : Sits (value 0) (but_first kept_slot) (wrote 0)
unfolding fresh_world blank
sits_0 = sits 0 refl (blank_plain Strict []).0 (blank_plain Strict one).0 refl

pub sits_1 : Sits (value 1) (but_first kept_slot) (wrote 1)
unfolding fresh_world blank
sits_1 = sits 1 refl (blank_plain Strict []).1 (blank_plain Strict one).1 refl

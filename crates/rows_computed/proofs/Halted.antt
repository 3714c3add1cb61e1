-- A member that is halted in the midst of the write of the first entry: what is hashed there, and what is left of its disk.
use Rattle.std.proofs.Common.{ℕ, zero, suc, ◌+◌, ◌*◌, ◌≤◌, ◌<◌, ◌≡◌, ◌≢◌, ◌⊎◌, inl, inr, arith, refl, sym, ap, ◌∙◌, subst, Bool, false, cond, ltb, drop, take, List, [], ◌∷◌, length, Option, Some, None}
use Rattle.std.specs.Option.{option_and_then, option_map}
use Rattle.std.proofs.lemmas.Bool.{cases_eq, cases_lt}
use Rattle.std.proofs.lemmas.List.{drop-drop, drop_at}
use Rattle.vr_base.specs.Bytes.{name_of, piece}
use Rattle.vr_base.specs.Kinds.{strict}
use Rattle.vr_base.proofs.FieldLaws.{length-name_of}
use Rattle.vr_base.specs.declared.mode.Mode.TheVariants.{Strict}
use Rattle.vr_disk.specs.DiskState.{Cell, Face, IsFace, Write, after, after_all, cut, reads}
use Rattle.vr_disk.specs.Regions.{block_place, header_place, prepare_place, sectors}
use Rattle.vr_disk.specs.Sectors.{together, writes}
use Rattle.vr_disk.proofs.Faces.{face_cut}
use Rattle.vr_disk.proofs.Frames.{reads_back, reads_other}
use Rattle.vr_disk.proofs.Together.{length_after_all, together_same}
use Rattle.vr_header.specs.Bodies.{operation_bytes}
use Rattle.vr_header.specs.Made.{Whole}
use Rattle.vr_super.specs.Copies.{copy_bytes, named_bytes}
use Rattle.vr_super.specs.Opens.{copy_reading, good_copy, opens}
use Rattle.vr_rings.specs.Calls.{new_calls, prepare_calls}
use Rattle.vr_rings.specs.Slots.{header_in, header_of, padded, prepare_bytes, whole_in, whole_of}
use Rattle.vr_ckpt.specs.Blocks.{named}
use Rattle.vr_ckpt.specs.Places.{grid_size}
use Rattle.vr_ckpt.specs.Grid.{block_reading, named_at}
use Rattle.vr_ckpt.specs.declared.name.Name.{Name}
use Rattle.vr_rules.specs.Formatting.{zero_sector}
use Rattle.vr_rules.specs.Opening.{blank, fresh}
use Rattle.vr_world.specs.Group.{Member}
use Rattle.vr_world.specs.World.{fresh_host, fresh_world}
use Rattle.law_4_disks.specs.Beside.{IsOn}
use Rattle.vr_rules.specs.Steps as effect
use Rattle.vr_rules.specs.Steps.{Effect}
use Rattle.vr_rules.proofs.FitDisks.{grid_behind}
use Rattle.vr_world.specs.Lying.{Lying, hazards}
use Rattle.law_4_disks.specs.Naming.{IsHashedBy, IsMet, after as met_after, copies, held, left, reads as hashed_reads, saves, writes as hashed_writes}
use Rattle.law_4_disks.proofs.Calls.{new_are}
use Rattle.rows_computed.proofs.Disks.{Plain}
use Rattle.rows_computed.proofs.Entries.{first}
use Rattle.rows_computed.proofs.Formatted.{copies_there, nothing_held, zero_there}
use Rattle.rows_computed.proofs.Found.{Looks, value}
use Rattle.rows_computed.proofs.Lines.{IsText, beside, blank_disk, blank_plain, operation}
use Rattle.rows_computed.proofs.Starts.{reserved}
use Rattle.rows_computed.proofs.Stored.{blank_look, one}
use Rattle.rows_computed.proofs.Struck.{none_turned}
use Rattle.rows_computed.proofs.Taken.{first_taken}
use Rattle.rows_computed.proofs.Values.{value_text}
use Rattle.rows_computed.proofs.Torn.{IsFront, front_reads, others_stay, part_zero, turned_148}

-- ---- the texts: those of the entry, and what the copies of the superblock name

abbrev pub IsNear : List ℕ → Type 0
IsNear b = IsText one b ⊎ (b ≡ value_text)

copy_text : drop 16 (copy_bytes (value 1)) ≡ value_text
unfolding copy_bytes
copy_text = drop_at (name_of (named_bytes (value 1))) (named_bytes (value 1)) 16 (length-name_of (named_bytes (value 1)))

-- ---- the disk before

on_1 : (m : Member) × IsOn (blank_disk Strict 1) m × (value 1 ≡ m.last)
unfolding fresh_world blank
on_1 = let q = (beside Strict).each 1 (fresh_host hazards strict 3 1) refl in let on = q.2.running (fresh strict 0 3 1) refl in (q.0, on.0, on.1)

abbrev f0 : Face
f0 = (blank_disk Strict 1).face

rests : f0.waiting ≡ []
rests = on_1.1.calm.rests

opens_0 : opens f0 ≡ Some (value 1)
opens_0 = on_1.1.value ∙ ap Some (sym on_1.2)

count : length f0.cells ≡ sectors
count = on_1.1.calm.face.count

none_0 : (slot : ℕ) (x : Whole) → whole_in 1 f0 slot ≡ Some x → ⊥
none_0 slot x e = (blank_plain Strict []).1.reads slot x e

-- ---- faces that differ from it in three sectors alone

pub record IsAlike (g : Face) : Type 0 where
  pub same : (i : ℕ) → i ≢ 148 → i ≢ 149 → i ≢ 150 → reads g i ≡ reads f0 i

alike_together : (g : Face) → IsAlike g → (n at : ℕ) → (at + n ≤ 148) ⊎ (151 ≤ at) → together at n g ≡ together at n f0
alike_together g a n at apart =
    together_same n at f0 g (λ k l m. elim apart [
      | inl below ↦ a.same k (λ e. omega (arith, e, m, below)) (λ e. omega (arith, e, m, below)) (λ e. omega (arith, e, m, below))
      | inr above ↦ a.same k (λ e. omega (arith, e, l, above)) (λ e. omega (arith, e, l, above)) (λ e. omega (arith, e, l, above))
    ])

alike_copy : (g : Face) → IsAlike g → (c : ℕ) → c < 4 → copy_reading g c ≡ copy_reading f0 c
unfolding copy_reading
alike_copy g a c l = alike_together g a 20 (20 * c) (inl (omega (arith, l)))

alike_whole : (g : Face) → IsAlike g → (slot : ℕ) → slot ≢ 1 → whole_in 1 g slot ≡ whole_in 1 f0 slot
unfolding whole_in
alike_whole g a slot other =
    ap (λ o. option_and_then whole_of (option_map (padded 1) o))
    (alike_together g a 4 (prepare_place 1 slot) (elim (cases_lt slot 1) [ inl below ↦ inl (omega (arith, below)) | inr above ↦ inr (let more : 1 < slot = omega (arith, above, other) in omega (arith, more)) ]))

alike_named : (g : Face) → IsAlike g → (name : Name) → named_at g name ≡ named_at f0 name
unfolding named_at block_reading
alike_named g a name =
    let behind = grid_behind name.address in
    ap (λ o. cond (ltb name.address grid_size) (option_and_then (named name) o) None) (alike_together g a 8 (block_place name.address) (inr (omega (arith, behind))))

alike_opens : (g : Face) → IsAlike g → opens g ≡ opens f0
unfolding opens good_copy copy_reading
alike_opens g a =
    let at : (c : ℕ) → c < 4 → together (20 * c) 20 g ≡ together (20 * c) 20 f0 = λ c l. alike_together g a 20 (20 * c) (inl (omega (arith, l))) in
    rw (at 0 (omega arith), at 1 (omega arith), at 2 (omega arith), at 3 (omega arith)) refl

alike_header : (g : Face) → IsAlike g → (slot : ℕ) → slot < 64 → header_in g slot ≡ header_in f0 slot
unfolding header_in
alike_header g a slot l = ap (option_and_then header_of) (a.same (header_place slot) (λ e. omega (arith, e, l)) (λ e. omega (arith, e, l)) (λ e. omega (arith, e, l)))

-- ---- after each call that goes through

abbrev p0 : List ℕ
p0 = piece 0 512 (prepare_bytes first)

abbrev p1 : List ℕ
p1 = piece 0 512 (drop 512 (prepare_bytes first))

abbrev p2 : List ℕ
p2 = piece 0 512 (drop 512 (drop 512 (prepare_bytes first)))

abbrev f1 : Face
f1 = after f0 (Write 148 p0)

abbrev f2 : Face
f2 = after f1 (Write 149 p1)

abbrev f3 : Face
f3 = after f2 (Write 150 p2)

front_0 : IsFront f1
front_0 = record {
  head = reads_back f0 148 p0 (let c = count in omega (arith, c));
  rest = λ k l m. reads_other f0 148 k p0 (λ e. omega (arith, e, l)) ∙ zero_there 1 1 k (omega arith) (omega (arith, l)) (omega (arith, m));
}

front_more : (g : Face) (i : ℕ) (b : List ℕ) → IsFront g → length g.cells ≡ sectors → 149 ≤ i → i < 152 → b ≡ zero_sector → IsFront (after g (Write i b))
front_more g i b f n l m z = record {
  head = reads_other g i 148 b (λ e. omega (arith, e, l)) ∙ f.head;
  rest = λ k a c. elim (cases_eq k i) [
    | inl same ↦ subst (λ (j : ℕ). reads (after g (Write i b)) j ≡ Some zero_sector) (sym same) (reads_back g i b (omega (arith, n, m)) ∙ ap Some z)
    | inr other ↦ reads_other g i k b other ∙ f.rest k a c
  ];
}

count_1 : length f1.cells ≡ sectors
count_1 = length_after_all (Write 148 p0 ∷ []) f0 ∙ count

front_1 : IsFront f2
front_1 = front_more f1 149 p1 front_0 count_1 (omega arith) (omega arith) (part_zero 1 (inl refl))

front_2 : IsFront f3
front_2 = front_more f2 150 p2 front_1 (length_after_all (Write 149 p1 ∷ []) f1 ∙ count_1) (omega arith) (omega arith) (drop_twice ∙ part_zero 2 (inr refl))
  where
    drop_twice : p2 ≡ piece 0 512 (drop (512 * 2) (prepare_bytes first))
    drop_twice = ap (piece 0 512) (drop-drop 512 512 (prepare_bytes first))

alike_write : (g : Face) (i : ℕ) (b : List ℕ) → IsAlike g → (i ≡ 148) ⊎ ((i ≡ 149) ⊎ (i ≡ 150)) → IsAlike (after g (Write i b))
alike_write g i b a at = record {
  same = λ k x y z. reads_other g i k b (λ e. elim at [ inl p ↦ x (e ∙ p) | inr o ↦ elim o [ inl p ↦ y (e ∙ p) | inr p ↦ z (e ∙ p) ] ]) ∙ a.same k x y z;
}

alike_0 : IsAlike f0
alike_0 = record { same = λ i a b c. refl }

alike_1 : IsAlike f1
alike_1 = alike_write f0 148 p0 alike_0 (inl refl)

alike_2 : IsAlike f2
alike_2 = alike_write f1 149 p1 alike_1 (inr (inl refl))

alike_3 : IsAlike f3
alike_3 = alike_write f2 150 p2 alike_2 (inr (inr refl))

-- ---- where it is cut

abbrev pub torn : Face
torn = cut 2 26 f0 (new_calls 1 first)

torn_face : IsFace torn
torn_face = face_cut (new_calls 1 first) f0 2 26 on_1.1.calm.face (new_are 1 first first_taken.whole)

torn_alike : IsAlike torn
torn_alike = record { same = λ i a b c. ap (λ (x : Cell). x.reads) (others_stay f0 i rests a b c) }

torn_none : (slot : ℕ) (x : Whole) → whole_in 1 torn slot ≡ Some x → ⊥
torn_none slot x e =
    elim (cases_eq slot 1) [
      | inl same ↦ none_turned torn x torn_face (turned_148 f0 rests count) (subst (λ (s : ℕ). whole_in 1 torn s ≡ Some x) same e)
      | inr other ↦ none_0 slot x (sym (alike_whole torn torn_alike slot other) ∙ e)
    ]

-- ---- what is hashed there

-- a face on which nothing reads but the entry, and the copies are those of the first value
record IsKnown (g : Face) : Type 0 where
  reads : (slot : ℕ) (x : Whole) → whole_in 1 g slot ≡ Some x → x ≡ first
  alike : IsAlike g

some_whole : (x y : Whole) → Some x ≡ Some y → x ≡ y
some_whole x y e = cc

known_front : (g : Face) → IsAlike g → IsFront g → IsKnown g
known_front g a f = record {
  reads = λ slot x e. elim (cases_eq slot 1) [
    | inl same ↦ some_whole x first (sym (subst (λ (s : ℕ). whole_in 1 g s ≡ Some x) same e) ∙ front_reads g f)
    | inr other ↦ absurd (none_0 slot x (sym (alike_whole g a slot other) ∙ e))
  ];
  alike = a;
}

known_after : (k : ℕ) → k < 3 → IsKnown (after_all f0 (take (suc k) (new_calls 1 first)))
unfolding prepare_calls writes
known_after zero l = known_front f1 alike_1 front_0
known_after (suc zero) l = known_front f2 alike_2 front_1
known_after (suc (suc zero)) l = known_front f3 alike_3 front_2
known_after (suc (suc (suc k))) l = absurd (omega (arith, l))

known_met : (g : Face) → IsMet (effect.Write false first) (blank_disk Strict 1) 2 26 g → IsKnown g
known_met _ (met_after k l) = known_after k (omega (arith, l))
known_met _ left = record { reads = λ slot x e. absurd (torn_none slot x e); alike = torn_alike }

some_bytes : (a b : List ℕ) → Some a ≡ Some b → a ≡ b
some_bytes a b e = cc

same_write : (a b : Bool) (x y : Whole) → effect.Write a x ≡ effect.Write b y → x ≡ y
same_write a b x y e = cc

pub cut_text : (b : List ℕ) → IsHashedBy (effect.Write false first) (blank_disk Strict 1) 2 26 b → IsNear b
cut_text b (hashed_reads g met h) = inl (subst (IsText one) (sym h.4) (operation h.1 (inl ((known_met g met).reads h.0 h.1 h.3))))
cut_text b (copies g met h) =
    let copy : Some h.1 ≡ Some (copy_bytes (value 1)) = sym h.3 ∙ (alike_copy g (known_met g met).alike h.0 h.2 ∙ copies_there 1 h.0 h.2) in
    inr (h.4 ∙ (ap (drop 16) (some_bytes h.1 (copy_bytes (value 1)) copy) ∙ copy_text))
cut_text b (held h) = let bad : None ≡ Some (prepare_bytes h.1) = sym (nothing_held 1 h.0 h.2) ∙ h.4 in absurd cc
cut_text b (hashed_writes again x e is) = inl (subst (IsText one) (sym (is ∙ ap (λ (y : Whole). operation_bytes y.operation) (sym (same_write false again first x e)))) (operation first (inl refl)))
cut_text b (saves v play is) = absurd play

-- ---- what is left

torn_look : (slot : ℕ) → slot < 64 → record { header = header_in torn slot; entry = whole_in 1 torn slot; blank = false } ≡ reserved slot
torn_look slot l =
    let none : (o : Option Whole) → whole_in 1 torn slot ≡ o → o ≡ None = λ o. elim o as (λ o. whole_in 1 torn slot ≡ o → o ≡ None) [ None ↦ λ e. refl | Some x ↦ λ e. absurd (torn_none slot x e) ] in
    let before : (o : Option Whole) → whole_in 1 f0 slot ≡ o → o ≡ None = λ o. elim o as (λ o. whole_in 1 f0 slot ≡ o → o ≡ None) [ None ↦ λ e. refl | Some x ↦ λ e. absurd (none_0 slot x e) ] in
    ap (λ h. record { header = h; entry = whole_in 1 torn slot; blank = false }) (alike_header torn torn_alike slot l)
    ∙ (ap (λ e. record { header = header_in f0 slot; entry = e; blank = false }) (none (whole_in 1 torn slot) refl ∙ sym (before (whole_in 1 f0 slot) refl))
    ∙ blank_look 1 slot (blank_plain Strict []).1 l)

pub record LeftBlank (d : Lying) : Type 0 where
  pub plain : Plain one d
  pub opens : opens d.face ≡ Some (value 1)
  pub looks : Looks reserved d

pub left_blank : (d : Lying) → d.version ≡ 1 → d.face ≡ torn → LeftBlank d
left_blank d file is = subst (λ (f : Face). LeftBlank (record { face = f; held = d.held; version = d.version })) (sym is) (record {
  plain = record {
    version = file;
    count = torn_face.count;
    reads = λ slot x e. absurd (torn_none slot x e);
    blocks = λ name c q. (blank_plain Strict one).1.blocks name c (sym (alike_named torn torn_alike name) ∙ q);
  };
  opens = alike_opens torn torn_alike ∙ opens_0;
  looks = record { version = file; at = torn_look };
})

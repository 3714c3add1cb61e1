-- Both places of the first entry are damaged: no fault is kept out, and neither the header nor the entry reads any more.
use Rattle.std.proofs.Common.{ℕ, ◌+◌, ◌-◌, ◌*◌, ◌≤◌, ◌<◌, ◌≡◌, ◌≢◌, ◌⊎◌, inl, inr, arith, refl, sym, ap, ◌∙◌, subst, Bool, true, false, cond, ltb, List, ◌++◌, length, take, replicate, get_or, Option, Some, None, get_or-set_same}
use Rattle.std.specs.Prelude.{is_some}
use Rattle.std.specs.Option.{option_and_then, option_map}
use Rattle.std.proofs.lemmas.Bool.{cases_eq, cases_lt}
use Rattle.std.proofs.lemmas.List.{get_or-take, get_or_append_left, length-append}
use Rattle.sha2.specs.Sha256.{sha256, first_words, schedule, rounds, compress, hash_after, digest_bytes}
use Rattle.vr_base.specs.Bytes.{bytes16, bytes32, bytes64, name_of, piece}
use Rattle.vr_base.specs.declared.mode.Mode.{Mode}
use Rattle.vr_disk.specs.DiskState.{Cell, Face, IsFace, blank as no_cell, cell, damaged, reads}
use Rattle.vr_disk.specs.Regions.{block_place, header_place, prepare_place, sectors}
use Rattle.vr_disk.specs.Sectors.{together}
use Rattle.vr_disk.proofs.Together.{together_first, together_same}
use Rattle.vr_header.specs.Made.{Whole, entry_bytes}
use Rattle.vr_header.specs.Spelling.{header_bytes, named_bytes}
use Rattle.vr_header.specs.Bodies.{operation_bytes}
use Rattle.vr_mem.specs.Lies.{lied}
use Rattle.vr_super.specs.Opens.{copy_reading, good_copy, mode_in, opens}
use Rattle.vr_rings.specs.Held.{Holds, MayRead, is_header_sector}
use Rattle.vr_rings.specs.Slots.{IsWhole, header_in, header_of, header_reading, padded, prepare_bytes, prepare_reading, sector_of, whole_in, whole_of}
use Rattle.vr_rings.proofs.Spelling.{damaged_none, prepare_spells, sector_spells, sector_version}
use Rattle.vr_ckpt.specs.Blocks.{named}
use Rattle.vr_ckpt.specs.Places.{grid_size}
use Rattle.vr_ckpt.specs.Grid.{block_reading, named_at}
use Rattle.vr_ckpt.specs.declared.name.Name.{Name}
use Rattle.vr_lie.specs.declared.fault.Fault.TheVariants.{Damage}
use Rattle.vr_lie.specs.Faults.{KeepsPremise, faulted, held_at}
use Rattle.vr_lie.proofs.Lies.{reads_lied}
use Rattle.vr_rules.proofs.FitDisks.{grid_behind}
use Rattle.vr_world.specs.Lying.{Lying, hazards, keeps_premise, lied_to, unless_kept_out}
use Rattle.vr_world.proofs.Premises.{premise_so}
use Rattle.law_4_disks.proofs.Faults.{fault_face}
use Rattle.law_4_disks.proofs.Found.{read_whole}
use Rattle.rows_computed.proofs.Entries.{first, first_header}
use Rattle.rows_computed.proofs.Taken.{first_taken}

-- ---- a sector that reads as something else

lied_together : (n at : ℕ) (f : Face) (i : ℕ) (r : Option (List ℕ)) → (i < at) ⊎ (at + n ≤ i) → together at n (lied f i r) ≡ together at n f
lied_together n at f i r apart = together_same n at f (lied f i r) (λ k l m. reads_lied f i k r (λ e. elim apart [ inl below ↦ omega (arith, e, l, below) | inr above ↦ omega (arith, e, m, above) ]))

pub lied_opens : (f : Face) (i : ℕ) (r : Option (List ℕ)) → 80 ≤ i → opens (lied f i r) ≡ opens f
unfolding opens good_copy copy_reading
lied_opens f i r l =
    let at : (c : ℕ) → c < 4 → together (20 * c) 20 (lied f i r) ≡ together (20 * c) 20 f = λ c m. lied_together 20 (20 * c) f i r (inr (omega (arith, l, m))) in
    rw (at 0 (omega arith), at 1 (omega arith), at 2 (omega arith), at 3 (omega arith)) refl

lied_whole : (f : Face) (i slot : ℕ) (r : Option (List ℕ)) → (i < prepare_place 1 slot) ⊎ (prepare_place 1 slot + 4 ≤ i) → prepare_reading 1 (lied f i r) slot ≡ prepare_reading 1 f slot
lied_whole f i slot r apart = ap (option_map (padded 1)) (lied_together 4 (prepare_place 1 slot) f i r apart)

pub lied_named : (f : Face) (i : ℕ) (r : Option (List ℕ)) (name : Name) → i < 400 → named_at (lied f i r) name ≡ named_at f name
unfolding named_at block_reading
lied_named f i r name l =
    let behind = grid_behind name.address in
    ap (λ o. cond (ltb name.address grid_size) (option_and_then (named name) o) None) (lied_together 8 (block_place name.address) f i r (inl (omega (arith, l, behind))))

-- ---- the premise stays, where the header sector of slot 1 reads as no header

gone : is_header_sector (damaged (sector_of first_header)) ≡ false
gone = damaged_none first_header first_taken.whole.header

abbrev pub IsGone : Face → Type 0
IsGone f = header_reading f 1 ≡ Some (damaged (sector_of first_header))

holds_gone : (mode : Mode) (f : Face) (held : Option (List ℕ)) → IsGone f → Holds 1 mode f 1 held
holds_gone mode f held is = record {
  prepare = λ p header h r valid apart.
      let same : Some (damaged (sector_of first_header)) ≡ Some header = sym is ∙ r in
      let one : damaged (sector_of first_header) ≡ header = cc in
      let bad : false ≡ true = sym gone ∙ (ap is_header_sector one ∙ valid) in
      absurd cc;
}

holds_same : (mode : Mode) (f g : Face) (slot : ℕ) (held : Option (List ℕ)) → header_reading g slot ≡ header_reading f slot → prepare_reading 1 g slot ≡ prepare_reading 1 f slot → Holds 1 mode f slot held → Holds 1 mode g slot held
holds_same mode f g slot held h p old = record {
  prepare = λ b header e r valid apart. subst (λ (o : Option (List ℕ)). MayRead mode b o) (sym p) (old.prepare b header e (sym h ∙ r) valid apart);
}

abbrev pub struck : Face → ℕ → Face
struck f i = faulted f (Damage i)

-- the header sector of slot 1, or the first sector of its prepare
abbrev pub IsPlace : ℕ → Type 0
IsPlace i = (i ≡ 81) ⊎ (i ≡ 148)

place_within : (i : ℕ) → IsPlace i → (80 ≤ i) × (i < 400)
place_within i (inl e) = (omega (arith, e), omega (arith, e))
place_within i (inr e) = (omega (arith, e), omega (arith, e))

pub other_header : (f : Face) (i slot : ℕ) → IsPlace i → slot < 64 → slot ≢ 1 → header_reading (struck f i) slot ≡ header_reading f slot
other_header f i slot (inl e) l other = reads_lied f i (header_place slot) _ (λ q. other (omega (arith, q, e)))
other_header f i slot (inr e) l other = reads_lied f i (header_place slot) _ (λ q. omega (arith, q, e, l))

other_prepare : (f : Face) (i slot : ℕ) → IsPlace i → slot ≢ 1 → prepare_reading 1 (struck f i) slot ≡ prepare_reading 1 f slot
other_prepare f i slot (inl e) other = lied_whole f i slot _ (inl (omega (arith, e)))
other_prepare f i slot (inr e) other =
    lied_whole f i slot _ (elim (cases_lt slot 1) [ inl below ↦ inr (omega (arith, e, below)) | inr above ↦ inl (let more : 1 < slot = omega (arith, above, other) in omega (arith, e, more)) ])

keeps : (d : Lying) (i : ℕ) → d.version ≡ 1 → IsPlace i → IsFace d.face → IsGone (struck d.face i) → keeps_premise d (struck d.face i) ≡ true
keeps d i one place face is =
    let within = place_within i place in
    premise_so d (struck d.face i) face (fault_face d.face (Damage i) (let b = within.1 in omega (arith, b)) face)
    (subst (λ n. KeepsPremise n (mode_in d.face) d.face (struck d.face i) d.held) (sym one) (record {
      opens = lied_opens d.face i (Some (damaged (cell d.face i).truth)) within.0;
      slots = λ slot l h. elim (cases_eq slot 1) [
        | inl same ↦ subst (λ (s : ℕ). Holds 1 (mode_in d.face) (struck d.face i) s (held_at d.held s)) (sym same) (holds_gone (mode_in d.face) (struck d.face i) (held_at d.held 1) is)
        | inr other ↦ holds_same (mode_in d.face) d.face (struck d.face i) slot (held_at d.held slot) (other_header d.face i slot place l other) (other_prepare d.face i slot place other) h
      ];
    }))

pub done : (d : Lying) (i : ℕ) → d.version ≡ 1 → IsPlace i → IsFace d.face → IsGone (struck d.face i) → hazards.faulted d (Damage i) ≡ Some (lied_to d (struck d.face i))
unfolding unless_kept_out
done d i one place face is = ap (λ (b : Bool). cond b (Some (lied_to d (struck d.face i))) None) (keeps d i one place face is)

-- ---- what reads once the header sector is damaged

own_reads : (f : Face) (i : ℕ) (r : Option (List ℕ)) → i < length f.cells → reads (lied f i r) i ≡ r
unfolding lied
own_reads f i r l = ap (λ (c : Cell). c.reads) (get_or-set_same f.cells i (record (cell f i) { reads = r }) no_cell l)

pub gone_81 : (f : Face) → length f.cells ≡ sectors → (cell f 81).truth ≡ sector_of first_header → IsGone (struck f 81)
gone_81 f n t = own_reads f 81 (Some (damaged (cell f 81).truth)) (omega (arith, n)) ∙ ap (λ (b : List ℕ). Some (damaged b)) t

pub gone_148 : (f : Face) → IsGone f → IsGone (struck f 148)
gone_148 f g = reads_lied f 148 81 (Some (damaged (cell f 148).truth)) (λ e. omega (arith, e)) ∙ g

no_option : {X : Type 0} (o : Option X) → is_some o ≡ false → o ≡ None
no_option None e = refl
no_option (Some x) e = absurd cc

pub gone_header : (f : Face) → IsGone f → header_in f 1 ≡ None
unfolding header_in
gone_header f g = ap (option_and_then header_of) g ∙ no_option (header_of (damaged (sector_of first_header))) gone

pub whole_81 : (f : Face) (slot : ℕ) → whole_in 1 (struck f 81) slot ≡ whole_in 1 f slot
unfolding whole_in
whole_81 f slot = ap (option_and_then whole_of) (lied_whole f 81 slot (Some (damaged (cell f 81).truth)) (inl (omega arith)))

pub whole_other : (f : Face) (slot : ℕ) → slot ≢ 1 → whole_in 1 (struck f 148) slot ≡ whole_in 1 f slot
unfolding whole_in
whole_other f slot other = ap (option_and_then whole_of) (other_prepare f 148 slot (inr refl) other)

-- ---- and once the prepare is: its version is none

abbrev pub turned : List ℕ
turned = damaged (piece 0 512 (prepare_bytes first))

turned_version : get_or turned 110 0 ≡ 254
unfolding piece prepare_bytes entry_bytes header_bytes named_bytes operation_bytes bytes16 bytes32 bytes64 name_of sha256 first_words schedule rounds compress hash_after digest_bytes
turned_version = refl

turned_long : length turned ≡ 512
unfolding piece prepare_bytes entry_bytes header_bytes named_bytes operation_bytes bytes16 bytes32 bytes64 name_of sha256 first_words schedule rounds compress hash_after digest_bytes
turned_long = refl

padded_parts : (o : Option (List ℕ)) (b : List ℕ) → option_map (padded 1) o ≡ Some b → (x : List ℕ) × (o ≡ Some x) × (b ≡ padded 1 x)
padded_parts None b e = absurd cc
padded_parts (Some x) b e = let same : padded 1 x ≡ b = cc in (x, refl, sym same)

some_same : (a b : List ℕ) → Some a ≡ Some b → a ≡ b
some_same a b e = cc

-- byte 110 of a prepare is a version
version_of : (x : Whole) → IsWhole x → (1 ≤ get_or (prepare_bytes x) 110 0) × (get_or (prepare_bytes x) 110 0 ≤ 2)
version_of x w =
    let spelled : take 128 (prepare_bytes x) ≡ take 128 (sector_of x.header) = prepare_spells x w.header ∙ sym (sector_spells x.header w.header) in
    let same : get_or (prepare_bytes x) 110 0 ≡ get_or (sector_of x.header) 110 0 =
    sym (get_or-take 128 (prepare_bytes x) 110 0 (omega arith)) ∙ (ap (λ (b : List ℕ). get_or b 110 0) spelled ∙ get_or-take 128 (sector_of x.header) 110 0 (omega arith)) in
    let v = sector_version x.header w.header in
    (omega (arith, same, v.0), omega (arith, same, v.1))

-- a face whose slot 1 reads so at first has no entry there
pub none_turned : (g : Face) (x : Whole) → IsFace g → reads g 148 ≡ Some turned → whole_in 1 g 1 ≡ Some x → ⊥
none_turned g x face own w =
    let r = read_whole 1 g 1 x face (omega arith) w in
    let p = padded_parts (together 148 4 g) (prepare_bytes x) r.reads in
    let one = together_first 3 148 g p.0 p.1 in
    let first_is : one.first ≡ turned = some_same one.first turned (sym one.reads ∙ own) in
    let long = turned_long in
    let all : p.0 ≡ turned ++ one.rest = one.whole ∙ ap (λ (b : List ℕ). b ++ one.rest) first_is in
    let size = ap length all ∙ length-append turned one.rest in
    let at : get_or (prepare_bytes x) 110 0 ≡ 254 =
    ap (λ (b : List ℕ). get_or b 110 0) p.2
    ∙ (get_or_append_left p.0 (replicate (4096 - 512 * 4) 0) 0 110 (omega (arith, size, long))
    ∙ (ap (λ (b : List ℕ). get_or b 110 0) all
    ∙ (get_or_append_left turned one.rest 0 110 (omega (arith, long)) ∙ turned_version))) in
    let v = version_of x r.whole in
    omega (arith, at, v.1)

pub lost_prepare : (f : Face) (x : Whole) → IsFace (struck f 148) → (cell f 148).truth ≡ piece 0 512 (prepare_bytes first) → length f.cells ≡ sectors → whole_in 1 (struck f 148) 1 ≡ Some x → ⊥
lost_prepare f x face t n w =
    none_turned (struck f 148) x face (own_reads f 148 (Some (damaged (cell f 148).truth)) (omega (arith, n)) ∙ ap (λ (b : List ℕ). Some (damaged b)) t) w

-- What an opening of a strict file finds, by what its slots read as.
use Rattle.std.proofs.Common.{ℕ, zero, suc, ◌+◌, ◌%◌, ◌<◌, ◌≡◌, ◌&&◌, arith, refl, sym, ap, ◌∙◌, subst, Bool, true, false, List, [], ◌∷◌, ◌++◌, Option, Some, None}
use Rattle.std.specs.List.{AllByRecursion, range_with_len}
use Rattle.std.specs.Option.{option_and_then, option_map}
use Rattle.std.proofs.lemmas.Bool.{and_parts}
use Rattle.std.proofs.lemmas.Nat.{mod_below}
use Rattle.vr_base.specs.declared.mode.Mode.TheVariants.{Strict}
use Rattle.vr_base.specs.Kinds.{strict}
use Rattle.vr_disk.specs.DiskState as disk
use Rattle.vr_disk.specs.DiskState.{Face}
use Rattle.vr_disk.specs.Regions.{header_place}
use Rattle.vr_header.specs.declared.part.Part.{Part}
use Rattle.vr_msg.specs.Choice.{ops}
use Rattle.vr_recover.specs.declared.readings.HeaderReading.{HeaderReading}
use Rattle.vr_recover.specs.declared.readings.Verdict.{Verdict}
use Rattle.vr_recover.specs.declared.readings.Verdict.TheVariants as verdict
use Rattle.vr_recover.specs.Verdict.{verdict_of}
use Rattle.vr_super.specs.Copies.{SuperValue, copy_bytes}
use Rattle.vr_super.specs.Calls.{mend_calls}
use Rattle.vr_super.specs.Opens.{opens}
use Rattle.vr_rings.specs.Slots.{header_in, is_blank, whole_in}
use Rattle.vr_rules.specs.Replica.{Replica, forgetting, with_part}
use Rattle.vr_rules.specs.Steps.{Mend, Setting, Step, ◌⨾◌, quiet, change, does, reading, each, after_all}
use Rattle.vr_rules.specs.Sectors.{of_version}
use Rattle.vr_rules.specs.Opening.{Slot, blank, clouded, entry_fits, first_value, header_kind, is_listed, kind_of, mend_slot, opened, opening, part_by, recover_old, recover_op, recover_parts, old_headers, resuming, slot_at, slot_verdict}
use Rattle.vr_rules.proofs.FitDisks.{mend_spares, same_header}
use Rattle.vr_world.specs.Lying.{Lying, lying}
use Rattle.rows_computed.proofs.Disks.{mend_apart}

-- ---- in a strict file it doesn't count whether a prepare is zeros

abbrev tidy : Slot → Slot
tidy x = record { header = x.header; entry = x.entry; blank = false }

kinds : {X : Type 0} (h : HeaderReading) (z : Bool) (fits : X → Bool) (o : Option X) (named : Bool) → verdict_of Strict h (kind_of z fits o) named ≡ verdict_of Strict h (kind_of false fits o) named
kinds h true fits None named = refl
kinds h false fits None named = refl
kinds h z fits (Some e) named = refl

tidied : (v : SuperValue) (k : ℕ) (x : Slot) → v.fields.mode ≡ Strict → slot_verdict v k x ≡ slot_verdict v k (tidy x)
tidied v k x is =
    ap (λ m. verdict_of m (header_kind v k x.header) (kind_of x.blank (entry_fits v k x) x.entry) (is_listed v k)) is
    ∙ (kinds (header_kind v k x.header) x.blank (entry_fits v k x) x.entry (is_listed v k)
    ∙ ap (λ m. verdict_of m (header_kind v k x.header) (kind_of false (entry_fits v k x) x.entry) (is_listed v k)) (sym is))

-- ---- an op for which no header is written

abbrev pub is_quiet : Verdict → Bool
is_quiet verdict.Rewrite = false
is_quiet _ = true

abbrev found_at : SuperValue → ℕ → Slot → Part
found_at v k x = part_by v k x (slot_verdict v k x)

quietly : {F : Type 0} (v : SuperValue) (k : ℕ) (x : Slot) (s : Setting F) (r : Replica) (f : F) (d : Verdict) → is_quiet d ≡ true → (mend_slot x d ⨾ change (with_part k (part_by v k x d))) s r f ≡ record { replica = with_part k (part_by v k (tidy x) d) r; script = [] }
unfolding ◌⨾◌ quiet change
quietly v k x s r f verdict.Here q = refl
quietly v k x s r f verdict.Rewrite q = absurd cc
quietly v k x s r f verdict.Lost q = refl
quietly v k x s r f verdict.Wanted q = refl
quietly v k x s r f verdict.Nothing q = refl
quietly v k x s r f verdict.Unknown q = refl

one_op : {F : Type 0} (v : SuperValue) (k : ℕ) (s : Setting F) (r : Replica) (f : F) (t : Slot) → v.fields.mode ≡ Strict → tidy (slot_at k s f) ≡ t → is_quiet (slot_verdict v k t) ≡ true
    → recover_op v k s r f ≡ record { replica = with_part k (found_at v k t) r; script = [] }
unfolding recover_op reading
one_op v k s r f t mode is q =
    let x = slot_at k s f in
    let same : slot_verdict v k x ≡ slot_verdict v k t = tidied v k x mode ∙ ap (slot_verdict v k) is in
    quietly v k x s r f (slot_verdict v k x) (ap is_quiet same ∙ q)
    ∙ (ap (λ d. record { replica = with_part k (part_by v k (tidy x) d) r; script = [] }) same
    ∙ ap (λ y. record { replica = with_part k (part_by v k y (slot_verdict v k t)) r; script = [] }) is)

-- ---- all ops of the window

abbrev pub found_all : SuperValue → (ℕ → Slot) → List ℕ → Replica → Replica
found_all v t [] r = r
found_all v t (k ∷ ks) r = found_all v t ks (with_part k (found_at v k (t k)) r)

abbrev pub all_quiet : SuperValue → (ℕ → Slot) → List ℕ → Bool
all_quiet v t [] = true
all_quiet v t (k ∷ ks) = is_quiet (slot_verdict v k (t k)) && all_quiet v t ks

each_op : {F : Type 0} (v : SuperValue) (t : ℕ → Slot) (ks : List ℕ) (s : Setting F) (r : Replica) (f : F) → v.fields.mode ≡ Strict → AllByRecursion (λ k. tidy (slot_at k s f) ≡ t k) ks → all_quiet v t ks ≡ true
    → each (recover_op v) ks s r f ≡ record { replica = found_all v t ks r; script = [] }
unfolding each quiet ◌⨾◌ after_all
each_op v t [] s r f mode a q = refl
each_op v t (k ∷ ks) s r f mode a q =
    let both = and_parts (is_quiet (slot_verdict v k (t k))) (all_quiet v t ks) q in
    ap (λ (x : Step). (let b = each (recover_op v) ks s x.replica (after_all s f x.script) in record { replica = b.replica; script = x.script ++ b.script })) (one_op v k s r f (t k) mode a.0 both.0)
    ∙ each_op v t ks s (with_part k (found_at v k (t k)) r) f mode a.1 both.1

-- ---- what the slots of a file of version 1 read as

abbrev pub look : Lying → ℕ → Slot
look d slot = record { header = header_in d.face slot; entry = whole_in 1 d.face slot; blank = false }

pub record Looks (table : ℕ → Slot) (d : Lying) : Type 0 where
  pub version : d.version ≡ 1
  pub at : (slot : ℕ) → slot < 64 → look d slot ≡ table slot

pub looks_mended : (table : ℕ → Slot) (d : Lying) (v : SuperValue) → Looks table d → Looks table (lying.after d (Mend v))
looks_mended table d v l = record {
  version = l.version;
  at = λ slot b.
      ap (λ h. record { header = h; entry = whole_in 1 (disk.after_all d.face (mend_calls v d.face)) slot; blank = false }) (same_header (mend_calls v d.face) d.face slot (mend_spares 4 0 (header_place slot) (copy_bytes v) d.face (omega arith) (omega arith)))
      ∙ (ap (λ e. record { header = header_in d.face slot; entry = e; blank = false }) (mend_apart v d.face slot)
      ∙ l.at slot b);
}

all_range : (P : ℕ → Type 0) (n i : ℕ) → ((k : ℕ) → P k) → AllByRecursion P (range_with_len i n)
all_range P zero i h = tt
all_range P (suc n) i h = (h i, all_range P n (i + 1) h)

-- ---- the opening

abbrev pub window : List ℕ
window = ops 0 64

abbrev pub of_op : (ℕ → Slot) → ℕ → Slot
of_op table k = table (k % 64)

-- what is found, and what comes of it
abbrev pub with_found : SuperValue → Lying → Step → Step
with_found v d x = (does (λ r. Mend v) ⨾ ((each recover_old (old_headers v) ⨾ ((λ s r f. x) ⨾ (change (clouded v) ⨾ change forgetting))) ⨾ resuming)) lying (blank v) d

abbrev pub value : ℕ → SuperValue
value i = first_value strict 0 3 i

pub opening_finds : (i : ℕ) (table : ℕ → Slot) (d : Lying) → Looks table d → all_quiet (value i) (of_op table) window ≡ true
    → opening (value i) lying (blank (value i)) d ≡ with_found (value i) d (record { replica = found_all (value i) (of_op table) window (blank (value i)); script = [] })
unfolding opening recover_parts ◌⨾◌ does change each quiet after_all
opening_finds i table d looks quiet_all =
    let v = value i in
    let f : Lying = lying.after d (Mend v) in
    let at : (k : ℕ) → tidy (slot_at k lying f) ≡ of_op table k = λ k.
    subst (λ n. tidy (record { header = header_in f.face (k % 64); entry = whole_in n f.face (k % 64); blank = is_blank n f.face (k % 64) }) ≡ of_op table k) (sym looks.version)
    ((looks_mended table d v looks).at (k % 64) (mod_below k 64 (omega arith))) in
    ap (with_found v d) (each_op v (of_op table) window lying (blank v) f refl (all_range (λ k. tidy (slot_at k lying f) ≡ of_op table k) 64 1 at) quiet_all)

-- a member that is started on a disk that opens as its first value
pub starts_as : (i : ℕ) (table : ℕ → Slot) (d : Lying) → opens d.face ≡ Some (value i) → Looks table d → all_quiet (value i) (of_op table) window ≡ true
    → opened lying d ≡ Some (with_found (value i) d (record { replica = found_all (value i) (of_op table) window (blank (value i)); script = [] }))
unfolding opened
starts_as i table d is looks quiet_all =
    let opens_as : SuperValue → Step = λ v. opening v lying (blank v) d in
    ap (λ o. option_map opens_as (option_and_then (of_version d.version) o)) is ∙ (ap (λ n. option_map opens_as (of_version n (value i))) looks.version ∙ ap Some (opening_finds i table d looks quiet_all))

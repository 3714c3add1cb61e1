-- What the Parts of an opening say of what a slot holds.
use Rattle.std.proofs.Common.{ℕ, ◌-◌, ◌%◌, ◌≤◌, ◌<◌, ◌≡◌, ◌≢◌, ◌⊎◌, inl, inr, arith, refl, sym, ap, ◌∙◌, subst, Bool, true, false, cond, ◌||◌, List, Option, Some, None}
use Rattle.std.specs.Prelude.{slice_get, is_some, nat_le, ◌==◌, Contains}
use Rattle.std.specs.Option.{option_map, option_map_or, option_and_then}
use Rattle.std.proofs.lemmas.Bool.{and_parts, and_from, cases_lt, eq-eqb, le-leb, lt-leb, le-ltb, eqb-true, leb-true}
use Rattle.std.proofs.lemmas.Option.{slice_get_past}
use Rattle.vr_header.specs.declared.header.Header.{Header}
use Rattle.vr_header.specs.declared.part.Part.{Part}
use Rattle.vr_header.specs.declared.part.Part.TheVariants as part
use Rattle.vr_header.specs.Made.{Whole, is_entry_header}
use Rattle.vr_header.specs.Same.{same_header}
use Rattle.vr_header.proofs.EntryLaws.{is_entry_header_of}
use Rattle.vr_header.proofs.SameHeaders.{same_header_is, same_header_of}
use Rattle.vr_header.specs.Parts.{header_of}
use Rattle.vr_recover.specs.declared.readings.HeaderReading.TheVariants as header
use Rattle.vr_recover.specs.declared.readings.PrepareReading.{PrepareReading}
use Rattle.vr_recover.specs.declared.readings.PrepareReading.TheVariants as prepare
use Rattle.vr_recover.specs.declared.readings.Verdict.{Verdict}
use Rattle.vr_recover.specs.declared.readings.Verdict.TheVariants as verdict
use Rattle.vr_recover.specs.Verdict.{tells, unread as unread_verdict, verdict_of, without_entry}
use Rattle.vr_base.specs.Bytes.{is_zeros}
use Rattle.vr_base.specs.declared.mode.Mode.{Mode}
use Rattle.vr_base.specs.declared.mode.Mode.TheVariants.{Strict, Careful}
use Rattle.vr_disk.specs.DiskState.{Face, IsFace}
use Rattle.vr_super.specs.Copies.{SuperValue}
use Rattle.vr_rings.specs.Held.{MayRead, Stands, header_sector, is_header_sector, is_prepare}
use Rattle.vr_rings.specs.Slots.{IsWhole, header_in, header_of as header_from, is_blank, prepare_bytes, prepare_reading, sector_of, whole_in, whole_of}
use Rattle.vr_rings.proofs.Spelling.{header_again, header_sector_is, whole_again}
use Rattle.vr_lie.specs.Faults.{held_at}
use Rattle.vr_rules.specs.Opening.{Slot, clouded_part, entry_fits, entry_header, entry_kind, first_listed, header_kind, kind_of, is_listed, is_right, known_header, listed, may_be, part_by, slot_at, slot_verdict, some_part}
use Rattle.vr_world.specs.Group.{Counts, IsFoundAbove, IsMadeFor, IsUndenied}
use Rattle.vr_world.specs.Lying.{Lying, lying}
use Rattle.vr_rules.proofs.Slots.{Value}
use Rattle.law_4_disks.specs.Beside.{HoldsEntry}
use Rattle.law_4_disks.proofs.Found.{read_header}

-- the Part of a slot
abbrev pub Of : SuperValue → ℕ → Slot → Part
Of v k x = part_by v k x (slot_verdict v k x)

-- ---- an entry that counts fits

past_head : (v : SuperValue) (k : ℕ) (h : Header) → Value v → listed v k ≡ Some h → k ≤ v.fields.head
past_head v k h w e =
    elim (cases_lt v.fields.head k) [
      | inl above ↦
          let first = w.first in
          let none : slice_get v.headers (k - first_listed v) ≡ None = slice_get_past v.headers (k - first_listed v) (omega (arith, first)) in
          let low : first_listed v ≤ k = let one = w.reach in omega (arith, first) in
          let there : slice_get v.headers (k - first_listed v) ≡ Some h = rw (le-ltb k (first_listed v) low) at e in
          let bad : None ≡ Some h = sym none ∙ there in absurd cc
      | inr within ↦ within
    ]

right_counts : (v : SuperValue) (k : ℕ) (h : Header) → Value v → Counts v k h → is_right v k h ≡ true
right_counts v k h w c =
    elim c.1 [
      | inl l ↦ rw (le-leb k v.fields.head (past_head v k h w l), l) (same_header_of h h refl)
      | inr a ↦ rw (lt-leb k v.fields.head a.0) (eq-eqb h.view v.fields.log_view a.1)
    ]

pub fits : (v : SuperValue) (k : ℕ) (e : Whole) → Value v → IsWhole e → e.header.version ≤ v.fields.version → e.header.cluster ≡ v.fields.cluster → Counts v k e.header → may_be v k e.header ≡ true
fits v k e w i few cluster c =
    and_from (is_entry_header e.header) _ (is_entry_header_of e.header i.entry.header)
    (and_from (nat_le e.header.version v.fields.version) _ (le-leb e.header.version v.fields.version few)
    (and_from (e.header.cluster == v.fields.cluster) _ (eq-eqb e.header.cluster v.fields.cluster cluster) (and_from (e.header.op == k) (is_right v k e.header) (eq-eqb e.header.op k c.0) (right_counts v k e.header w c))))

-- ---- it isn't denied

undenied_here : (h : Header) → IsUndenied (part.Here h)
undenied_here h = record { wanted = λ g e. cc; nothing = λ e. cc }

undenied_lost : (o : Option Header) → IsUndenied (some_part part.Lost o)
undenied_lost None = record { wanted = λ g e. cc; nothing = λ e. cc }
undenied_lost (Some h) = record { wanted = λ g e. cc; nothing = λ e. cc }

undenied_some : (o : Option Header) → IsUndenied (some_part part.Here o)
undenied_some None = record { wanted = λ g e. cc; nothing = λ e. cc }
undenied_some (Some h) = record { wanted = λ g e. cc; nothing = λ e. cc }

undenied_unknown : IsUndenied part.Unknown
undenied_unknown = record { wanted = λ g e. cc; nothing = λ e. cc }

-- a header that fits, or none that is valid, denies nothing
undenied_unread : (v : SuperValue) (k : ℕ) (x : Slot) (named : Bool) → IsUndenied (part_by v k x (unread_verdict named))
undenied_unread v k x true = undenied_lost (known_header v k x)
undenied_unread v k x false = undenied_unknown

undenied_fits : (mode : Mode) (v : SuperValue) (k : ℕ) (x : Slot) (p : PrepareReading) (named : Bool) → IsUndenied (part_by v k x (verdict_of mode header.Fits p named))
undenied_fits mode v k x prepare.Fits named = undenied_some (entry_header x)
undenied_fits mode v k x prepare.OtherEntry named = undenied_lost (known_header v k x)
undenied_fits mode v k x prepare.Blank named = undenied_lost (known_header v k x)
undenied_fits mode v k x prepare.Not named = undenied_lost (known_header v k x)

undenied_bad : (mode : Mode) (v : SuperValue) (k : ℕ) (x : Slot) (p : PrepareReading) (named : Bool) → IsUndenied (part_by v k x (verdict_of mode header.Bad p named))
undenied_bad mode v k x prepare.Fits named = undenied_some (entry_header x)
undenied_bad mode v k x prepare.OtherEntry named = undenied_unread v k x named
undenied_bad mode v k x prepare.Blank named = undenied_unread v k x named
undenied_bad mode v k x prepare.Not named = undenied_unread v k x named

-- ---- beside a valid header of something else

-- the prepare fits; or in a careful file it is neither whole nor zeros
abbrev IsMute : Mode → PrepareReading → Type 0
IsMute Strict p = p ≡ prepare.Fits
IsMute Careful p = (p ≡ prepare.Fits) ⊎ (p ≡ prepare.Not)

undenied_other : (mode : Mode) (v : SuperValue) (k : ℕ) (x : Slot) (p : PrepareReading) (named : Bool) → IsMute mode p → IsUndenied (part_by v k x (verdict_of mode header.Other p named))
undenied_other Strict v k x p named m = rw m (undenied_some (entry_header x))
undenied_other Careful v k x p named (inl m) = rw m (undenied_some (entry_header x))
undenied_other Careful v k x p named (inr m) = rw m (undenied_unread v k x named)

-- what the prepare may read as, where the header sector reads as another valid header
other_may : (ver : ℕ) (mode : Mode) (f : Face) (slot : ℕ) (e : Whole) (g : Header) → IsFace f → slot < 64 → IsWhole e → Stands ver mode f slot (Some (prepare_bytes e)) → header_in f slot ≡ Some g → g ≢ e.header
    → MayRead mode (prepare_bytes e) (prepare_reading ver f slot)
other_may ver mode f slot e g h l w s r d =
    let x = read_header f slot g h l r in
    let p = prepare_bytes e in
    let own : header_sector p ≡ sector_of e.header = header_sector_is e w.header in
    let valid : is_header_sector (sector_of g) ≡ true = ap is_some (header_again g x.header) in
    let apart : sector_of g ≢ header_sector p = λ same.
    let both : sector_of g ≡ sector_of e.header = same ∙ own in
    let some : Some g ≡ Some e.header = sym (header_again g x.header) ∙ (ap header_from both ∙ header_again e.header w.header) in
    d (let one : g ≡ e.header = cc in one) in
    s.holds.prepare p (sector_of g) refl x.reads valid apart

-- a slot's prepare, as it was read
abbrev Read : Option (List ℕ) → (Whole → Bool) → PrepareReading
Read r fits = kind_of (option_map_or is_zeros r false) fits (option_and_then whole_of r)

read_own : (e : Whole) (fits : Whole → Bool) (r : Option (List ℕ)) → IsWhole e → fits e ≡ true → r ≡ Some (prepare_bytes e) → Read r fits ≡ prepare.Fits
read_own e fits r w t is = rw (is, whole_again e w, t) refl

read_torn : (fits : Whole → Bool) (z : Bool) (o : Option Whole) → (is_some o || z) ≡ false → kind_of z fits o ≡ prepare.Not
read_torn fits z None n = rw n refl
read_torn fits z (Some x) n = absurd cc

-- bytes that are read are whole, zeros, or torn; what may be read of the first two is the entry
read_mute : (e : Whole) (fits : Whole → Bool) (r : Option (List ℕ)) → IsWhole e → fits e ≡ true → MayRead Careful (prepare_bytes e) r → (Read r fits ≡ prepare.Fits) ⊎ (Read r fits ≡ prepare.Not)
read_mute e fits None w t m = inr refl
read_mute e fits (Some b) w t m =
    elim (is_prepare b || is_zeros b) as (λ told. (is_prepare b || is_zeros b) ≡ told → (Read (Some b) fits ≡ prepare.Fits) ⊎ (Read (Some b) fits ≡ prepare.Not)) [
      | true ↦ λ told. inl (read_own e fits (Some b) w t (ap Some (m b refl told)))
      | false ↦ λ told. inr (read_torn fits (is_zeros b) (whole_of b) told)
    ] refl

mute : (mode : Mode) (e : Whole) (fits : Whole → Bool) (r : Option (List ℕ)) → IsWhole e → fits e ≡ true → MayRead mode (prepare_bytes e) r → IsMute mode (Read r fits)
mute Strict e fits r w t m = read_own e fits r w t m
mute Careful e fits r w t m = read_mute e fits r w t m

undenied_by : (ver : ℕ) (v : SuperValue) (k : ℕ) (f : Face) (e : Whole) (o : Option Header) → IsFace f → IsWhole e → Stands ver v.fields.mode f (k % 64) (Some (prepare_bytes e)) → may_be v k e.header ≡ true → header_in f (k % 64) ≡ o
    → let x : Slot = record { header = o; entry = whole_in ver f (k % 64); blank = is_blank ver f (k % 64) } in IsUndenied (Of v k x)
unfolding whole_in
undenied_by ver v k f e None h w s t r =
    let x : Slot = record { header = None; entry = whole_in ver f (k % 64); blank = is_blank ver f (k % 64) } in undenied_bad v.fields.mode v k x (entry_kind v k x) (is_listed v k)
undenied_by ver v k f e (Some g) h w s t r =
    let mode = v.fields.mode in
    let x : Slot = record { header = Some g; entry = whole_in ver f (k % 64); blank = is_blank ver f (k % 64) } in
    elim (may_be v k g) as (λ b. may_be v k g ≡ b → IsUndenied (part_by v k x (verdict_of mode (cond b header.Fits header.Other) (entry_kind v k x) (is_listed v k)))) [
      | true ↦ λ m. undenied_fits mode v k x (entry_kind v k x) (is_listed v k)
      | false ↦ λ m.
          let apart : g ≢ e.header = λ same. (let bad : false ≡ true = sym m ∙ (ap (may_be v k) same ∙ t) in cc) in
          let fit : entry_fits v k x e ≡ true = and_from (may_be v k e.header) _ t (rw m refl) in
          undenied_other mode v k x (entry_kind v k x) (is_listed v k) (mute mode e (entry_fits v k x) (prepare_reading ver f (k % 64)) w fit (other_may ver mode f (k % 64) e g h (omega arith) w s r apart))
    ] refl

-- what the slot holds, where it counts beside the value, isn't denied
pub undenied : (v : SuperValue) (k : ℕ) (d : Lying) (h : Header) → Value v → d.version ≡ v.fields.version → IsFace d.face → Stands d.version v.fields.mode d.face (k % 64) (held_at d.held (k % 64)) → HoldsEntry d.version v.fields.cluster h (held_at d.held (k % 64)) → Counts v k h
    → IsUndenied (Of v k (slot_at k lying d))
undenied v k d h w file f s y c =
    let e = y.entry in
    let less = y.version in
    let few : e.header.version ≤ v.fields.version = subst (λ (h : Header). h.version ≤ v.fields.version) (sym y.header) (omega (arith, less, file)) in
    let back : h ≡ e.header = sym y.header in
    let own = ap (λ (h : Header). h.cluster) y.header ∙ y.group in
    undenied_by d.version v k d.face e (header_in d.face (k % 64)) f y.whole (subst (Stands d.version v.fields.mode d.face (k % 64)) y.there s) (fits v k e w y.whole few own (subst (Counts v k) back c)) refl

pub undenied_clouded : (b : Bool) (p : Part) → IsUndenied p → IsUndenied (clouded_part b p)
undenied_clouded b (part.Here h) u = u
undenied_clouded b (part.Lost h) u = u
undenied_clouded b (part.Wanted h) u = u
undenied_clouded b part.Unknown u = u
undenied_clouded b part.Nothing u = absurd (u.nothing refl)

-- ---- the cases of a slot

kind_some : (v : SuperValue) (k : ℕ) (x : Slot) (e : Whole) → x.entry ≡ Some e → entry_fits v k x e ≡ true → entry_kind v k x ≡ prepare.Fits
kind_some v k x e at t = rw (at, t) refl

-- both read as an entry that fits
pub record IsHere (v : SuperValue) (k : ℕ) (x : Slot) (e : Whole) : Type 0 where
  pub entry : x.entry ≡ Some e
  pub fits : may_be v k e.header ≡ true
  pub header : x.header ≡ Some e.header
  pub verdict : slot_verdict v k x ≡ verdict.Here

-- the prepare alone does
pub record IsRewrite (v : SuperValue) (k : ℕ) (x : Slot) (e : Whole) : Type 0 where
  pub entry : x.entry ≡ Some e
  pub fits : may_be v k e.header ≡ true
  pub verdict : slot_verdict v k x ≡ verdict.Rewrite

-- the header sector alone does
pub record IsLost (v : SuperValue) (k : ℕ) (x : Slot) (h : Header) : Type 0 where
  pub header : x.header ≡ Some h
  pub fits : may_be v k h ≡ true
  pub verdict : slot_verdict v k x ≡ verdict.Lost

pub data Case (v : SuperValue) (k : ℕ) (x : Slot) : Type 0 where
  here : (e : Whole) → IsHere v k x e → Case v k x
  rewrite : (e : Whole) → IsRewrite v k x e → Case v k x
  lost : (h : Header) → IsLost v k x h → Case v k x
  unread : is_listed v k ≡ true → slot_verdict v k x ≡ verdict.Lost → Case v k x
  wanted : is_listed v k ≡ true → slot_verdict v k x ≡ verdict.Wanted → Case v k x
  nothing : is_listed v k ≡ false → slot_verdict v k x ≡ verdict.Nothing → Case v k x
  unknown : is_listed v k ≡ false → slot_verdict v k x ≡ verdict.Unknown → Case v k x

case_fits : (v : SuperValue) (k : ℕ) (o : Option Header) (e : Whole) (z : Bool) → let x : Slot = record { header = o; entry = Some e; blank = z } in entry_fits v k x e ≡ true → Case v k x
case_fits v k None e z t =
    let x : Slot = record { header = None; entry = Some e; blank = z } in
    rewrite e (record { entry = refl; fits = (and_parts (may_be v k e.header) _ t).0; verdict = ap (λ (p : PrepareReading). verdict_of v.fields.mode header.Bad p (is_listed v k)) (kind_some v k x e refl t) })
case_fits v k (Some g) e z t =
    let x : Slot = record { header = Some g; entry = Some e; blank = z } in
    let parts = and_parts (may_be v k e.header) _ t in
    elim (may_be v k g) as (λ b. may_be v k g ≡ b → Case v k x) [
      | true ↦ λ m.
          let same : same_header e.header g ≡ true = rw m at parts.1 in
          let one = same_header_is e.header g same in
          here e (record { entry = refl; fits = parts.0; header = ap Some (sym one); verdict = ap (λ (b : Bool). verdict_of v.fields.mode (cond b header.Fits header.Other) (entry_kind v k x) (is_listed v k)) m ∙ ap (λ (p : PrepareReading). verdict_of v.fields.mode header.Fits p (is_listed v k)) (kind_some v k x e refl t) })
      | false ↦ λ m.
          rewrite e (record { entry = refl; fits = parts.0; verdict = ap (λ (b : Bool). verdict_of v.fields.mode (cond b header.Fits header.Other) (entry_kind v k x) (is_listed v k)) m ∙ ap (λ (p : PrepareReading). verdict_of v.fields.mode header.Other p (is_listed v k)) (kind_some v k x e refl t) })
    ] refl

case_unread : (v : SuperValue) (k : ℕ) (x : Slot) → slot_verdict v k x ≡ unread_verdict (is_listed v k) → Case v k x
case_unread v k x is =
    elim (is_listed v k) as (λ b. is_listed v k ≡ b → Case v k x) [
      | true ↦ λ l. unread l (is ∙ ap unread_verdict l)
      | false ↦ λ l. unknown l (is ∙ ap unread_verdict l)
    ] refl

-- where the prepare doesn't fit, and tells something or not
case_not : (v : SuperValue) (k : ℕ) (x : Slot) (o : Option Header) (told : Bool) → x.header ≡ o → slot_verdict v k x ≡ without_entry told (header_kind v k o) (is_listed v k) → Case v k x
case_not v k x None told e is = case_unread v k x is
case_not v k x (Some g) told e is =
    elim (may_be v k g) as (λ b. may_be v k g ≡ b → Case v k x) [
      | true ↦ λ m. lost g (record { header = e; fits = m; verdict = is ∙ ap (λ (b : Bool). without_entry told (cond b header.Fits header.Other) (is_listed v k)) m })
      | false ↦ λ m.
          let other : slot_verdict v k x ≡ without_entry told header.Other (is_listed v k) = is ∙ ap (λ (b : Bool). without_entry told (cond b header.Fits header.Other) (is_listed v k)) m in
          elim told as (λ t. told ≡ t → Case v k x) [
            | false ↦ λ t. case_unread v k x (other ∙ ap (λ t. without_entry t header.Other (is_listed v k)) t)
            | true ↦ λ t.
                let sure : slot_verdict v k x ≡ without_entry true header.Other (is_listed v k) = other ∙ ap (λ t. without_entry t header.Other (is_listed v k)) t in
                elim (is_listed v k) as (λ b. is_listed v k ≡ b → Case v k x) [
                  | true ↦ λ l. wanted l (sure ∙ ap (without_entry true header.Other) l)
                  | false ↦ λ l. nothing l (sure ∙ ap (without_entry true header.Other) l)
                ] refl
          ] refl
    ] refl

case_by : (v : SuperValue) (k : ℕ) (o : Option Header) (p : Option Whole) (z : Bool) → let x : Slot = record { header = o; entry = p; blank = z } in Case v k x
case_by v k o None true = let x : Slot = record { header = o; entry = None; blank = true } in case_not v k x o (tells v.fields.mode prepare.Blank) refl refl
case_by v k o None false = let x : Slot = record { header = o; entry = None; blank = false } in case_not v k x o (tells v.fields.mode prepare.Not) refl refl
case_by v k o (Some e) z =
    let x : Slot = record { header = o; entry = Some e; blank = z } in
    elim (entry_fits v k x e) as (λ b. entry_fits v k x e ≡ b → Case v k x) [
      | true ↦ λ t. case_fits v k o e z t
      | false ↦ λ t. case_not v k x o (tells v.fields.mode prepare.OtherEntry) refl (ap (λ b. verdict_of v.fields.mode (header_kind v k o) (cond b prepare.Fits prepare.OtherEntry) (is_listed v k)) t)
    ] refl

pub case_of : (v : SuperValue) (k : ℕ) (x : Slot) → Case v k x
case_of v k x = case_by v k x.header x.entry x.blank

-- ---- what fits

pub right_of : (v : SuperValue) (k : ℕ) (h : Header) → may_be v k h ≡ true → (h.op ≡ k) × (is_right v k h ≡ true)
right_of v k h e =
    let a = and_parts (nat_le h.version v.fields.version) _ (and_parts (is_entry_header h) _ e).1 in
    let b = and_parts (h.cluster == v.fields.cluster) _ a.1 in
    let c = and_parts (h.op == k) (is_right v k h) b.1 in
    (eqb-true h.op k c.0, c.1)

pub group_of : (v : SuperValue) (k : ℕ) (h : Header) → may_be v k h ≡ true → h.cluster ≡ v.fields.cluster
group_of v k h e = eqb-true h.cluster v.fields.cluster (and_parts (h.cluster == v.fields.cluster) _ (and_parts (nat_le h.version v.fields.version) _ (and_parts (is_entry_header h) _ e).1).1).0

pub version_of : (v : SuperValue) (k : ℕ) (h : Header) → may_be v k h ≡ true → h.version ≤ v.fields.version
version_of v k h e = leb-true h.version v.fields.version (and_parts (nat_le h.version v.fields.version) _ (and_parts (is_entry_header h) _ e).1).0

some_same : (h : Header) (o : Option Header) → option_map_or (same_header h) o false ≡ true → o ≡ Some h
some_same h None e = absurd cc
some_same h (Some d) e = ap Some (sym (same_header_is h d e))

named_of : (v : SuperValue) (k : ℕ) (h : Header) → k ≤ v.fields.head → may_be v k h ≡ true → listed v k ≡ Some h
named_of v k h l e = some_same h (listed v k) (let r : is_right v k h ≡ true = (right_of v k h e).1 in rw (le-leb k v.fields.head l) at r)

view_of : (v : SuperValue) (k : ℕ) (h : Header) → v.fields.head < k → may_be v k h ≡ true → h.view ≡ v.fields.log_view
view_of v k h l e = eqb-true h.view v.fields.log_view (let r : is_right v k h ≡ true = (right_of v k h e).1 in rw (lt-leb k v.fields.head l) at r)

header_some : (make : Header → Part) (o : Option Header) → ((h : Header) → header_of (make h) ≡ Some h) → header_of (some_part make o) ≡ o
header_some make None m = refl
header_some make (Some h) m = m h

listed_bad : (v : SuperValue) (k : ℕ) → k ≤ v.fields.head → is_listed v k ≡ false → ⊥
listed_bad v k l e = let bad : true ≡ false = sym (le-leb k v.fields.head l) ∙ e in cc

unlisted_bad : (v : SuperValue) (k : ℕ) → v.fields.head < k → is_listed v k ≡ true → ⊥
unlisted_bad v k l e = let bad : false ≡ true = sym (lt-leb k v.fields.head l) ∙ e in cc

known_listed : (v : SuperValue) (k : ℕ) (x : Slot) → k ≤ v.fields.head → known_header v k x ≡ listed v k
known_listed v k x l = rw (le-leb k v.fields.head l) refl

known_read : (v : SuperValue) (k : ℕ) (x : Slot) → v.fields.head < k → known_header v k x ≡ x.header
known_read v k x l = rw (lt-leb k v.fields.head l) refl

pub here_is : (v : SuperValue) (k : ℕ) (x : Slot) (e : Whole) → x.entry ≡ Some e → some_part part.Here (entry_header x) ≡ part.Here e.header
here_is v k x e at = ap (λ (o : Option Whole). some_part part.Here (option_map (λ (e : Whole). e.header) o)) at

-- up to the head of the value it is the named header
pub of_named : (v : SuperValue) (k : ℕ) (x : Slot) → k ≤ v.fields.head → header_of (Of v k x) ≡ listed v k
of_named v k x l =
    let by : (t : Verdict) → slot_verdict v k x ≡ t → header_of (Of v k x) ≡ header_of (part_by v k x t) = λ t e. ap (λ (t : Verdict). header_of (part_by v k x t)) e in
    elim (case_of v k x) [
      | here e c ↦ by verdict.Here c.verdict ∙ (ap header_of (here_is v k x e c.entry) ∙ sym (named_of v k e.header l c.fits))
      | rewrite e c ↦ by verdict.Rewrite c.verdict ∙ (ap header_of (here_is v k x e c.entry) ∙ sym (named_of v k e.header l c.fits))
      | lost h c ↦ by verdict.Lost c.verdict ∙ (header_some part.Lost (known_header v k x) (λ h. refl) ∙ known_listed v k x l)
      | unread n e ↦ by verdict.Lost e ∙ (header_some part.Lost (known_header v k x) (λ h. refl) ∙ known_listed v k x l)
      | wanted n e ↦ by verdict.Wanted e ∙ (header_some part.Wanted (known_header v k x) (λ h. refl) ∙ known_listed v k x l)
      | nothing n e ↦ absurd (listed_bad v k l n)
      | unknown n e ↦ absurd (listed_bad v k l n)
    ]

-- above it, an entry of the last log view that reads: where all that reads was made
pub of_above : (v : SuperValue) (k : ℕ) (x : Slot) (made : List Header) → v.fields.head < k → ((h : Header) → x.header ≡ Some h → may_be v k h ≡ true → Contains made h) → ((e : Whole) → x.entry ≡ Some e → may_be v k e.header ≡ true → Contains made e.header)
    → IsFoundAbove made v.fields.log_view k (Of v k x)
of_above v k x made l heads entries =
    let Above : Part → Type 0 = IsFoundAbove made v.fields.log_view k in
    let by : (t : Verdict) → slot_verdict v k x ≡ t → Above (part_by v k x t) → Above (Of v k x) = λ t e. subst (λ (t : Verdict). Above (part_by v k x t)) (sym e) in
    let of : (h : Header) → may_be v k h ≡ true → Contains made h → IsMadeFor made v.fields.log_view k h = λ h f c. record { entry = c; at_op = (right_of v k h f).0; in_view = view_of v k h l f } in
    elim (case_of v k x) [
      | here e c ↦ by verdict.Here c.verdict (subst Above (sym (here_is v k x e c.entry)) (of e.header c.fits (entries e c.entry c.fits)))
      | rewrite e c ↦ by verdict.Rewrite c.verdict (subst Above (sym (here_is v k x e c.entry)) (of e.header c.fits (entries e c.entry c.fits)))
      | lost h c ↦ by verdict.Lost c.verdict (subst (λ (o : Option Header). Above (some_part part.Lost o)) (sym (known_read v k x l ∙ c.header)) (of h c.fits (heads h c.header c.fits)))
      | unread n e ↦ absurd (unlisted_bad v k l n)
      | wanted n e ↦ absurd (unlisted_bad v k l n)
      | nothing n e ↦ by verdict.Nothing e tt
      | unknown n e ↦ by verdict.Unknown e tt
    ]

lost_not : (o : Option Header) (h : Header) → some_part part.Lost o ≢ part.Here h
lost_not None h e = cc
lost_not (Some g) h e = cc

wanted_not : (o : Option Header) (h : Header) → some_part part.Wanted o ≢ part.Here h
wanted_not None h e = cc
wanted_not (Some g) h e = cc

here_same : (e : Whole) (h : Header) (k : ℕ) → part.Here e.header ≡ part.Here h → e.header.op ≡ k → h.op ≡ k
here_same e h k z at = let one : e.header ≡ h = cc in ap (λ (h : Header). h.op) (sym one) ∙ at

nothing_not : (h : Header) → part.Nothing ≢ part.Here h
nothing_not h e = cc

unknown_not : (h : Header) → part.Unknown ≢ part.Here h
unknown_not h e = cc

-- an entry that is found stored is the op's
pub of_here_op : (v : SuperValue) (k : ℕ) (x : Slot) (h : Header) → Of v k x ≡ part.Here h → h.op ≡ k
of_here_op v k x h z =
    let by : (t : Verdict) → slot_verdict v k x ≡ t → part_by v k x t ≡ part.Here h = λ t e. sym (ap (part_by v k x) e) ∙ z in
    elim (case_of v k x) [
      | here e c ↦ here_same e h k (sym (here_is v k x e c.entry) ∙ by verdict.Here c.verdict) (right_of v k e.header c.fits).0
      | rewrite e c ↦ here_same e h k (sym (here_is v k x e c.entry) ∙ by verdict.Rewrite c.verdict) (right_of v k e.header c.fits).0
      | lost g c ↦ absurd (lost_not (known_header v k x) h (by verdict.Lost c.verdict))
      | unread n e ↦ absurd (lost_not (known_header v k x) h (by verdict.Lost e))
      | wanted n e ↦ absurd (wanted_not (known_header v k x) h (by verdict.Wanted e))
      | nothing n e ↦ absurd (nothing_not h (by verdict.Nothing e))
      | unknown n e ↦ absurd (unknown_not h (by verdict.Unknown e))
    ]

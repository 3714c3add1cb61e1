-- A migration keeps what each slot holds, whole and cut.
use Rattle.std.proofs.Common.{ℕ, zero, suc, ◌+◌, ◌-◌, ◌*◌, ◌≤◌, ◌<◌, ◌≡◌, ◌⊎◌, inl, inr, arith, refl, sym, ap, ◌∙◌, subst, cond, List, [], ◌∷◌, ◌++◌, drop, take, length, length-append, Option, Some, None}
use Rattle.std.specs.Prelude.{nat_lt, replicate}
use Rattle.std.specs.List.{AllByRecursion}
use Rattle.std.specs.Option.{option_map_or}
use Rattle.std.proofs.lemmas.Bool.{cases_lt, lt-ltb}
use Rattle.std.proofs.lemmas.List.{get_or-replicate, length-replicate}
use Rattle.vr_base.specs.declared.mode.Mode.{Mode}
use Rattle.vr_disk.specs.DiskState as disk
use Rattle.vr_disk.specs.DiskState.{Call, Cell, Face, Sync, Write, cell}
use Rattle.vr_disk.specs.Regions.{prepare_place, prepare_sectors}
use Rattle.vr_disk.specs.Sectors.{writes}
use Rattle.vr_disk.proofs.Faces.{face_after_all}
use Rattle.vr_disk.proofs.Frames.{frame_all}
use Rattle.vr_disk.proofs.Stopping.{cuts_both}
use Rattle.vr_disk.proofs.Together.{Within, after_all_append, length_after_all, together_same, within_spares}
use Rattle.vr_header.specs.declared.header.Header.{Header}
use Rattle.vr_super.specs.Calls.{mend_calls, write_calls}
use Rattle.vr_super.specs.Copies.{IsGood, SuperValue}
use Rattle.vr_super.specs.Laws.{AllRead}
use Rattle.vr_super.specs.Opens.{copy_reading, opens}
use Rattle.vr_super.proofs.Keeping.{count_law, mends_none, opens_on}
use Rattle.vr_rings.specs.Held.{Stands, held_after_all, held_cut, looked}
use Rattle.vr_rings.specs.Moving.{Moves, moves, relocated}
use Rattle.vr_rings.proofs.Cutting.{AllApart, Rests, apart_cut}
use Rattle.vr_rings.proofs.Moving.{all_within, moves_keep, within_apart}
use Rattle.vr_rings.proofs.Relocated.{relocated_moved}
use Rattle.vr_rings.proofs.Standing.{calls_stand, stands_look}
use Rattle.vr_lie.specs.Faults.{held_at}
use Rattle.vr_rules.proofs.Migrating.{migrated_good}
use Rattle.vr_world.specs.Group.{Member, MayOpen, begins, begins_first, carried_out, cut_after, ends, migration}
use Rattle.vr_world.specs.Lying.{Lying, after_calls, cut_calls, settled}
use Rattle.vr_rules.specs.Steps.{Effect, Mend, Save}
use Rattle.vr_rules.specs.Migrating.{migrated, migration_calls, slot_calls}
use Rattle.law_4_disks.specs.Beside.{IsHeld, IsOff}
use Rattle.law_4_disks.proofs.Calls.{mend_are}
use Rattle.law_4_disks.proofs.Effects.{at_slot, synced}
use Rattle.law_4_disks.proofs.Migrating as moving
use Rattle.law_4_disks.proofs.Regions.{mend_apart, write_apart}
use Rattle.law_4_disks.proofs.Slots.{apart_append, apart_held_all, apart_held_cut}
use Rattle.law_4_disks.proofs.Supers.{From, mended, opens_cut}
use Rattle.law_7_members.specs.Migrations.{HoldsAs, KeepsSlots, MayMigrate, MigrationsAreCounted, MigrationsKeepSlots, before_saving}

-- ---- as a file of the version that opens

settled_version : (x : Lying) (w : SuperValue) → opens x.face ≡ Some w → (settled x).version ≡ w.fields.version
settled_version x w e = ap (λ (o : Option SuperValue). option_map_or (λ v. v.fields.version) o x.version) e

settled_held : {mode : Mode} (x : Lying) (n slot : ℕ) → (settled x).version ≡ n → slot < 64 → Stands n mode x.face slot (held_at x.held slot) → held_at (settled x).held slot ≡ held_at x.held slot
settled_held {mode} x n slot e l s =
    at_slot (λ slot. looked (settled x).version x.face slot (held_at x.held slot)) slot l ∙ (ap (λ (n : ℕ). looked n x.face slot (held_at x.held slot)) e ∙ stands_look {mode = mode} n x.face slot (held_at x.held slot) s)

-- ---- a disk on which no slot was kept, as one beside a member

abbrev no_header : Option Header
no_header = None

abbrev with_none_kept : SuperValue → Member
with_none_kept v = record { replica = None; last = v; under = None; kept = replicate 64 no_header }

none_kept : (v : SuperValue) (d : Lying) → IsHeld d (with_none_kept v)
none_kept v d = record {
  count = length-replicate 64 no_header;
  each = λ slot h l e. absurd (let bad : None ≡ Some h = sym (get_or-replicate 64 slot no_header None l) ∙ e in cc);
}

no_more : (n : ℕ) (m : Member) → begins_first (drop n []) (carried_out (take n []) m) ≡ m
unfolding carried_out
no_more zero m = refl
no_more (suc n) m = refl

-- a value that a cut migration may open as is the old one, or the new one
opens_either : (v w : SuperValue) (effects : ℕ) → MayOpen (cut_after effects (migration v) (with_none_kept v)) w → (w ≡ v) ⊎ (w ≡ migrated v)
unfolding carried_out
opens_either v w zero (inl e) = inl (sym e)
opens_either v w zero (inr e) = absurd cc
opens_either v w (suc zero) (inl e) = inl (sym e)
opens_either v w (suc zero) (inr e) = inr (let same : migrated v ≡ w = cc in sym same)
opens_either v w (suc (suc n)) may =
    let q : Member = ends (Save v (migrated v)) (begins (Save v (migrated v)) (ends (Mend v) (begins (Mend v) (with_none_kept v)))) in
    let x : MayOpen q w = subst (λ (q : Member). MayOpen q w) (no_more n q) may in
    elim x [ inl e ↦ inr (sym e) | inr e ↦ absurd cc ]

-- where the mending alone was begun, the old value opens
mending_opens : (v w : SuperValue) (effects : ℕ) → Mend v ∷ [] ≡ take (effects + 1) (migration v) → MayOpen (cut_after effects (migration v) (with_none_kept v)) w → w ≡ v
unfolding carried_out
mending_opens v w zero one (inl e) = sym e
mending_opens v w zero one (inr e) = absurd cc
mending_opens v w (suc n) one may =
    let e : suc n + 1 ≡ suc (suc n) = omega arith in
    let two : Mend v ∷ [] ≡ take (suc (suc n)) (migration v) = one ∙ ap (λ (k : ℕ). take k (migration v)) e in
    let size = ap (λ (es : List Effect). length es) two in
    absurd (omega (arith, size))

-- no sector of the superblock is written with the prepares
from_within : (low high bound : ℕ) (cs : List Call) → bound ≤ low → AllByRecursion (Within low high) cs → AllByRecursion (From bound) cs
unfolding Within
from_within low high bound [] l w = tt
from_within low high bound (Write i b ∷ cs) l w = (let x = w.0.0 in omega (arith, l, x), from_within low high bound cs l w.1)
from_within low high bound (Sync ∷ cs) l w = (tt, from_within low high bound cs l w.1)

slots_from : (f : Face) → AllByRecursion (From 80) (slot_calls f)
slots_from f = from_within (prepare_place 2 0) (prepare_place 2 64) 80 (slot_calls f) (omega arith) (all_within (relocated f))

module _ (v : SuperValue) (d : Lying) (may : MayMigrate v d) where
  off : IsOff d (with_none_kept v) v
  off = record { calm = may.calm; held = none_kept v d; value = may.opens; file = may.version; may = inl refl; group = refl }

  good : IsGood v
  good = ((opens_on d.face may.calm.face).value v may.opens).1

  abbrev mid : Face
  mid = disk.after_all d.face (mend_calls v d.face)

  abbrev last : Face
  last = disk.after_all mid (slot_calls mid)

  abbrev saves : List Call
  saves = write_calls v (migrated v) last

  abbrev parts : List Call
  parts = mend_calls v d.face ++ (slot_calls mid ++ saves)

  all_calls : migration_calls v d.face ≡ parts
  all_calls = rw may.first refl

  -- ---- no call writes a sector of a slot of a file of version 1

  moves_apart : (slot : ℕ) → slot < 64 → AllByRecursion (AllApart 1 slot) (slot_calls mid)
  moves_apart slot l = within_apart slot (slot_calls mid) l (all_within (relocated mid))

  calls_apart : (slot : ℕ) → slot < 64 → AllByRecursion (AllApart 1 slot) parts
  calls_apart slot l =
      apart_append 1 slot (mend_calls v d.face) (slot_calls mid ++ saves) (mend_apart 1 v d.face slot) (apart_append 1 slot (slot_calls mid) saves (moves_apart slot l) (write_apart 1 v (migrated v) last slot))

  one : d.version ≡ 1
  one = may.version ∙ may.first

  before : (slot : ℕ) → slot < 64 → Stands 1 v.fields.mode d.face slot (held_at d.held slot)
  before slot l = subst (λ (n : ℕ). Stands n v.fields.mode d.face slot (held_at d.held slot)) one (may.calm.stand.each slot l)

  -- of calls that write none it is as before
  stay_after : (cs : List Call) (f : Face) (slot : ℕ) (ver : ℕ) → slot < 64 → length f.cells ≡ length d.face.cells → AllByRecursion (AllApart ver slot) cs → Stands ver v.fields.mode f slot (held_at d.held slot) → Stands ver v.fields.mode (disk.after_all f cs) slot (held_at d.held slot)
  stay_after cs f slot ver l size a s =
      let count = size ∙ may.calm.face.count in
      subst (Stands ver v.fields.mode (disk.after_all f cs) slot) (apart_held_all ver cs f slot (held_at d.held slot) l count a s) (calls_stand ver cs f slot (held_at d.held slot) l count s)

  stay_cut : (cs : List Call) (f : Face) (slot ver j code : ℕ) → slot < 64 → length f.cells ≡ length d.face.cells → f.waiting ≡ [] → AllByRecursion (AllApart ver slot) cs → Stands ver v.fields.mode f slot (held_at d.held slot)
      → Stands ver v.fields.mode (disk.cut j code f cs) slot (held_at d.held slot)
  stay_cut cs f slot ver j code l size rests a s =
      let count = size ∙ may.calm.face.count in
      let none : Rests ver slot f = λ k y. rw rests refl in
      subst (Stands ver v.fields.mode (disk.cut j code f cs) slot) (apart_held_cut ver cs f slot j code (held_at d.held slot) l count a none s) (apart_cut ver cs f slot (held_at d.held slot) j code l count a none s)

  -- ---- what the disk of the whole migration, and each that is cut, holds

  whole_held : (slot : ℕ) → slot < 64 → held_at (after_calls d parts).held slot ≡ held_at d.held slot
  whole_held slot l =
      at_slot (λ slot. held_after_all d.version d.face parts slot (held_at d.held slot)) slot l
      ∙ (ap (λ (n : ℕ). held_after_all n d.face parts slot (held_at d.held slot)) one ∙ apart_held_all 1 parts d.face slot (held_at d.held slot) l may.calm.face.count (calls_apart slot l) (before slot l))

  cut_held : (j code slot : ℕ) → slot < 64 → held_at (cut_calls j code d parts).held slot ≡ held_at d.held slot
  cut_held j code slot l =
      at_slot (λ slot. held_cut d.version j code d.face parts slot (held_at d.held slot)) slot l
      ∙ (ap (λ (n : ℕ). held_cut n j code d.face parts slot (held_at d.held slot)) one ∙ apart_held_cut 1 parts d.face slot j code (held_at d.held slot) l may.calm.face.count (calls_apart slot l) (λ k y. rw may.calm.rests refl) (before slot l))

  -- ---- once the prepares are written, each slot stands at its new place too

  mid_rests : mid.waiting ≡ []
  mid_rests = (mended v d.face may.calm.face may.calm.rests may.opens).waiting

  mid_size : length mid.cells ≡ length d.face.cells
  mid_size = length_after_all (mend_calls v d.face) d.face

  last_size : length last.cells ≡ length d.face.cells
  last_size = length_after_all (slot_calls mid) mid ∙ mid_size

  mid_face : disk.IsFace mid
  mid_face = face_after_all (mend_calls v d.face) d.face may.calm.face (mend_are v d.face good)

  slot_moved : (slot : ℕ) → slot < 64 → Moves v.fields.mode mid (relocated mid) slot (held_at d.held slot)
  slot_moved slot l =
      let stands = stay_after (mend_calls v d.face) d.face slot 1 l refl (mend_apart 1 v d.face slot) (before slot l) in
      moves_keep v.fields.mode mid (relocated mid) slot (held_at d.held slot) l (mid_size ∙ may.calm.face.count) mid_rests (relocated_moved mid slot mid_face l) stands

  stands_twice : (slot : ℕ) → slot < 64 → Stands 2 v.fields.mode last slot (held_at d.held slot)
  stands_twice slot l = (slot_moved slot l).moved

  last_rests : last.waiting ≡ []
  last_rests = synced (moves 0 64 (relocated mid)) mid

  after_parts : disk.after_all d.face parts ≡ disk.after_all last saves
  after_parts = after_all_append (mend_calls v d.face) (slot_calls mid ++ saves) d.face ∙ after_all_append (slot_calls mid) saves mid

  cut_parts : (j code : ℕ) → before_saving v d ≤ j → disk.cut j code d.face parts ≡ disk.cut (j - length (mend_calls v d.face) - length (slot_calls mid)) code last saves
  cut_parts j code l =
      let cs = mend_calls v d.face in
      let ds = slot_calls mid in
      (cuts_both cs (ds ++ saves) d.face j code).later (omega (arith, l)) ∙ (cuts_both ds saves mid (j - length cs) code).later (omega (arith, l))

  -- ---- whole

  done_parts : IsOff (settled (after_calls d parts)) (carried_out (migration v) (with_none_kept v)) (migrated v) → HoldsAs d (migrated v) (settled (after_calls d parts))
  done_parts o =
      let x : Lying = after_calls d parts in
      record {
        calm = o.calm;
        opens = o.value;
        version = o.file;
        held = λ slot l.
            let stands = subst (λ (f : Face). Stands 2 v.fields.mode f slot (held_at d.held slot)) (sym after_parts) (stay_after saves last slot 2 l last_size (write_apart 2 v (migrated v) last slot) (stands_twice slot l)) in
            settled_held {mode = v.fields.mode} x 2 slot o.file l (subst (Stands 2 v.fields.mode x.face slot) (sym (whole_held slot l)) stands) ∙ whole_held slot l;
        old = λ slot l. stay_after parts d.face slot 1 l refl (calls_apart slot l) (before slot l);
      }

  -- ---- cut

  cut_old : (j code slot : ℕ) → slot < 64 → Stands 1 v.fields.mode (disk.cut j code d.face parts) slot (held_at d.held slot)
  cut_old j code slot l = stay_cut parts d.face slot 1 j code l refl may.calm.rests (calls_apart slot l) (before slot l)

  cut_as_old : (j code : ℕ) (m : Member) → IsOff (settled (cut_calls j code d parts)) m v → HoldsAs d v (settled (cut_calls j code d parts))
  cut_as_old j code m o =
      let x : Lying = cut_calls j code d parts in
      record {
        calm = o.calm;
        opens = o.value;
        version = o.file;
        held = λ slot l. settled_held {mode = v.fields.mode} x 1 slot (o.file ∙ may.first) l (subst (Stands 1 v.fields.mode x.face slot) (sym (cut_held j code slot l)) (cut_old j code slot l)) ∙ cut_held j code slot l;
        old = cut_old j code;
      }

  cut_as_new : (j code : ℕ) (m : Member) → before_saving v d ≤ j → IsOff (settled (cut_calls j code d parts)) m (migrated v) → HoldsAs d (migrated v) (settled (cut_calls j code d parts))
  cut_as_new j code m late o =
      let x : Lying = cut_calls j code d parts in
      let k = j - length (mend_calls v d.face) - length (slot_calls mid) in
      record {
        calm = o.calm;
        opens = o.value;
        version = o.file;
        held = λ slot l.
            let stands = subst (λ (f : Face). Stands 2 v.fields.mode f slot (held_at d.held slot)) (sym (cut_parts j code late)) (stay_cut saves last slot 2 k code l last_size last_rests (write_apart 2 v (migrated v) last slot) (stands_twice slot l)) in
            settled_held {mode = v.fields.mode} x 2 slot o.file l (subst (Stands 2 v.fields.mode x.face slot) (sym (cut_held j code slot l)) stands) ∙ cut_held j code slot l;
        old = cut_old j code;
      }

  -- within the mending, and while prepares are written, the old value opens
  early_opens : (j code : ℕ) (w : SuperValue) (effects : ℕ) → j < before_saving v d → cond (nat_lt j (length (mend_calls v d.face))) (Mend v ∷ []) (migration v) ≡ take (effects + 1) (migration v)
      → MayOpen (cut_after effects (migration v) (with_none_kept v)) w → opens (disk.cut j code d.face parts) ≡ Some w → w ≡ v
  early_opens j code w effects early begun may_open e =
      let cs = mend_calls v d.face in
      let ds = slot_calls mid in
      elim (cases_lt j (length cs)) [
        | inl first ↦
            let one : Mend v ∷ [] ≡ take (effects + 1) (migration v) = sym (ap (λ t. cond t (Mend v ∷ []) (migration v)) (lt-ltb j (length cs) first)) ∙ begun in
            mending_opens v w effects one may_open
        | inr later ↦
            let k = j - length cs in
            let at : disk.cut j code d.face parts ≡ disk.cut k code mid ds = (cuts_both cs (ds ++ saves) d.face j code).later later ∙ (cuts_both ds saves mid k code).first (omega (arith, later, early)) in
            let still : opens (disk.cut k code mid ds) ≡ Some v = opens_cut ds mid k code mid_rests (slots_from mid) ∙ (mended v d.face may.calm.face may.calm.rests may.opens).opens in
            let same : Some w ≡ Some v = sym e ∙ (ap opens at ∙ still) in
            cc
      ]

  stopped_parts : (j code : ℕ) → j < length parts → (y : moving.IsMigrationCut v d (with_none_kept v) off may.first (migrated_good v good) j code)
      → HoldsAs d v (settled (cut_calls j code d parts)) ⊎ ((before_saving v d ≤ j) × HoldsAs d (migrated v) (settled (cut_calls j code d parts)))
  stopped_parts j code l y =
      let m = cut_after y.effects (migration v) (with_none_kept v) in
      let o = subst (λ (es : List Call). IsOff (settled (cut_calls j code d es)) m y.value) all_calls y.off in
      let as_old : y.value ≡ v → HoldsAs d v (settled (cut_calls j code d parts)) = λ e. cut_as_old j code m (subst (λ (w : SuperValue). IsOff (settled (cut_calls j code d parts)) m w) e o) in
      elim (cases_lt j (before_saving v d)) [
        | inl early ↦ inl (as_old (early_opens j code y.value y.effects early y.begun o.may o.value))
        | inr late ↦ elim (opens_either v y.value y.effects o.may) [
          | inl e ↦ inl (as_old e)
          | inr e ↦ inr (late, cut_as_new j code m late (subst (λ (w : SuperValue). IsOff (settled (cut_calls j code d parts)) m w) e o))
        ]
      ]

  pub keeps_slots : KeepsSlots v d
  keeps_slots =
      let new_good = migrated_good v good in
      record {
        done =
            let o = moving.migrates v d (with_none_kept v) off may.first new_good in
            subst (λ (es : List Call). HoldsAs d (migrated v) (settled (after_calls d es))) (sym all_calls)
            (done_parts (subst (λ (es : List Call). IsOff (settled (after_calls d es)) (carried_out (migration v) (with_none_kept v)) (migrated v)) all_calls o));
        stopped = λ j code l never.
            let y = moving.migration_cut v d (with_none_kept v) off may.first new_good j code l (moving.tells_migrating v d (with_none_kept v) off may.first new_good j code never) in
            let size = ap (λ (es : List Call). length es) all_calls in
            subst (λ (es : List Call). HoldsAs d v (settled (cut_calls j code d es)) ⊎ ((before_saving v d ≤ j) × HoldsAs d (migrated v) (settled (cut_calls j code d es)))) (sym all_calls)
            (stopped_parts j code (omega (arith, l, size)) y);
      }

pub migrations_keep_slots : MigrationsKeepSlots
migrations_keep_slots v d may = keeps_slots v d may

-- ---- how many calls it makes

length_writes : (n i : ℕ) (b : List ℕ) → length (writes i n b) ≡ n
unfolding writes
length_writes zero i b = refl
length_writes (suc n) i b = ap suc (length_writes n (i + 1) (drop 512 b))

length_moves : (n s : ℕ) (new : ℕ → List ℕ) → length (moves s n new) ≡ 8 * n
unfolding moves
length_moves zero s new = refl
length_moves (suc n) s new =
    let one = length_writes 8 (prepare_place 2 s) (new s) in
    let rest = length_moves n (s + 1) new in
    let both = length-append (writes (prepare_place 2 s) (prepare_sectors 2) (new s)) (moves (s + 1) n new) in
    omega (arith, one, rest, both)

slots_counted : (f : Face) → length (slot_calls f) ≡ 513
slots_counted f =
    let all = length_moves 64 0 (relocated f) in
    let both = length-append (moves 0 64 (relocated f)) (Sync ∷ []) in
    omega (arith, all, both)

-- the copies read as they did
still_read : (v : SuperValue) (f : Face) → AllRead f v → AllRead (disk.after_all f (slot_calls f)) v
unfolding copy_reading
still_read v f a copy l =
    together_same 20 (20 * copy) f (disk.after_all f (slot_calls f))
    (λ k low high. ap (λ (c : Cell). c.reads) (frame_all (slot_calls f) f k (within_spares (prepare_place 2 0) (prepare_place 2 64) (slot_calls f) k (all_within (relocated f)) (inl (omega (arith, high, l))))))
    ∙ a copy l

pub migrations_are_counted : MigrationsAreCounted
migrations_are_counted v f face rests opened first =
    let cs = mend_calls v f in
    let g = disk.after_all f cs in
    let ds = slot_calls g in
    let saves = write_calls v (migrated v) (disk.after_all g ds) in
    let parts : migration_calls v f ≡ cs ++ (ds ++ saves) = rw first refl in
    let all = ap (λ (es : List Call). length es) parts in
    let one = length-append cs (ds ++ saves) in
    let two = length-append ds saves in
    let slots = slots_counted g in
    let saved = count_law v (migrated v) (disk.after_all g ds) (still_read v g (mended v f face rests opened).copies) in
    let counted : length (migration_calls v f) ≡ length cs + 597 = omega (arith, all, one, two, slots, saved) in
    record {
      all = counted;
      mended = λ a. let none = ap (λ (es : List Call). length es) (mends_none 4 0 v f (omega arith) a) in omega (arith, counted, none);
    }

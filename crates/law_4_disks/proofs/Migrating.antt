-- The file of a stopped member becomes one of version 2, whole or cut: the disk is beside the member again, as a file of the version that opens.
use Rattle.std.proofs.Common.{ℕ, zero, suc, ◌+◌, ◌-◌, ◌≤◌, ◌<◌, ◌≡◌, ◌⊎◌, inl, inr, arith, refl, sym, ap, ◌∙◌, subst, true, false, cond, List, [], ◌∷◌, ◌++◌, length, take, Option, Some, None}
use Rattle.std.specs.Prelude.{nat_lt, replicate}
use Rattle.std.specs.List.{AllByRecursion}
use Rattle.std.specs.Option.{option_map_or}
use Rattle.std.proofs.lemmas.Bool.{cases_lt, le-ltb, lt-ltb}
use Rattle.std.proofs.lemmas.List.{length-append}
use Rattle.vr_base.specs.Bytes.{IsBytes}
use Rattle.vr_base.specs.declared.mode.Mode.{Mode}
use Rattle.vr_disk.specs.DiskState as disk
use Rattle.vr_disk.specs.DiskState.{Call, Face, IsFace, Sync}
use Rattle.vr_disk.specs.Regions.{prepare_place, prepare_sectors}
use Rattle.vr_disk.specs.Sectors.{writes}
use Rattle.vr_disk.proofs.Places.{inside}
use Rattle.vr_disk.proofs.Together.{Within, after_all_append}
use Rattle.vr_header.specs.NoCollision.{NoCollision}
use Rattle.vr_rings.specs.Moving.{Moves, is_movable, moved_of, moves, relocated}
use Rattle.vr_rings.proofs.Moving.{all_within, moves_keep, within_apart}
use Rattle.vr_rings.proofs.Relocated.{relocated_moved}
use Rattle.vr_super.specs.Laws.{IsSaved, TellsApart}
use Rattle.vr_super.specs.Calls.{mend_calls, write_calls}
use Rattle.vr_super.specs.Copies.{IsGood, SuperValue}
use Rattle.vr_lie.specs.Faults.{held_at}
use Rattle.vr_rings.specs.Held.{Stands, held_after_all, looked}
use Rattle.vr_super.specs.Opens.{opens}
use Rattle.vr_rings.specs.Slots.{prepare_reading}
use Rattle.vr_rings.proofs.Cutting.{AllApart, Rests, apart_cut}
use Rattle.vr_super.proofs.Keeping.{opens_on, write_law}
use Rattle.vr_rings.proofs.Standing.{calls_stand, stands_look}
use Rattle.vr_world.specs.Group.{Member, MayOpen, begins, carried_out, cut_after, ends, migration}
use Rattle.vr_world.specs.Lying.{Lying, after_calls, cut_calls, settled}
use Rattle.vr_rules.specs.Migrating.{migrated, migration_calls, slot_calls}
use Rattle.vr_rules.specs.Steps.{Mend, Save}
use Rattle.law_4_disks.specs.Beside.{IsCalm, IsHeld, IsOff, IsOn, MayCome, Tells}
use Rattle.law_4_disks.specs.Naming.{IsHashedBy, IsHashedMigrating, IsMet, mended_on, moved_on}
use Rattle.law_4_disks.proofs.Calls.{AreCalls, calls_append, mend_are, save_are, writes_are}
use Rattle.law_4_disks.proofs.Effects.{apart_after, apart_stands, apart_stopped, at_slot, calm_after, calm_cut, grid_cut, grid_done, held_moves, mend_cut, mend_opens, synced}
use Rattle.law_4_disks.proofs.Found.{read_prepare}
use Rattle.law_4_disks.proofs.Regions.{from_less, write_apart}
use Rattle.law_4_disks.proofs.Scripts.{Same, cut_first, cut_later, same_off}
use Rattle.law_4_disks.proofs.Slots.{apart_held_all, apart_held_cut}
use Rattle.law_4_disks.proofs.Starts.{held_all_both}
use Rattle.law_4_disks.proofs.Supers.{From, saved}
use Rattle.law_4_disks.proofs.Telling.{fewer, met_apart, tells_one}

-- ---- what is written at the new places

lost_bytes : (n : ℕ) → IsBytes (replicate n 255)
lost_bytes zero i = omega arith
lost_bytes (suc n) zero = omega arith
lost_bytes (suc n) (suc i) = lost_bytes n i

moved_bytes : (o : Option (List ℕ)) → ((p : List ℕ) → o ≡ Some p → IsBytes p) → IsBytes (moved_of o)
moved_bytes None h = lost_bytes 4096
moved_bytes (Some p) h = elim (is_movable p) as (λ t. IsBytes (cond t p (replicate 4096 255))) [ true ↦ h p refl | false ↦ lost_bytes 4096 ]

relocated_bytes : (f : Face) (slot : ℕ) → IsFace f → slot < 64 → IsBytes (relocated f slot)
relocated_bytes f slot h l = moved_bytes (prepare_reading 1 f slot) (λ p e. (read_prepare 1 f slot p h l e).0)

moves_are : (f : Face) (n s : ℕ) → IsFace f → s + n ≤ 64 → AreCalls (moves s n (relocated f))
unfolding moves
moves_are f zero s h l = tt
moves_are f (suc n) s h l =
    let size = (relocated_moved f s h (omega (arith, l))).size in
    calls_append (writes (prepare_place 2 s) (prepare_sectors 2) (relocated f s)) (moves (s + 1) n (relocated f)) (writes_are 8 (prepare_place 2 s) (relocated f s) (relocated_bytes f s h (omega (arith, l))) (omega (arith, size)) (inside 2 s (omega (arith, l)))) (moves_are f n (s + 1) h (omega (arith, l)))

slot_calls_are : (f : Face) → IsFace f → AreCalls (slot_calls f)
slot_calls_are f h = calls_append (moves 0 64 (relocated f)) (Sync ∷ []) (moves_are f 64 0 h (omega arith)) (tt, tt)

within_from : (low high : ℕ) (cs : List Call) → AllByRecursion (Within low high) cs → AllByRecursion (From low) cs
unfolding Within
within_from low high [] w = tt
within_from low high (disk.Write i b ∷ cs) w = (w.0.0, within_from low high cs w.1)
within_from low high (Sync ∷ cs) w = (tt, within_from low high cs w.1)

slot_calls_from : (f : Face) → AllByRecursion (From 400) (slot_calls f)
slot_calls_from f = from_less 400 (prepare_place 2 0) (slot_calls f) (omega arith) (within_from (prepare_place 2 0) (prepare_place 2 64) (slot_calls f) (all_within (relocated f)))

-- ---- as a file of the version that opens

settled_version : (d : Lying) (v : SuperValue) → opens d.face ≡ Some v → (settled d).version ≡ v.fields.version
settled_version d v e = ap (λ (o : Option SuperValue). option_map_or (λ v. v.fields.version) o d.version) e

settled_held : {mode : Mode} (d : Lying) (n slot : ℕ) → (settled d).version ≡ n → slot < 64 → Stands n mode d.face slot (held_at d.held slot) → held_at (settled d).held slot ≡ held_at d.held slot
settled_held {mode} d n slot e l s =
    at_slot (λ slot. looked (settled d).version d.face slot (held_at d.held slot)) slot l ∙ (ap (λ (n : ℕ). looked n d.face slot (held_at d.held slot)) e ∙ stands_look {mode = mode} n d.face slot (held_at d.held slot) s)

-- it is what it was
settled_first : (d : Lying) (m : Member) (v : SuperValue) → IsOff d m v → IsOff (settled d) m v
settled_first d m v o =
    let same : (settled d).version ≡ d.version = settled_version d v o.value ∙ sym o.file in
    let all : Same d (settled d) = record { face = refl; held = λ slot l. settled_held d d.version slot same l (o.calm.stand.each slot l); version = same } in
    same_off d (settled d) m v all o

-- or it becomes one of version 2, as which its slots stand too
settled_second : (d : Lying) (m : Member) (v : SuperValue) → IsCalm v.fields.mode d → d.version ≤ 2 → v.fields.version ≡ 2 → ((slot : ℕ) → slot < 64 → Stands 2 v.fields.mode d.face slot (held_at d.held slot))
    → IsHeld d m → opens d.face ≡ Some v → MayOpen m v → v.fields.cluster ≡ m.last.fields.cluster → IsOff (settled d) m v
settled_second d m v c few two stand h e may group =
    let version : (settled d).version ≡ 2 = settled_version d v e ∙ two in
    let same : (slot : ℕ) → slot < 64 → held_at (settled d).held slot ≡ held_at d.held slot = λ slot l. settled_held d 2 slot version l (stand slot l) in
    record {
      calm = record {
        face = c.face;
        rests = c.rests;
        stand = record {
          each = λ slot l.
              let held = subst (Stands 2 v.fields.mode d.face slot) (sym (same slot l)) (stand slot l) in
              subst (λ (n : ℕ). Stands n v.fields.mode d.face slot (held_at (settled d).held slot)) (sym version) held;
        };
      };
      held = record {
        count = h.count;
        each = λ slot x l k.
            let y = h.each slot x l k in
            let old = y.version in
            record { entry = y.entry; whole = y.whole; header = y.header; group = y.group; version = omega (arith, old, few, version); there = same slot l ∙ y.there };
      };
      value = e;
      file = version ∙ sym two;
      may = may;
      group = group;
    }

same_settled : (d x : Lying) → Same d x → Same (settled d) (settled x)
same_settled d x s =
    let version : (settled x).version ≡ (settled d).version =
    ap (λ (f : Face). option_map_or (λ v. v.fields.version) (opens f) x.version) s.face ∙ ap (λ (n : ℕ). option_map_or (λ v. v.fields.version) (opens d.face) n) s.version in
    record {
      face = s.face;
      held = λ slot l.
          at_slot (λ slot. looked (settled x).version x.face slot (held_at x.held slot)) slot l
          ∙ (ap (λ (n : ℕ). looked n x.face slot (held_at x.held slot)) version
          ∙ (ap (λ (f : Face). looked (settled d).version f slot (held_at x.held slot)) s.face
          ∙ (ap (looked (settled d).version d.face slot) (s.held slot l) ∙ sym (at_slot (λ slot. looked (settled d).version d.face slot (held_at d.held slot)) slot l))));
      version = version;
    }

-- calls after others
after_later : (cs ds : List Call) (d : Lying) → Same (after_calls (after_calls d cs) ds) (after_calls d (cs ++ ds))
after_later cs ds d = record {
  face = after_all_append cs ds d.face;
  held = λ slot l.
      at_slot (λ slot. held_after_all d.version d.face (cs ++ ds) slot (held_at d.held slot)) slot l
      ∙ (held_all_both d.version cs ds d.face slot (held_at d.held slot)
      ∙ (ap (held_after_all d.version (disk.after_all d.face cs) ds slot) (sym (at_slot (λ slot. held_after_all d.version d.face cs slot (held_at d.held slot)) slot l))
      ∙ sym (at_slot (λ slot. held_after_all d.version (disk.after_all d.face cs) ds slot (held_at (after_calls d cs).held slot)) slot l)));
  version = refl;
}

same_both : (a b c : Lying) → Same a b → Same b c → Same a c
same_both a b c s t = record { face = t.face ∙ s.face; held = λ slot l. t.held slot l ∙ s.held slot l; version = t.version ∙ s.version }

-- ---- the three parts: it is mended, the prepares are written, the new value is saved

module _ (v : SuperValue) (d : Lying) (m : Member) (o : IsOff d m v) (first : v.fields.version ≡ 1) (good_new : IsGood (migrated v)) where
  abbrev new : SuperValue
  new = migrated v

  -- once it is mended, and once they are written
  abbrev mid : Lying
  mid = mended_on v d

  abbrev last : Lying
  last = moved_on v d

  abbrev known : Member
  known = ends (Mend v) (begins (Mend v) m)

  good : IsGood v
  good = ((opens_on d.face o.calm.face).value v o.value).1

  on_mended : IsOn mid known
  on_mended = mend_opens v d m o (mend_are v d.face good)

  version_is : mid.version ≡ 1
  version_is = o.file ∙ first

  calls_apart : (slot : ℕ) → slot < 64 → AllByRecursion (AllApart mid.version slot) (slot_calls mid.face)
  calls_apart slot l = subst (λ (n : ℕ). AllByRecursion (AllApart n slot) (slot_calls mid.face)) (sym version_is) (within_apart slot (slot_calls mid.face) l (all_within (relocated mid.face)))

  on_moved : IsOn last known
  on_moved = grid_done (slot_calls mid.face) mid known on_mended (slot_calls_are mid.face on_mended.calm.face) (slot_calls_from mid.face) calls_apart (synced (moves 0 64 (relocated mid.face)) mid.face)

  slot_moved : (slot : ℕ) → slot < 64 → Moves v.fields.mode mid.face (relocated mid.face) slot (held_at mid.held slot)
  slot_moved slot l =
      let stands = subst (λ (n : ℕ). Stands n v.fields.mode mid.face slot (held_at mid.held slot)) version_is (on_mended.calm.stand.each slot l) in
      moves_keep v.fields.mode mid.face (relocated mid.face) slot (held_at mid.held slot) l on_mended.calm.face.count on_mended.calm.rests (relocated_moved mid.face slot on_mended.calm.face l) stands

  stand_twice : (slot : ℕ) → slot < 64 → Stands 2 v.fields.mode last.face slot (held_at last.held slot)
  stand_twice slot l = subst (Stands 2 v.fields.mode last.face slot) (sym (apart_after (slot_calls mid.face) mid on_mended.calm calls_apart slot l)) (slot_moved slot l).moved

  -- saving writes no sector of a slot
  abbrev saves : List Call
  saves = write_calls v new last.face

  saves_apart : (n slot : ℕ) → AllByRecursion (AllApart n slot) saves
  saves_apart n slot = write_apart n v new last.face slot

  is_saved : IsSaved new (disk.after_all last.face saves)
  is_saved = saved v new last.face on_moved.calm.face on_moved.calm.rests on_moved.value good_new

  saved_held : (slot : ℕ) → slot < 64 → held_at (after_calls last saves).held slot ≡ held_at last.held slot
  saved_held = apart_after saves last on_moved.calm (λ slot l. saves_apart last.version slot)

  off_saved : IsOff (settled (after_calls last saves)) (ends (Save v new) (begins (Save v new) known)) new
  off_saved =
      let x : Lying = after_calls last saves in
      let q : Member = ends (Save v new) (begins (Save v new) known) in
      let is = version_is in
      settled_second x q new (calm_after saves last on_moved.calm (save_are v new last.face good good_new) is_saved.waiting) (omega (arith, is)) refl
      (λ slot l.
      let held = held_at last.held slot in
      let stands = calls_stand 2 saves last.face slot held l on_moved.calm.face.count (stand_twice slot l) in
      let still = apart_held_all 2 saves last.face slot held l on_moved.calm.face.count (saves_apart 2 slot) (stand_twice slot l) in
      subst (Stands 2 v.fields.mode x.face slot) (still ∙ sym (saved_held slot l)) stands)
      (held_moves last x known q refl refl refl saved_held on_moved.held) is_saved.opens (inl refl) refl

  -- ---- cut

  off_mending : (j code : ℕ) → j < length (mend_calls v d.face) → Tells (Mend v) d j code → IsOff (settled (cut_calls j code d (mend_calls v d.face))) m v
  off_mending j code l t =
      let x : Lying = cut_calls j code d (mend_calls v d.face) in
      let may : MayCome (Mend v) d v = record { fit = refl; calls = mend_are v d.face good } in
      settled_first x m v (mend_cut v d m j code o may l t)

  -- so many calls of the new prepares are made: the old value opens
  off_moving : (k code : ℕ) → k < length (slot_calls mid.face) → IsOff (settled (cut_calls k code mid (slot_calls mid.face))) (begins (Save v new) known) v
  off_moving k code l =
      let x : Lying = cut_calls k code mid (slot_calls mid.face) in
      let y = grid_cut (slot_calls mid.face) mid known k code on_mended (slot_calls_are mid.face on_mended.calm.face) (slot_calls_from mid.face) calls_apart l in
      settled_first x (begins (Save v new) known) v (begun_save x known v y)
    where
      begun_save : (x : Lying) (q : Member) (w : SuperValue) → IsOff x q q.last → IsOff x (begins (Save w (migrated w)) q) q.last
      begun_save x q w y = record { calm = y.calm; held = record { count = y.held.count; each = y.held.each }; value = y.value; file = y.file; may = inl refl; group = refl }

  off_saving : (k code : ℕ) → k < length saves → TellsApart (disk.cut k code last.face saves) v → TellsApart (disk.cut k code last.face saves) new → (w : SuperValue) × IsOff (settled (cut_calls k code last saves)) (begins (Save v new) known) w
  off_saving k code l old_tells new_tells =
      let x : Lying = cut_calls k code last saves in
      let q : Member = begins (Save v new) known in
      let is = version_is in
      let calm = calm_cut saves last k code on_moved.calm (save_are v new last.face good good_new) l (apart_stands saves last k code on_moved.calm (λ slot l. saves_apart last.version slot)) in
      let same = apart_stopped saves last k code on_moved.calm (λ slot l. saves_apart last.version slot) in
      let held = held_moves last x known q refl refl refl same on_moved.held in
      elim ((write_law v new last.face on_moved.calm.face on_moved.calm.rests on_moved.value good_new).stopped k code old_tells new_tells) [
        | inl e ↦ (v, settled_first x q v (record { calm = calm; held = held; value = e; file = o.file; may = inl refl; group = refl }))
        | inr e ↦ (
          new,
          settled_second x q new calm (omega (arith, is)) refl
              (λ slot l.
              let h = held_at last.held slot in
              let rests : Rests 2 slot last.face = λ k y. rw on_moved.calm.rests refl in
              let stands = apart_cut 2 saves last.face slot h k code l on_moved.calm.face.count (saves_apart 2 slot) rests (stand_twice slot l) in
              let still = apart_held_cut 2 saves last.face slot k code h l on_moved.calm.face.count (saves_apart 2 slot) rests (stand_twice slot l) in
              subst (Stands 2 v.fields.mode x.face slot) (still ∙ sym (same slot l)) stands)
              held e (inr refl) refl,
        )
      ]

  -- ---- all calls, one after the other

  all_calls : migration_calls v d.face ≡ mend_calls v d.face ++ (slot_calls mid.face ++ saves)
  all_calls = rw first refl

  pub migrates : IsOff (settled (after_calls d (migration_calls v d.face))) (carried_out (migration v) m) new
  unfolding carried_out
  migrates =
      let cs = mend_calls v d.face in
      let ds = slot_calls mid.face in
      let x : Lying = after_calls last saves in
      let y : Lying = after_calls d (cs ++ (ds ++ saves)) in
      let same : Same x y = same_both x (after_calls mid (ds ++ saves)) y (after_later ds saves mid) (after_later cs (ds ++ saves) d) in
      let q : Member = ends (Save v new) (begins (Save v new) known) in
      subst (λ (es : List Call). IsOff (settled (after_calls d es)) q new) (sym all_calls) (same_off (settled x) (settled y) q new (same_settled x y same) off_saved)

  -- a fuse that lets all calls through lets the mending through
  pub begun_whole : (j : ℕ) → length (migration_calls v d.face) ≤ j → cond (nat_lt j (length (mend_calls v d.face))) (Mend v ∷ []) (migration v) ≡ migration v
  begun_whole j l =
      let cs = mend_calls v d.face in
      let size : length (migration_calls v d.face) ≡ length (cs ++ (slot_calls mid.face ++ saves)) = ap (λ (es : List Call). length es) all_calls in
      let some = length-append cs (slot_calls mid.face ++ saves) in
      rw (le-ltb j (length cs) (omega (arith, l, size, some))) refl

  -- a stop of it: within the mending, or later
  pub record IsMigrationCut (j code : ℕ) : Type 0 where
    pub effects : ℕ
    pub value : SuperValue
    pub begun : cond (nat_lt j (length (mend_calls v d.face))) (Mend v ∷ []) (migration v) ≡ take (effects + 1) (migration v)
    pub off : IsOff (settled (cut_calls j code d (migration_calls v d.face))) (cut_after effects (migration v) m) value

  -- what tells it where it comes
  pub record TellsMigrating (j code : ℕ) : Type 0 where
    pub mending : j < length (mend_calls v d.face) → Tells (Mend v) d j code
    pub saving : length (mend_calls v d.face) + length (slot_calls mid.face) ≤ j → (w : SuperValue) → (w ≡ v) ⊎ (w ≡ new) → TellsApart (disk.cut (j - (length (mend_calls v d.face) + length (slot_calls mid.face))) code last.face saves) w

  pub tells_migrating : (j code : ℕ) → NoCollision (IsHashedMigrating v d j code) → TellsMigrating j code
  tells_migrating j code never =
      let P : List ℕ → Type 0 = IsHashedMigrating v d j code in
      let past = length (mend_calls v d.face) + length (slot_calls mid.face) in
      let may : MayCome (Mend v) d v = record { fit = refl; calls = mend_are v d.face good } in
      record {
        mending = λ l. tells_one (Mend v) d v j code o.calm.face may (fewer P (IsHashedBy (Mend v) d j code) (λ b y. inl (l, y)) never);
        saving = λ l w p.
            let k = j - past in
            met_apart (Save v new) last k code on_moved.calm.face (save_are v new last.face good good_new) (fewer P (IsHashedBy (Save v new) last k code) (λ b y. inr (l, y)) never)
            (disk.cut k code last.face saves) IsMet.left w p;
      }

  pub migration_cut : (j code : ℕ) → j < length (migration_calls v d.face) → TellsMigrating j code → IsMigrationCut j code
  unfolding carried_out
  migration_cut j code l t =
      let cs = mend_calls v d.face in
      let ds = slot_calls mid.face in
      let size : length (migration_calls v d.face) ≡ length (cs ++ (ds ++ saves)) = ap (λ (es : List Call). length es) all_calls in
      let some = length-append cs (ds ++ saves) in
      let more = length-append ds saves in
      let y : Lying = cut_calls j code d (cs ++ (ds ++ saves)) in
      let back : (q : Member) (w : SuperValue) (x : Lying) → Same x y → IsOff (settled x) q w → IsOff (settled (cut_calls j code d (migration_calls v d.face))) q w =
      λ q w x same off. subst (λ (es : List Call). IsOff (settled (cut_calls j code d es)) q w) (sym all_calls) (same_off (settled x) (settled y) q w (same_settled x y same) off) in
      elim (cases_lt j (length cs)) [
        | inl one ↦ record { effects = 0; value = v; begun = rw (lt-ltb j (length cs) one) refl; off = back m v (cut_calls j code d cs) (cut_first cs (ds ++ saves) d j code one) (off_mending j code one (t.mending one)) }
        | inr later ↦
            let k = j - length cs in
            let begun : cond (nat_lt j (length cs)) (Mend v ∷ []) (migration v) ≡ migration v = rw (le-ltb j (length cs) later) refl in
            let rest : Same (cut_calls k code mid (ds ++ saves)) y = cut_later cs (ds ++ saves) d j code later in
            elim (cases_lt k (length ds)) [
              | inl two ↦
                  let x : Lying = cut_calls k code mid ds in
                  record { effects = 1; value = v; begun = begun; off = back (begins (Save v new) known) v x (same_both x (cut_calls k code mid (ds ++ saves)) y (cut_first ds saves mid k code two) rest) (off_moving k code two) }
              | inr three ↦
                  let i = k - length ds in
                  let x : Lying = cut_calls i code last saves in
                  let place : j - (length cs + length ds) ≡ i = omega arith in
                  let tells : (w : SuperValue) → (w ≡ v) ⊎ (w ≡ new) → TellsApart (disk.cut i code last.face saves) w = λ w p. subst (λ (i : ℕ). TellsApart (disk.cut i code last.face saves) w) place (t.saving (omega (arith, later, three)) w p) in
                  let z = off_saving i code (omega (arith, l, size, some, more, later, three)) (tells v (inl refl)) (tells new (inr refl)) in
                  record { effects = 1; value = z.0; begun = begun; off = back (begins (Save v new) known) z.0 x (same_both x (cut_calls k code mid (ds ++ saves)) y (cut_later ds saves mid k code three) rest) z.1 }
            ]
      ]

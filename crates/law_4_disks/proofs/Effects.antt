-- Each effect keeps the disk beside the member, carried out and cut.
use Rattle.std.proofs.Common.{ℕ, ◌≤◌, ◌<◌, ◌≡◌, ◌≢◌, inl, inr, arith, refl, sym, ap, ◌∙◌, subst, Bool, true, false, cond, List, [], ◌∷◌, ◌++◌, length, get_or, set, Option, Some, None, length-set, get_or-set_other, get_or-set_same}
use Rattle.std.specs.List.{AllByRecursion}
use Rattle.std.proofs.lemmas.Bool.{cases_eq}
use Rattle.std.proofs.lemmas.List.FromFn.{get_or-map-range_with_len}
use Rattle.vr_base.specs.declared.kind.Kind.{Kind}
use Rattle.vr_base.specs.declared.mode.Mode.{Mode}
use Rattle.vr_disk.specs.DiskState.{Call, Disk, Face, Sync, after_all, cut, nothing_beside}
use Rattle.vr_disk.specs.Stops.{IsCall}
use Rattle.vr_disk.proofs.Faces.{face_after_all, face_cut}
use Rattle.vr_disk.proofs.Stopping.{nothing_left}
use Rattle.vr_disk.proofs.Together.{after_all_append}
use Rattle.vr_header.specs.declared.header.Header.{Header}
use Rattle.vr_header.specs.Made.{Whole}
use Rattle.vr_header.specs.Same.{same_header}
use Rattle.vr_header.proofs.SameHeaders.{same_header_is}
use Rattle.vr_super.specs.Copies.{SuperValue}
use Rattle.vr_super.specs.Opens.{file_kind}
use Rattle.vr_super.specs.Calls.{mend_calls, write_calls}
use Rattle.vr_super.proofs.Keeping.{mend_law, write_law}
use Rattle.vr_rings.specs.Held.{Stands, held_after_all, held_cut}
use Rattle.vr_rings.specs.Slots.{IsWhole, prepare_bytes, slot_of}
use Rattle.vr_rings.proofs.Cutting.{AllApart, apart_cut}
use Rattle.vr_rings.proofs.Standing.{calls_stand}
use Rattle.vr_lie.specs.Faults.{held_at}
use Rattle.vr_rules.specs.Steps.{Save, Mend}
use Rattle.vr_world.specs.Lying.{Lying, after_calls, cut_calls, each_slot}
use Rattle.vr_world.specs.Group.{Member, begins, ends, kept_at, kept_under}
use Rattle.law_4_disks.specs.Beside.{HoldsEntry, IsCalm, IsHeld, IsOff, IsOn, MayCome, Tells}
use Rattle.law_4_disks.proofs.Slots.{apart_held_all, apart_held_cut}
use Rattle.law_4_disks.proofs.Supers.{From, mended, opens_after, opens_cut, saved}
use Rattle.law_4_disks.proofs.Regions.{from_less, mend_apart, write_apart}

pub at_slot : (f : ℕ → Option (List ℕ)) (slot : ℕ) → slot < 64 → held_at (each_slot f) slot ≡ f slot
at_slot f slot l = get_or-map-range_with_len f 0 64 slot slot None l (omega arith)

-- ---- nothing waits, and the premise stands

pub calm_after : {mode : Mode} (cs : List Call) (d : Lying) → IsCalm mode d → AllByRecursion IsCall cs → (after_all d.face cs).waiting ≡ [] → IsCalm mode (after_calls d cs)
calm_after {mode} cs d c k r = record {
  face = face_after_all cs d.face c.face k;
  rests = r;
  stand = record { each = λ slot l. subst (Stands d.version mode (after_all d.face cs) slot) (sym (at_slot (λ slot. held_after_all d.version d.face cs slot (held_at d.held slot)) slot l)) (calls_stand d.version cs d.face slot (held_at d.held slot) l c.face.count (c.stand.each slot l)) };
}

pub calm_cut : {mode : Mode} (cs : List Call) (d : Lying) (j code : ℕ) → IsCalm mode d → AllByRecursion IsCall cs → j < length cs
    → ((slot : ℕ) → slot < 64 → Stands d.version mode (cut j code d.face cs) slot (held_cut d.version j code d.face cs slot (held_at d.held slot))) → IsCalm mode (cut_calls j code d cs)
calm_cut {mode} cs d j code c k l s = record {
  face = face_cut cs d.face j code c.face k;
  rests = nothing_left cs d.face j code l;
  stand = record { each = λ slot m. subst (Stands d.version mode (cut j code d.face cs) slot) (sym (at_slot (λ slot. held_cut d.version j code d.face cs slot (held_at d.held slot)) slot m)) (s slot m) };
}

-- ---- calls that leave all slots alone

abbrev Apart : ℕ → List Call → Type 0
Apart v cs = (slot : ℕ) → slot < 64 → AllByRecursion (AllApart v slot) cs

-- the same entry, of the same group, in a file of the same version
pub holds_as : {v w a b : ℕ} {x y : Option (List ℕ)} (g : Header) → x ≡ y → v ≡ w → a ≡ b → HoldsEntry v a g x → HoldsEntry w b g y
holds_as g e f c h = record { entry = h.entry; whole = h.whole; header = h.header; group = h.group ∙ c; version = subst (λ (n : ℕ). g.version ≤ n) f h.version; there = sym e ∙ h.there }

pub held_moves : (d x : Lying) (m q : Member) → x.version ≡ d.version → q.kept ≡ m.kept → q.last.fields.cluster ≡ m.last.fields.cluster → ((slot : ℕ) → slot < 64 → held_at x.held slot ≡ held_at d.held slot) → IsHeld d m → IsHeld x q
held_moves d x m q f e c s h = record {
  count = ap (λ (k : List (Option Header)). length k) e ∙ h.count;
  each = λ slot g l k. holds_as g (sym (s slot l)) (sym f) (sym c) (h.each slot g l (ap (λ (k : List (Option Header)). get_or k slot None) (sym e) ∙ k));
}

pub apart_after : {mode : Mode} (cs : List Call) (d : Lying) → IsCalm mode d → Apart d.version cs → (slot : ℕ) → slot < 64 → held_at (after_calls d cs).held slot ≡ held_at d.held slot
apart_after cs d c a slot l =
    at_slot (λ slot. held_after_all d.version d.face cs slot (held_at d.held slot)) slot l ∙ apart_held_all d.version cs d.face slot (held_at d.held slot) l c.face.count (a slot l) (c.stand.each slot l)

pub apart_stopped : {mode : Mode} (cs : List Call) (d : Lying) (j code : ℕ) → IsCalm mode d → Apart d.version cs → (slot : ℕ) → slot < 64 → held_at (cut_calls j code d cs).held slot ≡ held_at d.held slot
apart_stopped cs d j code c a slot l =
    at_slot (λ slot. held_cut d.version j code d.face cs slot (held_at d.held slot)) slot l ∙ apart_held_cut d.version cs d.face slot j code (held_at d.held slot) l c.face.count (a slot l) (λ k x. rw c.rests refl) (c.stand.each slot l)

pub apart_stands : {mode : Mode} (cs : List Call) (d : Lying) (j code : ℕ) → IsCalm mode d → Apart d.version cs → (slot : ℕ) → slot < 64 → Stands d.version mode (cut j code d.face cs) slot (held_cut d.version j code d.face cs slot (held_at d.held slot))
apart_stands cs d j code c a slot l = apart_cut d.version cs d.face slot (held_at d.held slot) j code l c.face.count (a slot l) (λ k x. rw c.rests refl) (c.stand.each slot l)

-- ---- mending, from whatever the superblock opens as

pub mend_opens : (v : SuperValue) (d : Lying) (m : Member) → IsOff d m v → AllByRecursion IsCall (mend_calls v d.face) → IsOn (after_calls d (mend_calls v d.face)) (ends (Mend v) (begins (Mend v) m))
mend_opens v d m o k =
    let cs = mend_calls v d.face in
    let s = mended v d.face o.calm.face o.calm.rests o.value in
    record {
      calm = calm_after cs d o.calm k s.waiting;
      held = held_moves d (after_calls d cs) m (ends (Mend v) m) refl refl o.group (apart_after cs d o.calm (λ slot l. mend_apart d.version v d.face slot)) o.held;
      value = s.opens;
      file = o.file;
      under = refl;
    }

pub mend_cut : (v : SuperValue) (d : Lying) (m : Member) (j code : ℕ) → IsOff d m v → MayCome (Mend v) d v → j < length (mend_calls v d.face) → Tells (Mend v) d j code → IsOff (cut_calls j code d (mend_calls v d.face)) m v
mend_cut v d m j code o c l t =
    let cs = mend_calls v d.face in
    record {
      calm = calm_cut cs d j code o.calm c.calls l (apart_stands cs d j code o.calm (λ slot l. mend_apart d.version v d.face slot));
      held = held_moves d (cut_calls j code d cs) m m refl refl refl (apart_stopped cs d j code o.calm (λ slot l. mend_apart d.version v d.face slot)) o.held;
      value = (mend_law v d.face o.calm.face o.calm.rests o.value).stopped j code (t.value v refl);
      file = o.file;
      may = o.may;
      group = o.group;
    }

pub off : (d : Lying) (m : Member) → IsOn d m → IsOff d m m.last
off d m o = record { calm = o.calm; held = o.held; value = o.value; file = o.file; may = inl refl; group = refl }

-- ---- saving

pub save_done : (old new : SuperValue) (d : Lying) (m : Member) → IsOn d m → MayCome (Save old new) d m.last → IsOn (after_calls d (write_calls old new d.face)) (ends (Save old new) (begins (Save old new) m))
save_done old new d m o c =
    let cs = write_calls old new d.face in
    let s = saved old new d.face o.calm.face o.calm.rests (o.value ∙ ap Some (sym c.fit.0)) c.fit.2 in
    let kind = c.fit.1 ∙ ap (λ (v : SuperValue). file_kind v.fields) c.fit.0 in
    record {
      calm = subst (λ k. IsCalm k (after_calls d cs)) (sym (ap (λ (k : Kind). k.mode) kind)) (calm_after cs d o.calm c.calls s.waiting);
      held = held_moves d (after_calls d cs) m (ends (Save old new) (begins (Save old new) m)) refl refl (c.fit.3 ∙ ap (λ (v : SuperValue). v.fields.cluster) c.fit.0) (apart_after cs d o.calm (λ slot l. write_apart d.version old new d.face slot)) o.held;
      value = s.opens;
      file = o.file ∙ sym (ap (λ (k : Kind). k.version) kind);
      under = refl;
    }

pub save_cut : (old new : SuperValue) (d : Lying) (m : Member) (j code : ℕ) → IsOn d m → MayCome (Save old new) d m.last → j < length (write_calls old new d.face) → Tells (Save old new) d j code
    → (v : SuperValue) × IsOff (cut_calls j code d (write_calls old new d.face)) (begins (Save old new) m) v
save_cut old new d m j code o c l t =
    let cs = write_calls old new d.face in
    let x : Lying = cut_calls j code d cs in
    let q : Member = begins (Save old new) m in
    let calm = calm_cut cs d j code o.calm c.calls l (apart_stands cs d j code o.calm (λ slot l. write_apart d.version old new d.face slot)) in
    let held = held_moves d x m q refl refl refl (apart_stopped cs d j code o.calm (λ slot l. write_apart d.version old new d.face slot)) o.held in
    let first = ap (λ (v : SuperValue). file_kind v.fields) c.fit.0 in
    let later = c.fit.1 ∙ first in
    let group = ap (λ (v : SuperValue). v.fields.cluster) c.fit.0 in
    let leads = write_law old new d.face o.calm.face o.calm.rests (o.value ∙ ap Some (sym c.fit.0)) c.fit.2 in
    elim (leads.stopped j code (t.value old (inl refl)) (t.value new (inr refl))) [
      | inl e ↦ (old, record { calm = subst (λ k. IsCalm k x) (sym (ap (λ (k : Kind). k.mode) first)) calm; held = held; value = e; file = o.file ∙ sym (ap (λ (k : Kind). k.version) first); may = inl (sym c.fit.0); group = group })
      | inr e ↦ (new, record { calm = subst (λ k. IsCalm k x) (sym (ap (λ (k : Kind). k.mode) later)) calm; held = held; value = e; file = o.file ∙ sym (ap (λ (k : Kind). k.version) later); may = inr refl; group = c.fit.3 ∙ group })
    ]

-- ---- blocks, which no slot and no copy of the superblock shares

pub grid_done : (cs : List Call) (d : Lying) (m : Member) → IsOn d m → AllByRecursion IsCall cs → AllByRecursion (From 400) cs → Apart d.version cs → (after_all d.face cs).waiting ≡ [] → IsOn (after_calls d cs) m
grid_done cs d m o k a p r = record {
  calm = calm_after cs d o.calm k r;
  held = held_moves d (after_calls d cs) m m refl refl refl (apart_after cs d o.calm p) o.held;
  value = opens_after cs d.face (from_less 80 400 cs (omega arith) a) ∙ o.value;
  file = o.file;
  under = o.under;
}

pub grid_cut : (cs : List Call) (d : Lying) (m : Member) (j code : ℕ) → IsOn d m → AllByRecursion IsCall cs → AllByRecursion (From 400) cs → Apart d.version cs → j < length cs → IsOff (cut_calls j code d cs) m m.last
grid_cut cs d m j code o k a p l = record {
  calm = calm_cut cs d j code o.calm k l (apart_stands cs d j code o.calm p);
  held = held_moves d (cut_calls j code d cs) m m refl refl refl (apart_stopped cs d j code o.calm p) o.held;
  value = opens_cut cs d.face j code o.calm.rests (from_less 80 400 cs (omega arith) a) ∙ o.value;
  file = o.file;
  may = inl refl;
  group = refl;
}

pub synced : (cs : List Call) (f : Face) → (after_all f (cs ++ Sync ∷ [])).waiting ≡ []
synced cs f = ap (λ (g : Face). g.waiting) (after_all_append cs (Sync ∷ []) f)

-- ---- one slot is written

abbrev pub quiet_disk : Face → Disk
quiet_disk f = record { face = f; fate = record { fuse = None; made = 0; failing = []; dead = false }; beside = nothing_beside }

pub written_held : (d x : Lying) (m q : Member) (at : ℕ) → x.version ≡ d.version → length q.kept ≡ 64 → q.last.fields.cluster ≡ m.last.fields.cluster → ((slot : ℕ) → slot < 64 → at ≢ slot → get_or q.kept slot None ≡ get_or m.kept slot None)
    → ((slot : ℕ) → slot < 64 → at ≢ slot → held_at x.held slot ≡ held_at d.held slot) → ((g : Header) → get_or q.kept at None ≡ Some g → HoldsEntry x.version q.last.fields.cluster g (held_at x.held at)) → IsHeld d m → IsHeld x q
written_held d x m q at f n c k s own h = record {
  count = n;
  each = λ slot g l e. elim (cases_eq at slot) [
    | inl same ↦ subst (λ (slot : ℕ). HoldsEntry x.version q.last.fields.cluster g (held_at x.held slot)) same (own g (subst (λ (slot : ℕ). get_or q.kept slot None ≡ Some g) (sym same) e))
    | inr other ↦ holds_as g (sym (s slot l other)) (sym f) (sym c) (h.each slot g l (sym (k slot l other) ∙ e))
  ];
}

pub set_other : (xs : List (Option Header)) (at : ℕ) (a : Option Header) (slot : ℕ) → at ≢ slot → get_or (set xs at a) slot None ≡ get_or xs slot None
set_other xs at a slot d = get_or-set_other xs at slot a None (λ e. d (sym e))

-- another slot's table, in the end and in a cut
pub others_after : {mode : Mode} (cs : List Call) (d : Lying) (at : ℕ) → IsCalm mode d → ((slot : ℕ) → slot < 64 → at ≢ slot → AllByRecursion (AllApart d.version slot) cs) → (slot : ℕ) → slot < 64 → at ≢ slot → held_at (after_calls d cs).held slot ≡ held_at d.held slot
others_after cs d at c a slot l o =
    at_slot (λ slot. held_after_all d.version d.face cs slot (held_at d.held slot)) slot l ∙ apart_held_all d.version cs d.face slot (held_at d.held slot) l c.face.count (a slot l o) (c.stand.each slot l)

others_cut : {mode : Mode} (cs : List Call) (d : Lying) (j code at : ℕ) → IsCalm mode d → ((slot : ℕ) → slot < 64 → at ≢ slot → AllByRecursion (AllApart d.version slot) cs) → (slot : ℕ) → slot < 64 → at ≢ slot → held_at (cut_calls j code d cs).held slot ≡ held_at d.held slot
others_cut cs d j code at c a slot l o =
    at_slot (λ slot. held_cut d.version j code d.face cs slot (held_at d.held slot)) slot l ∙ apart_held_cut d.version cs d.face slot j code (held_at d.held slot) l c.face.count (a slot l o) (λ k x. rw c.rests refl) (c.stand.each slot l)

some_header : (a b : Header) → Some a ≡ Some b → a ≡ b
some_header a b e = cc

-- what is kept while an entry is written
under_is : (again : Bool) (h g : Header) (o : Option Header) → kept_under again h o ≡ Some g → (again ≡ true) × (o ≡ Some g) × (g ≡ h)
under_is again h g None e = absurd cc
under_is false h g (Some d) e = absurd cc
under_is true h g (Some d) e =
    elim (same_header d h) as (λ b. same_header d h ≡ b → cond b (Some d) None ≡ Some g → (true ≡ true) × (Some d ≡ Some g) × (g ≡ h)) [
      | true ↦ λ t e. (refl, e, sym (some_header d g e) ∙ same_header_is d h t)
      | false ↦ λ t e. absurd cc
    ] refl e

pub slot_less : (h : Header) → slot_of h < 64
slot_less h = omega arith

-- written to the end
pub stored_on : (cs : List Call) (d : Lying) (m q : Member) (e : Whole) (mid : Option Header) → IsOn d m → AllByRecursion IsCall cs → AllByRecursion (From 80) cs → (after_all d.face cs).waiting ≡ []
    → ((slot : ℕ) → slot < 64 → slot_of e.header ≢ slot → AllByRecursion (AllApart d.version slot) cs) → IsWhole e → e.header.cluster ≡ m.last.fields.cluster → e.header.version ≤ d.version → held_after_all d.version d.face cs (slot_of e.header) (held_at d.held (slot_of e.header)) ≡ Some (prepare_bytes e)
    → q ≡ record m { kept = set (set m.kept (slot_of e.header) mid) (slot_of e.header) (Some e.header) } → IsOn (after_calls d cs) q
stored_on cs d m q e mid o k a r apart w own few held is =
    let at = slot_of e.header in
    let ks = set (set m.kept at mid) at (Some e.header) in
    let n : length ks ≡ 64 = length-set (set m.kept at mid) at (Some e.header) ∙ (length-set m.kept at mid ∙ o.held.count) in
    let l : at < length (set m.kept at mid) = let z = length-set m.kept at mid in let y = o.held.count in let less = slot_less e.header in omega (arith, z, y, less) in
    let p : Member = record m { kept = ks } in
    subst (IsOn (after_calls d cs)) (sym is) (let x : IsOn (after_calls d cs) p = record {
      calm = calm_after cs d o.calm k r;
      held = written_held d (after_calls d cs) m p at refl n refl (λ slot b c. set_other (set m.kept at mid) at (Some e.header) slot c ∙ set_other m.kept at mid slot c) (others_after cs d at o.calm apart)
          (λ g i. let one = some_header e.header g (sym (get_or-set_same (set m.kept at mid) at (Some e.header) None l) ∙ i) in record { entry = e; whole = w; header = one; group = ap (λ (h : Header). h.cluster) (sym one) ∙ own; version = subst (λ (h : Header). h.version ≤ d.version) one few; there = at_slot (λ slot. held_after_all d.version d.face cs slot (held_at d.held slot)) at (slot_less e.header) ∙ held })
          o.held;
      value = opens_after cs d.face a ∙ o.value;
      file = o.file;
      under = o.under;
    } in x)

-- begun, and cut: what was kept is the entry, and is held all the time
pub begun_off : (cs : List Call) (d : Lying) (m q : Member) (h : Header) (again : Bool) (j code : ℕ) → IsOn d m → AllByRecursion IsCall cs → AllByRecursion (From 80) cs → j < length cs
    → ((slot : ℕ) → slot < 64 → slot_of h ≢ slot → AllByRecursion (AllApart d.version slot) cs)
    → ((slot : ℕ) → slot < 64 → Stands d.version m.last.fields.mode (cut j code d.face cs) slot (held_cut d.version j code d.face cs slot (held_at d.held slot)))
    → (again ≡ true → HoldsEntry d.version m.last.fields.cluster h (held_at d.held (slot_of h)) → held_cut d.version j code d.face cs (slot_of h) (held_at d.held (slot_of h)) ≡ held_at d.held (slot_of h))
    → q ≡ record m { kept = set m.kept (slot_of h) (kept_under again h (kept_at m h.op)) } → IsOff (cut_calls j code d cs) q m.last
begun_off cs d m q h again j code o k a l apart stands lasts is =
    let at = slot_of h in
    let u = kept_under again h (kept_at m h.op) in
    let ks = set m.kept at u in
    let x : Lying = cut_calls j code d cs in
    let p : Member = record m { kept = ks } in
    let n : length ks ≡ 64 = length-set m.kept at u ∙ o.held.count in
    let less : at < length m.kept = let y = o.held.count in let less = slot_less h in omega (arith, y, less) in
    subst (λ (q : Member). IsOff x q m.last) (sym is) (let y : IsOff x p m.last = record {
      calm = calm_cut cs d j code o.calm k l stands;
      held = written_held d x m p at refl n refl (λ slot b c. set_other m.kept at u slot c) (others_cut cs d j code at o.calm apart)
          (λ g i.
          let under = under_is again h g (kept_at m h.op) (sym (get_or-set_same m.kept at u None less) ∙ i) in
          let was : HoldsEntry d.version m.last.fields.cluster g (held_at d.held at) = o.held.each at g (slot_less h) under.1 in
          let same : held_at x.held at ≡ held_at d.held at = at_slot (λ slot. held_cut d.version j code d.face cs slot (held_at d.held slot)) at (slot_less h) ∙ lasts under.0 (subst (λ (g : Header). HoldsEntry d.version m.last.fields.cluster g (held_at d.held at)) under.2 was) in
          subst (HoldsEntry d.version m.last.fields.cluster g) (sym same) was)
          o.held;
      value = opens_cut cs d.face j code o.calm.rests a ∙ o.value;
      file = o.file;
      may = inl refl;
      group = refl;
    } in y)

-- Scripts: what is carried out, and a stop at a call, which is a stop within an effect.
use Rattle.std.proofs.Common.{ℕ, suc, take, ◌+◌, ◌-◌, ◌≤◌, ◌<◌, ◌≡◌, inl, inr, arith, refl, sym, ap, ◌∙◌, subst, List, [], ◌∷◌, ◌++◌, length}
use Rattle.std.proofs.lemmas.Bool.{cases_lt, le-ltb, lt-ltb}
use Rattle.std.proofs.lemmas.List.{length-append}
use Rattle.vr_disk.specs.DiskState.{Call, Face, IsFace}
use Rattle.vr_disk.specs.DiskState as disk
use Rattle.vr_disk.proofs.Stopping.{cuts_both}
use Rattle.vr_super.specs.Copies.{SuperValue}
use Rattle.vr_super.specs.Opens.{opens}
use Rattle.vr_rings.specs.Held.{Stands, held_after_all, held_cut}
use Rattle.vr_rings.proofs.Cutting.{held_both}
use Rattle.vr_lie.specs.Faults.{held_at}
use Rattle.vr_rules.specs.Steps.{Effect, Write, Rewrite, Save, Mend, Checkpoint, PutBlock, Say, after_all}
use Rattle.vr_rules.specs.Sectors.{calls_by, script_calls}
use Rattle.vr_world.specs.Lying.{Lying, after_calls, cut_calls, lying}
use Rattle.vr_world.specs.Group.{Member, begins, carried_out, cut_after, ends}
use Rattle.law_4_disks.specs.Beside.{IsCutAt, IsOff, MayGo, begun_before, value_after}
use Rattle.law_4_disks.specs.Laws.{OpeningsCut, OpeningsStay, ScriptsCut, ScriptsStay}
use Rattle.law_4_disks.proofs.Effects.{at_slot, holds_as, mend_cut, mend_opens}
use Rattle.law_4_disks.proofs.Playing.{stay, stopped}

pub value_is : (e : Effect) (m : Member) → (ends e (begins e m)).last ≡ value_after e m.last
value_is (Write again e) m = refl
value_is (Rewrite h) m = refl
value_is (Save old new) m = refl
value_is (Mend x) m = refl
value_is (Checkpoint cluster texts op old) m = refl
value_is (PutBlock name block) m = refl
value_is (Say output) m = refl

pub scripts_stay : ScriptsStay
unfolding after_all carried_out
scripts_stay [] d m o g = o
scripts_stay (e ∷ es) d m o g = scripts_stay es (lying.after d e) (ends e (begins e m)) (stay e d m o g.0) (subst (MayGo es (lying.after d e)) (sym (value_is e m)) g.1)

pub openings_stay : OpeningsStay
unfolding after_all carried_out
openings_stay es d m v o g = scripts_stay es (lying.after d (Mend v)) (ends (Mend v) (begins (Mend v) m)) (mend_opens v d m o g.0.calls) g.1

-- ---- cuts

-- disks of files of one version that hold the same in each slot
pub record Same (d x : Lying) : Type 0 where
  pub face : x.face ≡ d.face
  pub held : (slot : ℕ) → slot < 64 → held_at x.held slot ≡ held_at d.held slot
  pub version : x.version ≡ d.version

pub same_off : (d x : Lying) (m : Member) (v : SuperValue) → Same d x → IsOff d m v → IsOff x m v
same_off d x m v s o = record {
  calm = record {
    face = subst IsFace (sym s.face) o.calm.face;
    rests = ap (λ (f : Face). f.waiting) s.face ∙ o.calm.rests;
    stand = record {
      each = λ slot l.
          let held = subst (Stands d.version v.fields.mode d.face slot) (sym (s.held slot l)) (o.calm.stand.each slot l) in
          let face = subst (λ (f : Face). Stands d.version v.fields.mode f slot (held_at x.held slot)) (sym s.face) held in
          subst (λ (n : ℕ). Stands n v.fields.mode x.face slot (held_at x.held slot)) (sym s.version) face;
    };
  };
  held = record { count = o.held.count; each = λ slot h l e. holds_as h (sym (s.held slot l)) (sym s.version) refl (o.held.each slot h l e) };
  value = ap opens s.face ∙ o.value;
  file = s.version ∙ o.file;
  may = o.may;
  group = o.group;
}

pub cut_first : (cs ds : List Call) (d : Lying) (j code : ℕ) → j < length cs → Same (cut_calls j code d cs) (cut_calls j code d (cs ++ ds))
cut_first cs ds d j code l = record {
  face = (cuts_both cs ds d.face j code).first l;
  held = λ slot b. at_slot (λ slot. held_cut d.version j code d.face (cs ++ ds) slot (held_at d.held slot)) slot b
      ∙ ((held_both d.version cs ds d.face slot (held_at d.held slot) j code).0 l ∙ sym (at_slot (λ slot. held_cut d.version j code d.face cs slot (held_at d.held slot)) slot b));
  version = refl;
}

pub cut_later : (cs ds : List Call) (d : Lying) (j code : ℕ) → length cs ≤ j → Same (cut_calls (j - length cs) code (after_calls d cs) ds) (cut_calls j code d (cs ++ ds))
cut_later cs ds d j code l =
    let k = j - length cs in
    let g = disk.after_all d.face cs in
    let x : Lying = after_calls d cs in
    record {
      face = (cuts_both cs ds d.face j code).later l;
      held = λ slot b. at_slot (λ slot. held_cut d.version j code d.face (cs ++ ds) slot (held_at d.held slot)) slot b
          ∙ ((held_both d.version cs ds d.face slot (held_at d.held slot) j code).1 l
          ∙ (ap (held_cut d.version k code g ds slot) (sym (at_slot (λ slot. held_after_all d.version d.face cs slot (held_at d.held slot)) slot b)) ∙ sym (at_slot (λ slot. held_cut d.version k code g ds slot (held_at x.held slot)) slot b)));
      version = refl;
    }

same_cut : (es : List Effect) (f : Face) (j : ℕ) (d x : Lying) (m : Member) → Same d x → IsCutAt es f j d m → IsCutAt es f j x m
same_cut es f j d x m s c = record { effects = c.effects; within = c.within; begun = ap (λ (n : ℕ). begun_before n es f j) s.version ∙ c.begun; value = c.value; off = same_off d x (cut_after c.effects es m) c.value s c.off }

cut_here : (e : Effect) (es : List Effect) (f : Face) (j : ℕ) (d : Lying) (m : Member) (v : SuperValue) → j < length (calls_by d.version e f) → IsOff d (begins e m) v → IsCutAt (e ∷ es) f j d m
unfolding carried_out
cut_here e es f j d m v l o = record { effects = 0; within = omega arith; begun = rw (lt-ltb j (length (calls_by d.version e f)) l) refl; value = v; off = o }

cut_further : (e : Effect) (es : List Effect) (f : Face) (j : ℕ) (d : Lying) (m : Member) → length (calls_by d.version e f) ≤ j → IsCutAt es (disk.after_all f (calls_by d.version e f)) (j - length (calls_by d.version e f)) d (ends e (begins e m)) → IsCutAt (e ∷ es) f j d m
unfolding carried_out
cut_further e es f j d m b c =
    let l = c.within in
    let place : suc (c.effects + 1) ≡ suc c.effects + 1 = omega arith in
    record { effects = suc c.effects; within = omega arith; begun = rw (le-ltb j (length (calls_by d.version e f)) b) (ap (λ (es : List Effect). e ∷ es) c.begun ∙ ap (λ (n : ℕ). take n (e ∷ es)) place); value = c.value; off = c.off }

pub scripts_cut : ScriptsCut
unfolding script_calls
scripts_cut [] d m j code o g l t = absurd (omega arith)
scripts_cut (e ∷ es) d m j code o g l t =
    let cs = calls_by d.version e d.face in
    let x : Lying = lying.after d e in
    let ds = script_calls d.version es x.face in
    elim (cases_lt j (length cs)) [
      | inl a ↦
          let s = stopped e d m j code o g.0 a (t.0 a) in
          same_cut (e ∷ es) d.face j (cut_calls j code d cs) (cut_calls j code d (cs ++ ds)) m (cut_first cs ds d j code a) (cut_here e es d.face j (cut_calls j code d cs) m s.0 a s.1)
      | inr b ↦
          let n = length-append cs ds in
          let less : j - length cs < length ds = omega (arith, n, l, b) in
          let rest = scripts_cut es x (ends e (begins e m)) (j - length cs) code (stay e d m o g.0) (subst (MayGo es x) (sym (value_is e m)) g.1) less (t.1 b) in
          same_cut (e ∷ es) d.face j (cut_calls (j - length cs) code x ds) (cut_calls j code d (cs ++ ds)) m (cut_later cs ds d j code b) (cut_further e es d.face j (cut_calls (j - length cs) code x ds) m b rest)
    ]

pub openings_cut : OpeningsCut
unfolding script_calls
openings_cut es d m v j code o g l t =
    let cs = calls_by d.version (Mend v) d.face in
    let x : Lying = lying.after d (Mend v) in
    let ds = script_calls d.version es x.face in
    elim (cases_lt j (length cs)) [
      | inl a ↦
          same_cut (Mend v ∷ es) d.face j (cut_calls j code d cs) (cut_calls j code d (cs ++ ds)) m (cut_first cs ds d j code a) (cut_here (Mend v) es d.face j (cut_calls j code d cs) m v a (mend_cut v d m j code o g.0 a (t.0 a)))
      | inr b ↦
          let n = length-append cs ds in
          let less : j - length cs < length ds = omega (arith, n, l, b) in
          let rest = scripts_cut es x (ends (Mend v) (begins (Mend v) m)) (j - length cs) code (mend_opens v d m o g.0.calls) g.1 less (t.1 b) in
          same_cut (Mend v ∷ es) d.face j (cut_calls (j - length cs) code x ds) (cut_calls j code d (cs ++ ds)) m (cut_later cs ds d j code b) (cut_further (Mend v) es d.face j (cut_calls (j - length cs) code x ds) m b rest)
    ]

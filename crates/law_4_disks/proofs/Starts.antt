-- An opening in the world: what is carried out, and a stop in it.
use Rattle.std.proofs.Common.{ℕ, zero, suc, take, ◌+◌, ◌-◌, ◌≤◌, ◌<◌, ◌≡◌, arith, refl, sym, ap, ◌∙◌, subst, Bool, cond, inl, inr, List, [], ◌∷◌, ◌++◌, length, Option}
use Rattle.std.proofs.lemmas.Bool.{cases_lt, lt-ltb, le-ltb}
use Rattle.std.proofs.lemmas.List.{length-append, append_assoc}
use Rattle.vr_disk.specs.DiskState as disk
use Rattle.vr_disk.specs.DiskState.{Call, Face}
use Rattle.vr_disk.proofs.Together.{after_all_append}
use Rattle.vr_disk.proofs.Stopping.{cuts_both}
use Rattle.vr_super.specs.Copies.{SuperValue}
use Rattle.vr_rings.specs.Held.{held_after, held_after_all, held_cut}
use Rattle.vr_rings.proofs.Cutting.{held_both}
use Rattle.vr_lie.specs.Faults.{held_at}
use Rattle.vr_rules.specs.Steps.{Effect, Mend, Step, ◌⨾◌, after_all, does}
use Rattle.vr_rules.specs.Opening.{blank, opening, recover_parts}
use Rattle.vr_rules.specs.Sectors.{calls_by, script_calls}
use Rattle.vr_rules.proofs.Halves.{openings_go_on}
use Rattle.vr_world.specs.Lying.{Lying, cut_calls, lying}
use Rattle.vr_world.specs.Group.{Member, carried_out, cut_after, cut_in_two, found, keeps_all, mended, once_mended, opening_script, resumed}
use Rattle.vr_world.proofs.FitLies.{same_version}
use Rattle.law_4_disks.specs.Beside.{IsCutAt, IsOff, IsOn, MayGo, TellsIn, begun_before}
use Rattle.law_4_disks.proofs.Effects.{at_slot}
use Rattle.law_4_disks.proofs.Scripts.{Same, openings_cut, same_off, scripts_cut}

pub opening_is : (v : SuperValue) (d : Lying) → let whole : Step = record { replica = (resumed v d).replica; script = opening_script v d } in opening v lying (blank v) d ≡ whole
unfolding ◌⨾◌
opening_is v d = openings_go_on lying d v (blank v)

-- ---- calls of two scripts

calls_both : (v : ℕ) (a b : List Effect) (f : Face) → script_calls v (a ++ b) f ≡ script_calls v a f ++ script_calls v b (disk.after_all f (script_calls v a f))
unfolding script_calls
calls_both v [] b f = refl
calls_both v (e ∷ es) b f =
    let cs = calls_by v e f in
    let x = disk.after_all f cs in
    let ds = script_calls v es x in
    ap (λ (ds : List Call). cs ++ ds) (calls_both v es b x) ∙ (sym (append_assoc cs ds (script_calls v b (disk.after_all x ds))) ∙ ap (λ (y : Face). (cs ++ ds) ++ script_calls v b y) (sym (after_all_append cs ds f)))

face_all : (a : List Effect) (d : Lying) → (after_all lying d a).face ≡ disk.after_all d.face (script_calls d.version a d.face)
unfolding after_all script_calls
face_all [] d = refl
face_all (e ∷ es) d = face_all es (lying.after d e) ∙ sym (after_all_append (calls_by d.version e d.face) (script_calls d.version es (lying.after d e).face) d.face)

-- what effects leave is a disk of that version
abbrev left : List Effect → Lying → Lying
left a d = let x = after_all lying d a in record { face = x.face; held = x.held; version = d.version }

left_is : (a : List Effect) (d : Lying) → after_all lying d a ≡ left a d
left_is a d = let x = after_all lying d a in ap (λ (n : ℕ). let y : Lying = record { face = x.face; held = x.held; version = n } in y) (same_version a d)

pub held_all_both : (ver : ℕ) (cs ds : List Call) (f : Face) (slot : ℕ) (held : Option (List ℕ)) → held_after_all ver f (cs ++ ds) slot held ≡ held_after_all ver (disk.after_all f cs) ds slot (held_after_all ver f cs slot held)
unfolding held_after_all
held_all_both ver [] ds f slot held = refl
held_all_both ver (c ∷ cs) ds f slot held = held_all_both ver cs ds (disk.after f c) slot (held_after ver f c slot held)

held_all : (a : List Effect) (d : Lying) (slot : ℕ) → slot < 64 → held_at (after_all lying d a).held slot ≡ held_after_all d.version d.face (script_calls d.version a d.face) slot (held_at d.held slot)
unfolding after_all script_calls held_after_all
held_all [] d slot l = refl
held_all (e ∷ es) d slot l =
    let v = d.version in
    let cs = calls_by v e d.face in
    let x : Lying = lying.after d e in
    let ds = script_calls v es x.face in
    held_all es x slot l ∙ (ap (held_after_all v x.face ds slot) (at_slot (λ slot. held_after_all v d.face cs slot (held_at d.held slot)) slot l) ∙ sym (held_all_both v cs ds d.face slot (held_at d.held slot)))

-- a stop in the second of two scripts
cut_second : (a b : List Effect) (d : Lying) (j code : ℕ) → length (script_calls d.version a d.face) ≤ j
    → let x : Lying = left a d in Same (cut_calls (j - length (script_calls d.version a d.face)) code x (script_calls d.version b x.face)) (cut_calls j code d (script_calls d.version (a ++ b) d.face))
cut_second a b d j code l =
    let v = d.version in
    let x : Lying = left a d in
    let cs = script_calls v a d.face in
    let k = j - length cs in
    let ds = script_calls v b x.face in
    let all : script_calls v (a ++ b) d.face ≡ cs ++ ds = calls_both v a b d.face ∙ ap (λ (y : Face). cs ++ script_calls v b y) (sym (face_all a d)) in
    record {
      face = ap (λ (es : List Call). disk.cut j code d.face es) all ∙ ((cuts_both cs ds d.face j code).later l ∙ ap (λ (y : Face). disk.cut k code y ds) (sym (face_all a d)));
      held = λ slot b0. at_slot (λ slot. held_cut v j code d.face (script_calls v (a ++ b) d.face) slot (held_at d.held slot)) slot b0
          ∙ (ap (λ (es : List Call). held_cut v j code d.face es slot (held_at d.held slot)) all
          ∙ ((held_both v cs ds d.face slot (held_at d.held slot) j code).1 l
          ∙ (ap (λ (y : Face). held_cut v k code y ds slot (held_after_all v d.face cs slot (held_at d.held slot))) (sym (face_all a d))
          ∙ (ap (held_cut v k code x.face ds slot) (sym (held_all a d slot b0)) ∙ sym (at_slot (λ slot. held_cut v k code x.face ds slot (held_at x.held slot)) slot b0)))));
      version = refl;
    }

cut_before : (a b : List Effect) (d : Lying) (j code : ℕ) → j < length (script_calls d.version a d.face) → Same (cut_calls j code d (script_calls d.version a d.face)) (cut_calls j code d (script_calls d.version (a ++ b) d.face))
cut_before a b d j code l =
    let v = d.version in
    let cs = script_calls v a d.face in
    let ds = script_calls v b (disk.after_all d.face cs) in
    let all = calls_both v a b d.face in
    record {
      face = ap (λ (es : List Call). disk.cut j code d.face es) all ∙ (cuts_both cs ds d.face j code).first l;
      held = λ slot b0. at_slot (λ slot. held_cut v j code d.face (script_calls v (a ++ b) d.face) slot (held_at d.held slot)) slot b0
          ∙ (ap (λ (es : List Call). held_cut v j code d.face es slot (held_at d.held slot)) all
          ∙ ((held_both v cs ds d.face slot (held_at d.held slot) j code).0 l ∙ sym (at_slot (λ slot. held_cut v j code d.face cs slot (held_at d.held slot)) slot b0)));
      version = refl;
    }

pub record IsStartCut (v : SuperValue) (d : Lying) (q : Member) (j code : ℕ) : Type 0 where
  pub effects : ℕ
  pub value : SuperValue
  pub begun : begun_before d.version (opening_script v d) d.face j ≡ take (effects + 1) (opening_script v d)
  pub off : IsOff (cut_calls j code d (script_calls d.version (opening_script v d) d.face)) (cut_in_two (mended v d).script (resumed v d).script (keeps_all (found v d)) effects q) value

-- ---- what is begun in two scripts

take_front : {X : Type 0} (k : ℕ) (xs ys : List X) → k ≤ length xs → take k (xs ++ ys) ≡ take k xs
take_front zero xs ys l = refl
take_front (suc k) [] ys l = absurd (omega arith)
take_front (suc k) (x ∷ xs) ys l = ap (λ zs. x ∷ zs) (take_front k xs ys (omega (arith, l)))

take_past : {X : Type 0} (k : ℕ) (xs ys : List X) → take (length xs + k) (xs ++ ys) ≡ xs ++ take k ys
take_past k [] ys = let e : 0 + k ≡ k = omega arith in ap (λ (n : ℕ). take n ys) e
take_past k (x ∷ xs) ys = let e : suc (length xs) + k ≡ suc (length xs + k) = omega arith in ap (λ (n : ℕ). take n (x ∷ (xs ++ ys))) e ∙ ap (λ zs. x ∷ zs) (take_past k xs ys)

begun_first : (v : ℕ) (a b : List Effect) (f : Face) (j : ℕ) → j < length (script_calls v a f) → begun_before v (a ++ b) f j ≡ begun_before v a f j
unfolding script_calls
begun_first v [] b f j l = absurd (omega arith)
begun_first v (e ∷ es) b f j l =
    let cs = calls_by v e f in
    let x = disk.after_all f cs in
    let n = length-append cs (script_calls v es x) in
    elim (cases_lt j (length cs)) [
      | inl first ↦ rw (lt-ltb j (length cs) first) refl
      | inr later ↦ rw (le-ltb j (length cs) later) (ap (λ (es : List Effect). e ∷ es) (begun_first v es b x (j - length cs) (omega (arith, n, l, later))))
    ]

begun_later : (v : ℕ) (a b : List Effect) (f : Face) (j : ℕ) → length (script_calls v a f) ≤ j → begun_before v (a ++ b) f j ≡ a ++ begun_before v b (disk.after_all f (script_calls v a f)) (j - length (script_calls v a f))
unfolding script_calls
begun_later v [] b f j l = let e : j - 0 ≡ j = omega arith in rw e refl
begun_later v (e ∷ es) b f j l =
    let cs = calls_by v e f in
    let x = disk.after_all f cs in
    let n = length-append cs (script_calls v es x) in
    let past : length cs ≤ j = omega (arith, n, l) in
    let place : j - length cs - length (script_calls v es x) ≡ j - length (cs ++ script_calls v es x) = omega (arith, n, l) in
    let rest = begun_later v es b x (j - length cs) (omega (arith, n, l)) in
    let end : disk.after_all x (script_calls v es x) ≡ disk.after_all f (cs ++ script_calls v es x) = sym (after_all_append cs (script_calls v es x) f) in
    rw (le-ltb j (length cs) past)
    (ap (λ (es : List Effect). e ∷ es) (rest ∙ (ap (λ (y : Face). es ++ begun_before v b y (j - length cs - length (script_calls v es x))) end ∙ ap (λ (k : ℕ). es ++ begun_before v b (disk.after_all f (cs ++ script_calls v es x)) k) place)))

-- a script that isn't cut is begun as a whole
pub begun_all : (v : ℕ) (es : List Effect) (f : Face) (j : ℕ) → length (script_calls v es f) ≤ j → begun_before v es f j ≡ es
unfolding script_calls
begun_all v [] f j l = refl
begun_all v (e ∷ es) f j l =
    let cs = calls_by v e f in
    let x = disk.after_all f cs in
    let n = length-append cs (script_calls v es x) in
    rw (le-ltb j (length cs) (omega (arith, n, l))) (ap (λ (es : List Effect). e ∷ es) (begun_all v es x (j - length cs) (omega (arith, n, l))))

-- ---- what a cut of two scripts meets

tells_first : (a b : List Effect) (d : Lying) (j code : ℕ) → TellsIn (a ++ b) d j code → TellsIn a d j code
tells_first [] b d j code t = tt
tells_first (e ∷ es) b d j code t = (t.0, λ l. tells_first es b (lying.after d e) (j - length (calls_by d.version e d.face)) code (t.1 l))

tells_later : (a b : List Effect) (d : Lying) (j code : ℕ) → length (script_calls d.version a d.face) ≤ j → TellsIn (a ++ b) d j code → TellsIn b (after_all lying d a) (j - length (script_calls d.version a d.face)) code
unfolding script_calls after_all
tells_later [] b d j code l t = let e : j ≡ j - 0 = omega arith in subst (λ (j : ℕ). TellsIn b d j code) e t
tells_later (e ∷ es) b d j code l t =
    let cs = calls_by d.version e d.face in
    let x : Lying = lying.after d e in
    let n = length-append cs (script_calls d.version es x.face) in
    let place : j - length cs - length (script_calls d.version es x.face) ≡ j - length (cs ++ script_calls d.version es x.face) = omega (arith, n, l) in
    subst (λ (k : ℕ). TellsIn b (after_all lying x es) k code) place (tells_later es b x (j - length cs) code (omega (arith, n, l)) (t.1 (omega (arith, n, l))))

mended_cut : (v : SuperValue) (d : Lying) (q : Member) (j code : ℕ) → IsOff d q v → MayGo (mended v d).script d v → j < length (script_calls d.version (mended v d).script d.face) → TellsIn (mended v d).script d j code → IsCutAt (mended v d).script d.face j (cut_calls j code d (script_calls d.version (mended v d).script d.face)) q
unfolding ◌⨾◌ does
mended_cut v d q j code o go l t = openings_cut (recover_parts v lying (blank v) (after_all lying d (Mend v ∷ []))).script d q v j code o go l t

pub start_cuts : (v : SuperValue) (d : Lying) (q : Member) (j code : ℕ) → IsOff d q v → MayGo (mended v d).script d v → IsOn (after_all lying d (mended v d).script) (once_mended v d q)
    → MayGo (resumed v d).script (after_all lying d (mended v d).script) (once_mended v d q).last → j < length (script_calls d.version (opening_script v d) d.face) → TellsIn (opening_script v d) d j code → IsStartCut v d q j code
start_cuts v d q j code o go on more l t =
    let n = d.version in
    let xs = (mended v d).script in
    let ys = (resumed v d).script in
    let x : Lying = after_all lying d xs in
    let z : Lying = left xs d in
    let f : Member → Member = keeps_all (found v d) in
    let cs = script_calls n xs d.face in
    elim (cases_lt j (length cs)) [
      | inl first ↦
          let c = mended_cut v d q j code o go first (tells_first xs ys d j code t) in
          let within = c.within in
          let begun = begun_first n xs ys d.face j first ∙ (c.begun ∙ sym (take_front (c.effects + 1) xs ys (omega (arith, within)))) in
          let at : cut_in_two xs ys f c.effects q ≡ cut_after c.effects xs q = ap (λ (t : Bool). cond t (cut_after c.effects xs q) (cut_after (c.effects - length xs) ys (f (carried_out xs q)))) (lt-ltb c.effects (length xs) c.within) in
          record { effects = c.effects; value = c.value; begun = begun; off = subst (λ (p : Member). IsOff (cut_calls j code d (script_calls n (opening_script v d) d.face)) p c.value) (sym at) (same_off (cut_calls j code d cs) (cut_calls j code d (script_calls n (xs ++ ys) d.face)) (cut_after c.effects xs q) c.value (cut_before xs ys d j code first) c.off) }
      | inr later ↦
          let ds = script_calls n ys z.face in
          let k = j - length cs in
          let is : x ≡ z = left_is xs d in
          let all : script_calls n (xs ++ ys) d.face ≡ cs ++ ds = calls_both n xs ys d.face ∙ ap (λ (y : Face). cs ++ script_calls n ys y) (sym (face_all xs d)) in
          let size : length (script_calls n (xs ++ ys) d.face) ≡ length cs + length ds = ap (λ (es : List Call). length es) all ∙ length-append cs ds in
          let less : k < length ds = omega (arith, size, l, later) in
          let on_left : IsOn z (once_mended v d q) = subst (λ (y : Lying). IsOn y (once_mended v d q)) is on in
          let more_left : MayGo ys z (once_mended v d q).last = subst (λ (y : Lying). MayGo ys y (once_mended v d q).last) is more in
          let tells_left : TellsIn ys z k code = subst (λ (y : Lying). TellsIn ys y k code) is (tells_later xs ys d j code later t) in
          let c = scripts_cut ys z (once_mended v d q) k code on_left more_left less tells_left in
          let same : begun_before n ys (disk.after_all d.face cs) k ≡ take (c.effects + 1) ys = ap (λ (y : Face). begun_before n ys y k) (sym (face_all xs d)) ∙ c.begun in
          let count : length xs + (c.effects + 1) ≡ length xs + c.effects + 1 = omega arith in
          let begun = begun_later n xs ys d.face j later ∙ (ap (λ (es : List Effect). xs ++ es) same ∙ (sym (take_past (c.effects + 1) xs ys) ∙ ap (λ (n : ℕ). take n (xs ++ ys)) count)) in
          let p = length xs + c.effects in
          let back : p - length xs ≡ c.effects = omega arith in
          let at : cut_in_two xs ys f p q ≡ cut_after c.effects ys (f (carried_out xs q)) =
          ap (λ (t : Bool). cond t (cut_after p xs q) (cut_after (p - length xs) ys (f (carried_out xs q)))) (le-ltb p (length xs) (omega arith)) ∙ ap (λ (m : ℕ). cut_after m ys (f (carried_out xs q))) back in
          record { effects = p; value = c.value; begun = begun; off = subst (λ (p : Member). IsOff (cut_calls j code d (script_calls n (opening_script v d) d.face)) p c.value) (sym at) (same_off (cut_calls k code z ds) (cut_calls j code d (script_calls n (xs ++ ys) d.face)) (cut_after c.effects ys (f (carried_out xs q))) c.value (cut_second xs ys d j code later) c.off) }
    ]

-- Every group in a run of one is fit.
use Rattle.vr_base.specs.Groups.{least_members}
use Rattle.vr_base.specs.declared.kind.Kind.{Kind}
use Rattle.std.proofs.Common.{arith, ◌≡◌, ◌≤◌, ◌<◌, ◌+◌, ◌^◌, ◌⊎◌, inl, inr, refl, sym, ap, ◌∙◌, subst, ℕ, zero, suc, List, [], ◌∷◌, ◌-◌, ◌++◌, length, map, take, drop, Some, None}
use Rattle.std.specs.Prelude.{⊤, All, nat_lt, slice_get, slice_set}
use Rattle.std.specs.List.{range_with_len}
use Rattle.std.proofs.lemmas.Bool.{cond_both}
use Rattle.std.proofs.lemmas.List.Elements.{All-nil, All-cons, All-append, All-head, All-tail, All-take, All-drop}
use Rattle.vr_header.specs.declared.part.Part.{Part}
use Rattle.vr_header.specs.declared.part.Part.TheVariants.{Here, Lost, Wanted, Unknown, Nothing}
use Rattle.vr_msg.specs.declared.event.Event.{Event}
use Rattle.vr_msg.specs.declared.output.Output.{Output}
use Rattle.vr_super.specs.Copies.{SuperValue, IsGood}
use Rattle.vr_rules.specs.Replica.{Replica, version}
use Rattle.vr_rules.specs.Steps.{Effect, Write, Rewrite, Save, Mend, Checkpoint, PutBlock, Say, Step, ◌⨾◌, after_all, does, outputs}
use Rattle.vr_rules.specs.Opening.{AreKinds, IsKind, blank, first_value, fresh, opening, recover_parts}
use Rattle.vr_world.specs.Lying.{Lying, lying}
use Rattle.vr_rules.specs.Outputs.{messages}
use Rattle.vr_rules.specs.Laws.{IsEvent, IsGoodSave}
use Rattle.vr_rules.specs.Own.{IsOwn, IsOwnValue, IsAt, IsOwnStep}
use Rattle.vr_rules.proofs.OwnSteps.{steps_are_own, openings_are_own}
use Rattle.vr_rules.specs.Fit.{IsFit, IsFitStep, MayCome, ReadsWell}
use Rattle.vr_world.specs.Group.{Member, Group, Arrival, Asked, Message, Time, Move, Moved, Moves, Played, Run, begins, ends, begins_first, carried_out, cut_after, keeps_found, keeps_all, found, fresh_member, fresh_group, IsArrival, MayOpen, finished, cut_short, cut_in_two, stepped, mended, resumed, once_mended, opening_script, started, start_cut, made_in, migration, moved_over, move_cut}
use Rattle.vr_world.specs.Group as group
use Rattle.vr_world.specs.GroupFit.{IsFitReplica, IsFitValue, IsMade, IsFitMember, IsFitGroup, IsFitArrival, IsFitMove, IsFitPlayed, AreOfKinds, IsOfKinds, GroupsFit}
use Rattle.vr_rules.proofs.Reacting.{steps_stay_sound}
use Rattle.vr_rules.proofs.Openings.{openings_are_sound}
use Rattle.vr_rules.proofs.SavesSteps.{steps_save_well}
use Rattle.vr_rules.proofs.SavesOpening.{openings_save_well}
use Rattle.vr_rules.specs.Migrating.{migrated}
use Rattle.vr_rules.proofs.Migrating.{migrated_good, migrated_own}
use Rattle.vr_world.proofs.InTwo.{in_two, opening_in_two}
use Rattle.vr_rules.proofs.FitMessages.{asked_may_come}
use Rattle.vr_rules.proofs.FitSteps.{steps_fit}
use Rattle.vr_rules.proofs.FitOpening.{headers_of, openings_fit}
use Rattle.vr_world.proofs.FitLies.{lies_fit}
use Rattle.vr_rules.proofs.FitFresh.{fresh_fits}

-- ---- what is known of an effect

pub record Known (c n i ed : ℕ) (es : List Effect) : Type 0 where
  pub fit : All IsFit es
  pub saves : All IsGoodSave es
  pub own : All (IsOwn c n i ed) es

pub known_first : (c n i ed : ℕ) (e : Effect) (es : List Effect) → Known c n i ed (e ∷ es) → IsFit e × IsGoodSave e × IsOwn c n i ed e
known_first c n i ed e es k = (All-head IsFit e es k.fit, All-head IsGoodSave e es k.saves, All-head (IsOwn c n i ed) e es k.own)

pub known_rest : (c n i ed : ℕ) (e : Effect) (es : List Effect) → Known c n i ed (e ∷ es) → Known c n i ed es
known_rest c n i ed e es k = record { fit = All-tail IsFit e es k.fit; saves = All-tail IsGoodSave e es k.saves; own = All-tail (IsOwn c n i ed) e es k.own }

pub known_left : (c n i ed : ℕ) (xs ys : List Effect) → Known c n i ed (xs ++ ys) → Known c n i ed xs
known_left c n i ed [] ys h = record { fit = All-nil IsFit; saves = All-nil IsGoodSave; own = All-nil (IsOwn c n i ed) }
known_left c n i ed (x ∷ xs) ys h =
    let one = known_first c n i ed x (xs ++ ys) h in
    let rest = known_left c n i ed xs ys (known_rest c n i ed x (xs ++ ys) h) in
    record { fit = All-cons IsFit x xs one.0 rest.fit; saves = All-cons IsGoodSave x xs one.1 rest.saves; own = All-cons (IsOwn c n i ed) x xs one.2 rest.own }

pub known_right : (c n i ed : ℕ) (xs ys : List Effect) → Known c n i ed (xs ++ ys) → Known c n i ed ys
known_right c n i ed [] ys h = h
known_right c n i ed (x ∷ xs) ys h = known_right c n i ed xs ys (known_rest c n i ed x (xs ++ ys) h)

-- ---- the values of a member

-- a value of this replica that makes a good copy, of this version or of a later one
abbrev IsFrom : ℕ → ℕ → ℕ → ℕ → SuperValue → Type 0
IsFrom c n i least v = IsFitValue c n i v × (least ≤ v.fields.version)

record Values (c n i least : ℕ) (m : Member) : Type 0 where
  last : IsFrom c n i least m.last
  under : (v : SuperValue) → m.under ≡ Some v → IsFrom c n i least v

-- what an effect puts there
abbrev Puts : ℕ → ℕ → ℕ → ℕ → Effect → Type 0
Puts c n i least (Save old new) = IsFrom c n i least new
Puts c n i least (Mend v) = IsFrom c n i least v
Puts c n i least _ = ⊤

own_from : (c n i ed least : ℕ) (v : SuperValue) → least ≤ ed → IsGood v → IsOwnValue c n i ed v → IsFrom c n i least v
own_from c n i ed least v l good own = ((good, record { cluster = own.cluster; n = own.n; index = own.index; version = refl }), subst (λ k. least ≤ k) (sym own.version) l)

effect_puts : (c n i ed least : ℕ) → least ≤ ed → (e : Effect) → IsFit e × IsGoodSave e × IsOwn c n i ed e → Puts c n i least e
effect_puts c n i ed least l (Write again e) k = tt
effect_puts c n i ed least l (Rewrite x) k = tt
effect_puts c n i ed least l (Save old new) k = own_from c n i ed least new l k.1 k.2
effect_puts c n i ed least l (Mend v) k = own_from c n i ed least v l k.0 k.2
effect_puts c n i ed least l (Checkpoint cluster texts op old) k = tt
effect_puts c n i ed least l (PutBlock name block) k = tt
effect_puts c n i ed least l (Say o) k = tt

known_puts : (c n i ed least : ℕ) → least ≤ ed → (es : List Effect) → Known c n i ed es → All (Puts c n i least) es
known_puts c n i ed least l [] k = All-nil (Puts c n i least)
known_puts c n i ed least l (e ∷ es) k = All-cons (Puts c n i least) e es (effect_puts c n i ed least l e (known_first c n i ed e es k)) (known_puts c n i ed least l es (known_rest c n i ed e es k))

module _ (c n i least : ℕ) where
  begun : (e : Effect) (m : Member) → Puts c n i least e → Values c n i least m → Values c n i least (begins e m)
  begun (Write again e) m k v = record { last = v.last; under = v.under }
  begun (Rewrite x) m k v = record { last = v.last; under = v.under }
  begun (Save old new) m k v = record { last = v.last; under = λ w e. let same : new ≡ w = cc in subst (IsFrom c n i least) same k }
  begun (Mend w) m k v = v
  begun (Checkpoint cluster texts op old) m k v = v
  begun (PutBlock name block) m k v = v
  begun (Say o) m k v = v

  ended : (e : Effect) (m : Member) → Puts c n i least e → Values c n i least m → Values c n i least (ends e m)
  ended (Write again e) m k v = record { last = v.last; under = v.under }
  ended (Rewrite x) m k v = record { last = v.last; under = v.under }
  ended (Save old new) m k v = record { last = k; under = λ w e. absurd cc }
  ended (Mend w) m k v = record { last = k; under = λ x e. absurd cc }
  ended (Checkpoint cluster texts op old) m k v = v
  ended (PutBlock name block) m k v = v
  ended (Say o) m k v = v

  carried : (es : List Effect) (m : Member) → All (Puts c n i least) es → Values c n i least m → Values c n i least (carried_out es m)
  unfolding carried_out
  carried [] m k v = v
  carried (e ∷ es) m k v = let one = All-head (Puts c n i least) e es k in carried es (ends e (begins e m)) (All-tail (Puts c n i least) e es k) (ended e (begins e m) one (begun e m one v))

  first_begun : (es : List Effect) (m : Member) → All (Puts c n i least) es → Values c n i least m → Values c n i least (begins_first es m)
  first_begun [] m k v = v
  first_begun (e ∷ es) m k v = begun e m (All-head (Puts c n i least) e es k) v

  cut_values : (j : ℕ) (es : List Effect) (m : Member) → All (Puts c n i least) es → Values c n i least m → Values c n i least (cut_after j es m)
  cut_values j es m k v = first_begun (drop j es) (carried_out (take j es) m) (All-drop (Puts c n i least) j es k) (carried (take j es) m (All-take (Puts c n i least) j es k) v)

  found_values : (ps : List Part) (m : Member) → Values c n i least m → Values c n i least (keeps_all ps m)
  unfolding keeps_all
  found_values [] m v = v
  found_values (Here h ∷ ps) m v = found_values ps (keeps_found (Here h) m) (record { last = v.last; under = v.under })
  found_values (Lost h ∷ ps) m v = found_values ps m v
  found_values (Wanted h ∷ ps) m v = found_values ps m v
  found_values (Unknown ∷ ps) m v = found_values ps m v
  found_values (Nothing ∷ ps) m v = found_values ps m v

  -- a stop in the first effects, or in those after what was found is kept
  two_values : (xs ys : List Effect) (ps : List Part) (m : Member) (j : ℕ) → All (Puts c n i least) xs → All (Puts c n i least) ys → Values c n i least m → Values c n i least (cut_in_two xs ys (keeps_all ps) j m)
  two_values xs ys ps m j first rest v =
      let found = found_values ps (carried_out xs m) (carried xs m first v) in
      cond_both (nat_lt j (length xs)) (cut_after j xs m) (cut_after (j - length xs) ys (keeps_all ps (carried_out xs m))) (Values c n i least) (λ e. cut_values j xs m first v) (λ e. cut_values (j - length xs) ys (keeps_all ps (carried_out xs m)) rest found)

  runs_again : (m : Member) (r : Replica) → Values c n i least m → IsFitReplica r → IsAt c n i m.last.fields.version r → IsFitMember c n i (record m { replica = Some r })
  runs_again m r v h at = record { running = λ q e. (let same : r ≡ q = cc in subst (λ (x : Replica). IsFitReplica x × IsAt c n i m.last.fields.version x) same (h, at)); last = v.last.0; under = λ w e. (v.under w e).0 }

  stopped : (m : Member) → Values c n i least m → IsFitMember c n i (record m { replica = None })
  stopped m v = record { running = λ q e. absurd cc; last = v.last.0; under = λ w e. (v.under w e).0 }

pub good_value : (c n i : ℕ) (m : Member) (v : SuperValue) → IsFitMember c n i m → MayOpen m v → IsFitValue c n i v
good_value c n i m v h (inl e) = subst (IsFitValue c n i) e h.last
good_value c n i m v h (inr e) = h.under v e

-- ---- the version of the last value

module _ (c n i ed : ℕ) where
  ended_version : (e : Effect) (m : Member) → IsOwn c n i ed e → m.last.fields.version ≡ ed → (ends e (begins e m)).last.fields.version ≡ ed
  ended_version (Write again e) m k v = v
  ended_version (Rewrite x) m k v = v
  ended_version (Save old new) m k v = k.version
  ended_version (Mend w) m k v = k.version
  ended_version (Checkpoint cluster texts op old) m k v = v
  ended_version (PutBlock name block) m k v = v
  ended_version (Say o) m k v = v

  carried_version : (es : List Effect) (m : Member) → All (IsOwn c n i ed) es → m.last.fields.version ≡ ed → (carried_out es m).last.fields.version ≡ ed
  unfolding carried_out
  carried_version [] m k v = v
  carried_version (e ∷ es) m k v = carried_version es (ends e (begins e m)) (All-tail (IsOwn c n i ed) e es k) (ended_version e m (All-head (IsOwn c n i ed) e es k) v)

  -- where it is mended first, the one of the value before doesn't matter
  mended_version : (v : SuperValue) (es : List Effect) (m : Member) → All (IsOwn c n i ed) (Mend v ∷ es) → (carried_out (Mend v ∷ es) m).last.fields.version ≡ ed
  unfolding carried_out
  mended_version v es m k = let own = All-head (IsOwn c n i ed) (Mend v) es k in carried_version es (ends (Mend v) m) (All-tail (IsOwn c n i ed) (Mend v) es k) own.version

found_last : (ps : List Part) (m : Member) → (keeps_all ps m).last ≡ m.last
unfolding keeps_all
found_last [] m = refl
found_last (Here h ∷ ps) m = found_last ps (keeps_found (Here h) m)
found_last (Lost h ∷ ps) m = found_last ps m
found_last (Wanted h ∷ ps) m = found_last ps m
found_last (Unknown ∷ ps) m = found_last ps m
found_last (Nothing ∷ ps) m = found_last ps m

-- an opening mends its value first
mends_first : (v : SuperValue) (d : Lying) → (es : List Effect) × ((mended v d).script ≡ Mend v ∷ es)
unfolding ◌⨾◌ does
mends_first v d = ((recover_parts v lying (blank v) (after_all lying d (Mend v ∷ []))).script, refl)

-- ---- members, messages and entries of a group

at_place : {X : Type 0} (P : X → Type 0) (xs : List X) (i : ℕ) (x : X) → All P xs → slice_get xs i ≡ Some x → P x
at_place P [] i x h e = absurd cc
at_place P (y ∷ ys) zero x h e = let same : y ≡ x = cc in subst P same (All-head P y ys h)
at_place P (y ∷ ys) (suc i) x h e = at_place P ys i x (All-tail P y ys h) e

set_place : {X : Type 0} (xs : List X) (i j : ℕ) (y x : X) → slice_get (slice_set xs i y) j ≡ Some x → ((i ≡ j) × (y ≡ x)) ⊎ (slice_get xs j ≡ Some x)
set_place [] i j y x e = inr e
set_place (z ∷ zs) zero zero y x e = inl (refl, cc)
set_place (z ∷ zs) zero (suc j) y x e = inr e
set_place (z ∷ zs) (suc i) zero y x e = inr e
set_place (z ∷ zs) (suc i) (suc j) y x e = elim (set_place zs i j y x e) [ inl p ↦ inl (ap suc p.0, p.1) | inr q ↦ inr q ]

made_fit : (es : List Effect) → All IsFit es → All IsMade (made_in es)
unfolding made_in
made_fit [] h = All-nil IsMade
made_fit (Write again e ∷ es) h = let w = All-head IsFit (Write again e) es h in All-cons IsMade e.header (made_in es) (w.header, w.entry.header) (made_fit es (All-tail IsFit (Write again e) es h))
made_fit (Rewrite x ∷ es) h = made_fit es (All-tail IsFit (Rewrite x) es h)
made_fit (Save old new ∷ es) h = made_fit es (All-tail IsFit (Save old new) es h)
made_fit (Mend v ∷ es) h = made_fit es (All-tail IsFit (Mend v) es h)
made_fit (Checkpoint cluster texts op old ∷ es) h = made_fit es (All-tail IsFit (Checkpoint cluster texts op old) es h)
made_fit (PutBlock name block ∷ es) h = made_fit es (All-tail IsFit (PutBlock name block) es h)
made_fit (Say o ∷ es) h = made_fit es (All-tail IsFit (Say o) es h)

-- every value that a member may open as is of a version, by its place, or of a later one
abbrev AreFrom : (ℕ → ℕ) → Group → Type 0
AreFrom least g = (at : ℕ) (m : Member) (v : SuperValue) → slice_get g.members at ≡ Some m → MayOpen m v → least at ≤ v.fields.version

-- what a move leaves: a fit group, of these versions or of later ones
record Left (c : ℕ) (least : ℕ → ℕ) (after : Group) : Type 0 where
  fit : IsFitGroup c after
  from : AreFrom least after

from_values : (c n i least : ℕ) (m : Member) (v : SuperValue) → Values c n i least m → MayOpen m v → least ≤ v.fields.version
from_values c n i least m v h (inl e) = subst (λ (w : SuperValue). least ≤ w.fields.version) e h.last.1
from_values c n i least m v h (inr e) = (h.under v e).1

-- one member changed, wrote and said something
one_moved : (c : ℕ) (least : ℕ → ℕ) (g : Group) (at : ℕ) (m : Member) (es : List Effect) (said : List Output) → IsFitGroup c g → AreFrom least g → IsFitMember c g.n at m → ((v : SuperValue) → MayOpen m v → least at ≤ v.fields.version)
    → All IsFit es → All MayCome (messages said) → Left c least (group.with_script g at m es said).group
one_moved c least g at m es said h from k later fit s = record {
  fit = record {
    some = h.some;
    members = λ j x e. elim (set_place g.members at j m x e) [
      | inl p ↦ subst (λ k. IsFitMember c g.n k x) p.0 (subst (IsFitMember c g.n at) p.1 k)
      | inr q ↦ h.members j x q
    ];
    sent = All-append MayCome g.sent (messages said) h.sent s;
    made = All-append IsMade g.made (made_in es) h.made (made_fit es fit);
  };
  from = λ j x v e may. elim (set_place g.members at j m x e) [
    | inl p ↦ subst (λ k. least k ≤ v.fields.version) p.0 (later v (subst (λ (y : Member). MayOpen y v) (sym p.1) may))
    | inr q ↦ from j x v q may
  ];
}

-- ---- what arrives may come

pub arrives : (c : ℕ) (g : Group) (at : ℕ) (a : Arrival) (e : Event) → IsFitGroup c g → IsFitArrival a → IsArrival g at a e → IsEvent e
arrives c g at (Asked q) e h l i = rw i.1 (asked_may_come q i.0 l)
arrives c g at (Message number) e h l i = rw i.3 (at_place MayCome g.sent number i.0 h.sent i.1)
arrives c g at Time e h l i = rw i tt

-- ---- steps and openings

pub record Stepped (c n i ed : ℕ) (x : Step) : Type 0 where
  pub fit : IsFitStep x
  pub known : Known c n i ed x.script
  pub replica : IsFitReplica x.replica
  pub at : IsAt c n i ed x.replica

pub step_is : (c n i ed : ℕ) (r : Replica) (e : Event) (d : Lying) → IsFitReplica r → IsAt c n i ed r → IsEvent e → ReadsWell lying d → Stepped c n i ed (stepped e r d)
step_is c n i ed r e d h at m k =
    let fit = steps_fit lying d r e lies_fit.program lies_fit.roots k h.sound h.savable h.blocks m in
    let saves = steps_save_well lying d r e lies_fit.names lies_fit.roots h.sound h.savable m in
    let saved : IsOwnValue r.cluster r.n r.index (version r) r.saved = record { cluster = at.saved.cluster ∙ sym at.cluster; n = at.saved.n ∙ sym at.n; index = at.saved.index ∙ sym at.index; version = refl } in
    let of_file : IsOwnStep c n i (version r) (stepped e r d) = rw (← at.cluster, ← at.n, ← at.index) (steps_are_own lying d r e m saved) in
    let own = subst (λ (k : ℕ). IsOwnStep c n i k (stepped e r d)) at.saved.version of_file in
    record { fit = fit; known = record { fit = fit.each; saves = saves.each; own = own.each }; replica = record { sound = steps_stay_sound lying d r e lies_fit.names h.sound m; savable = saves.savable; blocks = fit.blocks }; at = own.replica }

opening_is : (c n i ed : ℕ) (v : SuperValue) (d : Lying) → IsGood v × IsOwnValue c n i ed v → ReadsWell lying d → Stepped c n i ed (opening v lying (blank v) d)
opening_is c n i ed v d g k =
    let fit = openings_fit lying d v lies_fit.program lies_fit.roots k g.0 in
    let saves = openings_save_well lying d v (headers_of lying d k) lies_fit.roots g.0 in
    let of_file : IsOwnStep c n i v.fields.version (opening v lying (blank v) d) = rw (← g.1.cluster, ← g.1.n, ← g.1.index) (openings_are_own lying d v) in
    let own = subst (λ (k : ℕ). IsOwnStep c n i k (opening v lying (blank v) d)) g.1.version of_file in
    record { fit = fit; known = record { fit = fit.each; saves = saves.each; own = own.each }; replica = record { sound = openings_are_sound lying d v (headers_of lying d k) g.0; savable = saves.savable; blocks = fit.blocks }; at = own.replica }

pub start_is : (c n i ed : ℕ) (v : SuperValue) (d : Lying) → IsGood v × IsOwnValue c n i ed v → ReadsWell lying d → Stepped c n i ed (in_two v d)
start_is c n i ed v d g k = subst (Stepped c n i ed) (opening_in_two v d) (opening_is c n i ed v d g k)

-- ---- moves

module _ (c : ℕ) (least : ℕ → ℕ) (g : Group) (at : ℕ) (m : Member) (there : slice_get g.members at ≡ Some m) (h : IsFitGroup c g) (from : AreFrom least g) where
  abbrev is : IsFitMember c g.n at m
  is = h.members at m there

  abbrev ed : ℕ
  ed = m.last.fields.version

  values : Values c g.n at (least at) m
  values = record { last = (is.last, from at m m.last there (inl refl)); under = λ v e. (is.under v e, from at m v there (inr e)) }

  -- it runs, or is stopped, with such values
  runs_on : (after : Member) (r : Replica) (es : List Effect) (said : List Output) → Values c g.n at (least at) after → IsFitReplica r → IsAt c g.n at after.last.fields.version r → All IsFit es → All MayCome (messages said)
      → Left c least (group.with_script g at (record after { replica = Some r }) es said).group
  runs_on after r es said v fit own each sent =
      one_moved c least g at (record after { replica = Some r }) es said h from (runs_again c g.n at (least at) after r v fit own) (λ w may. from_values c g.n at (least at) after w v may) each sent

  stops : (after : Member) (es : List Effect) → Values c g.n at (least at) after → All IsFit es → Left c least (group.with_script g at (record after { replica = None }) es []).group
  unfolding messages
  stops after es v each = one_moved c least g at (record after { replica = None }) es [] h from (stopped c g.n at (least at) after v) (λ w may. from_values c g.n at (least at) after w v may) each (All-nil MayCome)

  finishes : (x : Step) → Stepped c g.n at ed x → Left c least (finished g at m x).group
  finishes x s =
      let puts = known_puts c g.n at ed (least at) values.last.1 x.script s.known in
      let file = carried_version c g.n at ed x.script m s.known.own refl in
      runs_on (carried_out x.script m) x.replica x.script (outputs x.script) (carried c g.n at (least at) x.script m puts values) s.replica (subst (λ k. IsAt c g.n at k x.replica) (sym file) s.at) s.fit.each s.fit.sent

  cuts_short : (x : Step) (j : ℕ) → Stepped c g.n at ed x → Left c least (cut_short g at m x j).group
  cuts_short x j s =
      let puts = known_puts c g.n at ed (least at) values.last.1 x.script s.known in
      stops (cut_after j x.script m) (take (j + 1) x.script) (cut_values c g.n at (least at) j x.script m puts values) (All-take IsFit (j + 1) x.script s.fit.each)

  stepped_is : (r : Replica) (e : Event) (d : Lying) → m.replica ≡ Some r → IsEvent e → ReadsWell lying d → Stepped c g.n at ed (stepped e r d)
  stepped_is r e d runs event k = let run = is.running r runs in step_is c g.n at ed r e d run.0 run.1 event k

  -- it opens as a value
  module _ (v : SuperValue) (may : MayOpen m v) where
    own : IsFrom c g.n at (least at) v
    own = (good_value c g.n at m v is may, from at m v there may)

    abbrev edition : ℕ
    edition = v.fields.version

    opened_is : (d : Lying) → ReadsWell lying d → Stepped c g.n at edition (in_two v d)
    opened_is d k = start_is c g.n at edition v d own.0 k

    starts_fit : (d : Lying) → ReadsWell lying d → Left c least (started g at m v d).group
    starts_fit d k =
        let s = opened_is d k in
        let xs = (mended v d).script in
        let ys = (resumed v d).script in
        let known = known_left c g.n at edition xs ys s.known in
        let later = known_right c g.n at edition xs ys s.known in
        let first = carried c g.n at (least at) xs m (known_puts c g.n at edition (least at) own.1 xs known) values in
        let kept = found_values c g.n at (least at) (found v d) (carried_out xs m) first in
        let end = carried c g.n at (least at) ys (once_mended v d m) (known_puts c g.n at edition (least at) own.1 ys later) kept in
        let script = mends_first v d in
        let mends : (carried_out xs m).last.fields.version ≡ edition =
        ap (λ (es : List Effect). (carried_out es m).last.fields.version) script.1 ∙ mended_version c g.n at edition v script.0 m (subst (All (IsOwn c g.n at edition)) script.1 known.own) in
        let file = carried_version c g.n at edition ys (once_mended v d m) later.own (ap (λ (w : SuperValue). w.fields.version) (found_last (found v d) (carried_out xs m)) ∙ mends) in
        runs_on (carried_out ys (once_mended v d m)) (resumed v d).replica (opening_script v d) (outputs (opening_script v d)) end s.replica (subst (λ k. IsAt c g.n at k (resumed v d).replica) (sym file) s.at) s.fit.each s.fit.sent

    starts_cut_fit : (d : Lying) (j : ℕ) → ReadsWell lying d → Left c least (start_cut g at m v d j).group
    starts_cut_fit d j k =
        let s = opened_is d k in
        let xs = (mended v d).script in
        let ys = (resumed v d).script in
        let first = known_puts c g.n at edition (least at) own.1 xs (known_left c g.n at edition xs ys s.known) in
        let rest = known_puts c g.n at edition (least at) own.1 ys (known_right c g.n at edition xs ys s.known) in
        stops (cut_in_two xs ys (keeps_all (found v d)) j m) (take (j + 1) (opening_script v d)) (two_values c g.n at (least at) xs ys (found v d) m j first rest values) (All-take IsFit (j + 1) (opening_script v d) s.fit.each)

    -- it is migrated
    migration_puts : All (Puts c g.n at (least at)) (migration v)
    migration_puts =
        let puts = Puts c g.n at (least at) in
        let few = own.0.0.numbers.version.1 in
        let from = own.1 in
        let after : IsFrom c g.n at (least at) (migrated v) = ((migrated_good v own.0.0, migrated_own c g.n at v own.0.1), omega (arith, few, from)) in
        All-cons puts (Mend v) (Save v (migrated v) ∷ []) own (All-cons puts (Save v (migrated v)) [] after (All-nil puts))

    migration_fits : All IsFit (migration v)
    migration_fits = All-cons IsFit (Mend v) (Save v (migrated v) ∷ []) own.0.0 (All-cons IsFit (Save v (migrated v)) [] tt (All-nil IsFit))

    migrates_fit : Left c least (moved_over g at m v).group
    migrates_fit = stops (carried_out (migration v) m) (migration v) (carried c g.n at (least at) (migration v) m migration_puts values) migration_fits

    migrates_cut_fit : (j : ℕ) → Left c least (move_cut g at m v j).group
    migrates_cut_fit j = stops (cut_after j (migration v) m) (take (j + 1) (migration v)) (cut_values c g.n at (least at) j (migration v) m migration_puts values) (All-take IsFit (j + 1) (migration v) migration_fits)

leaves : (c : ℕ) (least : ℕ → ℕ) (g : Group) (move : Move) (moved : Moved) → IsFitGroup c g → AreFrom least g → IsFitMove move → Moves g move moved → Left c least moved.group
leaves c least g _ _ h from k (group.steps at arrival e d m r runs i) = finishes c least g at m runs.member h from (stepped e r d) (stepped_is c least g at m runs.member h from r e d runs.running (arrives c g at arrival e h k.0 i) k.1)
leaves c least g _ _ h from k (group.cuts at arrival e d j m r runs i) = cuts_short c least g at m runs.member h from (stepped e r d) j (stepped_is c least g at m runs.member h from r e d runs.running (arrives c g at arrival e h k.0 i) k.1)
leaves c least g _ _ h from k (group.crashes at m there) = stops c least g at m there h from m [] (values c least g at m there h from) (All-nil IsFit)
leaves c least g _ _ h from k (group.recovers at v d m o) = starts_fit c least g at m o.member h from v o.value d k
leaves c least g _ _ h from k (group.recovers_cut at v d j m o) = starts_cut_fit c least g at m o.member h from v o.value d j k
leaves c least g _ _ h from k (group.migrates at v m o) = migrates_fit c least g at m o.member h from v o.value
leaves c least g _ _ h from k (group.migrates_cut at v j m o) = migrates_cut_fit c least g at m o.member h from v o.value j

moves_fit : (c : ℕ) (g : Group) (move : Move) (moved : Moved) → IsFitGroup c g → IsFitMove move → Moves g move moved → IsFitGroup c moved.group
moves_fit c g move moved h k m = (leaves c (λ at. 0) g move moved h (λ at x v e may. omega arith) k m).fit

moves_kinds : (kinds : ℕ → Kind) (c : ℕ) (g : Group) (move : Move) (moved : Moved) → AreOfKinds kinds g → IsFitGroup c g → IsFitMove move → Moves g move moved → AreOfKinds kinds moved.group
moves_kinds kinds c g move moved of h k m = (leaves c (λ at. (kinds at).version) g move moved h of k m).from

-- ---- runs

fresh_is : (kind : Kind) (c n i : ℕ) → IsKind kind → c < 2 ^ 64 → least_members kind.version ≤ n → n ≤ 6 → i < n → IsFitMember c n i (fresh_member kind c n i)
unfolding blank
fresh_is kind c n i of l a b m =
    let k = fresh_fits kind c n i of l a b m in
    let own : IsOwnValue c n i kind.version (first_value kind c n i) = record { cluster = refl; n = refl; index = refl; version = refl } in
    let at : IsAt c n i kind.version (fresh kind c n i) = record { cluster = refl; n = refl; index = refl; saved = own } in
    let whole : IsFitReplica (fresh kind c n i) = record { sound = k.sound; savable = k.savable; blocks = k.blocks } in
    record {
      running = λ r e. (let same : fresh kind c n i ≡ r = cc in subst (λ (x : Replica). IsFitReplica x × IsAt c n i kind.version x) same (whole, at));
      last = (k.value, own);
      under = λ v e. absurd cc;
    }

pub fresh_at : (kinds : ℕ → Kind) (c n from count j : ℕ) (m : Member) → slice_get (map (λ i. fresh_member (kinds i) c n i) (range_with_len from count)) j ≡ Some m → (fresh_member (kinds (from + j)) c n (from + j) ≡ m) × (j < count)
fresh_at kinds c n from zero j m e = absurd cc
fresh_at kinds c n from (suc count) zero m e = let at : from + 0 ≡ from = omega arith in (rw at cc, omega arith)
fresh_at kinds c n from (suc count) (suc j) m e =
    let rest = fresh_at kinds c n (from + 1) count j m e in
    let at : from + suc j ≡ from + 1 + j = omega arith in
    (rw at rest.0, omega (arith, rest.1))

-- the member at a place
fresh_place : (kinds : ℕ → Kind) (c n at : ℕ) (m : Member) → slice_get (map (λ i. fresh_member (kinds i) c n i) (range_with_len 0 n)) at ≡ Some m → (fresh_member (kinds at) c n at ≡ m) × (at < n)
fresh_place kinds c n at m e =
    let k = fresh_at kinds c n 0 n at m e in
    let same : 0 + at ≡ at = omega arith in
    (subst (λ j. fresh_member (kinds j) c n j ≡ m) same k.0, k.1)

pub fresh_group_fits : (kinds : ℕ → Kind) (c n : ℕ) → AreKinds kinds n → c < 2 ^ 64 → 1 ≤ n → n ≤ 6 → IsFitGroup c (fresh_group kinds c n)
unfolding fresh_group
fresh_group_fits kinds c n are l a b = record {
  some = a;
  members = λ at m e. let k = fresh_place kinds c n at m e in subst (IsFitMember c n at) k.0 (let is = are at k.1 in fresh_is (kinds at) c n at is.0 l is.1 b k.1);
  sent = All-nil MayCome;
  made = All-nil IsMade;
}

fresh_kinds : (kinds : ℕ → Kind) (c n : ℕ) → AreOfKinds kinds (fresh_group kinds c n)
unfolding fresh_group
fresh_kinds kinds c n at m v e may = opens_so m v (fresh_place kinds c n at m e).0 may
  where
    opens_so : (m : Member) (v : SuperValue) → fresh_member (kinds at) c n at ≡ m → MayOpen m v → (kinds at).version ≤ v.fields.version
    opens_so m v same (inl last) = subst (λ (w : SuperValue). (kinds at).version ≤ w.fields.version) (ap (λ (x : Member). x.last) same ∙ last) (omega arith)
    opens_so m v same (inr under) = absurd (let none : None ≡ Some v = ap (λ (x : Member). x.under) same ∙ under in cc)

run_fits : (c : ℕ) (g : Group) (run : List Played) → IsFitGroup c g → All (λ p. IsFitMove p.move) run → Run g run → All (IsFitPlayed c) run
run_fits c g _ h k (group.ended _) = All-nil (IsFitPlayed c)
run_fits c g _ h k (group.goes _ move moved later m rest) =
    let p : Played = record { before = g; move = move; moved = moved } in
    let after = moves_fit c g move moved h (All-head (λ (p : Played). IsFitMove p.move) p later k) m in
    All-cons (IsFitPlayed c) p later (h, after) (run_fits c moved.group later after (All-tail (λ (p : Played). IsFitMove p.move) p later k) rest)

run_kinds : (kinds : ℕ → Kind) (c : ℕ) (g : Group) (run : List Played) → AreOfKinds kinds g → IsFitGroup c g → All (λ p. IsFitMove p.move) run → Run g run → All (IsOfKinds kinds) run
run_kinds kinds c g _ of h k (group.ended _) = All-nil (IsOfKinds kinds)
run_kinds kinds c g _ of h k (group.goes _ move moved later m rest) =
    let p : Played = record { before = g; move = move; moved = moved } in
    let fits = All-head (λ (p : Played). IsFitMove p.move) p later k in
    let after = moves_fit c g move moved h fits m in
    let of_after = moves_kinds kinds c g move moved of h fits m in
    All-cons (IsOfKinds kinds) p later (of, of_after) (run_kinds kinds c moved.group later of_after after (All-tail (λ (p : Played). IsFitMove p.move) p later k) rest)

pub groups_fit : GroupsFit
groups_fit = record {
  each = moves_fit;
  runs = λ kinds c n run are l a b k r. run_fits c (fresh_group kinds c n) run (fresh_group_fits kinds c n are l a b) k r;
  kinds = moves_kinds;
  runs_of = λ kinds c n run are l a b k r. run_kinds kinds c (fresh_group kinds c n) run (fresh_kinds kinds c n) (fresh_group_fits kinds c n are l a b) k r;
}

-- A script whose saves chain, and whose effects have their forms, may go.
use Rattle.std.proofs.Common.{arith, ℕ, ◌≡◌, refl, sym, ap, ◌∙◌, subst, Bool, true, false, cond, List, [], ◌∷◌}
use Rattle.vr_header.specs.declared.header.Header.{Header}
use Rattle.vr_header.specs.Made.{Whole}
use Rattle.vr_header.specs.declared.part.Part.{Part}
use Rattle.vr_super.specs.Copies.{SuperValue, IsGood}
use Rattle.vr_rules.specs.Replica.{Replica, forgetting, with_part}
use Rattle.vr_rules.specs.Steps.{Effect, Write, Rewrite, Save, Mend, Checkpoint, PutBlock, Say, Setting, Word, ◌⨾◌, after_all, change, does, each, quiet, reading}
use Rattle.vr_rules.specs.Words.{entry_of}
use Rattle.vr_recover.specs.declared.readings.Verdict.{Verdict}
use Rattle.vr_recover.specs.declared.readings.Verdict.TheVariants as verdict
use Rattle.std.specs.Prelude.{Option, Some, None}
use Rattle.vr_rules.specs.Opening.{Slot, blank, clouded, entry_header, mend_slot, old_headers, old_part, part_by, recover_old, recover_op, recover_parts, rewrite, slot_at, slot_verdict}
use Rattle.vr_state.specs.Folds.{empty}
use Rattle.vr_ckpt.specs.Places as places
use Rattle.vr_world.specs.Lying.{Lying, lying}
use Rattle.vr_world.specs.Group.{Member, carried_out, keeps_all, keeps_found, found, mended, once_mended, recovered}
use Rattle.law_4_disks.specs.Beside.{MayGo}
use Rattle.std.specs.List.{AllByRecursion}
use Rattle.vr_rings.specs.Calls.{again_calls, new_calls}
use Rattle.vr_rings.specs.Slots.{IsWhole}
use Rattle.vr_world.proofs.FitGroups.{Known, known_first, known_rest}
use Rattle.law_4_disks.specs.Stocks.{WritesBlocks}
use Rattle.law_4_disks.proofs.Calls.{AreCalls, again_are, header_are, mend_are, new_are, save_are}
use Rattle.law_4_disks.specs.Chains.{Chain, GoesWell, Rewrites}
use Rattle.law_4_disks.proofs.Opening.{IsMended, kept_last}
use Rattle.law_4_disks.proofs.Recovering.{carried_last, values}

pub chain_goes : (home : ℕ) (es : List Effect) (d : Lying) (v u : SuperValue) → v.fields.cluster ≡ home → Chain v es u → GoesWell home es d → MayGo es d v
chain_goes home [] d v u own c g = tt
chain_goes home (Write again e ∷ es) d v u own c g = (record { fit = (g.0.0, g.0.1 ∙ sym own, g.0.2); calls = g.1 }, chain_goes home es (lying.after d (Write again e)) v u own c g.2)
chain_goes home (Rewrite h ∷ es) d v u own c g = (record { fit = (g.0.0, g.0.1, g.0.2, g.0.3 ∙ sym own, g.0.4); calls = g.1 }, chain_goes home es (lying.after d (Rewrite h)) v u own c g.2)
chain_goes home (Save old new ∷ es) d v u own c g = (record { fit = (c.0, c.1, g.0.0, g.0.1 ∙ sym (ap (λ (x : SuperValue). x.fields.cluster) c.0 ∙ own)); calls = g.1 }, chain_goes home es (lying.after d (Save old new)) new u g.0.1 c.2 g.2)
chain_goes home (Mend x ∷ es) d v u own c g = (record { fit = c.0; calls = g.1 }, chain_goes home es (lying.after d (Mend x)) x u (ap (λ (x : SuperValue). x.fields.cluster) c.0 ∙ own) (subst (λ y. Chain y es u) (sym c.0) c.1) g.2)
chain_goes home (Checkpoint k t o b ∷ es) d v u own c g = (record { fit = tt; calls = g.1 }, chain_goes home es (lying.after d (Checkpoint k t o b)) v u own c g.2)
chain_goes home (PutBlock n b ∷ es) d v u own c g = (record { fit = tt; calls = g.1 }, chain_goes home es (lying.after d (PutBlock n b)) v u own c g.2)
chain_goes home (Say o ∷ es) d v u own c g = (record { fit = tt; calls = g.1 }, chain_goes home es (lying.after d (Say o)) v u own c g.2)

chain_values : (es : List Effect) (v u : SuperValue) → Chain v es u → values es v ≡ u
chain_values [] v u c = c
chain_values (Write again e ∷ es) v u c = chain_values es v u c
chain_values (Rewrite h ∷ es) v u c = chain_values es v u c
chain_values (Save old new ∷ es) v u c = chain_values es new u c.2
chain_values (Mend x ∷ es) v u c = chain_values es x u (subst (λ y. Chain y es u) (sym c.0) c.1)
chain_values (Checkpoint k t o b ∷ es) v u c = chain_values es v u c
chain_values (PutBlock n b ∷ es) v u c = chain_values es v u c
chain_values (Say o ∷ es) v u c = chain_values es v u c

pub chain_last : (es : List Effect) (m : Member) (u : SuperValue) → Chain m.last es u → (carried_out es m).last ≡ u
chain_last es m u c = carried_last es m ∙ chain_values es m.last u c

-- ---- what is known of a script's effects

write_are : (v : ℕ) (again : Bool) (e : Whole) → IsWhole e → AreCalls (cond again (again_calls v e) (new_calls v e))
write_are v true e w = again_are v e w
write_are v false e w = new_are v e w

pub known_goes : (P Q : List ℕ → Type 0) (home n i ed : ℕ) (es : List Effect) (d : Lying) (v u : SuperValue) → d.version ≡ ed → IsGood v → Chain v es u → Known home n i ed es → AllByRecursion (WritesBlocks P Q) es → Rewrites home es d → GoesWell home es d
known_goes P Q home n i ed [] d v u f g c k b w = tt
known_goes P Q home n i ed (Write again e ∷ es) d v u f g c k b w =
    let one = known_first home n i ed (Write again e) es k in ((one.0, one.2.0, (let few = one.2.1 in omega (arith, few, f))), write_are d.version again e one.0, known_goes P Q home n i ed es (lying.after d (Write again e)) v u f g c (known_rest home n i ed (Write again e) es k) b.1 w.1)
known_goes P Q home n i ed (Rewrite h ∷ es) d v u f g c k b w =
    (w.0, header_are h (known_first home n i ed (Rewrite h) es k).0, known_goes P Q home n i ed es (lying.after d (Rewrite h)) v u f g c (known_rest home n i ed (Rewrite h) es k) b.1 w.1)
known_goes P Q home n i ed (Save old new ∷ es) d v u f g c k b w =
    let one = known_first home n i ed (Save old new) es k in
    ((one.1, one.2.cluster), save_are old new d.face (subst IsGood (sym c.0) g) one.1, known_goes P Q home n i ed es (lying.after d (Save old new)) new u f one.1 c.2 (known_rest home n i ed (Save old new) es k) b.1 w.1)
known_goes P Q home n i ed (Mend x ∷ es) d v u f g c k b w =
    (tt, mend_are x d.face (known_first home n i ed (Mend x) es k).0, known_goes P Q home n i ed es (lying.after d (Mend x)) v u f g c.1 (known_rest home n i ed (Mend x) es k) b.1 w.1)
known_goes P Q home n i ed (Checkpoint t x o p ∷ es) d v u f g c k b w = (tt, b.0.0, known_goes P Q home n i ed es (lying.after d (Checkpoint t x o p)) v u f g c (known_rest home n i ed (Checkpoint t x o p) es k) b.1 w.1)
known_goes P Q home n i ed (PutBlock m x ∷ es) d v u f g c k b w = (tt, b.0.0, known_goes P Q home n i ed es (lying.after d (PutBlock m x)) v u f g c (known_rest home n i ed (PutBlock m x) es k) b.1 w.1)
known_goes P Q home n i ed (Say o ∷ es) d v u f g c k b w = (tt, tt, known_goes P Q home n i ed es (lying.after d (Say o)) v u f g c (known_rest home n i ed (Say o) es k) b.1 w.1)

-- ---- what an opening finds keeps the value

part_saved : (v : SuperValue) (q : Replica) → (clouded v q).saved ≡ q.saved
unfolding clouded
part_saved v q = refl

part_state : (v : SuperValue) (q : Replica) → (clouded v q).state ≡ q.state
unfolding clouded
part_state v q = refl

part_table : (v : SuperValue) (q : Replica) → (clouded v q).table ≡ q.table
unfolding clouded
part_table v q = refl

forgets_state : (q : Replica) → (forgetting q).state ≡ q.state
unfolding forgetting
forgets_state q = refl

forgets_table : (q : Replica) → (forgetting q).table ≡ q.table
unfolding forgetting
forgets_table q = refl

forgets_saved : (q : Replica) → (forgetting q).saved ≡ q.saved
unfolding forgetting
forgets_saved q = refl

-- a word that saves nothing, and leaves state and table
record Keeping {F : Type 0} (w : Word F) : Type 0 where
  pub each : (s : Setting F) (r : Replica) (f : F) → (w s r f).replica.saved ≡ r.saved
  pub state : (s : Setting F) (r : Replica) (f : F) → (w s r f).replica.state ≡ r.state
  pub table : (s : Setting F) (r : Replica) (f : F) → (w s r f).replica.table ≡ r.table

module _ {F : Type 0} where
  k_then : (a b : Word F) → Keeping a → Keeping b → Keeping (a ⨾ b)
  unfolding ◌⨾◌
  k_then a b x y = record {
    each = λ s r f. let one = a s r f in y.each s one.replica (after_all s f one.script) ∙ x.each s r f;
    state = λ s r f. let one = a s r f in y.state s one.replica (after_all s f one.script) ∙ x.state s r f;
    table = λ s r f. let one = a s r f in y.table s one.replica (after_all s f one.script) ∙ x.table s r f;
  }

  k_quiet : Keeping {F = F} quiet
  unfolding quiet
  k_quiet = record { each = λ s r f. refl; state = λ s r f. refl; table = λ s r f. refl }

  k_change : (g : Replica → Replica) → ((r : Replica) → (g r).saved ≡ r.saved) → ((r : Replica) → (g r).state ≡ r.state) → ((r : Replica) → (g r).table ≡ r.table) → Keeping {F = F} (change g)
  unfolding change
  k_change g h i j = record { each = λ s r f. h r; state = λ s r f. i r; table = λ s r f. j r }

  k_reading : {X : Type 0} (g : Setting F → F → X) (w : X → Word F) → ((x : X) → Keeping (w x)) → Keeping (reading g w)
  unfolding reading
  k_reading g w h = record { each = λ s r f. (h (g s f)).each s r f; state = λ s r f. (h (g s f)).state s r f; table = λ s r f. (h (g s f)).table s r f }

  k_each : {X : Type 0} (w : X → Word F) (xs : List X) → ((x : X) → Keeping (w x)) → Keeping (each w xs)
  unfolding each
  k_each w [] h = k_quiet
  k_each w (x ∷ xs) h = k_then (w x) (each w xs) (h x) (k_each w xs h)

  k_rewrite : (o : Option Header) → Keeping {F = F} (rewrite o)
  unfolding does
  k_rewrite None = k_quiet
  k_rewrite (Some h) = record { each = λ s r f. refl; state = λ s r f. refl; table = λ s r f. refl }

  k_mend : (x : Slot) (t : Verdict) → Keeping {F = F} (mend_slot x t)
  k_mend x verdict.Rewrite = k_rewrite (entry_header x)
  k_mend x verdict.Here = k_quiet
  k_mend x verdict.Lost = k_quiet
  k_mend x verdict.Wanted = k_quiet
  k_mend x verdict.Nothing = k_quiet
  k_mend x verdict.Unknown = k_quiet

  k_part : (k : ℕ) (p : Part) → Keeping {F = F} (change (with_part k p))
  unfolding with_part
  k_part k p = k_change (with_part k p) (λ r. refl) (λ r. refl) (λ r. refl)

  k_op : (v : SuperValue) (k : ℕ) → Keeping {F = F} (recover_op v k)
  unfolding recover_op
  k_op v k = k_reading (slot_at k) _ (λ x. k_then _ _ (k_mend x (slot_verdict v k x)) (k_part k (part_by v k x (slot_verdict v k x))))

  k_old : (h : Header) → Keeping {F = F} (recover_old h)
  unfolding recover_old
  k_old h = k_reading (entry_of h) _ (λ o. k_part h.op (old_part h o))

  k_parts : (v : SuperValue) → Keeping {F = F} (recover_parts v)
  unfolding recover_parts
  k_parts v = k_then _ _ (k_each recover_old (old_headers v) k_old) (k_then _ _ (k_each (recover_op v) _ (k_op v)) (k_then _ _ (k_change (clouded v) (part_saved v) (part_state v) (part_table v)) (k_change forgetting forgets_saved forgets_state forgets_table)))

blank_saved : (v : SuperValue) → (blank v).saved ≡ v
unfolding blank
blank_saved v = refl

pub recovered_saved : (v : SuperValue) (d : Lying) → (recovered v d).saved ≡ v
unfolding ◌⨾◌ does
recovered_saved v d = (k_parts v).each lying (blank v) (after_all lying d (Mend v ∷ [])) ∙ blank_saved v

blank_state : (v : SuperValue) → (blank v).state ≡ empty
unfolding blank
blank_state v = refl

blank_table : (v : SuperValue) → (blank v).table ≡ places.empty
unfolding blank
blank_table v = refl

pub recovered_state : (v : SuperValue) (d : Lying) → (recovered v d).state ≡ empty
unfolding ◌⨾◌ does
recovered_state v d = (k_parts v).state lying (blank v) (after_all lying d (Mend v ∷ [])) ∙ blank_state v

pub recovered_table : (v : SuperValue) (d : Lying) → (recovered v d).table ≡ places.empty
unfolding ◌⨾◌ does
recovered_table v d = (k_parts v).table lying (blank v) (after_all lying d (Mend v ∷ [])) ∙ blank_table v

all_last : (ps : List Part) (m : Member) → (keeps_all ps m).last ≡ m.last
unfolding keeps_all
all_last [] m = refl
all_last (p ∷ ps) m = all_last ps (keeps_found p m) ∙ kept_last p m

-- the mended value is the one that the script has at its end
pub mended_value : (v : SuperValue) (d : Lying) (m : Member) → IsMended v d m → values (mended v d).script v ≡ v
unfolding ◌⨾◌ does
mended_value v d m h = sym (carried_last (mended v d).script m) ∙ h.stood.last

pub once_last : (v : SuperValue) (d : Lying) (m : Member) → IsMended v d m → (once_mended v d m).last ≡ v
once_last v d m h = all_last (found v d) (carried_out (mended v d).script m) ∙ h.stood.last

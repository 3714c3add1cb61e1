-- What an output of a move rests on: what was sent before the move, and in a group of one its vouches for what counts as stored by the
-- effects before the output.
use Rattle.std.proofs.Common.{ℕ, zero, suc, ◌≡◌, ◌∙◌, ◌⊎◌, inl, inr, refl, sym, ap, subst, List, [], ◌∷◌, ◌++◌, Some}
use Rattle.std.specs.Prelude.{Contains, slice_get}
use Rattle.vr_header.specs.declared.header.Header.{Header}
use Rattle.vr_msg.specs.declared.output.Output.{Output}
use Rattle.vr_rules.specs.Steps.{Effect, Checkpoint, Mend, PutBlock, Rewrite, Save, Say, Write, outputs}
use Rattle.vr_world.specs.Group as group
use Rattle.vr_world.specs.Group.{Move, Moved, Moves, Played}
use Rattle.vr_world.specs.Storing.{done_in, stored_from, until_said}
use Rattle.law_1_machine.specs.Basics.{In}
use Rattle.law_1_machine.specs.Group.{Group}
use Rattle.law_1_machine.specs.Members.{Message}
use Rattle.law_2_chains.specs.Bridge.{Chained, IsOwnVouch}
use Rattle.law_2_chains.specs.Chains.{Setup, AsksNothing, Every}
use Rattle.law_2_chains.proofs.StoredLists.{contains_in, from_more, in_contains}

-- an output of these effects asks nothing, or it comes after the first of them
After : List Effect → List Effect → ℕ → Output → Type 0
After first second number o = AsksNothing o ⊎ ((rest : List Effect) × (until_said number (first ++ second) ≡ first ++ rest))

behind : (e : Effect) (first second : List Effect) (n number : ℕ) (o : Output) → until_said number (e ∷ first ++ second) ≡ e ∷ until_said n (first ++ second) → After first second n o → After (e ∷ first) second number o
unfolding After
behind e first second n number o is (inl free) = inl free
behind e first second n number o is (inr late) = inr (late.0, is ∙ ap (λ es. e ∷ es) late.1)

after_first : (first second : List Effect) (number : ℕ) (o : Output) → Every AsksNothing (outputs first) → slice_get (outputs (first ++ second)) number ≡ Some o → After first second number o
unfolding outputs until_said After
after_first [] second number o free is = inr (until_said number second, refl)
after_first (Say x ∷ es) second zero o free is = let same : x ≡ o = cc in inl (subst AsksNothing same free.0)
after_first (Say x ∷ es) second (suc n) o free is = behind (Say x) es second n (suc n) o refl (after_first es second n o free.1 is)
after_first (Write again e ∷ es) second zero o free is = behind (Write again e) es second zero zero o refl (after_first es second zero o free is)
after_first (Write again e ∷ es) second (suc n) o free is = behind (Write again e) es second (suc n) (suc n) o refl (after_first es second (suc n) o free is)
after_first (Rewrite h ∷ es) second zero o free is = behind (Rewrite h) es second zero zero o refl (after_first es second zero o free is)
after_first (Rewrite h ∷ es) second (suc n) o free is = behind (Rewrite h) es second (suc n) (suc n) o refl (after_first es second (suc n) o free is)
after_first (Save old new ∷ es) second zero o free is = behind (Save old new) es second zero zero o refl (after_first es second zero o free is)
after_first (Save old new ∷ es) second (suc n) o free is = behind (Save old new) es second (suc n) (suc n) o refl (after_first es second (suc n) o free is)
after_first (Mend v ∷ es) second zero o free is = behind (Mend v) es second zero zero o refl (after_first es second zero o free is)
after_first (Mend v ∷ es) second (suc n) o free is = behind (Mend v) es second (suc n) (suc n) o refl (after_first es second (suc n) o free is)
after_first (Checkpoint cluster texts op old ∷ es) second zero o free is = behind (Checkpoint cluster texts op old) es second zero zero o refl (after_first es second zero o free is)
after_first (Checkpoint cluster texts op old ∷ es) second (suc n) o free is = behind (Checkpoint cluster texts op old) es second (suc n) (suc n) o refl (after_first es second (suc n) o free is)
after_first (PutBlock name block ∷ es) second zero o free is = behind (PutBlock name block) es second zero zero o refl (after_first es second zero o free is)
after_first (PutBlock name block ∷ es) second (suc n) o free is = behind (PutBlock name block) es second (suc n) (suc n) o refl (after_first es second (suc n) o free is)

-- what a move puts out is what its finished effects do
pub put_out : (g : group.Group) (move : Move) (moved : Moved) (number : ℕ) (o : Output) → Moves g move moved → slice_get moved.outputs number ≡ Some o → slice_get (outputs (done_in move moved.script)) number ≡ Some o
put_out g _ _ number o (group.steps at arrival event disk m r runs comes) is = is
put_out g _ _ number o (group.cuts at arrival event disk effects m r runs comes) is = absurd cc
put_out g _ _ number o (group.crashes at m there) is = absurd cc
put_out g _ _ number o (group.recovers at value disk m opens) is = is
put_out g _ _ number o (group.recovers_cut at value disk effects m opens) is = absurd cc
put_out g _ _ number o (group.migrates at value m movable) is = absurd cc
put_out g _ _ number o (group.migrates_cut at value effects m movable) is = absurd cc

-- an own vouch by effects is one by these and more
pub own_later : (u : Setup) (g : group.Group) (a b es : List Effect) (z : Message Header) → es ≡ a ++ b → IsOwnVouch u g a z → IsOwnVouch u g es z
own_later u g a b es z is x = record {
  alone = x.alone;
  stored = x.stored;
  counts = subst (λ (fs : List Effect). Contains (stored_from g fs) x.stored) (sym is) (in_contains x.stored (stored_from g (a ++ b)) (from_more g a b x.stored (contains_in x.stored (stored_from g a) x.counts)));
  is = x.is;
}

pub rests_on : (u : Setup) (s a : Group Header) (p : Played) (x : Chained u s a p) → Moves p.before p.move p.moved → (number : ℕ) (o : Output) → slice_get p.moved.outputs number ≡ Some o
    → AsksNothing o ⊎ ((m : Message Header) → In m x.ground.sent → In m s.sent ⊎ IsOwnVouch u p.before (until_said number (done_in p.move p.moved.script)) m)
unfolding After
rests_on u s a p x moves number o is =
    let es : List Effect = done_in p.move p.moved.script in
    let at : slice_get (outputs (x.first ++ x.second)) number ≡ Some o = subst (λ (fs : List Effect). slice_get (outputs fs) number ≡ Some o) x.parts (put_out p.before p.move p.moved number o moves is) in
    elim (after_first x.first x.second number o x.silent at) [
      | inl free ↦ inl free
      | inr late ↦ inr (λ m j. elim (x.grounds.own m j) [
        | inl old ↦ inl old
        | inr own ↦ inr (own_later u p.before x.first late.0 (until_said number es) m (ap (until_said number) x.parts ∙ late.1) own)
      ])
    ]

-- Where an output of what happened stands in the run, and what was put out before it.
use Rattle.std.proofs.Common.{ℕ, zero, suc, ◌≡◌, ◌∙◌, inl, inr, refl, ap, List, [], ◌∷◌, ◌++◌, take, Some}
use Rattle.std.specs.Prelude.{slice_get}
use Rattle.std.proofs.lemmas.List.{append_assoc}
use Rattle.vr_msg.specs.declared.output.Output.{Output}
use Rattle.law_1_machine.specs.Basics.{In}
use Rattle.vr_world.specs.Group.{Played}
use Rattle.vr_world.specs.Safe.{IsOutput, before, run_outputs}
use Rattle.law_4_disks.specs.Worlds.{IsAside, Said}
use Rattle.law_4_disks.specs.Worlds as worlds
use Rattle.law_3_outputs.proofs.Sets.{in_left, in_right}
use Rattle.law_3_outputs.proofs.Traces.{in_either}

-- ---- among the run's outputs

pub record Matches (ws gs : List Output) (i : ℕ) (o : Output) : Type 0 where
  pub at : ℕ
  pub is : slice_get gs at ≡ Some o
  pub said : Said (take i ws) (take at gs)

matches_behind : (os ws gs : List Output) → ((i : ℕ) (o : Output) → slice_get ws i ≡ Some o → (IsAside o → ⊥) → Matches ws gs i o)
    → (i : ℕ) (o : Output) → slice_get (os ++ ws) i ≡ Some o → (IsAside o → ⊥) → Matches (os ++ ws) (os ++ gs) i o
matches_behind [] ws gs h i o e not = h i o e not
matches_behind (x ∷ os) ws gs h zero o e not = record { at = 0; is = e; said = worlds.none }
matches_behind (x ∷ os) ws gs h (suc i) o e not =
    let m = matches_behind os ws gs h i o e not in
    record { at = suc m.at; is = m.is; said = worlds.both (x ∷ []) (take i (os ++ ws)) (take m.at (os ++ gs)) m.said }

pub matches : (ws gs : List Output) → Said ws gs → (i : ℕ) (o : Output) → slice_get ws i ≡ Some o → (IsAside o → ⊥) → Matches ws gs i o
matches _ _ worlds.none i o e not = absurd cc
matches _ _ (worlds.both os ws gs rest) i o e not = matches_behind os ws gs (matches ws gs rest) i o e not
matches _ _ (worlds.aside a ws gs is rest) zero o e not = let same : a ≡ o = (let k : Some a ≡ Some o = e in cc) in absurd (not (rw (← same) is))
matches _ _ (worlds.aside a ws gs is rest) (suc i) o e not =
    let m = matches ws gs rest i o e not in
    record { at = m.at; is = m.is; said = worlds.aside a (take i ws) (take m.at gs) is m.said }

-- and each of the run's is there
pub in_said : (ws gs : List Output) → Said ws gs → (o : Output) → In o gs → In o ws
in_said _ _ worlds.none o i = absurd i
in_said _ _ (worlds.both os ws gs rest) o i =
    elim (in_either os gs o i) [
      | inl here ↦ in_left os ws o here
      | inr later ↦ in_right os ws o (in_said ws gs rest o later)
    ]
in_said _ _ (worlds.aside a ws gs is rest) o i = inr (in_said ws gs rest o i)

-- ---- at a move of the run

pub record Placed (run : List Played) (i : ℕ) (o : Output) : Type 0 where
  pub move : ℕ
  pub number : ℕ
  pub moved : Played
  pub is : IsOutput run move number moved o
  pub same : (before run move number moved).outputs ≡ take i (run_outputs run)

-- in these, or after them
data Split {X : Type 0} (xs ys : List X) (i : ℕ) (x : X) : Type 0 where
  here : slice_get xs i ≡ Some x → take i xs ≡ take i (xs ++ ys) → Split xs ys i x
  there : (j : ℕ) → slice_get ys j ≡ Some x → xs ++ take j ys ≡ take i (xs ++ ys) → Split xs ys i x

split_more : {X : Type 0} (y : X) (xs ys : List X) (i : ℕ) (x : X) → Split xs ys i x → Split (y ∷ xs) ys (suc i) x
split_more y xs ys i x (here e same) = here e (ap (λ zs. y ∷ zs) same)
split_more y xs ys i x (there j e same) = there j e (ap (λ zs. y ∷ zs) same)

split : {X : Type 0} (xs ys : List X) (i : ℕ) (x : X) → slice_get (xs ++ ys) i ≡ Some x → Split xs ys i x
split [] ys i x e = there i e refl
split (y ∷ xs) ys zero x e = here e refl
split (y ∷ xs) ys (suc i) x e = split_more y xs ys i x (split xs ys i x e)

place_first : (q : Played) (run : List Played) (i : ℕ) (o : Output) → slice_get q.moved.outputs i ≡ Some o → take i q.moved.outputs ≡ take i (run_outputs (q ∷ run)) → Placed (q ∷ run) i o
unfolding run_outputs
place_first q run i o e same = record { move = 0; number = i; moved = q; is = record { at = refl; is = e }; same = same }

place_later : (q : Played) (run : List Played) (i j : ℕ) (o : Output) → Placed run j o → q.moved.outputs ++ take j (run_outputs run) ≡ take i (run_outputs (q ∷ run)) → Placed (q ∷ run) i o
unfolding run_outputs
place_later q run i j o p same = record {
  move = suc p.move;
  number = p.number;
  moved = p.moved;
  is = record { at = p.is.at; is = p.is.is };
  same = append_assoc q.moved.outputs (run_outputs (take p.move run)) (take p.number p.moved.moved.outputs) ∙ (ap (λ (os : List Output). q.moved.outputs ++ os) p.same ∙ same);
}

pub placed : (run : List Played) (i : ℕ) (o : Output) → slice_get (run_outputs run) i ≡ Some o → Placed run i o
unfolding run_outputs
placed [] i o e = absurd cc
placed (q ∷ run) i o e =
    elim (split q.moved.outputs (run_outputs run) i o e) [
      | here k same ↦ place_first q run i o k same
      | there j k same ↦ place_later q run i j o (placed run j o k) same
    ]

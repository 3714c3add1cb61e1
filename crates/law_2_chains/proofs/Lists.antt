-- The members of a list, and headers that effects make.
use Rattle.std.proofs.Common.{ℕ, zero, suc, ◌<◌, ◌≡◌, ◌≢◌, ◌∙◌, ◌⊎◌, inl, inr, arith, refl, sym, ap, subst, List, [], ◌∷◌, ◌++◌, length, Some}
use Rattle.std.specs.Prelude.{All, slice_get, slice_set}
use Rattle.std.proofs.lemmas.List.{append_assoc}
use Rattle.std.proofs.lemmas.List.Elements.{All-nil, All-cons, All-head, All-tail}
use Rattle.vr_header.specs.declared.header.Header.{Header}
use Rattle.vr_rules.specs.Steps.{Effect}
use Rattle.vr_world.specs.Group as group
use Rattle.vr_world.specs.Group.{made_in}
use Rattle.law_1_machine.specs.Basics.{In}
use Rattle.law_2_chains.specs.Chains.{Every}

pub in_every : {X : Type 0} (P : X → Type 0) (xs : List X) (x : X) → In x xs → Every P xs → P x
in_every P [] x i h = absurd i
in_every P (y ∷ ys) x (inl e) h = subst P (sym e) h.0
in_every P (y ∷ ys) x (inr i) h = in_every P ys x i h.1

pub at_place : {X : Type 0} (P : X → Type 0) (xs : List X) (i : ℕ) (x : X) → All P xs → slice_get xs i ≡ Some x → P x
at_place P [] i x h e = absurd cc
at_place P (y ∷ ys) zero x h e = let same : y ≡ x = cc in subst P same (All-head P y ys h)
at_place P (y ∷ ys) (suc i) x h e = at_place P ys i x (All-tail P y ys h) e

pub set_place : {X : Type 0} (xs : List X) (i j : ℕ) (y x : X) → slice_get (slice_set xs i y) j ≡ Some x → ((i ≡ j) × (y ≡ x)) ⊎ ((j ≢ i) × (slice_get xs j ≡ Some x))
set_place [] i j y x e = absurd cc
set_place (z ∷ zs) zero zero y x e = inl (refl, cc)
set_place (z ∷ zs) zero (suc j) y x e = inr (λ t. omega (arith, t), e)
set_place (z ∷ zs) (suc i) zero y x e = inr (λ t. omega (arith, t), e)
set_place (z ∷ zs) (suc i) (suc j) y x e = elim (set_place zs i j y x e) [ inl p ↦ inl (ap suc p.0, p.1) | inr q ↦ inr (λ t. q.0 (omega (arith, t)), q.1) ]

pub at_set : {X : Type 0} (xs : List X) (i : ℕ) (y : X) → i < length xs → slice_get (slice_set xs i y) i ≡ Some y
at_set [] i y l = absurd (omega arith)
at_set (x ∷ xs) zero y l = refl
at_set (x ∷ xs) (suc i) y l = at_set xs i y (omega arith)

pub made_append : (a b : List Effect) → made_in (a ++ b) ≡ made_in a ++ made_in b
unfolding made_in
made_append [] b = refl
made_append (e ∷ es) b = ap (λ hs. group.made_by_effect e ++ hs) (made_append es b) ∙ sym (append_assoc (group.made_by_effect e) (made_in es) (made_in b))

pub all_made : (P : Header → Type 0) (hs : List Header) → Every P hs → All P hs
all_made P [] h = All-nil P
all_made P (x ∷ xs) h = All-cons P x xs h.0 (all_made P xs h.1)

-- Lists that an object may tell, one growth after another.
use Rattle.std.proofs.Common.{◌≡◌, ◌∙◌, ℕ, List, [], ◌∷◌, ◌++◌, Option, Some, None, refl, ap, sym, subst, inl, inr}
use Rattle.vr_edge.specs.Datagrams.{Arrival, Failed}
use Rattle.vr_edge.specs.Failing.{EndsFailed, EndsUnattached, LinkFailure}
use Rattle.vr_edge.specs.Told.{Grows}
use Rattle.vr_edge.specs.declared.attach.Attach.{Attach}

pub append_nil : {X : Type 0} (xs : List X) → xs ++ [] ≡ xs
append_nil [] = refl
append_nil (x ∷ xs) = ap (λ ys. x ∷ ys) (append_nil xs)

pub assoc : {X : Type 0} (xs ys zs : List X) → (xs ++ ys) ++ zs ≡ xs ++ (ys ++ zs)
assoc [] ys zs = refl
assoc (x ∷ xs) ys zs = ap (λ l. x ∷ l) (assoc xs ys zs)

pub grows_nil : {X : Type 0} (a : Option (List X)) → Grows a a []
grows_nil None = refl
grows_nil (Some xs) = sym (append_nil xs)

pub grows_trans : {X : Type 0} (a b c : Option (List X)) (xs ys : List X) → Grows a b xs → Grows b c ys → Grows a c (xs ++ ys)
grows_trans None None c xs ys ab bc = bc
grows_trans None (Some l) c xs ys ab bc = absurd (let clash : Some l ≡ None = ab in cc)
grows_trans (Some l) None None xs ys ab bc = tt
grows_trans (Some l) None (Some n) xs ys ab bc = absurd (let clash : Some n ≡ None = bc in cc)
grows_trans (Some l) (Some m) None xs ys ab bc = tt
grows_trans (Some l) (Some m) (Some n) xs ys ab bc = bc ∙ ap (λ k. k ++ ys) ab ∙ assoc l xs ys

-- what is last stays last, from before other growth on
last_after : {X : Type 0} (a b c : Option (List X)) (xs before : List X) (last : X) → Grows a b xs → Grows b c (before ++ last ∷ []) → Grows a c ((xs ++ before) ++ last ∷ [])
last_after a b c xs before last ab bc = subst (λ l. Grows a c l) (sym (assoc xs before (last ∷ []))) (grows_trans a b c xs (before ++ last ∷ []) ab bc)

pub failed_after : (a b c : Option (List Arrival)) (xs : List Arrival) → Grows a b xs → EndsFailed b c → EndsFailed a c
failed_after a b c xs grown e = (xs ++ e.0, last_after a b c xs e.0 Failed grown e.1)

unattached_after : (a b c : Option (List Attach)) (xs : List Attach) → Grows a b xs → EndsUnattached b c → EndsUnattached a c
unattached_after a b c xs grown e = (xs ++ e.0, e.1, e.2, last_after a b c xs e.0 _ grown e.3)

-- a failure of a link, from before what went well on
pub failure_after : (before now : ℕ) (a b c : Option (List Attach)) (xs : List Attach) (g h i : Option (List Arrival)) (ys : List Arrival)
    → Grows a b xs → Grows g h ys → LinkFailure before now b c h i → LinkFailure before now a c g i
failure_after before now a b c xs g h i ys attached got f = record {
  rose = f.rose;
  last = elim f.last [ inl x ↦ inl (unattached_after a b c xs attached x) | inr x ↦ inr (failed_after g h i ys got x) ];
}

-- Sets of replicas made of a test, lists made entry by entry, and the greatest number that passes a test.
use Rattle.std.proofs.Common.{ℕ, zero, suc, ◌+◌, ◌≤◌, ◌<◌, ◌≡◌, ◌∙◌, inl, inr, arith, refl, sym, ap, subst, Bool, true, false, cond, List, [], ◌∷◌, ◌++◌, length, get_or, Some, length-append}
use Rattle.std.specs.Prelude.{count_by, slice_get}
use Rattle.std.proofs.lemmas.Bool.{cases_eq, true≢false}
use Rattle.std.proofs.lemmas.List.Sums.{sum_by-cons}
use Rattle.vr_base.specs.declared.replicas.Replicas.{Replicas}
use Rattle.vr_base.specs.Replicas.{has_replica, size}
use Rattle.law_1_machine.specs.Basics.{In}
use Rattle.law_1_machine.specs.Quorums.{count}
use Rattle.law_2_chains.specs.Chains.{Every}
use Rattle.law_2_chains.proofs.Counting.{count_shift}

-- ---- a set of replicas by a test

abbrev flags : (ℕ → Bool) → ℕ → List Bool
flags f zero = []
flags f (suc n) = f 0 ∷ flags (λ j. f (suc j)) n

flags_count : (f : ℕ → Bool) (n : ℕ) → count_by (λ b. b) (flags f n) ≡ count f n
flags_count f zero = refl
flags_count f (suc n) =
    let rest = flags_count (λ j. f (suc j)) n in
    let shift = count_shift f n in
    let c : count_by (λ (b : Bool). b) (f 0 ∷ flags (λ j. f (suc j)) n) ≡ cond (f 0) 1 0 + count_by (λ (b : Bool). b) (flags (λ j. f (suc j)) n) = sum_by-cons (λ (b : Bool). cond b 1 0) (f 0) (flags (λ j. f (suc j)) n) in
    omega arith

flags_at : (f : ℕ → Bool) (n r : ℕ) → get_or (flags f n) r false ≡ true → (r < n) × (f r ≡ true)
flags_at f zero r h = absurd (true≢false (sym h))
flags_at f (suc n) zero h = (omega arith, h)
flags_at f (suc n) (suc r) h = let p = flags_at (λ j. f (suc j)) n r h in let a = p.0 in (omega arith, p.1)

pub record SetOf (f : ℕ → Bool) (n : ℕ) : Type 0 where
  pub replicas : Replicas
  pub many : size replicas ≡ count f n
  pub each : (r : ℕ) → has_replica replicas r ≡ true → (r < n) × (f r ≡ true)

pub set_of : (f : ℕ → Bool) (n : ℕ) → SetOf f n
set_of f n = record { replicas = record { 0 = flags f n }; many = flags_count f n; each = λ r h. flags_at f n r h }

-- ---- elements and their places

pub get_left : {X : Type 0} (xs ys : List X) (i : ℕ) (x : X) → slice_get xs i ≡ Some x → slice_get (xs ++ ys) i ≡ Some x
get_left [] ys i x e = absurd cc
get_left (y ∷ xs) ys zero x e = e
get_left (y ∷ xs) ys (suc i) x e = get_left xs ys i x e

pub get_last : {X : Type 0} (xs : List X) (x : X) → slice_get (xs ++ x ∷ []) (length xs) ≡ Some x
get_last [] x = refl
get_last (y ∷ xs) x = get_last xs x

pub get_in : {X : Type 0} (xs : List X) (i : ℕ) (x : X) → slice_get xs i ≡ Some x → In x xs
get_in [] i x e = absurd cc
get_in (y ∷ xs) zero x e = inl (let s : Some y ≡ Some x = e in cc)
get_in (y ∷ xs) (suc i) x e = inr (get_in xs i x e)

pub in_get : {X : Type 0} (xs : List X) (x : X) → In x xs → (i : ℕ) × (slice_get xs i ≡ Some x)
in_get [] x h = absurd h
in_get (y ∷ xs) x (inl e) = (0, ap Some (sym e))
in_get (y ∷ xs) x (inr h) = let p = in_get xs x h in (suc p.0, p.1)

pub in_left : {X : Type 0} (xs ys : List X) (x : X) → In x xs → In x (xs ++ ys)
in_left [] ys x h = absurd h
in_left (y ∷ xs) ys x (inl e) = inl e
in_left (y ∷ xs) ys x (inr h) = inr (in_left xs ys x h)

pub in_right : {X : Type 0} (xs ys : List X) (x : X) → In x ys → In x (xs ++ ys)
in_right [] ys x h = h
in_right (y ∷ xs) ys x h = inr (in_right xs ys x h)

pub every_at : {X : Type 0} (P : X → Type 0) (xs : List X) (i : ℕ) (x : X) → slice_get xs i ≡ Some x → Every P xs → P x
every_at P [] i x e h = absurd cc
every_at P (y ∷ xs) zero x e h = let s : y ≡ x = (let t : Some y ≡ Some x = e in cc) in subst P s h.0
every_at P (y ∷ xs) (suc i) x e h = every_at P xs i x e h.1

-- ---- a list made entry by entry

pub record Listed {X : Type 0} (P : ℕ → X → Type 0) (n : ℕ) : Type 0 where
  pub items : List X
  pub long : length items ≡ n
  pub each : (k : ℕ) → k < n → (x : X) × (slice_get items k ≡ Some x) × P k x

pub listed : {X : Type 0} (P : ℕ → X → Type 0) (n : ℕ) → ((k : ℕ) → k < n → (x : X) × P k x) → Listed P n
listed P zero f = record { items = []; long = refl; each = λ k l. absurd (omega arith) }
listed P (suc n) f =
    let rest = listed P n (λ k l. f k (omega arith)) in
    let x = f n (omega arith) in
    let long = rest.long in
    let all = length-append rest.items (x.0 ∷ []) in
    record {
      items = rest.items ++ x.0 ∷ [];
      long = omega arith;
      each = λ k l. elim (cases_eq k n) [
        | inl e ↦ (x.0, subst (λ i. slice_get (rest.items ++ x.0 ∷ []) i ≡ Some x.0) (long ∙ sym e) (get_last rest.items x.0), subst (λ i. P i x.0) (sym e) x.1)
        | inr d ↦ let y = rest.each k (omega arith) in (y.0, get_left rest.items (x.0 ∷ []) k y.0 y.1, y.2)
      ];
    }

-- ---- the greatest number that passes a test, and a bound of a table

pub greatest : (f : ℕ → Bool) (n : ℕ) → f 0 ≡ true → ((v : ℕ) → f v ≡ true → v ≤ n) → (w : ℕ) × (f w ≡ true) × ((v : ℕ) → f v ≡ true → v ≤ w)
greatest f zero first most = (0, first, most)
greatest f (suc n) first most =
    elim (f (suc n)) as (λ b. f (suc n) ≡ b → (w : ℕ) × (f w ≡ true) × ((v : ℕ) → f v ≡ true → v ≤ w)) [
      | true ↦ λ e. (suc n, e, most)
      | false ↦ λ e. greatest f n first (λ v t. let l = most v t in elim (cases_eq v (suc n)) [
        | inl same ↦ absurd (true≢false (sym t ∙ (ap f same ∙ e)))
        | inr d ↦ omega arith
      ])
    ] refl

pub bound : (f : ℕ → ℕ) (n : ℕ) → (b : ℕ) × ((r : ℕ) → r < n → f r ≤ b)
bound f zero = (0, λ r l. absurd (omega arith))
bound f (suc n) = let p = bound f n in (p.0 + f n, λ r l. elim (cases_eq r n) [ inl e ↦ (let s = ap f e in omega arith) | inr d ↦ let a = p.1 r (omega arith) in omega arith ])

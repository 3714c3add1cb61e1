-- Lists, of which one is the front of another.
use Rattle.std.proofs.Common.{zero, suc, ◌≡◌, ◌≤◌, ◌<◌, ◌⊎◌, inl, inr, ℕ, List, [], ◌∷◌, ◌++◌, length, take, refl, ap, sym, ◌∙◌, arith, append_assoc, length-append, Option, Some, None}
use Rattle.std.specs.List.{slice_get}
use Rattle.std.proofs.lemmas.List.{append-nil, take-append-le}

pub record Front {X : Type 0} (xs ys : List X) : Type 0 where
  pub more : List X
  pub is : ys ≡ xs ++ more

pub front_refl : {X : Type 0} (xs : List X) → Front xs xs
front_refl xs = record { more = []; is = sym (append-nil xs) }

pub front_trans : {X : Type 0} (xs ys zs : List X) → Front xs ys → Front ys zs → Front xs zs
front_trans xs ys zs h k = record { more = h.more ++ k.more; is = k.is ∙ ap (λ x. x ++ k.more) h.is ∙ append_assoc xs h.more k.more }

pub front_append : {X : Type 0} (xs more : List X) → Front xs (xs ++ more)
front_append xs more = record { more = more; is = refl }

pub front_le : {X : Type 0} (xs ys : List X) → Front xs ys → length xs ≤ length ys
front_le xs ys h = let e = ap length h.is ∙ length-append xs h.more in omega (arith, e)

get_front : {X : Type 0} (xs more : List X) (i : ℕ) (e : X) → slice_get xs i ≡ Some e → slice_get (xs ++ more) i ≡ Some e
get_front [] more i e h = absurd (cc)
get_front (x ∷ xs) more zero e h = h
get_front (x ∷ xs) more (suc i) e h = get_front xs more i e h

pub get_within : {X : Type 0} (xs ys : List X) (i : ℕ) (e : X) → Front xs ys → slice_get xs i ≡ Some e → slice_get ys i ≡ Some e
get_within xs ys i e f h = rw f.is (get_front xs f.more i e h)

next_front : {X : Type 0} (xs more : List X) (e : X) → slice_get (xs ++ more) (length xs) ≡ Some e → Front (xs ++ e ∷ []) (xs ++ more)
next_front [] [] e h = absurd (cc)
next_front {X} [] (y ∷ more) e h = let same : y ≡ e = cc in rw same (record { more = more; is = refl })
next_front {X} (x ∷ xs) more e h =
    let f = next_front xs more e h in
    record { more = f.more; is = ap (λ (t : List X). x ∷ t) f.is }

pub front_more : {X : Type 0} (xs ys : List X) (e : X) → Front xs ys → slice_get ys (length xs) ≡ Some e → Front (xs ++ e ∷ []) ys
front_more xs ys e f h = rw f.is (next_front xs f.more e (rw f.is at h))

pub get_last : {X : Type 0} (xs : List X) (e : X) → slice_get (xs ++ e ∷ []) (length xs) ≡ Some e
get_last [] e = refl
get_last (x ∷ xs) e = get_last xs e

-- there is an item at each place below the length
pub get_some : {X : Type 0} (xs : List X) (i : ℕ) → i < length xs → (e : X) × (slice_get xs i ≡ Some e)
get_some [] i h = absurd (omega arith)
get_some (x ∷ xs) zero h = (x, refl)
get_some (x ∷ xs) (suc i) h = get_some xs i (omega arith)

pub get_more : {X : Type 0} (xs : List X) (e : X) (i : ℕ) (f : X) → slice_get (xs ++ e ∷ []) i ≡ Some f → (slice_get xs i ≡ Some f) ⊎ ((i ≡ length xs) × (f ≡ e))
get_more [] e zero f h = inr (refl, cc)
get_more [] e (suc i) f h = absurd (cc)
get_more (x ∷ xs) e zero f h = inl h
get_more (x ∷ xs) e (suc i) f h = elim (get_more xs e i f h) [ inl a ↦ inl a | inr b ↦ inr (ap suc b.0, b.1) ]

-- what holds of each item, with one more
pub each_more : {X : Type 0} (P : ℕ → X → Type 0) (xs : List X) (e : X) → ((i : ℕ) (f : X) → slice_get xs i ≡ Some f → P i f) → P (length xs) e → (i : ℕ) (f : X) → slice_get (xs ++ e ∷ []) i ≡ Some f → P i f
each_more P xs e h last i f at =
    elim (get_more xs e i f at) [ inl a ↦ h i f a | inr b ↦ rw (b.0, b.1) last ]

pub some_same : {X : Type 0} (a b : X) (o : Option X) → o ≡ Some a → o ≡ Some b → a ≡ b
some_same a b None h k = absurd (cc)
some_same a b (Some c) h k = cc

-- what stands before a place below the front's length is the front's
pub take_front : {X : Type 0} (xs ys : List X) (i : ℕ) → Front xs ys → i ≤ length xs → take i ys ≡ take i xs
take_front xs ys i f le = rw f.is (take-append-le i xs f.more le)

-- and with the item at that place
pub take_next : {X : Type 0} (xs : List X) (i : ℕ) (e : X) → slice_get xs i ≡ Some e → take (suc i) xs ≡ take i xs ++ e ∷ []
take_next [] i e h = absurd (cc)
take_next {X} (x ∷ xs) zero e h = let same : x ≡ e = cc in rw same refl
take_next {X} (x ∷ xs) (suc i) e h = ap (λ (t : List X). x ∷ t) (take_next xs i e h)

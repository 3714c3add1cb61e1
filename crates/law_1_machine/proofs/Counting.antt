-- Sets of members, counted, and tables changed at one place.
-- A replication quorum and a nack quorum share a member: this is all that is used of their sizes.
use Rattle.law_1_machine.specs.Basics.{Each, update}
use Rattle.law_1_machine.specs.Quorums.{Quorums, count}
use Rattle.std.proofs.Common.{Option, Some, None, subst, ℕ, zero, suc, ◌+◌, ◌≤◌, ◌<◌, ◌≡◌, inl, inr, arith, refl, Bool, true, false, cond, ◌&&◌}
use Rattle.std.proofs.lemmas.Bool.{cases_lt, cases_eq, eq-eqb, ne_eqb, and_parts, both_ways}

pub here : {X : Type 0} (f : ℕ → X) (r : ℕ) (x : X) → update f r x r ≡ x
unfolding update
here f r x = rw (eq-eqb r r refl) refl

pub at_update : {X : Type 0} (P : X → Type 0) (f : ℕ → X) (r : ℕ) (x : X) (j : ℕ)
    → (j ≡ r → P x) → ((j ≡ r → ⊥) → P (f j)) → P (update f r x j)
unfolding update
at_update P f r x j new old =
    elim (cases_eq j r) [ inl e ↦ rw (eq-eqb j r e) (new e) | inr d ↦ rw (ne_eqb j r d) (old d) ]

pub each_at : {X : Type 0} (P : X → Type 0) (o : Option X) (x : X) → o ≡ Some x → Each P o → P x
each_at P o x e h = subst (Each P) e h

pub each_map : {X : Type 0} (P Q : X → Type 0) (o : Option X) → ((x : X) → o ≡ Some x → P x → Q x) → Each P o → Each Q o
each_map P Q None f h = tt
each_map P Q (Some x) f h = f x refl h

pub elsewhere : {X : Type 0} (f : ℕ → X) (r : ℕ) (x : X) (j : ℕ) → (j ≡ r → ⊥) → update f r x j ≡ f j
unfolding update
elsewhere f r x j d = rw (ne_eqb j r d) refl

count_both : (f g : ℕ → Bool) (n : ℕ) → count f n + count g n ≤ n + count (λ i. f i && g i) n
count_both f g zero = omega arith
count_both f g (suc n) = grind (arith, count_both f g n)

pub member_of : (f : ℕ → Bool) (n : ℕ) → 0 < count f n → (i : ℕ) × (i < n) × (f i ≡ true)
member_of f zero h = absurd (omega arith)
member_of f (suc n) h =
    elim (f n) as (λ b. f n ≡ b → (i : ℕ) × (i < suc n) × (f i ≡ true)) [
      | true ↦ λ e. (n, omega arith, e)
      | false ↦ λ e. let m = member_of f n (grind arith) in (m.0, omega arith, m.2)
    ] refl

-- a replication quorum and a nack quorum meet
pub meet : (q : Quorums) (f g : ℕ → Bool) → q.replication ≤ count f q.n → q.nack ≤ count g q.n → (i : ℕ) × (i < q.n) × (f i ≡ true) × (g i ≡ true)
meet q f g a b =
    let o = q.overlap in
    let m = member_of (λ i. f i && g i) q.n (omega (arith, count_both f g q.n)) in
    let p = and_parts (f m.0) (g m.0) m.2 in
    (m.0, m.1, p.0, p.1)

one_more : (a b : Bool) (m n : ℕ) → m ≤ n → (a ≡ true → b ≡ true) → m + cond a 1 0 ≤ n + cond b 1 0
one_more true true m n l h = omega arith
one_more true false m n l h = absurd (both_ways false refl (h refl))
one_more false true m n l h = omega arith
one_more false false m n l h = omega arith

pub count_mono : (f g : ℕ → Bool) (n : ℕ) → ((i : ℕ) → i < n → f i ≡ true → g i ≡ true) → count f n ≤ count g n
count_mono f g zero h = omega arith
count_mono f g (suc n) h = one_more (f n) (g n) (count f n) (count g n) (count_mono f g n (λ i l. h i (omega arith))) (h n (omega arith))

-- who is in no nack quorum is in too few for a replication quorum
pub apart : (q : Quorums) (f g : ℕ → Bool) → q.nack ≤ count g q.n → ((i : ℕ) → i < q.n → g i ≡ true → f i ≡ true → ⊥) → count f q.n < q.replication
apart q f g many d =
    elim (cases_lt (count f q.n) q.replication) [
      | inl l ↦ l
      | inr enough ↦ let m = meet q f g enough many in absurd (d m.0 m.1 m.3 m.2)
    ]

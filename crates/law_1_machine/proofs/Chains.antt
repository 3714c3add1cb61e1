-- Chains of numbers, each in a view that is at most the next one's.
-- What has a quorum of vouchers may have one; what is committed up to a number is committed up to each smaller one.
use Rattle.law_1_machine.specs.History.{Chain, CommittedUpTo, HasQuorum, History, MayCommit, MayHaveQuorum, Settled, may_vouch}
use Rattle.law_1_machine.specs.Parts.{entries}
use Rattle.law_1_machine.specs.Quorums.{Quorums}
use Rattle.std.proofs.Common.{ℕ, zero, suc, ◌≤◌, ◌<◌, ◌≡◌, inl, inr, arith, refl, sym, Bool, true, false, ◌||◌, subst}
use Rattle.std.proofs.lemmas.Bool.{cases_eq}
use Rattle.law_1_machine.proofs.Counting.{count_mono}

pub chain_map : (length len' : ℕ → ℕ) (p p' : ℕ → ℕ → Type 0) (b : ℕ)
    → ((u k : ℕ) → u ≤ b → 0 < k → k ≤ length u → p u k → (k ≤ len' u) × p' u k)
    → (u k : ℕ) → u ≤ b → Chain length p u k → Chain len' p' u k
chain_map length len' p p' b f u zero l c = tt
chain_map length len' p p' b f u (suc k) l c =
    let here = f u (suc k) l (omega arith) c.0 c.1 in
    let d = c.2 in
    let e = d.1 in
    (here.0, here.1, (d.0, d.1, chain_map length len' p p' b f d.0 k (omega arith) d.2))

pub descent : (length : ℕ → ℕ) (p : ℕ → ℕ → Type 0) (u k j : ℕ) → j ≤ k → Chain length p u k → (v : ℕ) × (v ≤ u) × Chain length p v j
descent length p u zero j l c = (u, omega arith, subst (λ i. Chain length p u i) (let e : 0 ≡ j = omega arith in e) c)
descent length p u (suc k) j l c =
    elim (cases_eq j (suc k)) [
      | inl e ↦ (u, omega arith, subst (λ i. Chain length p u i) (sym e) c)
      | inr n ↦ let d = c.2 in let a = d.1 in let r = descent length p d.0 k j (omega arith) d.2 in let b = r.1 in (r.0, omega arith, r.2)
    ]

-- the last number of a chain
pub chain_top : (length : ℕ → ℕ) (p : ℕ → ℕ → Type 0) (u k : ℕ) → 0 < k → Chain length p u k → (k ≤ length u) × p u k
chain_top length p u zero z c = absurd (omega arith)
chain_top length p u (suc k) z c = (c.0, c.1)

pub or_left : (a b : Bool) → a ≡ true → (a || b) ≡ true
or_left true b h = refl
or_left false b h = cc

module _ {H : Type 0} where
  pub vouched_able : (q : Quorums) (g : History H) (u k : ℕ) → HasQuorum q g u k → MayHaveQuorum q g u k
  vouched_able q g u k v =
      let m = count_mono (λ r. g.vouched r u k) (λ r. may_vouch g r u k) q.n (λ i l t. or_left (g.vouched i u k) _ t) in omega arith

  pub committed_open : (q : Quorums) (g : History H) (u k : ℕ) → CommittedUpTo q g u k → MayCommit q g u k
  committed_open q g u k c = chain_map g.length g.length (HasQuorum q g) (MayHaveQuorum q g) u (λ w j l z b v. (b, vouched_able q g w j v)) u k (omega arith) c

  pub settled_le : (q : Quorums) (g : History H) (w x c d : ℕ) → w ≤ x → d ≤ c → Settled q g w c → Settled q g x d
  settled_le q g w x c d a b s =
      let e = s.1 in
      let r = descent g.length (HasQuorum q g) s.0 c d b s.2 in
      let f = r.1 in (r.0, omega arith, r.2)

  pub settled_none : (q : Quorums) (g : History H) (w : ℕ) → Settled q g w 0
  settled_none q g w = (0, omega arith, tt)

pub first_same : {H : Type 0} (l l' : ℕ → H) (n : ℕ) → ((k : ℕ) → 0 < k → k ≤ n → l k ≡ l' k) → entries l n ≡ entries l' n
first_same l l' zero h = refl
first_same l l' (suc n) h = rw (h (suc n) (omega arith) (omega arith), first_same l l' n (λ k a b. h k a (omega arith))) refl

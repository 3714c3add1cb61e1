-- What is committed stands in the log of each later view.
-- So any two logs of views agree as far as either view's commit numbers go.
use Rattle.law_1_machine.specs.Headers.{Headers}
use Rattle.law_1_machine.specs.History.{CommittedUpTo, HasQuorum, History, HistoryOk, Settled}
use Rattle.law_1_machine.specs.Quorums.{Quorums}
use Rattle.std.proofs.Common.{ℕ, ◌≤◌, ◌<◌, ◌≡◌, inl, inr, arith, refl, sym, ◌∙◌, true, subst}
use Rattle.std.proofs.lemmas.Bool.{cases_eq, cases_lt}
use Rattle.law_1_machine.proofs.Chains.{chain_top, descent, committed_open}

module _ {H : Type 0} (q : Quorums) (hs : Headers H) (g : History H) (o : HistoryOk q hs g) where
  pub committed_later : (w u k : ℕ) → g.finished w ≡ true → u < w → 0 < k → CommittedUpTo q g u k → (k ≤ g.base w) × (g.log w k ≡ g.log u k)
  committed_later w u k f less z c = (o.safe w f).kept u k less z (committed_open q g u k c)

  pub committed_agree : (w u k : ℕ) → g.finished w ≡ true → u ≤ w → 0 < k → CommittedUpTo q g u k → (k ≤ g.length w) × (g.log w k ≡ g.log u k)
  committed_agree w u k f le z c =
      elim (cases_eq u w) [
        | inl e ↦ subst (λ x. (k ≤ g.length x) × (g.log x k ≡ g.log u k)) e ((chain_top g.length (HasQuorum q g) u k z c).0, refl)
        | inr n ↦ let a = committed_later w u k f (omega arith) z c in let b = o.based w f in let l = a.0 in (omega arith, a.1)
      ]

  -- two committed entries of one number are the same
  pub one_committed : (u v k : ℕ) → g.finished u ≡ true → g.finished v ≡ true → 0 < k → CommittedUpTo q g u k → CommittedUpTo q g v k → g.log u k ≡ g.log v k
  one_committed u v k fu fv z a b =
      elim (cases_lt u v) [
        | inl l ↦ sym (committed_later v u k fv l z a).1
        | inr l ↦ (committed_agree u v k fu l z b).1
      ]

  pub settled_len : (w c : ℕ) → g.finished w ≡ true → Settled q g w c → c ≤ g.length w
  settled_len w c f s =
      elim (cases_lt 0 c) [ inl z ↦ (committed_agree w s.0 c f s.1 z s.2).0 | inr n ↦ omega arith ]

  pub settled_log : (w c j : ℕ) → g.finished w ≡ true → Settled q g w c → 0 < j → j ≤ c → (u : ℕ) × (u ≤ w) × CommittedUpTo q g u j × (g.log w j ≡ g.log u j)
  settled_log w c j f s z l =
      let d = descent g.length (HasQuorum q g) s.0 c j l s.2 in
      let a = s.1 in let b = d.1 in
      (d.0, omega arith, d.2, (committed_agree w d.0 j f (omega arith) z d.2).1)

  -- the logs of two views agree where the lower one is settled
  pub settled_same : (w x c j : ℕ) → g.finished w ≡ true → g.finished x ≡ true → x ≤ w → Settled q g x c → 0 < j → j ≤ c → g.log w j ≡ g.log x j
  settled_same w x c j fw fx le s z l =
      let d = settled_log x c j fx s z l in
      let a = d.1 in
      (committed_agree w d.0 j fw (omega arith) z d.2).1 ∙ sym d.3

-- What is committed in the machine stands in the logs of views.
use Rattle.std.proofs.Common.{ℕ, zero, suc, ◌%◌, ◌≤◌, ◌<◌, ◌≡◌, ◌∙◌, inl, inr, arith, sym, ap, subst, Bool, true}
use Rattle.std.proofs.lemmas.Bool.{cases_lt}
use Rattle.law_1_machine.specs.Group.{Group, Vouches}
use Rattle.law_1_machine.specs.Headers.{Headers}
use Rattle.law_1_machine.specs.History.{CommittedUpTo, HasQuorum, History}
use Rattle.law_1_machine.specs.Invariant.{Invariant}
use Rattle.law_1_machine.specs.Laws.{Committed, at_root, stands_on}
use Rattle.law_1_machine.specs.Quorums.{Quorums, count}
use Rattle.law_1_machine.proofs.Agreeing.{committed_agree}
use Rattle.law_1_machine.proofs.Chains.{chain_top}
use Rattle.law_1_machine.proofs.Counting.{count_mono, member_of}
use Rattle.law_1_machine.proofs.Moves.{vouched_of}

module _ {H : Type 0} (q : Quorums) (hs : Headers H) (g : History H) (s : Group H) (y : Invariant q hs g s) where
  by_history : (u k : ℕ) (c : H) → Committed q hs s.sent u k c → CommittedUpTo q g u k × (c ≡ g.log u k)
  by_history _ _ _ at_root = (tt, sym (y.history.rooted 0))
  by_history _ _ _ (stands_on u v k c d le before f set enough each) =
      let not_empty = q.not_empty in
      let n = count_mono set (λ r. g.vouched r u (suc k)) q.n (λ i b t. (vouched_of q hs g s y i u (suc k) c (each i b t)).0) in
      let m = member_of set q.n (omega arith) in
      let known = (vouched_of q hs g s y m.0 u (suc k) c (each m.0 m.1 m.2)).1 in
      ((known.1, omega arith, (v, le, (by_history v k d before).0)), known.2)

  -- where an entry is committed, the view has begun
  pub committed_begun : (u k : ℕ) (c : H) → 0 < k → Committed q hs s.sent u k c → g.finished u ≡ true
  committed_begun u k c z h =
      let v = (chain_top g.length (HasQuorum q g) u k z (by_history u k c h).0).1 in
      let not_empty = q.not_empty in
      let m = member_of (λ r. g.vouched r u k) q.n (omega arith) in
      (y.history.vouch m.0 u k m.2).0

  -- it is that of each later log
  pub logged : (w u k : ℕ) (c : H) → g.finished w ≡ true → u ≤ w → 0 < k → Committed q hs s.sent u k c → (k ≤ g.length w) × (c ≡ g.log w k)
  logged w u k c f le z h =
      let a = by_history u k c h in
      let b = committed_agree q hs g y.history w u k f le z a.0 in
      (b.0, a.1 ∙ sym b.1)

  pub root_is : (u : ℕ) (c : H) → Committed q hs s.sent u 0 c → c ≡ hs.root
  root_is u c h = (by_history u 0 c h).1 ∙ y.history.rooted u

  -- it has its number
  pub number_is : (u k : ℕ) (c : H) → Committed q hs s.sent u k c → hs.number c ≡ k
  number_is u zero c h = ap hs.number (root_is u c h) ∙ hs.root_number
  number_is u (suc k) c h =
      let f = committed_begun u (suc k) c (omega arith) h in
      let l = logged u u (suc k) c f (omega arith) (omega arith) h in
      ap hs.number l.1 ∙ y.history.number u (suc k) f l.0

  -- what a quorum vouches for is committed where the number before it is
  pub joins : (u v k : ℕ) (c d : H) → v ≤ u → Committed q hs s.sent v k d → (set : ℕ → Bool) → q.replication ≤ count set q.n → ((i : ℕ) → i < q.n → set i ≡ true → Vouches q s.sent i u (suc k) c) → Committed q hs s.sent u (suc k) c
  joins u v k c d le before set enough each =
      let not_empty = q.not_empty in
      let m = member_of set q.n (omega arith) in
      let known = vouched_of q hs g s y m.0 u (suc k) c (each m.0 m.1 m.2) in
      let f = (y.history.vouch m.0 u (suc k) known.0).0 in
      let within = known.1.1 in
      let same : d ≡ g.log u k = (elim (cases_lt 0 k) [
        | inl z ↦ (logged u v k d f le z before).1
        | inr z ↦ (let e : k ≡ 0 = omega arith in rw e (root_is v d (subst (λ j. Committed q hs s.sent v j d) e before) ∙ sym (y.history.rooted u)))
      ]) in
      let next : hs.follows d c ≡ true = rw (same, known.1.2) (y.history.chained u k f (omega arith)) in
      stands_on u v k c d le before next set enough each

  -- views that have begun are bounded
  pub begun_least : (w : ℕ) → g.finished w ≡ true → w ≤ g.log_view (w % q.n)
  begun_least w f = y.led w f

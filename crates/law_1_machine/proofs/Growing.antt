-- What stays as the history grows.
-- The lemma that everything rests on is here: below a view that too few have still to reach, nothing new can become committed.
use Rattle.law_1_machine.specs.Growth.{Grow}
use Rattle.law_1_machine.specs.Headers.{Headers}
use Rattle.law_1_machine.specs.History.{CarriedThrough, CommittedUpTo, HasQuorum, History, HistoryOk, InLog, MayCommit, MayHaveQuorum, Retains, SafeLog, Settled, lagging, may_vouch}
use Rattle.law_1_machine.specs.Quorums.{Quorums}
use Rattle.std.proofs.Common.{ℕ, ◌≤◌, ◌<◌, ◌≡◌, ◌⊎◌, inl, inr, arith, refl, sym, ◌∙◌, Bool, true, false, leb, ◌||◌, subst}
use Rattle.std.proofs.lemmas.Bool.{cases_lt, or_cases, leb-true, le-leb}
use Rattle.law_1_machine.proofs.Counting.{count_mono}
use Rattle.law_1_machine.proofs.Chains.{chain_map, chain_top, or_left}

or_right : (a b : Bool) → b ≡ true → (a || b) ≡ true
or_right true b h = refl
or_right false b h = h

module _ {H : Type 0} where
  pub grow_refl : (g : History H) → Grow g g
  grow_refl g = record {
    finished = λ w f. f;
    base = λ w f. refl;
    length = λ w. omega arith;
    log = λ w k l. refl;
    vouched = λ r u k v. v;
    new = λ r u k v. inl v;
    view = λ r. omega arith;
    log_view = λ r. omega arith;
    checkpoint = λ r. omega arith;
  }

  pub known_grow : (g h : History H) → Grow g h → (w k : ℕ) (x : H) → InLog g w k x → InLog h w k x
  known_grow g h t w k x s = let a = s.1 in let b = t.length w in (s.0, omega arith, s.2 ∙ sym (t.log w k s.1))

  pub vouched_grow : (q : Quorums) (g h : History H) → Grow g h → (u k : ℕ) → HasQuorum q g u k → HasQuorum q h u k
  vouched_grow q g h t u k v = let m = count_mono (λ r. g.vouched r u k) (λ r. h.vouched r u k) q.n (λ r l s. t.vouched r u k s) in omega arith

  pub committed_grow : (q : Quorums) (g h : History H) → Grow g h → (u k : ℕ) → CommittedUpTo q g u k → CommittedUpTo q h u k
  committed_grow q g h t u k c =
      chain_map g.length h.length (HasQuorum q g) (HasQuorum q h) u (λ w j l z b v. let n = t.length w in (omega arith, vouched_grow q g h t w j v)) u k (omega arith) c

  pub settled_grow : (q : Quorums) (g h : History H) → Grow g h → (w c : ℕ) → Settled q g w c → Settled q h w c
  settled_grow q g h t w c s = (s.0, s.1, committed_grow q g h t s.0 c s.2)

  slow_may : (g h : History H) → Grow g h → (r u : ℕ) → leb (h.view r) u ≡ true → leb (g.view r) u ≡ true
  slow_may g h t r u s = let a = leb-true (h.view r) u s in let b = t.view r in le-leb (g.view r) u (omega arith)

  pub slow_grow : (q : Quorums) (g h : History H) → Grow g h → (u : ℕ) → lagging q h u ≤ lagging q g u
  slow_grow q g h t u = count_mono (λ r. leb (h.view r) u) (λ r. leb (g.view r) u) q.n (λ r l s. slow_may g h t r u s)

  -- who can vouch afterwards could before
  may_back : (g h : History H) → Grow g h → (r u k : ℕ) → may_vouch h r u k ≡ true → (g.vouched r u k ≡ true) ⊎ (leb (g.view r) u ≡ true)
  may_back g h t r u k m =
      elim (or_cases (h.vouched r u k) (leb (h.view r) u) m) [
        | inl v ↦ elim (t.new r u k v) [ inl o ↦ inl o | inr l ↦ inr (le-leb (g.view r) u l) ]
        | inr s ↦ inr (slow_may g h t r u s)
      ]

  -- below a view that too few have still to reach, nothing new can become committed
  pub open_shrinks : (q : Quorums) (hs : Headers H) (g h : History H) → HistoryOk q hs g → Grow g h
      → (w : ℕ) → ((u : ℕ) → u < w → lagging q g u < q.replication)
      → (u k : ℕ) → u < w → MayCommit q h u k → MayCommit q g u k
  open_shrinks q hs g h o t w few u k less c =
      chain_map h.length g.length (MayHaveQuorum q h) (MayHaveQuorum q g) u
      (λ v j l z b possible_vouchers.
      let one : MayHaveQuorum q g v j = (let m = count_mono (λ r. may_vouch h r v j) (λ r. may_vouch g r v j) q.n
      (λ r i s. elim (may_back g h t r v j s) [ inl a ↦ or_left (g.vouched r v j) _ a | inr a ↦ or_right (g.vouched r v j) _ a ]) in omega arith) in
      elim (cases_lt (g.length v) j) [
        | inr in_log ↦ (in_log, one)
        | inl beyond ↦
            let m = count_mono (λ r. may_vouch h r v j) (λ r. leb (g.view r) v) q.n
            (λ r i s. elim (may_back g h t r v j s) [ inl a ↦ (let n = o.vouch r v j a in let n2 = n.2 in absurd (omega arith)) | inr a ↦ a ]) in
            let f = few v (omega arith) in absurd (omega arith)
      ])
      u k (omega arith) c

  pub safe_grow : (q : Quorums) (hs : Headers H) (g h : History H) → HistoryOk q hs g → Grow g h
      → (v head : ℕ) (l l' : ℕ → H) → ((k : ℕ) → k ≤ head → l' k ≡ l k) → SafeLog q g v head l → SafeLog q h v head l'
  safe_grow q hs g h o t v head l l' same s = record {
    few = λ u less. let a = s.few u less in let b = slow_grow q g h t u in omega arith;
    kept = λ u k less z c.
        let was = open_shrinks q hs g h o t v s.few u k less c in
        let top = chain_top g.length (MayHaveQuorum q g) u k z was in
        let old = s.kept u k less z was in
        (old.0, same k old.0 ∙ (old.1 ∙ sym (t.log u k top.0)));
  }

  -- what each later view has now it had before
  pub carried_back : (q : Quorums) (hs : Headers H) (g h : History H) → HistoryOk q hs g → Grow g h
      → (u x k : ℕ) → k ≤ g.length u → CarriedThrough h u x k → CarriedThrough g u x k
  carried_back q hs g h o t u x k l c w f a b =
      let now = c w (t.finished w f) a b in
      let same = t.base w f in
      let based = o.based w f in
      let le : k ≤ g.base w = (let n = now.0 in omega arith) in
      (le, sym (t.log w k (omega arith)) ∙ (now.1 ∙ t.log u k l))

  pub retains_grow : (q : Quorums) (hs : Headers H) (g h : History H) → HistoryOk q hs g → Grow g h
      → (r x : ℕ) (P Q : ℕ → H → Type 0) → ((k : ℕ) (e : H) → P k e → Q k e)
      → ((u k : ℕ) → u ≤ x → h.vouched r u k ≡ true → g.vouched r u k ≡ true)
      → Retains g r x P → Retains h r x Q
  retains_grow q hs g h o t r x P Q weaker quiet c u k v le carried =
      let was = quiet u k le v in
      let m = o.vouch r u k was in
      weaker k (h.log u k) (subst (P k) (sym (t.log u k m.2)) (c u k was le (carried_back q hs g h o t u x k m.2 carried)))

-- The four ways in which a history grows, each of which keeps what holds of it:
-- a view begins, an entry is made, a member finishes a superblock value, a member vouches.
use Rattle.law_1_machine.specs.Basics.{update}
use Rattle.law_1_machine.specs.Claims.{Candidate}
use Rattle.law_1_machine.specs.Growth.{Grow}
use Rattle.law_1_machine.specs.Headers.{Headers}
use Rattle.law_1_machine.specs.History.{History, HistoryOk, SafeLog, finish, make, saved, vouch}
use Rattle.law_1_machine.specs.Quorums.{Quorums}
use Rattle.std.proofs.Common.{ℕ, suc, ◌+◌, ◌≤◌, ◌<◌, ◌≡◌, ◌⊎◌, inl, inr, arith, refl, sym, ◌∙◌, Bool, true, false, eqb, ◌&&◌, subst}
use Rattle.std.proofs.lemmas.Bool.{cases_eq, cases_lt, both_ways, or_cases, and_parts, eq-eqb, ne_eqb, eqb-true}
use Rattle.law_1_machine.proofs.Counting.{at_update, elsewhere}
use Rattle.law_1_machine.proofs.Chains.{or_left}
use Rattle.law_1_machine.proofs.Growing.{safe_grow}

module _ {H : Type 0} where
  -- ---- a choice is finished

  pub at_finish : (P : Bool → ℕ → ℕ → (ℕ → H) → Type 0) (g : History H) (v w head j : ℕ)
      → (j ≡ v → P true head head (g.log w)) → ((j ≡ v → ⊥) → P (g.finished j) (g.base j) (g.length j) (g.log j))
      → P (update g.finished v true j) (update g.base v head j) (update g.length v head j) (update g.log v (g.log w) j)
  unfolding update
  at_finish P g v w head j new old =
      elim (cases_eq j v) [ inl e ↦ rw (eq-eqb j v e) (new e) | inr d ↦ rw (ne_eqb j v d) (old d) ]

  module _ (q : Quorums) (hs : Headers H) (g : History H) (o : HistoryOk q hs g) (v w head : ℕ) (c : Candidate q g v w head) where
    other : (j : ℕ) → g.finished j ≡ true → j ≡ v → ⊥
    other j f e = let n = c.new in let f' : g.finished v ≡ true = rw (← e) f in both_ways (g.finished v) n f'

    pub finish_grow : Grow g (finish g v w head)
    finish_grow = record {
      finished = λ j f. at_finish (λ a b n l. a ≡ true) g v w head j (λ e. refl) (λ _. f);
      base = λ j f. at_finish (λ a b n l. b ≡ g.base j) g v w head j (λ e. absurd (other j f e)) (λ _. refl);
      length = λ j. at_finish (λ a b n l. g.length j ≤ n) g v w head j (λ e. let z = o.not_begun v c.new in let z' : g.length j ≡ 0 = rw e z in omega arith) (λ _. omega arith);
      log = λ j k. at_finish (λ a b n l. k ≤ g.length j → l k ≡ g.log j k) g v w head j
          (λ e b. let z = o.not_begun v c.new in let z' : g.length j ≡ 0 = rw e z in let k0 : k ≡ 0 = omega arith in rw (k0, o.rooted w, o.rooted j) refl) (λ _ b. refl);
      vouched = λ r u k s. s;
      new = λ r u k s. inl s;
      view = λ r. omega arith;
      log_view = λ r. omega arith;
      checkpoint = λ r. omega arith;
    }

    pub finish_ok : HistoryOk q hs (finish g v w head)
    finish_ok = record {
      first = at_finish (λ a b n l. (a ≡ true) × (b ≡ 0)) g v w head 0 (λ e. absurd (other 0 o.first.0 e)) (λ _. o.first);
      based = λ j. at_finish (λ a b n l. a ≡ true → b ≤ n) g v w head j (λ e f. omega arith) (λ _. o.based j);
      rooted = λ j. at_finish (λ a b n l. l 0 ≡ hs.root) g v w head j (λ e. o.rooted w) (λ _. o.rooted j);
      number = λ j k. at_finish (λ a b n l. a ≡ true → k ≤ n → hs.number (l k) ≡ k) g v w head j (λ e f le. let m = c.fits in o.number w k c.begun (omega arith)) (λ _. o.number j k);
      chained = λ j k. at_finish (λ a b n l. a ≡ true → k < n → hs.follows (l k) (l (suc k)) ≡ true) g v w head j (λ e f le. let m = c.fits in o.chained w k c.begun (omega arith)) (λ _. o.chained j k);
      made_in = λ j k. at_finish (λ a b n l. a ≡ true → b < k → k ≤ n → hs.made (l k) ≡ j) g v w head j (λ e f x y. absurd (omega arith)) (λ _. o.made_in j k);
      made_before = λ j k. at_finish (λ a b n l. a ≡ true → 0 < k → k ≤ b → hs.made (l k) < j) g v w head j
          (λ e f x y. let m = c.fits in let less = c.less in elim (cases_lt (g.base w) k) [
            | inl a ↦ (let s = o.made_in w k c.begun a (omega arith) in omega arith)
            | inr a ↦ (let s = o.made_before w k c.begun x a in omega arith)
          ])
          (λ _. o.made_before j k);
      not_begun = λ j. at_finish (λ a b n l. a ≡ false → n ≡ 0) g v w head j (λ e f. absurd cc) (λ _. o.not_begun j);
      vouch = λ r u k s. let p = o.vouch r u k s in (
        at_finish (λ a b n l. a ≡ true) g v w head u (λ _. refl) (λ _. p.0),
        p.1,
        at_finish (λ a b n l. k ≤ n) g v w head u (λ e. absurd (other u p.0 e)) (λ _. p.2),
        p.3,
        p.4,
      );
      order = o.order;
      safe = λ j. at_finish (λ a b n l. a ≡ true → SafeLog q (finish g v w head) j b l) g v w head j
          (λ e f. subst (λ i. SafeLog q (finish g v w head) i head (g.log w)) (sym e) (safe_grow q hs g (finish g v w head) o finish_grow v head (g.log w) (g.log w) (λ k b. refl) c.safe))
          (λ _ f. safe_grow q hs g (finish g v w head) o finish_grow j (g.base j) (g.log j) (g.log j) (λ k b. refl) (o.safe j f));
    }

  -- ---- an entry is made

  pub at_make : (P : ℕ → (ℕ → H) → Type 0) (g : History H) (v : ℕ) (e : H) (j : ℕ)
      → (j ≡ v → P (suc (g.length v)) (update (g.log v) (suc (g.length v)) e)) → ((j ≡ v → ⊥) → P (g.length j) (g.log j))
      → P (update g.length v (suc (g.length v)) j) (update g.log v (update (g.log v) (suc (g.length v)) e) j)
  unfolding update
  at_make P g v e j new old =
      elim (cases_eq j v) [ inl s ↦ rw (eq-eqb j v s) (new s) | inr d ↦ rw (ne_eqb j v d) (old d) ]

  module _ (q : Quorums) (hs : Headers H) (g : History H) (o : HistoryOk q hs g) (v : ℕ) (e : H)
      (f : g.finished v ≡ true) (number : hs.number e ≡ suc (g.length v)) (made : hs.made e ≡ v) (on : hs.follows (g.log v (g.length v)) e ≡ true) where
    below : (k : ℕ) → k ≤ g.length v → update (g.log v) (suc (g.length v)) e k ≡ g.log v k
    below k l = elsewhere (g.log v) (suc (g.length v)) e k (λ s. omega arith)

    pub make_grow : Grow g (make g v e)
    make_grow = record {
      finished = λ j s. s;
      base = λ j s. refl;
      length = λ j. at_make (λ n l. g.length j ≤ n) g v e j (λ s. rw s (omega arith)) (λ _. omega arith);
      log = λ j k. at_make (λ n l. k ≤ g.length j → l k ≡ g.log j k) g v e j (λ s. rw s (below k)) (λ _ b. refl);
      vouched = λ r u k s. s;
      new = λ r u k s. inl s;
      view = λ r. omega arith;
      log_view = λ r. omega arith;
      checkpoint = λ r. omega arith;
    }

    pub make_ok : HistoryOk q hs (make g v e)
    make_ok = record {
      first = o.first;
      based = λ j s. let b = o.based j s in let up = make_grow.length j in omega arith;
      rooted = λ j. make_grow.log j 0 (omega arith) ∙ o.rooted j;
      number = λ j k s. at_make (λ n l. k ≤ n → hs.number (l k) ≡ k) g v e j
          (λ at le. at_update (λ x. hs.number x ≡ k) (g.log v) (suc (g.length v)) e k (λ i. number ∙ sym i) (λ ne. o.number v k f (omega arith)))
          (λ _. o.number j k s);
      chained = λ j k s. at_make (λ n l. k < n → hs.follows (l k) (l (suc k)) ≡ true) g v e j
          (λ at le. subst (λ x. hs.follows x (update (g.log v) (suc (g.length v)) e (suc k)) ≡ true) (sym (below k (omega arith)))
          (at_update (λ x. hs.follows (g.log v k) x ≡ true) (g.log v) (suc (g.length v)) e (suc k)
          (λ i. let i' : k ≡ g.length v = omega arith in rw i' on) (λ ne. o.chained v k f (omega arith))))
          (λ _. o.chained j k s);
      made_in = λ j k s b. at_make (λ n l. k ≤ n → hs.made (l k) ≡ j) g v e j
          (λ at le. at_update (λ x. hs.made x ≡ j) (g.log v) (suc (g.length v)) e k (λ i. made ∙ sym at)
          (λ ne. let b' : g.base v < k = rw (← at) b in o.made_in v k f b' (omega arith) ∙ sym at))
          (λ _. o.made_in j k s b);
      made_before = λ j k s z l. let b = o.based j s in subst (λ x. hs.made x < j) (sym (make_grow.log j k (omega arith))) (o.made_before j k s z l);
      not_begun = λ j s. at_make (λ n l. n ≡ 0) g v e j (λ at. let s' : g.finished v ≡ false = rw (← at) s in absurd (both_ways (g.finished v) s' f)) (λ _. o.not_begun j s);
      vouch = λ r u k s. let p = o.vouch r u k s in let up = make_grow.length u in (p.0, p.1, let l = p.2 in omega arith, p.3, p.4);
      order = o.order;
      safe = λ j s. let b = o.based j s in
          safe_grow q hs g (make g v e) o make_grow j (g.base j) (g.log j) ((make g v e).log j) (λ k l. make_grow.log j k (omega arith)) (o.safe j s);
    }

  -- ---- a superblock value is finished

  pub at_saved : (P : ℕ → ℕ → ℕ → Type 0) (g : History H) (r view log_view checkpoint j : ℕ)
      → (j ≡ r → P view log_view checkpoint) → ((j ≡ r → ⊥) → P (g.view j) (g.log_view j) (g.checkpoint j))
      → P (update g.view r view j) (update g.log_view r log_view j) (update g.checkpoint r checkpoint j)
  unfolding update
  at_saved P g r view log_view checkpoint j new old =
      elim (cases_eq j r) [ inl s ↦ rw (eq-eqb j r s) (new s) | inr d ↦ rw (ne_eqb j r d) (old d) ]

  module _ (q : Quorums) (hs : Headers H) (g : History H) (o : HistoryOk q hs g) (r view log_view checkpoint : ℕ)
      (a : g.view r ≤ view) (b : g.log_view r ≤ log_view) (c : g.checkpoint r ≤ checkpoint) (order : log_view ≤ view) where
    pub saved_grow : Grow g (saved g r view log_view checkpoint)
    saved_grow = record {
      finished = λ j s. s;
      base = λ j s. refl;
      length = λ j. omega arith;
      log = λ j k l. refl;
      vouched = λ r u k s. s;
      new = λ r u k s. inl s;
      view = λ j. at_saved (λ x y z. g.view j ≤ x) g r view log_view checkpoint j (λ s. rw s a) (λ _. omega arith);
      log_view = λ j. at_saved (λ x y z. g.log_view j ≤ y) g r view log_view checkpoint j (λ s. rw s b) (λ _. omega arith);
      checkpoint = λ j. at_saved (λ x y z. g.checkpoint j ≤ z) g r view log_view checkpoint j (λ s. rw s c) (λ _. omega arith);
    }

    pub saved_ok : HistoryOk q hs (saved g r view log_view checkpoint)
    saved_ok = record {
      first = o.first;
      based = o.based;
      rooted = o.rooted;
      number = o.number;
      chained = o.chained;
      made_in = o.made_in;
      made_before = o.made_before;
      not_begun = o.not_begun;
      vouch = λ i u k s. let p = o.vouch i u k s in let x = saved_grow.log_view i in let y = saved_grow.checkpoint i in let m = p.3 in let n = p.4 in (p.0, p.1, p.2, omega arith, omega arith);
      order = λ j. at_saved (λ x y z. y ≤ x) g r view log_view checkpoint j (λ s. order) (λ _. o.order j);
      safe = λ j s. safe_grow q hs g (saved g r view log_view checkpoint) o saved_grow j (g.base j) (g.log j) (g.log j) (λ k l. refl) (o.safe j s);
    }

  -- ---- a member vouches

  pub vouched_cases : (g : History H) (r u k i w j : ℕ) → (vouch g r u k).vouched i w j ≡ true → (g.vouched i w j ≡ true) ⊎ ((i ≡ r) × (w ≡ u) × (j ≡ k))
  vouched_cases g r u k i w j s =
      elim (or_cases (g.vouched i w j) (eqb i r && (eqb w u && eqb j k)) s) [
        | inl a ↦ inl a
        | inr a ↦ (let p = and_parts (eqb i r) (eqb w u && eqb j k) a in let p2 = and_parts (eqb w u) (eqb j k) p.1 in
            inr (eqb-true i r p.0, eqb-true w u p2.0, eqb-true j k p2.1))
      ]

  module _ (q : Quorums) (hs : Headers H) (g : History H) (o : HistoryOk q hs g) (r u k : ℕ)
      (f : g.finished u ≡ true) (z : 0 < k) (l : k ≤ g.length u) (at : g.view r ≤ u) (lv : u ≤ g.log_view r) (win : k ≤ g.checkpoint r + 64) where
    pub vouch_grow : Grow g (vouch g r u k)
    vouch_grow = record {
      finished = λ j s. s;
      base = λ j s. refl;
      length = λ j. omega arith;
      log = λ j k l. refl;
      vouched = λ i w j s. or_left (g.vouched i w j) _ s;
      new = λ i w j s. elim (vouched_cases g r u k i w j s) [ inl a ↦ inl a | inr p ↦ inr (rw (p.0, p.1) at) ];
      view = λ r. omega arith;
      log_view = λ r. omega arith;
      checkpoint = λ r. omega arith;
    }

    pub vouch_ok : HistoryOk q hs (vouch g r u k)
    vouch_ok = record {
      first = o.first;
      based = o.based;
      rooted = o.rooted;
      number = o.number;
      chained = o.chained;
      made_in = o.made_in;
      made_before = o.made_before;
      not_begun = o.not_begun;
      vouch = λ i w j s. elim (vouched_cases g r u k i w j s) [ inl a ↦ o.vouch i w j a | inr p ↦ rw (p.0, p.1, p.2) (f, z, l, lv, win) ];
      order = o.order;
      safe = λ j s. safe_grow q hs g (vouch g r u k) o vouch_grow j (g.base j) (g.log j) (g.log j) (λ k l. refl) (o.safe j s);
    }

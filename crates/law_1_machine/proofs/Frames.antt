-- One member changes, and the history may grow with it: what holds of the others stays.
use Rattle.law_1_machine.specs.Basics.{In, update}
use Rattle.law_1_machine.specs.Claims.{BegunBy, Candidate, MemoryOk, UnderOk, to_begin, as_it_was}
use Rattle.law_1_machine.specs.Group.{Group, Made, Member, Vouches, becomes, made_at}
use Rattle.law_1_machine.specs.Growth.{Grow}
use Rattle.law_1_machine.specs.Headers.{Headers}
use Rattle.law_1_machine.specs.History.{History, HistoryOk, InLog, finish}
use Rattle.law_1_machine.specs.Invariant.{Ahead, Invariant, MemberOk, Tied}
use Rattle.law_1_machine.specs.Members.{Choice, Superblock}
use Rattle.law_1_machine.specs.Quorums.{Quorums}
use Rattle.std.proofs.Common.{List, ℕ, ◌%◌, ◌≤◌, ◌<◌, ◌≡◌, ◌⊎◌, inl, inr, arith, refl, sym, ◌∙◌, Bool, true, false, Some, None, subst}
use Rattle.std.proofs.lemmas.Bool.{cases_eq, cases_Bool, both_ways, eq-eqb, ne_eqb}
use Rattle.law_1_machine.proofs.Counting.{at_update, each_map}
use Rattle.law_1_machine.proofs.Growing.{safe_grow, known_grow}
use Rattle.law_1_machine.proofs.Lasting.{choice_grow, superblock_grow, memory_grow, fact_grow}
use Rattle.law_1_machine.proofs.Histories.{finish_ok}

module _ {H : Type 0} (q : Quorums) (hs : Headers H) (g h : History H) (o : HistoryOk q hs g) (t : Grow g h) where
  at_both : (P : Bool → ℕ → ℕ → (ℕ → H) → Bool → ℕ → ℕ → (ℕ → H) → Type 0) (v w head j : ℕ)
      → (j ≡ v → P true head head (g.log w) true head head (h.log w))
      → ((j ≡ v → ⊥) → P (g.finished j) (g.base j) (g.length j) (g.log j) (h.finished j) (h.base j) (h.length j) (h.log j))
      → P (update g.finished v true j) (update g.base v head j) (update g.length v head j) (update g.log v (g.log w) j)
      (update h.finished v true j) (update h.base v head j) (update h.length v head j) (update h.log v (h.log w) j)
  unfolding update
  at_both P v w head j new old =
      elim (cases_eq j v) [ inl e ↦ rw (eq-eqb j v e) (new e) | inr d ↦ rw (ne_eqb j v d) (old d) ]

  pub candidate_grow : (v w head : ℕ) → h.finished v ≡ false → Candidate q g v w head → Candidate q h v w head
  candidate_grow v w head f c = record {
    new = f;
    less = c.less;
    begun = t.finished w c.begun;
    fits = (let a = c.fits in let b = t.length w in omega arith);
    safe = safe_grow q hs g h o t v head (g.log w) (h.log w) (λ k l. t.log w k (let a = c.fits in omega arith)) c.safe;
  }

  finishes_grow : (v w head : ℕ) → Candidate q g v w head → Grow (finish g v w head) (finish h v w head)
  finishes_grow v w head c = record {
    finished = λ j. at_both (λ a b n l a' b' n' l'. a ≡ true → a' ≡ true) v w head j (λ _ _. refl) (λ _. t.finished j);
    base = λ j. at_both (λ a b n l a' b' n' l'. a ≡ true → b' ≡ b) v w head j (λ _ _. refl) (λ _. t.base j);
    length = λ j. at_both (λ a b n l a' b' n' l'. n ≤ n') v w head j (λ _. omega arith) (λ _. t.length j);
    log = λ j k. at_both (λ a b n l a' b' n' l'. k ≤ n → l' k ≡ l k) v w head j (λ _ le. t.log w k (let a = c.fits in omega arith)) (λ _. t.log j k);
    vouched = t.vouched;
    new = t.new;
    view = t.view;
    log_view = t.log_view;
    checkpoint = t.checkpoint;
  }

  -- nothing new of a member, by itself or of its views
  pub member_grow : (chosen : List (Choice H)) (i : ℕ) (m : Member H) → (h.view i ≡ g.view i) → (h.log_view i ≡ g.log_view i) → (h.checkpoint i ≡ g.checkpoint i)
      → ((u k : ℕ) → h.vouched i u k ≡ true → g.vouched i u k ≡ true)
      → ((x : Superblock H) → m.under ≡ Some x → i ≡ x.log_view % q.n → g.finished x.log_view ≡ false → h.finished x.log_view ≡ false)
      → MemberOk q hs g chosen i m → MemberOk q hs h chosen i m
  member_grow chosen i m a b c quiet unfinished y = record {
    marked = (let k = y.marked in record { view = a ∙ k.view; log_view = b ∙ k.log_view; checkpoint = c ∙ k.checkpoint });
    last = superblock_grow q hs g h o t i m.slots m.last quiet y.last;
    slots = y.slots;
    under = each_map (λ x. (m.memory ≡ None) × Ahead m.last x × UnderOk q g chosen i m.slots x) (λ x. (m.memory ≡ None) × Ahead m.last x × UnderOk q h chosen i m.slots x) m.under
        (λ x e p. (p.0, p.1, under_grow x (unfinished x e) p.2)) y.under;
    memory = each_map (λ x. Tied m.last x × MemoryOk q g i m.slots x) (λ x. Tied m.last x × MemoryOk q h i m.slots x) m.memory
        (λ x e p. (p.0, memory_grow q hs g h o t i m.slots x quiet p.1)) y.memory;
  }
    where
      under_grow : (x : Superblock H) → (i ≡ x.log_view % q.n → g.finished x.log_view ≡ false → h.finished x.log_view ≡ false) → UnderOk q g chosen i m.slots x → UnderOk q h chosen i m.slots x
      under_grow x f (as_it_was p) = as_it_was (superblock_grow q hs g h o t i m.slots x quiet p)
      under_grow x f (to_begin b made at d lead same p) =
          to_begin b made at (candidate_grow x.log_view b.log_view b.head (f lead d.new) d) lead same
          (superblock_grow q hs (finish g x.log_view b.log_view b.head) (finish h x.log_view b.log_view b.head) (finish_ok q hs g o x.log_view b.log_view b.head d)
          (finishes_grow x.log_view b.log_view b.head d) i m.slots x quiet p)

module _ {H : Type 0} (q : Quorums) (hs : Headers H) (g h : History H) (s : Group H) (y : Invariant q hs g s) (t : Grow g h) (ho : HistoryOk q hs h) where
  pub led_old : (w : ℕ) → g.finished w ≡ true → w ≤ h.log_view (w % q.n)
  led_old w f = let a = y.led w f in let b = t.log_view (w % q.n) in omega arith

  pub made_old : (x : Made H) → In x s.made → (h.finished x.view ≡ true) × (h.base x.view < x.number) × InLog h x.view x.number x.entry
  made_old x i = let a = y.made x i in let b = t.base x.view a.0 in let c = a.1 in (t.finished x.view a.0, omega arith, known_grow g h t x.view x.number x.entry a.2)

  made_all_old : ((w k : ℕ) → h.finished w ≡ true → h.base w < k → k ≤ h.length w → (g.finished w ≡ true) × (g.base w < k) × (k ≤ g.length w))
      → (w k : ℕ) → h.finished w ≡ true → h.base w < k → k ≤ h.length w → In (made_at w k (h.log w k)) s.made
  made_all_old none w k f b l =
      let p = none w k f b l in
      subst (λ (e : H). In (made_at w k e) s.made) (sym (t.log w k p.2)) (y.made_all w k p.0 p.1 p.2)

  pub spoken_old : (i u k : ℕ) → g.vouched i u k ≡ true → Vouches q s.sent i u k (h.log u k)
  spoken_old i u k v = subst (Vouches q s.sent i u k) (sym (t.log u k (y.history.vouch i u k v).2)) (y.spoken i u k v)

  pub begun_old : (w : ℕ) → 0 < w → g.finished w ≡ true → (c : Choice H) × BegunBy h s.chosen w c
  begun_old w z f =
      let p = y.begun_by w z f in
      let b = p.1 in
      let e = b.base in
      let in_log = y.history.based w f in
      let fits = (y.choices p.0 b.made).fits in (
        p.0,
        record {
          made = b.made;
          view = b.view;
          base = b.base ∙ sym (t.base w f);
          log = λ k l. t.log w k (omega arith) ∙ (b.log k l ∙ sym (t.log p.0.log_view k (omega arith)));
        },
      )

  -- a member changes, and with it what it has finished and vouched for
  pub changed : (r : ℕ) (m : Member H) → ((i : ℕ) → (i ≡ r → ⊥) → (h.view i ≡ g.view i) × (h.log_view i ≡ g.log_view i) × (h.checkpoint i ≡ g.checkpoint i))
      → ((i u k : ℕ) → h.vouched i u k ≡ true → g.vouched i u k ≡ true)
      → ((w : ℕ) → g.finished w ≡ false → (h.finished w ≡ false) ⊎ ((r ≡ w % q.n) × (w ≤ h.log_view r)))
      → ((w k : ℕ) → h.finished w ≡ true → h.base w < k → k ≤ h.length w → (g.finished w ≡ true) × (g.base w < k) × (k ≤ g.length w))
      → ((w : ℕ) → 0 < w → g.finished w ≡ false → h.finished w ≡ true → (c : Choice H) × BegunBy h s.chosen w c)
      → MemberOk q hs h s.chosen r m → Invariant q hs h (becomes s r m)
  changed r m marks quiet fins none begun mo = record {
    history = ho;
    led = λ w f. elim (cases_Bool (g.finished w)) [
      | inl old ↦ led_old w old
      | inr new ↦ elim (fins w new) [ inl n ↦ absurd (both_ways (h.finished w) n f) | inr p ↦ subst (λ i. w ≤ h.log_view i) p.0 p.1 ]
    ];
    members = λ i. at_update (MemberOk q hs h s.chosen i) s.members r m i
        (λ e. subst (λ j. MemberOk q hs h s.chosen j m) (sym e) mo)
        (λ d. let k = marks i d in member_grow q hs g h y.history t s.chosen i (s.members i) k.0 k.1 k.2 (λ u k. quiet i u k)
        (λ x e lead f. elim (fins x.log_view f) [ inl n ↦ n | inr of_log ↦ absurd (d (lead ∙ sym of_log.0)) ]) (y.members i));
    made = made_old;
    made_all = made_all_old none;
    spoken = λ i u k v. spoken_old i u k (quiet i u k v);
    facts = λ x i. fact_grow q hs g h y.history t x (y.facts x i);
    begun_by = λ w z f. elim (cases_Bool (g.finished w)) [ inl old ↦ begun_old w z old | inr new ↦ begun w z new f ];
    choices = λ c i. choice_grow q hs g h y.history t s.sent c (y.choices c i);
  }

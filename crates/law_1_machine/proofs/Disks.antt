-- What happens to one member's disk alone: writes of slots, stops, values whose saving is cut.
-- A slot is written only with the entry of the log, or where nothing that counts was there, so what was vouched for stays kept.
use Rattle.law_1_machine.specs.Basics.{In, Each, update}
use Rattle.law_1_machine.specs.Claims.{Candidate, MemoryOk, UnderOk, to_begin, as_it_was}
use Rattle.law_1_machine.specs.Group.{Group, Held, Kept, Member, becomes}
use Rattle.law_1_machine.specs.Headers.{Headers}
use Rattle.law_1_machine.specs.History.{CarriedThrough, History, InLog, Retains, finish}
use Rattle.law_1_machine.specs.Invariant.{Ahead, Invariant, MemberOk, Tied}
use Rattle.law_1_machine.specs.Members.{Choice, Names, Memory, Superblock, superblock}
use Rattle.law_1_machine.specs.Parts.{Here, denied, header}
use Rattle.law_1_machine.specs.Quorums.{Quorums}
use Rattle.std.proofs.Common.{ℕ, suc, ◌+◌, ◌%◌, ◌≤◌, ◌<◌, ◌≡◌, ◌⊎◌, inl, inr, arith, refl, sym, ap, ◌∙◌, true, false, Option, Some, None, subst}
use Rattle.std.proofs.lemmas.Bool.{both_ways, cases_eq, cases_lt}
use Rattle.law_1_machine.proofs.Counting.{here, at_update, elsewhere, each_at, each_map}
use Rattle.law_1_machine.proofs.Growing.{grow_refl}
use Rattle.law_1_machine.proofs.Lasting.{retains_weaken, save_ok}
use Rattle.law_1_machine.proofs.Frames.{changed}

pub one_slot : (c j k : ℕ) → c < j → j ≤ c + 64 → c < k → k ≤ c + 64 → j % 64 ≡ k % 64 → j ≡ k
one_slot c j k a b d e s = omega arith

module _ {H : Type 0} where
  -- an entry that the later logs have carried is that of the last of them
  pub at_log : (g : History H) (u x k : ℕ) → g.finished x ≡ true → u ≤ x → CarriedThrough g u x k → g.log x k ≡ g.log u k
  at_log g u x k f le carried =
      elim (cases_eq u x) [ inl e ↦ subst (λ y. g.log y k ≡ g.log u k) e refl | inr n ↦ (carried x f (omega arith) (omega arith)).1 ]

  abbrev pub InSlot : (ℕ → Option H) → (ℕ → Type 0) → ℕ → ℕ → H → Type 0
  InSlot slots P c j h = (j ≤ c) ⊎ ((slots (j % 64) ≡ Some h) × P j)

  -- a slot is written anew, by its own entry or where nothing that counts was there
  pub retains_slot : (g : History H) (r x c k : ℕ) (slots : ℕ → Option H) (o : Option H) (P Q : ℕ → Type 0)
      → g.finished x ≡ true → ((u j : ℕ) → g.vouched r u j ≡ true → j ≤ c + 64) → c < k → k ≤ c + 64
      → ((j : ℕ) → (j ≡ k → ⊥) → P j → Q j)
      → (slots (k % 64) ≡ Some (g.log x k) → P k → (o ≡ Some (g.log x k)) × Q k)
      → Retains g r x (InSlot slots P c) → Retains g r x (InSlot (update slots (k % 64) o) Q c)
  retains_slot g r x c k slots o P Q f window lo hi others of_log old u j v le carried =
      elim (old u j v le carried) [
        | inl low ↦ inl low
        | inr p ↦ elim (cases_eq j k) [
          | inl e ↦
              (let same : g.log x k ≡ g.log u j = subst (λ i. g.log x i ≡ g.log u j) e (at_log g u x j f le carried) in
              let was : slots (k % 64) ≡ Some (g.log x k) = subst (λ i. slots (i % 64) ≡ Some (g.log x k)) e (p.0 ∙ ap Some (sym same)) in
              let now = of_log was (subst P e p.1) in
              inr (subst (λ i. update slots (k % 64) o (i % 64) ≡ Some (g.log u j)) (sym e) (here slots (k % 64) o ∙ (now.0 ∙ ap Some same)), subst Q (sym e) now.1))
          | inr n ↦ elim (cases_lt c j) [
            | inr low ↦ inl low
            | inl high ↦
                (let w = window u j v in
                inr (elsewhere slots (k % 64) o (j % 64) (λ s. n (one_slot c j k high w lo hi s)) ∙ p.0, others j n p.1))
          ]
        ]
      ]

  -- a member that runs has no value whose saving was cut
  pub idle : (o : Option (Memory H)) (m : Memory H) (u : Option (Superblock H)) (P Q R : Superblock H → Type 0) (o' : Option (Memory H)) → o ≡ Some m
      → Each (λ x. (o ≡ None) × P x × Q x) u → Each (λ x. (o' ≡ None) × P x × R x) u
  idle o m u P Q R o' e = each_map (λ x. (o ≡ None) × P x × Q x) (λ x. (o' ≡ None) × P x × R x) u (λ x _ p. let bad : None ≡ Some m = sym p.0 ∙ e in absurd cc)

  module _ (q : Quorums) (hs : Headers H) (g : History H) (s : Group H) (y : Invariant q hs g s) (r : ℕ) where
    known_op : (v k : ℕ) (e : H) → g.finished v ≡ true → InLog g v k e → hs.number e ≡ k
    known_op v k e f a = rw (a.2) (y.history.number v k f a.1)

    -- one member changes, and nothing is done
    pub alone : (m : Member H) → MemberOk q hs g s.chosen r m → Invariant q hs g (becomes s r m)
    alone m mo = changed q hs g g s y (grow_refl g) y.history r m (λ i d. (refl, refl, refl)) (λ i u k v. v) (λ w f. inl f) (λ w k f b l. (f, b, l)) (λ w z a b. absurd (both_ways (g.finished w) a b)) mo

    window_of : (u j : ℕ) → g.vouched r u j ≡ true → j ≤ (s.members r).last.checkpoint + 64
    window_of u j v = let p = y.history.vouch r u j v in let w = p.4 in let m = (y.members r).marked.checkpoint in omega arith

    -- ---- a running member begins a write

    pub write_good : (m : Memory H) (k : ℕ) (e : H) (o : Option H) → (s.members r).memory ≡ Some m
        → m.checkpoint < k → k ≤ m.checkpoint + 64 → InLog g m.log_view k e
        → ((x : H) → m.parts k ≡ Here x → ⊥)
        → (o ≡ None) ⊎ (o ≡ (s.members r).slots (k % 64))
        → ((s.members r).slots (k % 64) ≡ Some e → denied (m.parts k) ≡ false → o ≡ Some e)
        → Invariant q hs g (becomes s r (record (s.members r) { slots = update (s.members r).slots (k % 64) o }))
    write_good m k e o runs lo hi known not_here drop keep =
        let z = s.members r in
        let mo = y.members r in
        let mem = each_at (λ x. Tied z.last x × MemoryOk q g r z.slots x) z.memory m runs mo.memory in
        let tie = mem.0 in
        let ok = mem.1 in
        let ck = tie.checkpoint in
        let slots = update z.slots (k % 64) o in
        let retains : Retains g r m.log_view (Held slots m.parts m.checkpoint) =
        retains_slot g r m.log_view m.checkpoint k z.slots o (λ j. denied (m.parts j) ≡ false) (λ j. denied (m.parts j) ≡ false) ok.knows.begun
        (λ u j v. let w = window_of u j v in omega arith) lo hi (λ j n p. p)
        (λ was p. (keep (was ∙ ap Some (sym known.2)) p ∙ ap Some known.2, p)) ok.retains in
        alone (record z { slots = slots }) (record {
          marked = mo.marked;
          last = record {
            knows = mo.last.knows;
            order = mo.last.order;
            root = mo.last.root;
            retains = subst (λ c. Retains g r z.last.log_view (Kept slots c)) ck (subst (λ x. Retains g r x (Kept slots m.checkpoint)) tie.log_view
                (retains_weaken g r m.log_view (Held slots m.parts m.checkpoint) (Kept slots m.checkpoint) (λ k e. elim [ inl l ↦ inl l | inr p ↦ inr p.0 ]) retains));
          };
          slots = λ j h. at_update (λ w. w ≡ Some h → hs.number h ≤ z.last.checkpoint + 64) z.slots (k % 64) o j
              (λ _ a. elim drop [ inl n ↦ (let bad : None ≡ Some h = sym n ∙ a in absurd cc) | inr same ↦ mo.slots (k % 64) h (sym same ∙ a) ])
              (λ _. mo.slots j h);
          under = idle z.memory m z.under (Ahead z.last) (UnderOk q g s.chosen r z.slots) (UnderOk q g s.chosen r slots) z.memory runs mo.under;
          memory = subst (Each (λ x. Tied z.last x × MemoryOk q g r slots x)) (sym runs) (
            tie,
            record {
              knows = ok.knows;
              order = ok.order;
              next = ok.next;
              reach = ok.reach;
              applied = ok.applied;
              here = λ j h a p. at_update (λ w. w ≡ Some h) z.slots (k % 64) o (j % 64)
                  (λ same. let b = ok.reach j h (ap header p) in let e : j ≡ k = one_slot m.checkpoint j k a b lo hi same in absurd (not_here h (subst (λ i. m.parts i ≡ Here h) e p)))
                  (λ _. ok.here j h a p);
              root = ok.root;
              state = ok.state;
              retains = retains;
            },
          );
        })

    -- ---- and ends it

    pub wrote_good : (m : Memory H) (k : ℕ) (e : H) (n : ℕ) → (s.members r).memory ≡ Some m
        → m.checkpoint < k → k ≤ m.checkpoint + 64 → InLog g m.log_view k e
        → m.head ≤ n → n ≤ m.checkpoint + 64
        → ((j : ℕ) → m.checkpoint < j → j ≤ n → (h : H) × (header (update m.parts k (Here e) j) ≡ Some h))
        → header (update m.parts k (Here e) (suc n)) ≡ None
        → Invariant q hs g (becomes s r (record (s.members r) {
          slots = update (s.members r).slots (k % 64) (Some e);
          memory = Some (record m { parts = update m.parts k (Here e); head = n });
        }))
    wrote_good m k e n runs lo hi known up most whole next =
        let z = s.members r in
        let mo = y.members r in
        let mem = each_at (λ x. Tied z.last x × MemoryOk q g r z.slots x) z.memory m runs mo.memory in
        let tie = mem.0 in
        let ok = mem.1 in
        let ck = tie.checkpoint in
        let slots = update z.slots (k % 64) (Some e) in
        let parts = update m.parts k (Here e) in
        let retains : Retains g r m.log_view (Held slots parts m.checkpoint) =
        retains_slot g r m.log_view m.checkpoint k z.slots (Some e) (λ j. denied (m.parts j) ≡ false) (λ j. denied (parts j) ≡ false) ok.knows.begun
        (λ u j v. let w = window_of u j v in omega arith) lo hi (λ j n p. ap denied (elsewhere m.parts k (Here e) j n) ∙ p)
        (λ was p. (ap Some known.2, ap denied (here m.parts k (Here e)))) ok.retains in
        alone (record z { slots = slots; memory = Some (record m { parts = parts; head = n }) }) (record {
          marked = mo.marked;
          last = record {
            knows = mo.last.knows;
            order = mo.last.order;
            root = mo.last.root;
            retains = subst (λ c. Retains g r z.last.log_view (Kept slots c)) ck (subst (λ x. Retains g r x (Kept slots m.checkpoint)) tie.log_view
                (retains_weaken g r m.log_view (Held slots parts m.checkpoint) (Kept slots m.checkpoint) (λ k e. elim [ inl l ↦ inl l | inr p ↦ inr p.0 ]) retains));
          };
          slots = λ j h. at_update (λ w. w ≡ Some h → hs.number h ≤ z.last.checkpoint + 64) z.slots (k % 64) (Some e) j
              (λ _ a. let same : e ≡ h = cc in let number = known_op m.log_view k e ok.knows.begun known in let op' : hs.number h ≡ k = rw (← same) number in omega arith)
              (λ _. mo.slots j h);
          under = idle z.memory m z.under (Ahead z.last) (UnderOk q g s.chosen r z.slots) (UnderOk q g s.chosen r slots) (Some (record m { parts = parts; head = n })) runs mo.under;
          memory = (
            record { view = tie.view; log_view = tie.log_view; checkpoint = tie.checkpoint },
            record {
              knows = (let d = ok.knows in let a = d.past_base in let b = d.commit_head in record {
                begun = d.begun;
                past_base = omega arith;
                of_log = λ j h. at_update (λ p. header p ≡ Some h → InLog g m.log_view j h) m.parts k (Here e) j
                    (λ i t. let same : e ≡ h = cc in subst (λ x. InLog g m.log_view j x) same (subst (λ x. InLog g m.log_view x e) (sym i) known)) (λ _. d.of_log j h);
                whole = whole;
                low_commit = d.low_commit;
                commit_head = omega arith;
                window = most;
                settled = d.settled;
              });
              order = ok.order;
              next = next;
              reach = λ j h. at_update (λ p. header p ≡ Some h → j ≤ m.checkpoint + 64) m.parts k (Here e) j (λ i t. rw i hi) (λ _. ok.reach j h);
              applied = ok.applied;
              here = λ j h a. at_update (λ p. p ≡ Here h → slots (j % 64) ≡ Some h) m.parts k (Here e) j
                  (λ i t. let same : e ≡ h = cc in subst (λ x. slots (x % 64) ≡ Some h) (sym i) (here z.slots (k % 64) (Some e) ∙ ap Some same))
                  (λ ne t. let b = ok.reach j h (ap header t) in
                  elsewhere z.slots (k % 64) (Some e) (j % 64) (λ same. ne (one_slot m.checkpoint j k a b lo hi same)) ∙ ok.here j h a t);
              root = ok.root;
              state = ok.state;
              retains = retains;
            },
          );
        })

    -- ---- an opening writes a header

    pub write_stopped : (k : ℕ) (e : H) (o : Option H) → (s.members r).memory ≡ None → (s.members r).under ≡ None
        → (s.members r).last.checkpoint < k → k ≤ (s.members r).last.checkpoint + 64 → InLog g (s.members r).last.log_view k e
        → (o ≡ None) ⊎ ((o ≡ (s.members r).slots (k % 64)) ⊎ (o ≡ Some e))
        → ((s.members r).slots (k % 64) ≡ Some e → o ≡ Some e)
        → Invariant q hs g (becomes s r (record (s.members r) { slots = update (s.members r).slots (k % 64) o }))
    write_stopped k e o stopped clean lo hi known drop keep =
        let z = s.members r in
        let mo = y.members r in
        let slots = update z.slots (k % 64) o in
        alone (record z { slots = slots }) (record {
          marked = mo.marked;
          last = record {
            knows = mo.last.knows;
            order = mo.last.order;
            root = mo.last.root;
            retains = retains_weaken g r z.last.log_view (InSlot slots (λ j. Unit {0}) z.last.checkpoint) (Kept slots z.last.checkpoint) (λ k e. elim [ inl l ↦ inl l | inr p ↦ inr p.0 ])
                (retains_slot g r z.last.log_view z.last.checkpoint k z.slots o (λ j. Unit {0}) (λ j. Unit {0}) mo.last.knows.begun
                window_of lo hi (λ j n p. tt)
                (λ was p. (keep (was ∙ ap Some (sym known.2)) ∙ ap Some known.2, tt))
                (retains_weaken g r z.last.log_view (Kept z.slots z.last.checkpoint) (InSlot z.slots (λ j. Unit {0}) z.last.checkpoint) (λ k e. elim [ inl l ↦ inl l | inr p ↦ inr (p, tt) ]) mo.last.retains));
          };
          slots = λ j h. at_update (λ w. w ≡ Some h → hs.number h ≤ z.last.checkpoint + 64) z.slots (k % 64) o j
              (λ _ a. elim drop [
                | inl n ↦ (let bad : None ≡ Some h = sym n ∙ a in absurd cc)
                | inr d ↦ elim d [
                  | inl same ↦ mo.slots (k % 64) h (sym same ∙ a)
                  | inr of_log ↦ (let both : Some e ≡ Some h = sym of_log ∙ a in let same : e ≡ h = cc in
                      let number = known_op z.last.log_view k e mo.last.knows.begun known in let op' : hs.number h ≡ k = rw (← same) number in omega arith)
                ]
              ])
              (λ _. mo.slots j h);
          under = subst (Each (λ x. (z.memory ≡ None) × Ahead z.last x × UnderOk q g s.chosen r slots x)) (sym clean) tt;
          memory = subst (Each (λ x. Tied z.last x × MemoryOk q g r slots x)) (sym stopped) tt;
        })

    -- ---- a stop

    pub stop_good : Invariant q hs g (becomes s r (record (s.members r) { memory = None }))
    stop_good =
        let z = s.members r in
        let mo = y.members r in
        alone (record z { memory = None }) (record {
          marked = mo.marked;
          last = mo.last;
          slots = mo.slots;
          under = each_map (λ x. (z.memory ≡ None) × Ahead z.last x × UnderOk q g s.chosen r z.slots x) (λ x. (None ≡ None) × Ahead z.last x × UnderOk q g s.chosen r z.slots x) z.under (λ x e p. (refl, p.1, p.2)) mo.under;
          memory = tt;
        })

    pub forget_under : Invariant q hs g (becomes s r (record (s.members r) { under = None }))
    forget_under =
        let mo = y.members r in
        alone (record (s.members r) { under = None }) (record { marked = mo.marked; last = mo.last; slots = mo.slots; under = tt; memory = mo.memory })

    -- ---- a save is cut

    pub cut_good : (m : Memory H) (named : ℕ → Option H) → Names m named → MemoryOk q g r (s.members r).slots m → Ahead (s.members r).last (superblock m named)
        → Invariant q hs g (becomes s r (record (s.members r) { under = Some (superblock m named); memory = None }))
    cut_good m named names ok a =
        let z = s.members r in
        let mo = y.members r in
        alone (record z { under = Some (superblock m named); memory = None }) (record {
          marked = mo.marked;
          last = mo.last;
          slots = mo.slots;
          under = (refl, a, as_it_was (save_ok q g r z.slots m named names ok));
          memory = tt;
        })

    pub cut_choice : (m : Memory H) (named : ℕ → Option H) → Names m named → (c : Choice H) → In c s.chosen → c.view ≡ m.log_view
        → Candidate q g m.log_view c.log_view c.head → r ≡ m.log_view % q.n → m.view ≡ m.log_view
        → MemoryOk q (finish g m.log_view c.log_view c.head) r (s.members r).slots m → Ahead (s.members r).last (superblock m named)
        → Invariant q hs g (becomes s r (record (s.members r) { under = Some (superblock m named); memory = None }))
    cut_choice m named names c made at d lead same ok a =
        let z = s.members r in
        let mo = y.members r in
        alone (record z { under = Some (superblock m named); memory = None }) (record {
          marked = mo.marked;
          last = mo.last;
          slots = mo.slots;
          under = (refl, a, to_begin c made at d lead same (save_ok q (finish g m.log_view c.log_view c.head) r z.slots m named names ok));
          memory = tt;
        })

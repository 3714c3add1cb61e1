-- What a member does in its memory alone, what it says, and what it vouches for.
use Rattle.law_1_machine.specs.Basics.{Each, update}
use Rattle.law_1_machine.specs.Claims.{as_it_was, to_begin, StateOk, ChoiceOk, Fact, MemoryOk, UnderOk}
use Rattle.law_1_machine.specs.Group.{decides, Group, Held, Kept, Vouches, becomes, sends}
use Rattle.law_1_machine.specs.Growth.{Grow}
use Rattle.law_1_machine.specs.Headers.{Headers}
use Rattle.law_1_machine.specs.History.{History, HistoryOk, InLog, Retains, Settled, vouch}
use Rattle.law_1_machine.specs.Invariant.{Ahead, Invariant, MemberOk, Tied}
use Rattle.law_1_machine.specs.Members.{Superblock, Choice, Memory, Message}
use Rattle.law_1_machine.specs.Parts.{Here, Lost, Part, denied, entries, header}
use Rattle.law_1_machine.specs.Quorums.{Quorums}
use Rattle.std.proofs.Common.{List, None, ◌∷◌, ℕ, suc, ◌+◌, ◌%◌, ◌≤◌, ◌<◌, ◌≡◌, inl, inr, arith, refl, sym, ap, ◌∙◌, Option, Some, subst}
use Rattle.std.proofs.lemmas.Bool.{cases_eq, cases_lt}
use Rattle.law_1_machine.proofs.Counting.{each_map, at_update, each_at}
use Rattle.law_1_machine.proofs.Lasting.{choice_grow, retains_weaken, knows_grow, fact_grow}
use Rattle.law_1_machine.proofs.Histories.{vouched_cases, vouch_grow, vouch_ok}
use Rattle.law_1_machine.proofs.Frames.{begun_old, member_grow}
use Rattle.law_1_machine.proofs.Disks.{alone, idle}

module _ {H : Type 0} (q : Quorums) (g : History H) (r : ℕ) (slots : ℕ → Option H) (m : Memory H) (o : MemoryOk q g r slots m) where
  pub lose_ok : (k : ℕ) (x : H) → m.parts k ≡ Here x → MemoryOk q g r slots (record m { parts = update m.parts k (Lost x) })
  lose_ok k x was =
      let d = o.knows in
      let parts = update m.parts k (Lost x) in
      let same : (j : ℕ) → header (parts j) ≡ header (m.parts j) = λ j. at_update (λ p. header p ≡ header (m.parts j)) m.parts k (Lost x) j (λ e. rw (e, was) refl) (λ _. refl) in
      let stays : (j : ℕ) → denied (parts j) ≡ denied (m.parts j) = λ j. at_update (λ p. denied p ≡ denied (m.parts j)) m.parts k (Lost x) j (λ e. rw (e, was) refl) (λ _. refl) in
      record {
        knows = record {
          begun = d.begun;
          past_base = d.past_base;
          of_log = λ j h t. d.of_log j h (sym (same j) ∙ t);
          whole = λ j a b. let w = d.whole j a b in (w.0, same j ∙ w.1);
          low_commit = d.low_commit;
          commit_head = d.commit_head;
          window = d.window;
          settled = d.settled;
        };
        order = o.order;
        root = o.root;
        state = o.state;
        next = same (suc m.head) ∙ o.next;
        reach = λ j h t. o.reach j h (sym (same j) ∙ t);
        applied = o.applied;
        here = λ j h a. at_update (λ p. p ≡ Here h → slots (j % 64) ≡ Some h) m.parts k (Lost x) j (λ _ t. absurd cc) (λ _. o.here j h a);
        retains = retains_weaken g r m.log_view (Held slots m.parts m.checkpoint) (Held slots parts m.checkpoint)
            (λ j e. elim [ inl l ↦ inl l | inr p ↦ inr (p.0, stays j ∙ p.1) ]) o.retains;
      }

  pub commit_ok : (c : ℕ) → m.commit ≤ c → c ≤ m.head → Settled q g m.log_view c → MemoryOk q g r slots (record m { commit = c })
  commit_ok c up most s =
      let d = o.knows in let l = d.low_commit in let a = o.applied in
      record {
        knows = record { begun = d.begun; past_base = d.past_base; of_log = d.of_log; whole = d.whole; low_commit = omega arith; commit_head = most; window = d.window; settled = s };
        order = o.order;
        root = o.root;
        state = o.state;
        next = o.next;
        reach = o.reach;
        applied = (a.0, (let x = a.1 in omega arith), a.2);
        here = o.here;
        retains = o.retains;
      }

  next_state : (x : H) (l : List H) → m.state ≡ Some l → header (m.parts (suc m.applied)) ≡ Some x → x ∷ l ≡ entries (g.log m.log_view) (suc m.applied)
  next_state x l is e =
      let now : l ≡ entries (g.log m.log_view) m.applied = subst (StateOk g m.log_view m.checkpoint m.applied) is o.state in
      rw ((o.knows.of_log (suc m.applied) x e).2, now) refl

  -- the checkpoint's state is loaded
  pub load_ok : m.state ≡ None → MemoryOk q g r slots (record m { state = Some m.root })
  load_ok none =
      let same : m.applied ≡ m.checkpoint = subst (StateOk g m.log_view m.checkpoint m.applied) none o.state in
      record {
        knows = o.knows;
        order = o.order;
        root = o.root;
        state = subst (λ i. m.root ≡ entries (g.log m.log_view) i) (sym same) o.root;
        next = o.next;
        reach = o.reach;
        applied = o.applied;
        here = o.here;
        retains = o.retains;
      }

  pub apply_ok : (x : H) (l : List H) → m.state ≡ Some l → m.applied < m.commit → suc m.applied < m.checkpoint + 32 → header (m.parts (suc m.applied)) ≡ Some x
      → MemoryOk q g r slots (record m { applied = suc m.applied; state = Some (x ∷ l) })
  apply_ok x l is less low e =
      let d = o.knows in let a = o.applied in let b = a.0 in
      record {
        knows = record { begun = d.begun; past_base = d.past_base; of_log = d.of_log; whole = d.whole; low_commit = d.low_commit; commit_head = d.commit_head; window = d.window; settled = d.settled };
        order = o.order;
        root = o.root;
        state = next_state x l is e;
        next = o.next;
        reach = o.reach;
        applied = (omega arith, omega arith, low);
        here = o.here;
        retains = o.retains;
      }

  -- the checkpoint moves to what is applied (which is then saved)
  pub checkpoint_ok : (x : H) (l : List H) → m.state ≡ Some l → m.applied < m.commit → header (m.parts (suc m.applied)) ≡ Some x
      → MemoryOk q g r slots (record m { checkpoint = suc m.applied; applied = suc m.applied; root = x ∷ l; state = Some (x ∷ l) })
  checkpoint_ok x l is most e =
      let d = o.knows in
      let ap = o.applied in
      let up = ap.0 in
      let c = suc m.applied in
      record {
        knows = record {
          begun = d.begun;
          past_base = d.past_base;
          of_log = d.of_log;
          whole = λ j a b. d.whole j (omega arith) b;
          low_commit = most;
          commit_head = d.commit_head;
          window = (let w = d.window in omega arith);
          settled = d.settled;
        };
        order = o.order;
        root = next_state x l is e;
        state = next_state x l is e;
        next = o.next;
        reach = λ j h t. let w = o.reach j h t in omega arith;
        applied = (omega arith, most, omega arith);
        here = λ j h a t. o.here j h (omega arith) t;
        retains = retains_weaken g r m.log_view (Held slots m.parts m.checkpoint) (Held slots m.parts c) (λ j e. elim [ inl l ↦ inl (omega arith) | inr p ↦ inr p ]) o.retains;
      }

  -- headers up to the checkpoint are forgotten
  pub forget_ok : (parts : ℕ → Part H) → ((j : ℕ) → m.checkpoint < j → parts j ≡ m.parts j)
      → ((j : ℕ) (h : H) → header (parts j) ≡ Some h → header (m.parts j) ≡ Some h) → MemoryOk q g r slots (record m { parts = parts })
  forget_ok parts above fewer =
      let d = o.knows in
      record {
        knows = record {
          begun = d.begun;
          past_base = d.past_base;
          of_log = λ j h t. d.of_log j h (fewer j h t);
          whole = λ j a b. let w = d.whole j a b in (w.0, ap header (above j a) ∙ w.1);
          low_commit = d.low_commit;
          commit_head = d.commit_head;
          window = d.window;
          settled = d.settled;
        };
        order = o.order;
        root = o.root;
        state = o.state;
        next = ap header (above (suc m.head) (let l = d.low_commit in let c = d.commit_head in omega arith)) ∙ o.next;
        reach = λ j h t. o.reach j h (fewer j h t);
        applied = o.applied;
        here = λ j h a t. o.here j h a (sym (above j a) ∙ t);
        retains = retains_weaken g r m.log_view (Held slots m.parts m.checkpoint) (Held slots parts m.checkpoint)
            (λ j e. elim [ inl l ↦ inl l | inr p ↦ elim (cases_lt m.checkpoint j) [ inl a ↦ inr (p.0, ap denied (above j a) ∙ p.1) | inr low ↦ inl low ] ]) o.retains;
      }

  -- a greater view is entered (and saved)
  pub enter_ok : (v : ℕ) → m.view ≤ v → MemoryOk q g r slots (record m { view = v })
  enter_ok v up =
      let d = o.knows in let l = o.order in
      record {
        knows = record { begun = d.begun; past_base = d.past_base; of_log = d.of_log; whole = d.whole; low_commit = d.low_commit; commit_head = d.commit_head; window = d.window; settled = d.settled };
        order = omega arith;
        root = o.root;
        state = o.state;
        next = o.next;
        reach = o.reach;
        applied = o.applied;
        here = o.here;
        retains = o.retains;
      }

module _ {H : Type 0} (q : Quorums) (hs : Headers H) (g : History H) (s : Group H) (y : Invariant q hs g s) where
  pub remember : (r : ℕ) (m m' : Memory H) → (s.members r).memory ≡ Some m → Tied (s.members r).last m' → MemoryOk q g r (s.members r).slots m'
      → Invariant q hs g (becomes s r (record (s.members r) { memory = Some m' }))
  remember r m m' runs tie ok =
      let z = s.members r in
      let mo = y.members r in
      alone q hs g s y r (record z { memory = Some m' }) (record {
        marked = mo.marked;
        last = mo.last;
        slots = mo.slots;
        under = idle z.memory m z.under (Ahead z.last) (UnderOk q g s.chosen r z.slots) (UnderOk q g s.chosen r z.slots) (Some m') runs mo.under;
        memory = (tie, ok);
      })

  -- what was said stays said
  pub hears : (m : Message H) (i u k : ℕ) (e : H) → Vouches q s.sent i u k e → Vouches q (m ∷ s.sent) i u k e
  hears m i u k e (inl a) = inl (inr a)
  hears m i u k e (inr p) = inr (p.0, (p.1.0, inr p.1.1))

  still_heard : (m : Message H) (c : Choice H) → ChoiceOk q g s.sent c → ChoiceOk q g (m ∷ s.sent) c
  still_heard m c x = record {
    less = x.less;
    begun = x.begun;
    fits = x.fits;
    safe = x.safe;
    of_log = x.of_log;
    settled = x.settled;
    chosen = x.chosen;
    heard_from = λ i t e. elim (x.heard_from i t e) [ inl a ↦ inl (inr a) | inr a ↦ inr a ];
    silent = x.silent;
  }

  pub say_good : (m : Message H) → Fact q g m → Invariant q hs g (sends s m)
  say_good m f = record { history = y.history; led = y.led; made = y.made; made_all = y.made_all; spoken = λ r u k v. hears m r u k (g.log u k) (y.spoken r u k v); members = y.members; facts = λ x. elim [ inl e ↦ subst (Fact q g) (sym e) f | inr i ↦ y.facts x i ]; begun_by = y.begun_by; choices = λ c i. still_heard m c (y.choices c i) }

  -- a choice is made
  pub decide_good : (c : Choice H) → ChoiceOk q g s.sent c → Invariant q hs g (decides s c)
  decide_good c x = record {
    history = y.history;
    led = y.led;
    made = y.made;
    made_all = y.made_all;
    spoken = y.spoken;
    members = λ r. let mo = y.members r in record {
      marked = mo.marked;
      last = mo.last;
      slots = mo.slots;
      under = each_map (λ x. ((s.members r).memory ≡ None) × Ahead (s.members r).last x × UnderOk q g s.chosen r (s.members r).slots x)
          (λ x. ((s.members r).memory ≡ None) × Ahead (s.members r).last x × UnderOk q g (c ∷ s.chosen) r (s.members r).slots x) (s.members r).under
          (λ x _ p. (p.0, p.1, still_chosen r (s.members r).slots x p.2)) mo.under;
      memory = mo.memory;
    };
    facts = y.facts;
    begun_by = λ w z f. let p = y.begun_by w z f in let b = p.1 in (p.0, record { made = inr b.made; view = b.view; base = b.base; log = b.log });
    choices = λ d. elim [ inl e ↦ subst (ChoiceOk q g s.sent) (sym e) x | inr i ↦ y.choices d i ];
  }
    where
      still_chosen : (r : ℕ) (slots : ℕ → Option H) (x : Superblock H) → UnderOk q g s.chosen r slots x → UnderOk q g (c ∷ s.chosen) r slots x
      still_chosen r slots x (as_it_was ok) = as_it_was ok
      still_chosen r slots x (to_begin d made at e lead same ok) = to_begin d (inr made) at e lead same ok

  -- a member may vouch for what it has on its disk and doesn't deny
  module _ (r : ℕ) (m : Memory H) (k : ℕ) (x : H) (runs : (s.members r).memory ≡ Some m) (at : m.view ≡ m.log_view)
      (known : InLog g m.log_view k x) (held : Held (s.members r).slots m.parts m.checkpoint k x) where
    mem : Tied (s.members r).last m × MemoryOk q g r (s.members r).slots m
    mem = each_at (λ x. Tied (s.members r).last x × MemoryOk q g r (s.members r).slots x) (s.members r).memory m runs (y.members r).memory

    in_window : k ≤ g.checkpoint r + 64
    in_window =
        let c = (y.members r).marked.checkpoint in let t = mem.0.checkpoint in
        elim held [
          | inl low ↦ omega arith
          | inr p ↦ (let number = (y.members r).slots (k % 64) x p.0 in
              let op' : hs.number x ≡ k = rw known.2 (y.history.number m.log_view k mem.1.knows.begun known.1) in omega arith)
        ]

    view_at : g.view r ≤ m.log_view
    view_at = let a = (y.members r).marked.view in let b = mem.0.view in omega arith

    log_view_at : m.log_view ≤ g.log_view r
    log_view_at = let a = (y.members r).marked.log_view in let b = mem.0.log_view in omega arith

    pub grows : Grow g (vouch g r m.log_view k)
    grows = vouch_grow q hs g y.history r m.log_view k mem.1.knows.begun known.0 known.1 view_at log_view_at in_window

    ghost_vouched : HistoryOk q hs (vouch g r m.log_view k)
    ghost_vouched = vouch_ok q hs g y.history r m.log_view k mem.1.knows.begun known.0 known.1 view_at log_view_at in_window

    hold_vouched : Retains (vouch g r m.log_view k) r m.log_view (Held (s.members r).slots m.parts m.checkpoint)
    hold_vouched u j v le carried =
        elim (vouched_cases g r m.log_view k r u j v) [
          | inl a ↦ mem.1.retains u j a le carried
          | inr p ↦ subst (λ w. Held (s.members r).slots m.parts m.checkpoint j (g.log w j)) (sym p.1)
              (subst (λ i. Held (s.members r).slots m.parts m.checkpoint i (g.log m.log_view i)) (sym p.2)
              (subst (Held (s.members r).slots m.parts m.checkpoint k) known.2 held))
        ]

    member_vouched : MemberOk q hs (vouch g r m.log_view k) s.chosen r (s.members r)
    member_vouched =
        let z = s.members r in
        let mo = y.members r in
        let tie = mem.0 in
        let ok = mem.1 in
        let f = vouch g r m.log_view k in
        record {
          marked = record { view = mo.marked.view; log_view = mo.marked.log_view; checkpoint = mo.marked.checkpoint };
          last = record {
            knows = knows_grow q hs g f y.history grows z.last.log_view z.last.checkpoint z.last.commit z.last.head z.last.named mo.last.knows;
            order = mo.last.order;
            root = mo.last.root;
            retains = subst (λ c. Retains f r z.last.log_view (Kept z.slots c)) tie.checkpoint (subst (λ x. Retains f r x (Kept z.slots m.checkpoint)) tie.log_view
                (retains_weaken f r m.log_view (Held z.slots m.parts m.checkpoint) (Kept z.slots m.checkpoint) (λ k e. elim [ inl l ↦ inl l | inr p ↦ inr p.0 ]) hold_vouched));
          };
          slots = mo.slots;
          under = idle z.memory m z.under (Ahead z.last) (UnderOk q g s.chosen r z.slots) (UnderOk q f s.chosen r z.slots) z.memory runs mo.under;
          memory = subst (Each (λ x. Tied z.last x × MemoryOk q f r z.slots x)) (sym runs) (
            tie,
            record {
              knows = knows_grow q hs g f y.history grows m.log_view m.checkpoint m.commit m.head (λ k. header (m.parts k)) ok.knows;
              order = ok.order;
              next = ok.next;
              reach = ok.reach;
              applied = ok.applied;
              here = ok.here;
              root = ok.root;
              state = ok.state;
              retains = hold_vouched;
            },
          );
        }

    pub vouch_good : (z : Message H) → Fact q (vouch g r m.log_view k) z → Vouches q (z ∷ s.sent) r m.log_view k (g.log m.log_view k)
        → Invariant q hs (vouch g r m.log_view k) (sends s z)
    vouch_good z fact said = record {
      history = ghost_vouched;
      led = y.led;
      made = y.made;
      made_all = y.made_all;
      members = λ i. elim (cases_eq i r) [
        | inl e ↦ subst (λ j. MemberOk q hs (vouch g r m.log_view k) s.chosen j (s.members j)) (sym e) member_vouched
        | inr d ↦ member_grow q hs g (vouch g r m.log_view k) y.history grows s.chosen i (s.members i) refl refl refl
            (λ u j v. elim (vouched_cases g r m.log_view k i u j v) [ inl a ↦ a | inr p ↦ absurd (d p.0) ]) (λ x _ _ f. f) (y.members i)
      ];
      spoken = λ i u j v. elim (vouched_cases g r m.log_view k i u j v) [
        | inl a ↦ hears z i u j (g.log u j) (y.spoken i u j a)
        | inr p ↦ subst (λ a. Vouches q (z ∷ s.sent) a u j (g.log u j)) (sym p.0)
            (subst (λ b. Vouches q (z ∷ s.sent) r b j (g.log b j)) (sym p.1) (subst (λ c. Vouches q (z ∷ s.sent) r m.log_view c (g.log m.log_view c)) (sym p.2) said))
      ];
      facts = λ x. elim [ inl e ↦ subst (Fact q (vouch g r m.log_view k)) (sym e) fact | inr i ↦ fact_grow q hs g (vouch g r m.log_view k) y.history grows x (y.facts x i) ];
      begun_by = λ w z f. begun_old q hs g (vouch g r m.log_view k) s y grows ghost_vouched w z f;
      choices = λ c i. choice_grow q hs g (vouch g r m.log_view k) y.history grows (z ∷ s.sent) c (still_heard z c (y.choices c i));
    }

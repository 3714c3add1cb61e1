-- What is true of a superblock, a statement, a memory, a message or a choice stays true as the history grows.
-- What is saved and stated of a memory is true where the memory is.
use Rattle.law_1_machine.specs.Claims.{StateOk, ChoiceOk, Fact, Knows, Means, MemoryOk, StatementOk, SuperblockOk, Undenied}
use Rattle.law_1_machine.specs.Group.{Held, Kept}
use Rattle.law_1_machine.specs.Growth.{Grow}
use Rattle.law_1_machine.specs.Headers.{Headers}
use Rattle.law_1_machine.specs.History.{History, HistoryOk, Retains}
use Rattle.law_1_machine.specs.Members.{Names, Tells, Checkpoint, Start_view_change, Get_view, Repair, Choice, view_of, Commit, Do_view_change, Memory, Message, Prepare, Prepare_ok, Start_view, Statement, Superblock, sender, statement, superblock}
use Rattle.law_1_machine.specs.Parts.{Part, denied, entries, header}
use Rattle.law_1_machine.specs.Quorums.{Quorums}
use Rattle.std.proofs.Common.{List, Some, None, ap, ◌≤◌, ℕ, suc, ◌<◌, ◌≡◌, inl, inr, arith, sym, ◌∙◌, true, Option}
use Rattle.std.proofs.lemmas.Bool.{cases_lt}
use Rattle.law_1_machine.proofs.Counting.{each_map}
use Rattle.law_1_machine.proofs.Chains.{first_same}
use Rattle.law_1_machine.proofs.Agreeing.{settled_len}
use Rattle.law_1_machine.proofs.Growing.{safe_grow, known_grow, settled_grow, retains_grow}

module _ {H : Type 0} where
  pub retains_weaken : (g : History H) (r x : ℕ) (P Q : ℕ → H → Type 0) → ((k : ℕ) (e : H) → P k e → Q k e) → Retains g r x P → Retains g r x Q
  retains_weaken g r x P Q f c u k v le carried = f k (g.log u k) (c u k v le carried)

  -- a state of one log is that of another where the logs agree as far as it goes
  pub state_map : (g h : History H) (v w checkpoint applied : ℕ) (o : Option (List H)) → entries (g.log v) applied ≡ entries (h.log w) applied
      → StateOk g v checkpoint applied o → StateOk h w checkpoint applied o
  state_map g h v w checkpoint applied None e s = s
  state_map g h v w checkpoint applied (Some l) e s = s ∙ e

  -- a superblock is what memory says
  pub save_ok : (q : Quorums) (g : History H) (r : ℕ) (slots : ℕ → Option H) (m : Memory H) (named : ℕ → Option H) → Names m named → MemoryOk q g r slots m
      → SuperblockOk q g r slots (superblock m named)
  save_ok q g r slots m named names o = record {
    knows = (let d = o.knows in record {
      begun = d.begun;
      past_base = d.past_base;
      of_log = λ k h e. d.of_log k h (names.known k h e);
      whole = λ k a b. (let w = d.whole k a b in (w.0, names.all k a b ∙ w.1));
      low_commit = d.low_commit;
      commit_head = d.commit_head;
      window = d.window;
      settled = d.settled;
    });
    order = o.order;
    root = o.root;
    retains = retains_weaken g r m.log_view (Held slots m.parts m.checkpoint) (Kept slots m.checkpoint) (λ k e. elim [ inl l ↦ inl l | inr p ↦ inr p.0 ]) o.retains;
  }

  pub statement_ok : (q : Quorums) (hs : Headers H) (g : History H) (r v : ℕ) (slots : ℕ → Option H) (m : Memory H) (tags : ℕ → Part H) → Tells m tags → HistoryOk q hs g
      → MemoryOk q g r slots m → g.view r ≡ m.view → g.log_view r ≡ m.log_view → v ≡ m.view → m.log_view < v → StatementOk q g r v (statement m tags)
  statement_ok q hs g r v slots m tags tells go o view log_view at less =
      let x = o.knows in
      record {
        less = less;
        reached = omega arith;
        knows = record {
          begun = x.begun;
          past_base = x.past_base;
          of_log = λ k h e. x.of_log k h (tells.known k h e);
          whole = λ k a b. let w = x.whole k (let lc = x.low_commit in omega arith) b in (w.0, ap header (tells.above k a) ∙ w.1);
          low_commit = omega arith;
          commit_head = x.commit_head;
          window = (let lc = x.low_commit in let w = x.window in omega arith);
          settled = x.settled;
        };
        none_between = λ u k s l. let n = go.vouch r u k s in let p = n.3 in omega arith;
        retains = retains_weaken g r m.log_view (Held slots m.parts m.checkpoint) (Undenied tags m.commit)
            (λ k e. elim [
              | inl l ↦ inl (let lc = x.low_commit in omega arith)
              | inr p ↦ elim (cases_lt m.commit k) [ inl a ↦ inr (ap denied (tells.above k a) ∙ p.1) | inr a ↦ inl a ]
            ]) o.retains;
      }

  module _ (q : Quorums) (hs : Headers H) (g h : History H) (o : HistoryOk q hs g) (t : Grow g h) where
    pub knows_grow : (v low commit head : ℕ) (headers : ℕ → Option H) → Knows q g v low commit head headers → Knows q h v low commit head headers
    knows_grow v low commit head headers x =
        let b = t.base v x.begun in
        record {
          begun = t.finished v x.begun;
          past_base = (let l = x.past_base in omega arith);
          of_log = λ k e s. known_grow g h t v k e (x.of_log k e s);
          whole = x.whole;
          low_commit = x.low_commit;
          commit_head = x.commit_head;
          window = x.window;
          settled = settled_grow q g h t v commit x.settled;
        }

    first_log : (w n : ℕ) → n ≤ g.length w → entries (g.log w) n ≡ entries (h.log w) n
    first_log w n l = first_same (g.log w) (h.log w) n (λ k a b. sym (t.log w k (omega arith)))

    pub superblock_grow : (r : ℕ) (slots : ℕ → Option H) (x : Superblock H) → ((u k : ℕ) → h.vouched r u k ≡ true → g.vouched r u k ≡ true)
        → SuperblockOk q g r slots x → SuperblockOk q h r slots x
    superblock_grow r slots x quiet y = record {
      knows = knows_grow x.log_view x.checkpoint x.commit x.head x.named y.knows;
      order = y.order;
      root = y.root ∙ first_log x.log_view x.checkpoint (let l = settled_len q hs g o x.log_view x.commit y.knows.begun y.knows.settled in let b = y.knows.low_commit in omega arith);
      retains = retains_grow q hs g h o t r x.log_view (Kept slots x.checkpoint) (Kept slots x.checkpoint) (λ k e p. p) (λ u k l. quiet u k) y.retains;
    }

    pub statement_grow : (r v : ℕ) (x : Statement H) → StatementOk q g r v x → StatementOk q h r v x
    statement_grow r v x y =
        let up = t.view r in
        let less = y.less in
        let reached = y.reached in
        record {
          less = y.less;
          reached = omega arith;
          knows = knows_grow x.log_view x.commit x.commit x.head (λ k. header (x.tags k)) y.knows;
          none_between = λ u k s l. elim (t.new r u k s) [ inl old ↦ y.none_between u k old l | inr late ↦ absurd (omega arith) ];
          retains = retains_grow q hs g h o t r x.log_view (Undenied x.tags x.commit) (Undenied x.tags x.commit) (λ k e p. p)
              (λ u k l s. elim (t.new r u k s) [ inl old ↦ old | inr late ↦ absurd (omega arith) ]) y.retains;
        }

    pub memory_grow : (r : ℕ) (slots : ℕ → Option H) (m : Memory H) → ((u k : ℕ) → h.vouched r u k ≡ true → g.vouched r u k ≡ true)
        → MemoryOk q g r slots m → MemoryOk q h r slots m
    memory_grow r slots m quiet y = record {
      knows = knows_grow m.log_view m.checkpoint m.commit m.head (λ k. header (m.parts k)) y.knows;
      order = y.order;
      root = y.root ∙ first_log m.log_view m.checkpoint (let l = settled_len q hs g o m.log_view m.commit y.knows.begun y.knows.settled in let b = y.knows.low_commit in omega arith);
      state = state_map g h m.log_view m.log_view m.checkpoint m.applied m.state
          (first_log m.log_view m.applied (let l = settled_len q hs g o m.log_view m.commit y.knows.begun y.knows.settled in let b = y.applied.1 in omega arith)) y.state;
      next = y.next;
      reach = y.reach;
      applied = y.applied;
      here = y.here;
      retains = retains_grow q hs g h o t r m.log_view (Held slots m.parts m.checkpoint) (Held slots m.parts m.checkpoint) (λ k e p. p) (λ u k l. quiet u k) y.retains;
    }

    pub means_grow : (m : Message H) → Means q g m → Means q h m
    means_grow (Prepare from v k e c) s = (known_grow g h t v k e s.0, settled_grow q g h t v c s.1, t.finished v s.2, s.3, t.vouched from v k s.4)
    means_grow (Prepare_ok from v k e) s = (known_grow g h t v k e s.0, t.vouched from v k s.1)
    means_grow (Commit from v c) s = settled_grow q g h t v c s
    means_grow (Start_view from v low head c headers) s =
        let b = t.base v s.0 in let n = t.length v in let x = s.1 in let y = s.2 in
        (t.finished v s.0, omega arith, omega arith, λ k e z. let m = s.3 k e z in let l = m.1 in (m.0, m.1, m.2 ∙ sym (t.log v k (omega arith))), s.4, settled_grow q g h t v c s.5, s.6)
    means_grow (Do_view_change from v x) s = statement_grow from v x s
    means_grow (Checkpoint from v p root) s =
        (t.finished v s.0, settled_grow q g h t v p s.1, s.2 ∙ first_log v p (settled_len q hs g o v p s.0 s.1))
    means_grow (Start_view_change from v) s = tt
    means_grow (Get_view from v) s = tt
    means_grow (Repair from) s = tt

    pub fact_grow : (m : Message H) → Fact q g m → Fact q h m
    fact_grow m s = (
      each_map (λ v. v ≤ g.view (sender m)) (λ v. v ≤ h.view (sender m)) (view_of m) (λ v _ l. let up = t.view (sender m) in omega arith) s.0,
      means_grow m s.1,
    )

    pub choice_grow : (sent : List (Message H)) (c : Choice H) → ChoiceOk q g sent c → ChoiceOk q h sent c
    choice_grow sent c x =
        let f = x.fits in
        let same : (k : ℕ) → k ≤ c.head → h.log c.log_view k ≡ g.log c.log_view k = λ k l. t.log c.log_view k (omega arith) in
        record {
          less = x.less;
          begun = t.finished c.log_view x.begun;
          fits = (let up = t.length c.log_view in omega arith);
          safe = safe_grow q hs g h o t c.view c.head (g.log c.log_view) (h.log c.log_view) same x.safe;
          of_log = λ k e a b n. x.of_log k e a b n ∙ sym (same k b);
          settled = settled_grow q g h t c.log_view c.commit x.settled;
          chosen = x.chosen;
          heard_from = x.heard_from;
          silent = λ i b d.
              let less = x.less in let p = x.silent i b d in let a = p.0 in let up = t.view i in
              (omega arith, λ z. elim (t.new i c.log_view (suc c.head) z) [ inl old ↦ p.1 old | inr late ↦ absurd (omega arith) ]);
        }

-- The laws follow from the invariant.
-- What is committed by what was sent is what is committed by the history, and the other way round.
use Rattle.law_1_machine.specs.Basics.{In}
use Rattle.law_1_machine.specs.Claims.{BegunBy, StateOk}
use Rattle.law_1_machine.specs.Group.{Group}
use Rattle.law_1_machine.specs.Headers.{Headers}
use Rattle.law_1_machine.specs.History.{Settled, CommittedUpTo, HasQuorum, History}
use Rattle.law_1_machine.specs.Invariant.{Invariant}
use Rattle.law_1_machine.specs.Laws.{Committed, at_root, stands_on, Backed, Agreement, Durability, CutByNacks, CommittedList, Shortening, States}
use Rattle.law_1_machine.specs.Machine.{Running}
use Rattle.law_1_machine.specs.Members.{Memory, Message, Choice, Prepare, Commit, Start_view, Do_view_change, Checkpoint, CommitNumber, in_prepare, in_commit, in_start_view, in_checkpoint, in_statement}
use Rattle.law_1_machine.specs.Parts.{entries, header}
use Rattle.law_1_machine.specs.Quorums.{Quorums}
use Rattle.std.proofs.Common.{ℕ, zero, suc, ◌≤◌, ◌<◌, ◌≡◌, inl, inr, arith, refl, sym, ap, ◌∙◌, true, Option, Some, subst}
use Rattle.std.proofs.lemmas.Bool.{cases_lt}
use Rattle.law_1_machine.proofs.Counting.{count_mono, member_of}
use Rattle.law_1_machine.proofs.Chains.{chain_top, committed_open, settled_le}
use Rattle.law_1_machine.proofs.Agreeing.{committed_later, committed_agree, one_committed, settled_log}
use Rattle.law_1_machine.proofs.Moves.{memory_of, vouched_of}

module _ {H : Type 0} (q : Quorums) (hs : Headers H) (g : History H) (s : Group H) (y : Invariant q hs g s) where
  committed_begun : (u k : ℕ) → 0 < k → CommittedUpTo q g u k → g.finished u ≡ true
  committed_begun u k z c =
      let v = (chain_top g.length (HasQuorum q g) u k z c).1 in
      let not_empty = q.not_empty in
      let m = member_of (λ r. g.vouched r u k) q.n (omega arith) in
      (y.history.vouch m.0 u k m.2).0

  -- what is committed by messages is committed by the history
  by_history : (u k : ℕ) (c : H) → Committed q hs s.sent u k c → CommittedUpTo q g u k × (c ≡ g.log u k)
  by_history _ _ _ at_root = (tt, sym (y.history.rooted 0))
  by_history _ _ _ (stands_on u v k c d le before f set enough each) =
      let not_empty = q.not_empty in
      let n = count_mono set (λ r. g.vouched r u (suc k)) q.n (λ i b t. (vouched_of q hs g s y i u (suc k) c (each i b t)).0) in
      let m = member_of set q.n (omega arith) in
      let known = (vouched_of q hs g s y m.0 u (suc k) c (each m.0 m.1 m.2)).1 in
      ((known.1, omega arith, (v, le, (by_history v k d before).0)), known.2)

  -- and the other way round
  by_messages : (k u : ℕ) → CommittedUpTo q g u k → (v : ℕ) × (v ≤ u) × Committed q hs s.sent v k (g.log u k)
  by_messages zero u c = (0, omega arith, subst (Committed q hs s.sent 0 0) (sym (y.history.rooted u)) at_root)
  by_messages (suc k) u c =
      let finished = committed_begun u (suc k) (omega arith) c in
      let rest = c.2 in
      let le = rest.1 in
      let before = by_messages k rest.0 rest.2 in
      let le' = before.1 in
      let same : g.log u k ≡ g.log rest.0 k = (elim (cases_lt 0 k) [
        | inl z ↦ (committed_agree q hs g y.history u rest.0 k finished le z rest.2).1
        | inr z ↦ (let e : k ≡ 0 = omega arith in rw (e, y.history.rooted u, y.history.rooted rest.0) refl)
      ]) in (
        u,
        omega arith,
        stands_on u before.0 k (g.log u (suc k)) (g.log rest.0 k) (omega arith) before.2
            (subst (λ x. hs.follows x (g.log u (suc k)) ≡ true) same (y.history.chained u k finished c.0))
            (λ r. g.vouched r u (suc k)) c.1 (λ i b t. y.spoken i u (suc k) t),
      )

  safe_one : (k u v : ℕ) (a b : H) → Committed q hs s.sent u k a → Committed q hs s.sent v k b → a ≡ b
  safe_one k u v a b p r =
      let ca = by_history u k a p in
      let cb = by_history v k b r in
      elim (cases_lt 0 k) [
        | inl z ↦ ca.1 ∙ (one_committed q hs g y.history u v k (committed_begun u k z ca.0) (committed_begun v k z cb.0) z ca.0 cb.0 ∙ sym cb.1)
        | inr z ↦ (let e : k ≡ 0 = omega arith in rw (ca.1, cb.1, e, y.history.rooted u, y.history.rooted v) refl)
      ]

  -- a log is committed as far as its view's commit numbers go
  pub log_backed : (w c k : ℕ) → g.finished w ≡ true → Settled q g w c → 0 < k → k ≤ c → Backed q hs s.sent w k (g.log w k)
  log_backed w c k f settled z l =
      let d = settled_log q hs g y.history w c k f settled z l in
      let b = by_messages k d.0 d.2 in
      let x = d.1 in let v = b.1 in
      (b.0, omega arith, subst (Committed q hs s.sent b.0 k) (sym d.3) b.2)

  backed_to : (w c k : ℕ) → Settled q g w c → k ≤ c → (x : H) × Backed q hs s.sent w k x
  backed_to w c k settled l =
      let d = settled_le q g w w c k (omega arith) l settled in
      let b = by_messages k d.0 d.2 in
      let x = d.1 in let v = b.1 in
      (g.log d.0 k, (b.0, omega arith, b.2))

  safe_known : (r : ℕ) (m : Memory H) (k : ℕ) (x : H) → Running q hs s r m → k ≤ m.commit → header (m.parts k) ≡ Some x → Backed q hs s.sent m.log_view k x
  safe_known r m k x runs l e =
      let ok = (memory_of q hs g s y r m runs).1 in
      let of_log = ok.knows.of_log k x e in
      let p = log_backed m.log_view m.commit k ok.knows.begun ok.knows.settled of_log.0 l in
      (p.0, p.1, subst (Committed q hs s.sent p.0 k) (sym of_log.2) p.2)

  safe_told : (m : Message H) (v c k : ℕ) → CommitNumber m v c → In m s.sent → k ≤ c → (x : H) × Backed q hs s.sent v k x
  safe_told _ _ _ k (in_prepare from v j e c) i l = backed_to v c k (y.facts (Prepare from v j e c) i).1.1 l
  safe_told _ _ _ k (in_commit from v c) i l = backed_to v c k (y.facts (Commit from v c) i).1 l
  safe_told _ _ _ k (in_start_view from v low head c headers) i l = backed_to v c k (y.facts (Start_view from v low head c headers) i).1.5 l
  safe_told _ _ _ k (in_checkpoint from v p root) i l = backed_to v p k (y.facts (Checkpoint from v p root) i).1.1 l
  safe_told _ _ _ k (in_statement from v t) i l = backed_to t.log_view t.commit k (y.facts (Do_view_change from v t) i).1.knows.settled l

  pub agreement : Agreement q hs s
  agreement = record {
    one = safe_one;
    told = safe_told;
    chosen = λ c k i l. backed_to c.log_view c.commit k (y.choices c i).settled l;
    known = safe_known;
  }

  -- ---- durability

  module _ (u k : ℕ) (a : H) (z : 0 < k) (p : Committed q hs s.sent u k a) where
    done : CommittedUpTo q g u k × (a ≡ g.log u k)
    done = by_history u k a p

    safe_chosen : (c : Choice H) → In c s.chosen → u < c.view → (k ≤ c.head) × (c.commit < k → c.log k ≡ Some a)
    safe_chosen c i less =
        let f = y.choices c i in
        let later = f.safe.kept u k less z (committed_open q g u k done.0) in
        let within : k ≤ c.head = later.0 in (
          within,
          λ above.
              let e = f.chosen.whole k above within in
              e.1 ∙ ap Some (f.of_log k e.0 above within e.1 ∙ (later.1 ∙ sym done.1)),
        )

    safe_prepared : (from v : ℕ) (x : H) (c : ℕ) → In (Prepare from v k x c) s.sent → u ≤ v → x ≡ a
    safe_prepared from v x c i le =
        let f = (y.facts (Prepare from v k x c) i).1 in
        f.0.2 ∙ ((committed_agree q hs g y.history v u k f.2 le z done.0).1 ∙ sym done.1)

    safe_started : (from v low head c : ℕ) (headers : ℕ → Option H) → In (Start_view from v low head c headers) s.sent → u < v → (k ≤ head) × (low < k → headers k ≡ Some a)
    safe_started from v low head c headers i less =
        let f = (y.facts (Start_view from v low head c headers) i).1 in
        let later = committed_later q hs g y.history v u k f.0 less z done.0 in
        let b = later.0 in let base = f.1 in
        let within : k ≤ head = omega arith in (
          within,
          λ above. let e = f.4 k above within in e.1 ∙ ap Some ((f.3 k e.0 e.1).2 ∙ (later.1 ∙ sym done.1)),
        )

    pub durability : Durability q hs s u k a
    durability = record { chosen = safe_chosen; prepared = safe_prepared; started = safe_started }

  -- ---- what a choice leaves out, and what a state comes from

  pub cut_by_nacks : (c : Choice H) → In c s.chosen → CutByNacks q hs s c
  cut_by_nacks c i =
      let f = y.choices c i in
      record {
        earlier = f.less;
        chosen = f.chosen;
        heard_from = f.heard_from;
        silent = λ j b d e vouch. (f.silent j b d).1 (vouched_of q hs g s y j c.log_view (suc c.head) e vouch).0;
      }

  -- what knows the log of a view agrees with the choice that began it
  as_chosen : (w : ℕ) (c : Choice H) → BegunBy g s.chosen w c → (k : ℕ) (h : H) → c.commit < k → k ≤ c.head → h ≡ g.log w k → Some h ≡ c.log k
  as_chosen w c b k h above within of =
      let f = y.choices c b.made in
      let e = f.chosen.whole k above within in
      ap Some (of ∙ (b.log k within ∙ sym (f.of_log k e.0 above within e.1))) ∙ sym e.1

  pub shortening : Shortening q hs s
  shortening = record {
    cut = cut_by_nacks;
    started = λ from v low head d headers i z.
        let f = (y.facts (Start_view from v low head d headers) i).1 in
        let p = y.begun_by v z f.0 in
        let b = p.1 in let base = b.base in let past = f.1 in (
          p.0,
          b.made,
          b.view,
          omega arith,
          λ k above within over. let e = f.4 k over (omega arith) in e.1 ∙ as_chosen v p.0 b k e.0 above within (f.3 k e.0 e.1).2,
        );
    known = λ r m runs z.
        let d = (memory_of q hs g s y r m runs).1.knows in
        let p = y.begun_by m.log_view z d.begun in
        let b = p.1 in let base = b.base in let past = d.past_base in (
          p.0,
          b.made,
          b.view,
          omega arith,
          λ k above within over. let e = d.whole k over (omega arith) in e.1 ∙ as_chosen m.log_view p.0 b k e.0 above within (d.of_log k e.0 e.1).2,
        );
  }

  committed_list : (w c n : ℕ) → g.finished w ≡ true → Settled q g w c → n ≤ c → CommittedList q hs s.sent w n (entries (g.log w) n)
  committed_list w c n f settled l = (g.log w, refl, λ k z b. log_backed w c k f settled z (omega arith))

  pub states : States q hs s
  states = record {
    applied = λ r m l runs is.
        let ok = (memory_of q hs g s y r m runs).1 in
        let from : l ≡ entries (g.log m.log_view) m.applied = subst (StateOk g m.log_view m.checkpoint m.applied) is ok.state in
        subst (CommittedList q hs s.sent m.log_view m.applied) (sym from) (committed_list m.log_view m.commit m.applied ok.knows.begun ok.knows.settled ok.applied.1);
    offered = λ from v p root i.
        let f = (y.facts (Checkpoint from v p root) i).1 in
        subst (CommittedList q hs s.sent v p) (sym f.2) (committed_list v p p f.0 f.1 (omega arith));
  }

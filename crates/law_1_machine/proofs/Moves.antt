-- Each move keeps the invariant, with a history that the move gives; so each run does.
use Rattle.law_1_machine.specs.Claims.{Fact, MemoryOk}
use Rattle.law_1_machine.specs.Group.{Group, Vouches, made_at}
use Rattle.law_1_machine.specs.Headers.{Headers}
use Rattle.law_1_machine.specs.History.{History, HistoryOk, InLog, finish, make, saved, vouch}
use Rattle.law_1_machine.specs.Invariant.{Ahead, Invariant, Tied}
use Rattle.law_1_machine.specs.Machine.{loads, changes_view, asks_view, repairs, MayWrite, Reached, Remember, Running, Save, Say, Step, accepts, and_then, applies, at_first, chooses, chooses_cut, checkpoints, commits, opens_last, enters, forgets, hears, jumps, is_known, learns, loses, makes, opens_cut, was_made, prepares, remembers, writes_header, saves, saves_cut, says, starts, starts_view, states, stops, takes_over, tallies, tells_root, was_prepared, begins_write, ends_write}
use Rattle.law_1_machine.specs.Members.{Checkpoint, Commit, Memory, Message, Prepare, Prepare_ok, Start_view, superblock}
use Rattle.law_1_machine.specs.Opening.{opened}
use Rattle.law_1_machine.specs.Quorums.{Quorums}
use Rattle.std.proofs.Common.{ap, ℕ, suc, ◌≤◌, ◌≡◌, inl, inr, arith, refl, sym, ◌∙◌, true, false, eqb, ◌∷◌, Option, subst}
use Rattle.std.proofs.lemmas.Bool.{cases_lt, cases_Bool, eqb-true, eqb-false}
use Rattle.law_1_machine.proofs.Counting.{count_mono, each_at}
use Rattle.law_1_machine.proofs.Chains.{settled_le, settled_none}
use Rattle.law_1_machine.proofs.Agreeing.{settled_len}
use Rattle.law_1_machine.proofs.Growing.{settled_grow}
use Rattle.law_1_machine.proofs.Lasting.{statement_ok}
use Rattle.law_1_machine.proofs.Disks.{write_good, wrote_good, write_stopped, stop_good, forget_under, cut_good}
use Rattle.law_1_machine.proofs.Saving.{save_good, mend_good, make_good}
use Rattle.law_1_machine.proofs.Memories.{lose_ok, commit_ok, apply_ok, load_ok, checkpoint_ok, forget_ok, enter_ok, remember, say_good, vouch_good, grows}
use Rattle.law_1_machine.proofs.Taking.{take_ok}
use Rattle.law_1_machine.proofs.Jumping.{jump_ok}
use Rattle.law_1_machine.proofs.Openings.{start_good}
use Rattle.law_1_machine.proofs.Beginning.{begin_good, begin_cut}

module _ {H : Type 0} (q : Quorums) (hs : Headers H) (g : History H) (s : Group H) (y : Invariant q hs g s) where
  pub memory_of : (r : ℕ) (m : Memory H) → Running q hs s r m → Tied (s.members r).last m × MemoryOk q g r (s.members r).slots m
  memory_of r m runs = each_at (λ x. Tied (s.members r).last x × MemoryOk q g r (s.members r).slots x) (s.members r).memory m runs (y.members r).memory

  pub vouched_of : (i u k : ℕ) (x : H) → Vouches q s.sent i u k x → (g.vouched i u k ≡ true) × InLog g u k x
  vouched_of i u k x (inl a) = let f = (y.facts (Prepare_ok i u k x) a).1 in (f.1, f.0)
  vouched_of i u k x (inr p) = let c = p.1 in let f = (y.facts (Prepare i u k x c.0) c.1).1 in (f.4, f.0)

  -- what a member knows reaches no further than the log
  pub head_in_log : (r : ℕ) (slots : ℕ → Option H) (m : Memory H) → MemoryOk q g r slots m → m.head ≤ g.length m.log_view
  head_in_log r slots m ok =
      let d = ok.knows in
      elim (cases_lt m.checkpoint m.head) [
        | inl l ↦ (let w = d.whole m.head l (omega arith) in (d.of_log m.head w.0 w.1).1)
        | inr l ↦ (let a = d.low_commit in let b = d.commit_head in
            let c = settled_len q hs g y.history m.log_view m.commit d.begun d.settled in omega arith)
      ]

  pub source_known : (r : ℕ) (slots : ℕ → Option H) (m : Memory H) (k : ℕ) (e : H) → MemoryOk q g r slots m → MayWrite q hs s m k e → InLog g m.log_view k e
  source_known r slots m k e ok (is_known h) = ok.knows.of_log k e h
  source_known r slots m k e ok (was_prepared from c i) = (y.facts (Prepare from m.log_view k e c) i).1.0
  source_known r slots m k e ok (was_made i) = (y.made (made_at m.log_view k e) i).2

  recall_ok : (r : ℕ) (m m' : Memory H) → Running q hs s r m → Remember q hs s m m' → Tied (s.members r).last m' × MemoryOk q g r (s.members r).slots m'
  recall_ok r m _ runs (loses k x e) = let p = memory_of r m runs in let t = p.0 in
      (record { view = t.view; log_view = t.log_view; checkpoint = t.checkpoint }, lose_ok q g r (s.members r).slots m p.1 k x e)
  recall_ok r m _ runs (learns from v c d i a b l) = let p = memory_of r m runs in let t = p.0 in (
    record { view = t.view; log_view = t.log_view; checkpoint = t.checkpoint },
    commit_ok q g r (s.members r).slots m p.1 c b l (settled_le q g m.log_view m.log_view d c (omega arith) a (y.facts (Commit from m.log_view d) i).1),
  )
  recall_ok r m _ runs (hears from k d c x i a b l) = let p = memory_of r m runs in let t = p.0 in (
    record { view = t.view; log_view = t.log_view; checkpoint = t.checkpoint },
    commit_ok q g r (s.members r).slots m p.1 c b l (settled_le q g m.log_view m.log_view d c (omega arith) a (y.facts (Prepare from m.log_view k x d) i).1.1),
  )
  recall_ok r m _ runs (tallies set enough each l) = let p = memory_of r m runs in let t = p.0 in (
    record { view = t.view; log_view = t.log_view; checkpoint = t.checkpoint },
    commit_ok q g r (s.members r).slots m p.1 (suc m.commit) (omega arith) l
        (let top = head_in_log r (s.members r).slots m p.1 in
        let n = count_mono set (λ i. g.vouched i m.log_view (suc m.commit)) q.n (λ i b x. let v = each i b x in (vouched_of i m.log_view (suc m.commit) v.0 v.1).0) in
        (m.log_view, omega arith, (omega arith, omega arith, p.1.knows.settled))),
  )
  recall_ok r m _ runs (applies x l is a b e) = let p = memory_of r m runs in let t = p.0 in
      (record { view = t.view; log_view = t.log_view; checkpoint = t.checkpoint }, apply_ok q g r (s.members r).slots m p.1 x l is a b e)
  recall_ok r m _ runs (loads none) = let p = memory_of r m runs in let t = p.0 in
      (record { view = t.view; log_view = t.log_view; checkpoint = t.checkpoint }, load_ok q g r (s.members r).slots m p.1 none)
  recall_ok r m _ runs (forgets parts a b) = let p = memory_of r m runs in let t = p.0 in
      (record { view = t.view; log_view = t.log_view; checkpoint = t.checkpoint }, forget_ok q g r (s.members r).slots m p.1 parts a b)

  pub next_ok : (r : ℕ) (m m' : Memory H) → Running q hs s r m → Save q hs s m m' → ((named : ℕ → Option H) → Ahead (s.members r).last (superblock m' named)) × MemoryOk q g r (s.members r).slots m'
  next_ok r m _ runs (enters v up) = let p = memory_of r m runs in let t = p.0 in let a = t.view in let b = t.log_view in let c = t.checkpoint in
      (λ named. record { view = omega arith; log_view = omega arith; checkpoint = omega arith }, enter_ok q g r (s.members r).slots m p.1 v up)
  next_ok r m _ runs (checkpoints z l is most e) = let p = memory_of r m runs in let t = p.0 in let a = t.view in let b = t.log_view in let c = t.checkpoint in
      (λ named. record { view = omega arith; log_view = omega arith; checkpoint = omega arith }, checkpoint_ok q g r (s.members r).slots m p.1 z l is most e)
  next_ok r m _ runs (takes_over from v low head c headers parts far n i t) =
      let p = memory_of r m runs in
      let x = p.0.view in let z = p.0.log_view in let w = p.0.checkpoint in let up = t.view in let order = p.1.order in
      let f = (y.facts (Start_view from v low head c headers) i).1 in (
        λ named. record { view = omega arith; log_view = omega arith; checkpoint = omega arith },
        take_ok q hs g y.history r (s.members r).slots m p.1 ((y.members r).marked.log_view ∙ sym p.0.log_view) v low head c headers
            (record { begun = f.0; past_base = f.1; fits = f.2; of_log = λ k h e. (f.3 k h e).2; whole = f.4; settled = f.5; commit_head = f.6 })
            parts far n t,
      )
  next_ok r m _ runs (jumps from v low head c p headers parts far n i from' rt j t) =
      let mem = memory_of r m runs in
      let x = mem.0.view in let z = mem.0.log_view in let w = mem.0.checkpoint in let up = t.view in let order = mem.1.order in
      let past = t.past in let later = past.2 in
      let f = (y.facts (Start_view from v low head c headers) i).1 in (
        λ named. record { view = omega arith; log_view = omega arith; checkpoint = omega arith },
        jump_ok q hs g y.history r (s.members r).slots m mem.1 ((y.members r).marked.log_view ∙ sym mem.0.log_view) ((y.members r).marked.checkpoint ∙ sym mem.0.checkpoint) v low head c p headers
            (record { begun = f.0; past_base = f.1; fits = f.2; of_log = λ k h e. (f.3 k h e).2; whole = f.4; settled = f.5; commit_head = f.6 })
            parts far n t rt (y.facts (Checkpoint from' v p rt) j).1.2,
      )

  say_fact : (r : ℕ) (m : Memory H) (x : Message H) → Running q hs s r m → Say q hs r m x → Fact q g x
  say_fact r m _ runs (commits c at l) =
      let p = memory_of r m runs in let a = p.0.view in let b = (y.members r).marked.view in
      (omega arith, settled_le q g m.log_view m.log_view m.commit c (omega arith) l p.1.knows.settled)
  say_fact r m _ runs (starts_view low c headers at l of_log whole) =
      let p = memory_of r m runs in let a = p.0.view in let b = (y.members r).marked.view in
      let d = p.1.knows in let ch = d.commit_head in (
        omega arith,
        (
          d.begun,
          d.past_base,
          head_in_log r (s.members r).slots m p.1,
          λ k h e. (let z = of_log k h e in (z.0, z.1, (d.of_log k h z.2).2)),
          whole,
          settled_le q g m.log_view m.log_view m.commit c (omega arith) l d.settled,
          omega arith,
        ),
      )
  say_fact r m _ runs (tells_root at) =
      let p = memory_of r m runs in let a = p.0.view in let b = (y.members r).marked.view in
      let d = p.1.knows in
      (omega arith, (d.begun, settled_le q g m.log_view m.log_view m.commit m.checkpoint (omega arith) d.low_commit d.settled, p.1.root))
  say_fact r m _ runs (states tags lower tells) =
      let p = memory_of r m runs in let a = p.0.view in let b = (y.members r).marked.view in
      (omega arith, statement_ok q hs g r m.view (s.members r).slots m tags tells y.history p.1 ((y.members r).marked.view ∙ sym p.0.view) ((y.members r).marked.log_view ∙ sym p.0.log_view) refl lower)
  say_fact r m _ runs changes_view =
      let p = memory_of r m runs in let a = p.0.view in let b = (y.members r).marked.view in (omega arith, tt)
  say_fact r m _ runs (asks_view v) = (tt, tt)
  say_fact r m _ runs repairs = (tt, tt)

  vouched_here : (r v k : ℕ) → (vouch g r v k).vouched r v k ≡ true
  vouched_here r v k =
      elim (cases_Bool (g.vouched r v k)) [
        | inl a ↦ rw a refl
        | inr a ↦ rw (a, eqb_self r, eqb_self v, eqb_self k) refl
      ]
    where
      eqb_self : (n : ℕ) → eqb n n ≡ true
      eqb_self n = elim (cases_Bool (eqb n n)) [ inl a ↦ a | inr a ↦ absurd (eqb-false n n a refl) ]

  pub step_good : (s' : Group H) → Step q hs s s' → (h : History H) × Invariant q hs h s'
  step_good _ (remembers r m m' runs move) = let p = recall_ok r m m' runs move in (g, remember q hs g s y r m m' runs p.0 p.1)
  step_good _ (saves r m m' named runs move names) = let p = next_ok r m m' runs move in (saved g r m'.view m'.log_view m'.checkpoint, save_good q hs g s y r m' named names p.1 (p.0 named))
  step_good _ (saves_cut r m m' named runs move names) = let p = next_ok r m m' runs move in (g, cut_good q hs g s y r m' named names p.1 (p.0 named))
  step_good _ (chooses r m parts c n named runs b names) =
      (saved (finish g m.view b.log_view b.head) r m.view m.view m.checkpoint, begin_good q hs g s y r m runs parts c n b named names)
  step_good _ (chooses_cut r m parts c n named runs b names) = (g, begin_cut q hs g s y r m runs parts c n b named names)
  step_good _ (makes r m e runs at leads number made on new) =
      let p = memory_of r m runs in
      let d = p.1.knows in
      let v = m.log_view in
      let most = head_in_log r (s.members r).slots m p.1 in
      let past_base = d.past_base in
      let length : g.length v ≡ m.head = (elim (cases_lt m.head (g.length v)) [
        | inl l ↦ absurd (new (g.log v (suc m.head)) (y.made_all v (suc m.head) d.begun (omega arith) l))
        | inr l ↦ omega arith
      ]) in
      let follows : hs.follows (g.log v m.head) e ≡ true = (elim on [
        | inl a ↦ subst (λ i. hs.follows (g.log v i) e ≡ true) (sym a.0) (subst (λ z. hs.follows z e ≡ true) (sym (y.history.rooted v)) a.1)
        | inr a ↦ subst (λ z. hs.follows z e ≡ true) (d.of_log m.head a.0 a.1).2 a.2
      ]) in (
        make g v e,
        subst (λ i. Invariant q hs (make g v e) (record s { made = made_at v (suc i) e ∷ s.made })) length
            (make_good q hs g s y r v e d.begun (rw length number) made (rw length follows)),
      )
  step_good _ (begins_write r m k e o runs source lo hi not_here drop keep) =
      let p = memory_of r m runs in
      (g, write_good q hs g s y r m k e o runs lo hi (source_known r (s.members r).slots m k e p.1 source) not_here drop keep)
  step_good _ (ends_write r m k e n runs source lo hi reach up) =
      let p = memory_of r m runs in
      (g, wrote_good q hs g s y r m k e n runs lo hi (source_known r (s.members r).slots m k e p.1 source) up reach.window reach.whole reach.next)
  step_good _ (stops r) = (g, stop_good q hs g s y r)
  step_good _ (opens_last r) = (g, forget_under q hs g s y r)
  step_good _ (opens_cut r x e) = mend_good q hs g s y r x e
  step_good _ (writes_header r k e o stopped clean lo hi source drop keep) =
      let mo = y.members r in (
        g,
        write_stopped q hs g s y r k e o stopped clean lo hi
            (elim source [ inl a ↦ mo.last.knows.of_log k e a | inr a ↦ (y.made (made_at (s.members r).last.log_view k e) a).2 ]) drop keep,
      )
  step_good _ (starts r parts slots n stopped clean sound opened reach) = (g, start_good q hs g s y r parts slots n sound opened reach clean)
  step_good _ (accepts r m k x runs b) =
      let h = vouch g r m.log_view k in
      let p = memory_of r m runs in
      let a = p.0.view in let c = (y.members r).marked.view in let e = b.at in
      let of_log = p.1.knows.of_log k x b.known in (
        h,
        vouch_good q hs g s y r m k x runs b.at of_log b.held (Prepare_ok r m.log_view k x) (omega arith, (of_log, vouched_here r m.log_view k))
            (inl (inl (ap (λ z. Prepare_ok r m.log_view k z) (sym of_log.2)))),
      )
  step_good _ (prepares r m k x c runs b leads l) =
      let h = vouch g r m.log_view k in
      let p = memory_of r m runs in
      let a = p.0.view in let d = (y.members r).marked.view in let e = b.at in
      let of_log = p.1.knows.of_log k x b.known in
      let settled = settled_le q g m.log_view m.log_view m.commit c (omega arith) l p.1.knows.settled in (
        h,
        vouch_good q hs g s y r m k x runs b.at of_log b.held (Prepare r m.log_view k x c)
            (omega arith, (of_log, settled_grow q g h (grows q hs g s y r m k x runs b.at of_log b.held) m.log_view c settled, p.1.knows.begun, leads, vouched_here r m.log_view k))
            (inr (leads, (c, inl (ap (λ z. Prepare r m.log_view k z c) (sym of_log.2))))),
      )
  step_good _ (says r m x runs b) = (g, say_good q hs g s y x (say_fact r m x runs b))

-- ---- the beginning

module _ {H : Type 0} (q : Quorums) (hs : Headers H) where
  abbrev beginning_history : History H
  beginning_history = record {
    finished = λ w. eqb w 0;
    base = λ w. 0;
    length = λ w. 0;
    log = λ w k. hs.root;
    vouched = λ r u k. false;
    view = λ r. 0;
    log_view = λ r. 0;
    checkpoint = λ r. 0;
  }

  first_ok : HistoryOk q hs beginning_history
  first_ok = record {
    first = (refl, refl);
    based = λ w f. omega arith;
    rooted = λ w. refl;
    number = λ w k f l. (let e : k ≡ 0 = omega arith in hs.root_number ∙ sym e);
    chained = λ w k f l. absurd (omega arith);
    made_in = λ w k f a b. absurd (omega arith);
    made_before = λ w k f a b. absurd (omega arith);
    not_begun = λ w f. refl;
    vouch = λ r u k v. absurd cc;
    order = λ r. omega arith;
    safe = λ w f. (let e = eqb-true w 0 f in record { few = λ u l. absurd (omega arith); kept = λ u k l z o. absurd (omega arith) });
  }

  pub reached_good : (s : Group H) → Reached q hs s → (g : History H) × Invariant q hs g s
  reached_good _ at_first = (
    beginning_history,
    record {
      history = first_ok;
      led = λ w f. (let e = eqb-true w 0 f in omega arith);
      members = λ r. record {
        marked = record { view = refl; log_view = refl; checkpoint = refl };
        last = record {
          knows = record { begun = refl; past_base = omega arith; of_log = λ k h e. absurd cc; whole = λ k a b. absurd (omega arith); low_commit = omega arith; commit_head = omega arith; window = omega arith; settled = settled_none q beginning_history 0 };
          order = omega arith;
          root = refl;
          retains = λ u k v. absurd cc;
        };
        slots = λ i h e. absurd cc;
        under = tt;
        memory = tt;
      };
      made = λ x i. elim i [ ];
      spoken = λ r u k v. absurd cc;
      made_all = λ w k f a b. absurd (omega arith);
      facts = λ m i. elim i [ ];
      begun_by = λ w z f. (let e = eqb-true w 0 f in absurd (omega arith));
      choices = λ c i. elim i [ ];
    },
  )
  reached_good _ (and_then s s' before step) = let b = reached_good s before in step_good q hs b.0 s b.1 s' step

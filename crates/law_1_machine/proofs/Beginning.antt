-- A view begins with the log that its primary chose.
-- What was heard is true, so the choice gives a log with which the view may begin; the primary takes it in the history in which the view
-- has begun, and its superblock value is that of the new view whether its saving is finished or cut.
use Rattle.std.proofs.Common.{ℕ, ◌%◌, ◌≤◌, ◌≡◌, inl, inr, arith, refl, sym, ◌∙◌, true, false, Option, Some, None, subst}
use Rattle.std.proofs.lemmas.Bool.{cases_Bool}
use Rattle.law_1_machine.specs.Quorums.{Quorums}
use Rattle.law_1_machine.specs.Headers.{Headers}
use Rattle.law_1_machine.specs.History.{History, finish, saved}
use Rattle.law_1_machine.specs.Parts.{Part}
use Rattle.law_1_machine.specs.Members.{Memory, Choice, Do_view_change, Names, statement, superblock}
use Rattle.law_1_machine.specs.Group.{Group, becomes, decides}
use Rattle.law_1_machine.specs.Taking.{taken}
use Rattle.law_1_machine.specs.Machine.{Chooses, made_choice}
use Rattle.law_1_machine.specs.Claims.{StatementOk, MemoryOk, Candidate, Offered, AllTrue, MayBegin, ChoiceOk}
use Rattle.law_1_machine.specs.Invariant.{Ahead, Tied, Invariant}
use Rattle.law_1_machine.proofs.Counting.{here, each_at}
use Rattle.law_1_machine.proofs.Chains.{settled_le}
use Rattle.law_1_machine.proofs.Growing.{settled_grow}
use Rattle.law_1_machine.proofs.Lasting.{memory_grow, statement_ok}
use Rattle.law_1_machine.proofs.Histories.{finish_grow, finish_ok}
use Rattle.law_1_machine.proofs.Choice.{choice, choice_silent}
use Rattle.law_1_machine.proofs.Disks.{cut_choice}
use Rattle.law_1_machine.proofs.Saving.{choose_good}
use Rattle.law_1_machine.proofs.Memories.{decide_good}
use Rattle.law_1_machine.proofs.Taking.{take_ok}

module _ {H : Type 0} (q : Quorums) (hs : Headers H) (g : History H) (s : Group H) (y : Invariant q hs g s) (r : ℕ) (m : Memory H) (runs : (s.members r).memory ≡ Some m)
    (parts : ℕ → Part H) (commit n : ℕ) (b : Chooses q hs s r m parts commit n) where
  mem : Tied (s.members r).last m × MemoryOk q g r (s.members r).slots m
  mem = each_at (λ x. Tied (s.members r).last x × MemoryOk q g r (s.members r).slots x) (s.members r).memory m runs (y.members r).memory

  view_at : g.view r ≡ m.view
  view_at = (y.members r).marked.view ∙ sym mem.0.view

  log_view_at : g.log_view r ≡ m.log_view
  log_view_at = (y.members r).marked.log_view ∙ sym mem.0.log_view

  -- the statements heard were sent, but for one's own
  all_true : AllTrue q g m.view b.heard
  all_true i t e =
      elim (b.heard_from i t e) [
        | inl a ↦ (y.facts (Do_view_change i m.view t) a).1
        | inr a ↦ (let told = a.1 in
            subst (λ z. StatementOk q g i m.view z) (sym told.2) (subst (λ j. StatementOk q g j m.view (statement m told.0)) (sym a.0)
            (statement_ok q hs g r m.view (s.members r).slots m told.0 told.1 y.history mem.1 view_at log_view_at refl b.lower)))
      ]

  may_begin : MayBegin q g b.heard m.view b.log_view b.commit b.head b.log
  may_begin = choice q hs g y.history m.view b.log_view b.commit b.head b.heard b.log all_true b.choice

  abbrev made : Choice H
  made = made_choice q hs s r m parts commit n b

  choice_ok : ChoiceOk q g s.sent made
  choice_ok = record {
    less = may_begin.less;
    begun = may_begin.begun;
    fits = may_begin.fits;
    safe = may_begin.safe;
    of_log = may_begin.of_log;
    settled = may_begin.settled;
    chosen = b.choice;
    heard_from = λ i t e. elim (b.heard_from i t e) [ inl a ↦ inl a | inr a ↦ inr a.0 ];
    silent = λ i l d.
        let t = b.choice.deny i l d in
        ((all_true i t.0 t.1).reached, choice_silent q hs g y.history m.view b.log_view b.commit b.head b.heard b.log all_true b.choice i l d);
  }

  -- the choice is made, and nothing else has changed
  decided : Invariant q hs g (decides s made)
  decided = decide_good q hs g s y made choice_ok

  not_begun : g.finished m.view ≡ false
  not_begun =
      elim (cases_Bool (g.finished m.view)) [
        | inr f ↦ f
        | inl f ↦ (let l : m.view ≤ g.log_view (m.view % q.n) = y.led m.view f in
            let l' : m.view ≤ g.log_view r = subst (λ i. m.view ≤ g.log_view i) (sym b.leads) l in
            let a = log_view_at in let lower = b.lower in absurd (omega arith))
      ]

  candidate : Candidate q g m.view b.log_view b.head
  candidate = record { new = not_begun; less = may_begin.less; begun = may_begin.begun; fits = may_begin.fits; safe = may_begin.safe }

  -- the history in which the view has begun
  abbrev begun : History H
  begun = finish g m.view b.log_view b.head

  offered : Offered q begun m.view b.low b.head b.commit b.headers
  offered = record {
    begun = here g.finished m.view true;
    past_base = (let e = here g.base m.view b.head in omega arith);
    fits = (let e = here g.length m.view b.head in omega arith);
    of_log = λ k h x. let p = b.source k h x in
        subst (λ (l : ℕ → H). h ≡ l k) (sym (here g.log m.view (g.log b.log_view)))
        (elim p.2 [ inl a ↦ may_begin.of_log k h a.1 p.1 a.0 | inr a ↦ may_begin.low a.0 a.1 k h a.2 a.3 a.4 ]);
    whole = b.whole;
    settled = settled_grow q g begun (finish_grow q hs g y.history m.view b.log_view b.head candidate) m.view b.commit
        (settled_le q g b.log_view m.view b.commit b.commit (let l = may_begin.less in omega arith) (omega arith) may_begin.settled);
    commit_head = b.choice.ahead;
  }

  begun_ok : MemoryOk q begun r (s.members r).slots (taken m m.view parts commit n)
  begun_ok =
      let grow = finish_grow q hs g y.history m.view b.log_view b.head candidate in
      take_ok q hs begun (finish_ok q hs g y.history m.view b.log_view b.head candidate) r (s.members r).slots m
      (memory_grow q hs g begun y.history grow r (s.members r).slots m (λ u k x. x) mem.1)
      log_view_at m.view b.low b.head b.commit b.headers offered parts commit n b.takes

  ahead : (named : ℕ → Option H) → Ahead (s.members r).last (superblock (taken m m.view parts commit n) named)
  ahead named =
      let a = mem.0 in let v = a.view in let d = a.log_view in let f = a.checkpoint in let lower = b.lower in
      record { view = omega arith; log_view = omega arith; checkpoint = omega arith }

  pub begin_good : (named : ℕ → Option H) → Names (taken m m.view parts commit n) named
      → Invariant q hs (saved begun r m.view m.view m.checkpoint)
      (decides (becomes s r (record (s.members r) { last = superblock (taken m m.view parts commit n) named; under = None; memory = Some (taken m m.view parts commit n) })) made)
  begin_good named names =
      choose_good q hs g (decides s made) decided r (taken m m.view parts commit n) named names made (inl refl) refl candidate b.leads begun_ok (ahead named)

  pub begin_cut : (named : ℕ → Option H) → Names (taken m m.view parts commit n) named
      → Invariant q hs g (decides (becomes s r (record (s.members r) { under = Some (superblock (taken m m.view parts commit n) named); memory = None })) made)
  begin_cut named names =
      cut_choice q hs g (decides s made) decided r (taken m m.view parts commit n) named names made (inl refl) refl candidate b.leads refl begun_ok (ahead named)

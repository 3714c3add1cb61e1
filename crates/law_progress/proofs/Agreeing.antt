-- The statements that a replica has are of one log a view.
use Rattle.std.proofs.Common.{arith, ℕ, suc, ◌+◌, ◌-◌, ◌<◌, ◌≤◌, ◌≡◌, ◌∙◌, inl, inr, refl, sym, ap, subst, true, false, cond, ◌==◌, eqb, List, [], ◌∷◌, length, get_or, Option, Some, None}
use Rattle.std.specs.Prelude.{All, Contains, filter_map, slice_get, slice_index_or}
use Rattle.std.specs.Cmp.Derive.{both_true}
use Rattle.std.specs.Option.{option_map_or}
use Rattle.std.specs.List.{cons_option, range_with_len}
use Rattle.std.proofs.lemmas.Bool.{cases_eq, cases_lt, eq-eqb, eqb-true, lt-leb, true≢false}
use Rattle.std.proofs.lemmas.List.Elements.{All-cons, All-contains, All-head, All-nil, All-tail}
use Rattle.law_1_machine.proofs.Choice.{choice as machine_choice}
use Rattle.law_1_machine.proofs.Counting.{each_at}
use Rattle.law_1_machine.proofs.Lasting.{statement_ok}
use Rattle.law_1_machine.proofs.Moves.{reached_good}
use Rattle.law_1_machine.specs.Basics.{In}
use Rattle.law_1_machine.specs.Claims.{AllTrue, MayBegin, MemoryOk, StatementOk}
use Rattle.law_1_machine.specs.Invariant.{Invariant, Tied}
use Rattle.law_1_machine.specs.Members.{Do_view_change}
use Rattle.law_1_machine.specs.Group as machine
use Rattle.law_1_machine.specs.History.{History, InLog}
use Rattle.law_1_machine.specs.Parts.{header}
use Rattle.law_2_chains.proofs.Beginning.{own_is, own_tells}
use Rattle.law_2_chains.proofs.Choosing.{chosen_is, heard_at, source_is, told_some}
use Rattle.law_2_chains.proofs.Facts.{one_log, true_statements}
use Rattle.law_2_chains.proofs.Waking.{fresh_runs_so}
use Rattle.law_2_chains.proofs.Writing.{told_header}
use Rattle.law_2_chains.specs.Bridge.{Bridges, Follows, IsRunning, IsSent}
use Rattle.law_2_chains.specs.Chains as sent
use Rattle.law_2_chains.specs.Chains.{Setup, statement_told}
use Rattle.law_2_chains.specs.Choices.{told_if}
use Rattle.law_2_chains.specs.Reflecting.{Reflects, entries_by}
use Rattle.law_2_chains.specs.Tables.{Fits, Tables}
use Rattle.vr_base.specs.Groups.{quorums_of}
use Rattle.vr_base.specs.declared.table.Quorums.{Quorums}
use Rattle.vr_choose.specs.Laws.{NamesAgree}
use Rattle.vr_header.specs.declared.header.Header.{Header}
use Rattle.vr_header.specs.Names.{name_by}
use Rattle.vr_msg.specs.Choice.{choice, named, stated_header, stated_part, top_commit, top_view}
use Rattle.vr_header.specs.Parts.{header_of}
use Rattle.vr_msg.specs.Normal.{same_sum}
use Rattle.vr_msg.specs.declared.choice.Choice.TheVariants.{Ends}
use Rattle.vr_msg.specs.declared.statement.Statement.{Statement}
use Rattle.vr_world.proofs.FitGroups.{groups_fit}
use Rattle.vr_rules.proofs.Trying.{all_stated, chosen_log_is}
use Rattle.vr_world.specs.Group.{Group, Member, Played}
use Rattle.vr_world.specs.GroupFit.{IsFitGroup, IsFitPlayed, IsFitReplica}
use Rattle.vr_world.specs.Lying.{Lying, lying}
use Rattle.vr_rules.specs.Own.{IsAt}
use Rattle.vr_rules.specs.Replica.{Replica, head, is_frozen, is_primary, is_started, part_at, run_start, statement_of}
use Rattle.vr_rules.specs.Sound.{IsSound}
use Rattle.vr_rules.specs.Words.{Log, begin_view, chosen_log, is_chain, is_chain_from, log_header, stated, try}
use Rattle.law_progress.proofs.Deciding.{before_first, stated_at, stated_first}
use Rattle.law_progress.proofs.Trying.{whole_quorums_begin}
use Rattle.law_progress.specs.Agreeing.{BeginsByWhole, EachHearer, HearsOneLog, InEachRun, MayHear}
use Rattle.law_progress.specs.Deciding.{AreHeard, statements}
use Rattle.law_progress.specs.Whole.{Holder, IsMemberOf, IsWhole, replicas_of}

each_kept : {X : Type 0} (P : X → Type 0) (f : ℕ → Option X) (is : List ℕ) → ((i : ℕ) (x : X) → f i ≡ Some x → P x) → All P (filter_map f is)
each_kept P f [] h = All-nil P
each_kept {X} P f (i ∷ is) h =
    let rest = each_kept P f is h in
    elim (f i) as (λ (o : Option X). f i ≡ o → All P (cons_option o (filter_map f is))) [
      | None ↦ λ e. rest
      | Some x ↦ λ e. All-cons P x (filter_map f is) (h i x e) rest
    ] refl

own_view : (r : Replica) → (statement_of r).log_view ≡ r.log_view
unfolding statement_of
own_view r = refl

-- what a replica states of an op it knows of it
own_header : (r : Replica) (k : ℕ) (h : Header) → IsSound r → stated_header k (statement_of r) ≡ Some h → header_of (part_at r k) ≡ Some h
own_header r k h sound e = elim (cases_lt (run_start r) k) [
  | inl after ↦ ap header_of (sym (stated_at r k sound after)) ∙ e
  | inr before ↦
      let none : None ≡ Some h = sym (ap header_of (before_first (statement_of r) k (let first = stated_first r in omega (arith, first, before)))) ∙ e in
      absurd cc
]

-- of one log a view: each header that a statement knows is its log view's
abbrev OfLog : History Header → Statement → Type 0
OfLog g t = (k : ℕ) (h : Header) → stated_header k t ≡ Some h → InLog g t.log_view k h

agree_so : (g : History Header) (ss : List Statement) → All (OfLog g) ss → NamesAgree ss
agree_so g ss all k s t a b in_s in_t u v e f =
    let x = All-contains (OfLog g) ss s all in_s k a e in
    let y = All-contains (OfLog g) ss t all in_t k b f in
    x.2 ∙ ap (λ w. g.log w k) (u ∙ sym v) ∙ sym y.2

-- ---- headers of one log in a row

module _ (hash : List ℕ → List ℕ) (f : ℕ → Header) where
  abbrev Follow : ℕ → Type 0
  Follow k = same_sum (f (suc k)).parent (name_by hash (f k)) ≡ true

  chain_from : (a : ℕ) (d : Header) (hs : List Header) → d ≡ f a → ((i k : ℕ) (h : Header) → k ≡ suc a + i → slice_get hs i ≡ Some h → h ≡ f k)
      → ((k : ℕ) → a ≤ k → k < a + length hs → Follow k) → is_chain_from hash d hs ≡ true
  unfolding is_chain_from
  chain_from a d [] first each follow = refl
  chain_from a d (h ∷ hs) first each follow =
      let next : h ≡ f (suc a) = each 0 (suc a) h (omega arith) refl in
      let stands : same_sum h.parent (name_by hash d) ≡ true =
      subst (λ x. same_sum x.parent (name_by hash d) ≡ true) (sym next) (subst (λ x. same_sum (f (suc a)).parent (name_by hash x) ≡ true) (sym first) (follow a (omega arith) (omega arith))) in
      both_true stands (chain_from (suc a) h hs next (λ i k x e got. each (suc i) k x (omega (arith, e)) got) (λ k low high. follow k (omega (arith, low)) (omega (arith, high))))

  chain_of : (a : ℕ) (hs : List Header) → ((i k : ℕ) (h : Header) → k ≡ a + i → slice_get hs i ≡ Some h → h ≡ f k)
      → ((k : ℕ) → a ≤ k → k + 1 < a + length hs → Follow k) → is_chain hash hs ≡ true
  chain_of a [] each follow = refl
  chain_of a (h ∷ hs) each follow =
      chain_from a h hs (each 0 a h (omega arith) refl) (λ i k x e got. each (suc i) k x (omega (arith, e)) got) (λ k low high. follow k low (omega (arith, high)))

-- ---- a running replica of a group that the machine's stands for

module _ (u : Setup) (fits : Fits u) (g : Group) (s : machine.Group Header) (fit : IsFitGroup u.cluster g) (b : Bridges u g s) (at : ℕ) (m : Member) (r : Replica)
    (e : slice_get g.members at ≡ Some m) (running : m.replica ≡ Some r) (awake : is_frozen r ≡ false) (ss : List (Option Statement)) (may_hear : MayHear g r ss) (sound : IsSound (record r { statements = ss })) where
  -- with these statements
  abbrev x : Replica
  x = record r { statements = ss }

  is : IsRunning u s at m r
  is = (b.members at m e).running r running

  tables : Tables u s at r
  tables = is.tables awake

  fit_r : IsFitReplica r × IsAt u.cluster g.n at m.last.fields.version r
  fit_r = (fit.members at m e).running r running

  reflects : Reflects x is.memory
  unfolding head part_at
  reflects =
      let f = is.reflects in
      record {
        view = f.view;
        log_view = f.log_view;
        checkpoint = f.checkpoint;
        commit = f.commit;
        applied = f.applied;
        reach = f.reach;
        parts = f.parts;
        loaded = f.loaded;
        waits = f.waits;
      }

  -- each of them was sent in the machine
  sent_ones : (j : ℕ) (t : Statement) → slice_index_or ss j None ≡ Some t → In (Do_view_change j r.view (statement_told t)) s.sent
  sent_ones j t there = elim (may_hear j t there) [
    | inl had ↦ tables.stated j t had
    | inr w ↦
        let told : In (Do_view_change w.told.replica w.told.view (statement_told w.told.statement)) s.sent =
        subst (sent.WasSent u s.sent) w.is (All-contains (IsSent u s) g.sent w.sent b.sent w.there) in
        subst (λ i. In (Do_view_change i r.view (statement_told t)) s.sent) w.by
        (subst (λ v. In (Do_view_change w.told.replica v (statement_told t)) s.sent) w.for_view (subst (λ z. In (Do_view_change w.told.replica w.told.view (statement_told z)) s.sent) w.states told))
  ]

  inv : (h : History Header) × Invariant u.quorums (entries_by u.hash u.cluster) h s
  inv = reached_good u.quorums (entries_by u.hash u.cluster) s b.reached

  own : OfLog inv.0 (statement_of x)
  own k h i =
      let one = one_log u.quorums (entries_by u.hash u.cluster) inv.0 s inv.1 in
      let known = ap header (reflects.parts k) ∙ told_header (part_at x k) ∙ own_header x k h sound i in
      subst (λ w. InLog inv.0 w k h) (reflects.log_view ∙ sym (own_view x)) (one.known at is.memory k h is.running known)

  agree : NamesAgree (stated x)
  unfolding stated
  agree =
      let told = true_statements u.quorums (entries_by u.hash u.cluster) inv.0 s inv.1 in
      agree_so inv.0 (stated x) (each_kept (OfLog inv.0) (λ i. cond (i == x.index) (Some (statement_of x)) (get_or x.statements i None)) (range_with_len 0 x.n) (λ i t here.
      elim (i == x.index) as (λ c. cond c (Some (statement_of x)) (get_or x.statements i None) ≡ Some t → OfLog inv.0 t) [
        | true ↦ λ same. let is_own : statement_of x ≡ t = cc in subst (OfLog inv.0) is_own own
        | false ↦ λ there. λ k h j. told.named i x.view (statement_told t) k h (sent_ones i t there) (told_header (stated_part k t) ∙ j)
      ] here))

  -- each statement is true of the history
  mem : Tied (s.members at).last is.memory × MemoryOk u.quorums inv.0 at (s.members at).slots is.memory
  mem = each_at (λ x. Tied (s.members at).last x × MemoryOk u.quorums inv.0 at (s.members at).slots x) (s.members at).memory is.memory is.running (inv.1.members at).memory

  own_true : x.log_view < x.view → StatementOk u.quorums inv.0 at x.view (statement_told (statement_of x))
  own_true lower =
      let view = reflects.view in
      let log_view = reflects.log_view in
      let tags = (statement_told (statement_of x)).tags in
      subst (StatementOk u.quorums inv.0 at x.view) (sym (own_is x is.memory reflects))
      (statement_ok u.quorums (entries_by u.hash u.cluster) inv.0 at x.view (s.members at).slots is.memory tags (own_tells x is.memory sound reflects) inv.1.history mem.1
      ((inv.1.members at).marked.view ∙ sym mem.0.view) ((inv.1.members at).marked.log_view ∙ sym mem.0.log_view) (sym view) (omega (arith, lower, log_view)))

  all_true : x.log_view < x.view → AllTrue u.quorums inv.0 x.view (λ j. told_if (heard_at x j))
  all_true lower j t told =
      let y = told_some (heard_at x j) t told in
      elim (eqb j x.index) as (λ c. eqb j x.index ≡ c → cond c (Some (statement_of x)) (get_or x.statements j None) ≡ Some y.0 → StatementOk u.quorums inv.0 j x.view t) [
        | true ↦ λ c z.
            let same : statement_of x ≡ y.0 = cc in
            let place : at ≡ j = sym (eqb-true j x.index c ∙ fit_r.1.index) in
            subst (StatementOk u.quorums inv.0 j x.view) (ap statement_told same ∙ y.2) (subst (λ i. StatementOk u.quorums inv.0 i x.view (statement_told (statement_of x))) place (own_true lower))
        | false ↦ λ c z. subst (StatementOk u.quorums inv.0 j x.view) y.2 (inv.1.facts (Do_view_change j x.view (statement_told y.0)) (sent_ones j y.0 z)).1
      ] refl y.1

  module _ (q : Quorums) (headers : List Header) (lower : x.log_view < x.view) (quorums : quorums_of x.n ≡ Some q) (ends : choice q (stated x) ≡ Ends headers) where
    size_is : x.n ≡ u.quorums.n
    size_is = fit_r.1.n ∙ b.size

    nack_is : q.nack ≡ u.quorums.nack
    nack_is = sym (ap (λ (o : Option Quorums). option_map_or (λ x. x.nack) o 0) quorums) ∙ ap (λ n. option_map_or (λ x. x.nack) (quorums_of n) 0) size_is ∙ fits.nack_is

    abbrev log : Log
    log = chosen_log x (stated x) headers

    may : MayBegin u.quorums inv.0 (λ j. told_if (heard_at x j)) x.view (top_view (stated x)) (top_commit (stated x)) log.head (named (stated x))
    may = machine_choice u.quorums (entries_by u.hash u.cluster) inv.0 inv.1.history x.view (top_view (stated x)) (top_commit (stated x)) log.head (λ j. told_if (heard_at x j)) (named (stated x)) (all_true lower)
        (chosen_is x sound q headers ends u fits size_is nack_is)

    of_one : (k : ℕ) (h : Header) → log_header log k ≡ Some h → h ≡ inv.0.log (top_view (stated x)) k
    of_one k h is_there =
        let y = source_is x sound q headers ends u fits size_is nack_is k h is_there in
        elim (y.2) [
          | inl a ↦ may.of_log k h a.1 y.1 a.0
          | inr a ↦ may.low a.0 a.1 k h a.2 a.3 a.4
        ]

    chain : is_chain u.hash headers ≡ true
    chain =
        let count = (chosen_log_is x q (stated x) headers (all_stated x sound) ends).count in
        let long = may.fits in
        chain_of u.hash (inv.0.log (top_view (stated x))) (log.lo + 1) headers
        (λ i k h at_i got.
        let place : i ≡ k - (log.lo + 1) = omega (arith, at_i) in
        let there : log_header log k ≡ Some h = rw (lt-leb k log.lo (omega (arith, at_i))) (subst (λ j. slice_get headers j ≡ Some h) place got) in
        of_one k h there)
        (λ k low high. inv.1.history.chained (top_view (stated x)) k may.begun (omega (arith, high, count, long)))

-- ---- in each run

module _ (P : Replica → Type 0)
    (each : (u : Setup) → Fits u → u.hash ≡ lying.hash → (g : Group) (s : machine.Group Header) → IsFitGroup u.cluster g → Bridges u g s → EachHearer P g) where
  follows_so : (u : Setup) → Fits u → u.hash ≡ lying.hash → (s : machine.Group Header) (run : List Played) → All (IsFitPlayed u.cluster) run → Follows u s run → All (λ (p : Played). EachHearer P p.moved.group) run
  follows_so u fits hash s [] fit follows = All-nil (λ (p : Played). EachHearer P p.moved.group)
  follows_so u fits hash s (p ∷ ps) fit follows =
      let a = follows.0 in
      All-cons (λ (p : Played). EachHearer P p.moved.group) p ps
      (each u fits hash p.moved.group a (All-head (IsFitPlayed u.cluster) p ps fit).1 follows.1.bridges)
      (follows_so u fits hash a ps (All-tail (IsFitPlayed u.cluster) p ps fit) follows.2)

  in_each_run : InEachRun P
  in_each_run kinds cluster n run are low some most fits ran =
      let so = fresh_runs_so kinds cluster n run are low some most fits ran in
      let fit = groups_fit.runs kinds cluster n run are low some most fits ran in
      follows_so so.setup so.fits so.hash_is so.first run (subst (λ c. All (IsFitPlayed c) run) (sym so.cluster_is) fit) so.follows

hears : (u : Setup) → Fits u → u.hash ≡ lying.hash → (g : Group) (s : machine.Group Header) → IsFitGroup u.cluster g → Bridges u g s → EachHearer HearsOneLog g
hears u fits hash g s fit b at m r ss e running awake may_hear sound = record {
  agree = agree u fits g s fit b at m r e running awake ss may_hear sound;
  chain = λ q headers lower quorums ends. subst (λ h. is_chain h headers ≡ true) hash (chain u fits g s fit b at m r e running awake ss may_hear sound q headers lower quorums ends);
}

pub heard_is_one_log : InEachRun HearsOneLog
heard_is_one_log = in_each_run HearsOneLog hears

-- ---- so the primary of a view begins it

abbrev Begins : Lying → Quorums → List Replica → Replica → Type 0
Begins d q rs r =
    HearsOneLog r → Contains rs r → is_primary r ≡ true → is_started r ≡ false → stated r ≡ statements rs
    → (headers : List Header) × (choice q (stated r) ≡ Ends headers) × (try lying r d ≡ begin_view (stated r) (chosen_log r (stated r) headers) lying r d)

furthest_begins : (d : Lying) (members : List (Holder Lying)) (file cluster n : ℕ) (q : Quorums) (rs : List Replica) (w : IsWhole lying members) → AreHeard file cluster n q rs
    → All (Contains (replicas_of members)) rs → Begins d q rs w.furthest.replica
furthest_begins d members file cluster n q rs w heard of one there leads fresh told =
    let r = w.furthest.replica in
    let member = All-contains (IsMemberOf file cluster n) rs r heard.members there in
    let views = member.sound.order.views in
    let lower : r.log_view < r.view = elim (cases_eq r.log_view r.view) [
      | inl same ↦ absurd (true≢false (sym (eq-eqb r.view r.log_view (sym same)) ∙ fresh))
      | inr other ↦ omega (arith, views, other)
    ] in
    whole_quorums_begin lying d members file cluster n q rs w heard (subst NamesAgree told one.agree) of there leads fresh told
    (λ headers ends. one.chain q headers lower (ap quorums_of member.of_size ∙ heard.quorums) ends)

begins_by : (r : Replica) → HearsOneLog r → BeginsByWhole r
begins_by r one = record {
  begins = λ d members file cluster n q rs w furthest heard of there leads fresh told.
      subst (Begins d q rs) furthest (furthest_begins d members file cluster n q rs w heard of) one there leads fresh told;
}

pub runs_begin : InEachRun BeginsByWhole
runs_begin = in_each_run BeginsByWhole (λ u fits hash g s fit b at m r ss e running awake may_hear sound. begins_by (record r { statements = ss }) (hears u fits hash g s fit b at m r ss e running awake may_hear sound))

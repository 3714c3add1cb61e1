-- The facts follow from the invariant.
use Rattle.law_1_machine.specs.Basics.{In, Each, update}
use Rattle.law_1_machine.specs.Group.{Group, Held, Kept, Member, Vouches, becomes}
use Rattle.law_1_machine.specs.Headers.{Headers}
use Rattle.law_1_machine.specs.History.{History, Settled}
use Rattle.law_1_machine.specs.Invariant.{Ahead, Invariant}
use Rattle.law_1_machine.specs.Laws.{Backed, at_root}
use Rattle.law_1_machine.specs.Claims.{StatementOk, UnderOk}
use Rattle.law_1_machine.specs.Opening as opening
use Rattle.law_1_machine.specs.Taking.{taken}
use Rattle.law_1_machine.specs.Machine.{Running, Say, commits, starts_view, tells_root, states, changes_view, asks_view, repairs, Step, remembers, saves, saves_cut, chooses, chooses_cut, makes, begins_write, ends_write, stops, opens_last, opens_cut, writes_header, starts, accepts, prepares, says}
use Rattle.law_1_machine.specs.Members.{Do_view_change, Memory, Message, Prepare, Prepare_ok, Statement, Superblock, sender, superblock, view_of}
use Rattle.law_1_machine.specs.Parts.{Here}
use Rattle.law_1_machine.specs.Quorums.{Quorums}
use Rattle.law_2_chains.specs.Facts.{CommitNumbersAreBacked, DisksMoveOn, KeepsVouched, NotCutThere, OneLogAView, TrueStatements, ViewChangesMeet}
use Rattle.std.proofs.Common.{ℕ, zero, suc, ◌%◌, ◌≤◌, ◌<◌, ◌≡◌, ◌⊎◌, inl, inr, arith, refl, sym, ap, ◌∙◌, Bool, true, false, ◌∷◌, Some, None, subst}
use Rattle.std.proofs.lemmas.Bool.{both_ways}
use Rattle.law_1_machine.proofs.Counting.{at_update, each_at, each_map, meet}
use Rattle.law_1_machine.proofs.Moves.{memory_of, next_ok, vouched_of}
use Rattle.law_1_machine.proofs.Laws.{agreement, log_backed}

some_same : {X : Type 0} (a b : X) → Some a ≡ Some b → a ≡ b
some_same a b e = cc

module _ {H : Type 0} where
  same_ahead : (x : Superblock H) → Ahead x x
  same_ahead x = record { view = omega arith; log_view = omega arith; checkpoint = omega arith }

  -- what a vouch is told by
  abbrev is_vouch : Message H → Bool
  is_vouch (Prepare from view k entry commit) = true
  is_vouch (Prepare_ok from view k entry) = true
  is_vouch _ = false

  said_no : (q : Quorums) (hs : Headers H) (r : ℕ) (m : Memory H) (z : Message H) → Say q hs r m z → is_vouch z ≡ false
  said_no q hs r m _ (commits a b c) = refl
  said_no q hs r m _ (starts_view a b c d e f h) = refl
  said_no q hs r m _ (tells_root a) = refl
  said_no q hs r m _ (states a b c) = refl
  said_no q hs r m _ changes_view = refl
  said_no q hs r m _ (asks_view a) = refl
  said_no q hs r m _ repairs = refl

  -- one member's value goes on, and the others' stay
  moves_on : (s : Group H) (r : ℕ) (m : Member H) → Ahead (s.members r).last m.last → (i : ℕ) → Ahead (s.members i).last ((becomes s r m).members i).last
  moves_on s r m a i = at_update (λ x. Ahead (s.members i).last x.last) s.members r m i (λ e. subst (λ j. Ahead (s.members j).last m.last) (sym e) a) (λ _. same_ahead (s.members i).last)

module _ {H : Type 0} (q : Quorums) (hs : Headers H) (g : History H) (s : Group H) (y : Invariant q hs g s) where
  -- ---- 1

  rises : (s' : Group H) → Step q hs s s' → (r : ℕ) → Ahead (s.members r).last (s'.members r).last
  rises _ (remembers r m m' runs move) = moves_on s r (record (s.members r) { memory = Some m' }) (same_ahead (s.members r).last)
  rises _ (saves r m m' named runs move names) =
      moves_on s r (record (s.members r) { last = superblock m' named; under = None; memory = Some m' }) ((next_ok q hs g s y r m m' runs move).0 named)
  rises _ (saves_cut r m m' named runs move names) = moves_on s r (record (s.members r) { under = Some (superblock m' named); memory = None }) (same_ahead (s.members r).last)
  rises _ (chooses r m parts c n named runs b names) =
      let t = (memory_of q hs g s y r m runs).0 in
      let v = t.view in let l = t.log_view in let p = t.checkpoint in let lower = b.lower in
      moves_on s r (record (s.members r) { last = superblock (taken m m.view parts c n) named; under = None; memory = Some (taken m m.view parts c n) })
      (record { view = omega arith; log_view = omega arith; checkpoint = omega arith })
  rises _ (chooses_cut r m parts c n named runs b names) =
      moves_on s r (record (s.members r) { under = Some (superblock (taken m m.view parts c n) named); memory = None }) (same_ahead (s.members r).last)
  rises _ (makes r m e runs at leads number made on new) = λ i. same_ahead (s.members i).last
  rises _ (begins_write r m k e o runs source lo hi free drop keep) = moves_on s r (record (s.members r) { slots = update (s.members r).slots (k % 64) o }) (same_ahead (s.members r).last)
  rises _ (ends_write r m k e n runs source lo hi reach up) =
      moves_on s r (record (s.members r) { slots = update (s.members r).slots (k % 64) (Some e); memory = Some (record m { parts = update m.parts k (Here e); head = n }) })
      (same_ahead (s.members r).last)
  rises _ (stops r) = moves_on s r (record (s.members r) { memory = None }) (same_ahead (s.members r).last)
  rises _ (opens_last r) = moves_on s r (record (s.members r) { under = None }) (same_ahead (s.members r).last)
  rises _ (opens_cut r x e) =
      moves_on s r (record (s.members r) { last = x; under = None; memory = None })
      (each_at (λ z. ((s.members r).memory ≡ None) × Ahead (s.members r).last z × UnderOk q g s.chosen r (s.members r).slots z) (s.members r).under x e (y.members r).under).1
  rises _ (writes_header r k e o stopped clean lo hi source drop keep) = moves_on s r (record (s.members r) { slots = update (s.members r).slots (k % 64) o }) (same_ahead (s.members r).last)
  rises _ (starts r parts slots n stopped clean sound opened reach) =
      moves_on s r (record (s.members r) { slots = slots; memory = Some (opening.opened (s.members r).last parts n) }) (same_ahead (s.members r).last)
  rises _ (accepts r m k x runs b) = λ i. same_ahead (s.members i).last
  rises _ (prepares r m k x c runs b leads l) = λ i. same_ahead (s.members i).last
  rises _ (says r m x runs b) = λ i. same_ahead (s.members i).last

  said_before : (m : Message H) → In m s.sent → Each (λ v. v ≤ (s.members (sender m)).last.view) (view_of m)
  said_before m i =
      let e = (y.members (sender m)).marked.view in
      each_map (λ v. v ≤ g.view (sender m)) (λ v. v ≤ (s.members (sender m)).last.view) (view_of m) (λ v _ l. subst (λ z. v ≤ z) e l) (y.facts m i).0

  module _ (i u k : ℕ) (x : H) where
    abbrev Runs : Type 0
    Runs = (m : Memory H) × Running q hs s i m × (m.view ≡ u) × (m.log_view ≡ u)

    -- a message that is a vouch
    abbrev IsVouch : Message H → Type 0
    IsVouch m = (Prepare_ok i u k x ≡ m) ⊎ ((c : ℕ) × (Prepare i u k x c ≡ m))

    split : (m : Message H) → Vouches q (m ∷ s.sent) i u k x → Vouches q s.sent i u k x ⊎ IsVouch m
    split m (inl a) = elim a [ inl e ↦ inr (inl e) | inr b ↦ inl (inl b) ]
    split m (inr p) = let c = p.1 in elim c.1 [ inl e ↦ inr (inr (c.0, e)) | inr b ↦ inl (inr (p.0, (c.0, b))) ]

    -- it is from i, in view u
    of_vouch : (z : Message H) → IsVouch z → (sender z ≡ i) × (view_of z ≡ Some u) × (is_vouch z ≡ true)
    of_vouch z (inl e) = (sym (ap sender e), sym (ap view_of e), sym (ap is_vouch e))
    of_vouch z (inr p) = let e = p.1 in (sym (ap sender e), sym (ap view_of e), sym (ap is_vouch e))

    own : (r : ℕ) (m : Memory H) → Running q hs s r m → m.view ≡ m.log_view → r ≡ i → Some m.log_view ≡ Some u → Runs
    own r m runs at e v = let w = some_same m.log_view u v in (m, subst (λ j. Running q hs s j m) e runs, at ∙ w, w)

    said_now : (r : ℕ) (m : Memory H) (z : Message H) → Say q hs r m z → Vouches q (z ∷ s.sent) i u k x → Vouches q s.sent i u k x ⊎ Runs
    said_now r m z say v =
        elim (split z v) [ inl a ↦ inl a | inr a ↦ absurd (both_ways (is_vouch z) (said_no q hs r m z say) (of_vouch z a).2) ]

    vouches_own : (s' : Group H) → Step q hs s s' → Vouches q s'.sent i u k x → Vouches q s.sent i u k x ⊎ Runs
    vouches_own _ (remembers r m m' runs move) v = inl v
    vouches_own _ (saves r m m' named runs move names) v = inl v
    vouches_own _ (saves_cut r m m' named runs move names) v = inl v
    vouches_own _ (chooses r m parts c n named runs b names) v = inl v
    vouches_own _ (chooses_cut r m parts c n named runs b names) v = inl v
    vouches_own _ (makes r m e runs at leads number made on new) v = inl v
    vouches_own _ (begins_write r m j e o runs source lo hi free drop keep) v = inl v
    vouches_own _ (ends_write r m j e n runs source lo hi reach up) v = inl v
    vouches_own _ (stops r) v = inl v
    vouches_own _ (opens_last r) v = inl v
    vouches_own _ (opens_cut r z e) v = inl v
    vouches_own _ (writes_header r j e o stopped clean lo hi source drop keep) v = inl v
    vouches_own _ (starts r parts slots n stopped clean sound opened reach) v = inl v
    vouches_own _ (accepts r m j z runs b) v =
        elim (split (Prepare_ok r m.log_view j z) v) [ inl a ↦ inl a | inr a ↦ (let o = of_vouch (Prepare_ok r m.log_view j z) a in inr (own r m runs b.at o.0 o.1)) ]
    vouches_own _ (prepares r m j z c runs b leads l) v =
        elim (split (Prepare r m.log_view j z c) v) [ inl a ↦ inl a | inr a ↦ (let o = of_vouch (Prepare r m.log_view j z c) a in inr (own r m runs b.at o.0 o.1)) ]
    vouches_own _ (says r m z runs b) v = said_now r m z b v

  pub disks_move_on : (s' : Group H) → Step q hs s s' → DisksMoveOn q hs s s'
  disks_move_on s' step = record { last = rises s' step; said = said_before; vouch = λ i u k x. vouches_own i u k x s' step }

  -- ---- 2

  pub one_log : OneLogAView q hs g s
  one_log = record {
    first = y.history.first;
    led = λ w f. subst (λ z. w ≤ z) (y.members (w % q.n)).marked.log_view (y.led w f);
    begun = y.begun_by;
    made = λ x i. let a = y.made x i in (a.1, a.2);
    chained = λ w k f l. (y.history.number w k f (omega arith), y.history.chained w k f l);
    saved = λ r k x e. (y.members r).last.knows.of_log k x e;
    known = λ r m k x runs e. (memory_of q hs g s y r m runs).1.knows.of_log k x e;
    prepared = λ from v k x c i. (y.facts (Prepare from v k x c) i).1.0;
    reach = λ r m runs. (memory_of q hs g s y r m runs).1.knows.past_base;
  }

  -- ---- 3

  pub keeps_vouched : KeepsVouched q hs g s
  keeps_vouched = record {
    on_disk = λ r u k x v carried.
        let a = vouched_of q hs g s y r u k x v in
        let b = (y.members r).marked.log_view in
        let c = (y.history.vouch r u k a.0).3 in
        subst (λ z. Kept (s.members r).slots (s.members r).last.checkpoint k z) (sym a.1.2)
        ((y.members r).last.retains u k a.0 (subst (λ z. u ≤ z) b c) carried);
    in_memory = λ r u k x m runs v carried.
        let a = vouched_of q hs g s y r u k x v in
        let b = (y.members r).marked.log_view in
        let c = (y.history.vouch r u k a.0).3 in
        let t = memory_of q hs g s y r m runs in
        subst (λ z. Held (s.members r).slots m.parts m.checkpoint k z) (sym a.1.2)
        (t.1.retains u k a.0 (subst (λ z. u ≤ z) (b ∙ sym t.0.log_view) c) carried);
  }

  -- ---- 4

  module _ (r v : ℕ) (t : Statement H) (i : In (Do_view_change r v t) s.sent) where
    so : StatementOk q g r v t
    so = (y.facts (Do_view_change r v t) i).1

    said_late : (t.log_view < v) × (v ≤ (s.members r).last.view)
    said_late = (so.less, subst (λ z. v ≤ z) (y.members r).marked.view so.reached)

  pub true_statements : TrueStatements q hs g s
  true_statements = record {
    less = said_late;
    named = λ r v t k x i e. (so r v t i).knows.of_log k x e;
    undenied = λ r v t u k x i w l carried.
        let a = vouched_of q hs g s y r u k x w in (so r v t i).retains u k a.0 l carried;
    none_between = λ r v t u k x i w l. let a = vouched_of q hs g s y r u k x w in (so r v t i).none_between u k a.0 l;
  }

  -- ---- 6

  backed_here : (w c k : ℕ) → g.finished w ≡ true → Settled q g w c → k ≤ c → (x : H) × Backed q hs s.sent w k x
  backed_here w c zero f settled l = (hs.root, (0, omega arith, at_root))
  backed_here w c (suc k) f settled l = let b = log_backed q hs g s y w c (suc k) f settled (omega arith) l in (g.log w (suc k), b)

  pub backed_numbers : CommitNumbersAreBacked q hs s
  backed_numbers = let a = agreement q hs g s y in record {
    told = a.told;
    members = λ r m k runs l. let d = (memory_of q hs g s y r m runs).1.knows in backed_here m.log_view m.commit k d.begun d.settled l;
    known = a.known;
  }

-- ---- 5

module _ {H : Type 0} (q : Quorums) (hs : Headers H) where
  pub not_cut : NotCutThere q hs
  not_cut heard log_view commit head log c set enough =
      let m = meet q set c.deniers enough c.many in
      (m.0, m.1, m.2, c.deny m.0 m.1 m.3)

-- as many as end a view are a nack quorum of a smaller kind
pub changes_meet : ViewChangesMeet
changes_meet n c fits some most a b =
    let h = fits.heard in let o = fits.overlap in let e = fits.not_empty in
    meet (record { n = n; replication = c.replication; nack = c.nack; overlap = o; not_empty = e }) some most a (let d = fits.ends in omega arith)

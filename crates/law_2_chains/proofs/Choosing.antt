-- The choice of the rules is one of the machine.
use Rattle.std.proofs.Common.{ℕ, zero, suc, ◌+◌, ◌-◌, ◌≤◌, ◌<◌, ◌≡◌, ◌∙◌, ◌⊎◌, inl, inr, arith, refl, sym, ap, subst, Bool, true, false, cond, eqb, List, [], ◌∷◌, get_or, Option, Some, None, rules}
use Rattle.std.specs.Prelude.{All, slice_get, count_by, ◌==◌}
use Rattle.std.specs.List.{cons_option, filter_map, range_with_len}
use Rattle.std.specs.Option.{option_and_then, option_map_or}
use Rattle.std.proofs.lemmas.Bool.{cases_lt, cases_eq, eq-eqb, eqb-true, eqb-false, not-true, true≢false, lt-leb, le-leb}
use Rattle.std.proofs.lemmas.List.{get_or_past}
use Rattle.std.proofs.lemmas.List.Elements.{All-cons, All-nil, All-head, All-tail, All-contains, All-weaker}
use Rattle.std.proofs.lemmas.List.Sums.{sum_by-cons}
use Rattle.vr_base.specs.declared.table.Quorums.{Quorums}
use Rattle.vr_header.specs.declared.header.Header.{Header}
use Rattle.vr_header.specs.declared.part.Part.{Part}
use Rattle.vr_header.specs.declared.part.Part.TheVariants.{Here, Lost, Wanted, Unknown, Nothing}
use Rattle.vr_header.specs.Same.{same_header}
use Rattle.vr_header.proofs.SameHeaders.{same_header_of}
use Rattle.vr_msg.specs.declared.statement.Statement.{Statement}
use Rattle.vr_msg.specs.declared.choice.Choice.TheVariants.{Ends}
use Rattle.vr_msg.specs.Choice as stated
use Rattle.vr_msg.specs.Choice.{top_view, top_commit, named, denies, denies_as_newest, denies_named, denies_as_older, denials, choice, farthest, log_start, chosen_header, IsChoice}
use Rattle.vr_msg.specs.Logs.{IsStatement}
use Rattle.vr_choose.proofs.Bounds.{bounded, some_statements}
use Rattle.vr_choose.proofs.Choices.{choice_meets}
use Rattle.vr_choose.proofs.Logs.{found, chosen_front, chosen_open}
use Rattle.vr_choose.proofs.Named.{names_of, unnamed}
use Rattle.vr_choose.proofs.Order.{view_most}
use Rattle.vr_choose.proofs.Standing.{headers_stand}
use Rattle.vr_rules.specs.Replica.{Replica, statement_of, version}
use Rattle.vr_rules.specs.Words.{stated, chosen_log, log_end, log_header, Log}
use Rattle.vr_rules.specs.Sound.{IsSound, IsStated}
use Rattle.vr_rules.proofs.Taking.{log_reaches}
use Rattle.vr_rules.proofs.Trying.{all_stated, log_end_is}
use Rattle.law_1_machine.specs.Choosing.{Denies, plainly, other, silent, Chosen}
use Rattle.law_1_machine.specs.Members as machine
use Rattle.law_1_machine.specs.Parts.{header, denied}
use Rattle.law_1_machine.specs.Quorums.{count}
use Rattle.law_2_chains.specs.Reflecting.{told_of}
use Rattle.law_2_chains.specs.Chains.{Setup, statement_told}
use Rattle.law_2_chains.specs.Choices.{told_if}
use Rattle.law_2_chains.specs.Tables.{Fits}
use Rattle.law_2_chains.proofs.Writing.{told_header}
use Rattle.law_2_chains.proofs.Repairs.{got_within}
use Rattle.law_2_chains.proofs.Counting.{count_shift}

-- ---- lists made of a table

all_from : {X : Type 0} (P : X → Type 0) (g : ℕ → Option X) (n a : ℕ) → ((j : ℕ) (x : X) → a ≤ j → j < a + n → g j ≡ Some x → P x) → All P (filter_map g (range_with_len a n))
all_from P g zero a h = All-nil P
all_from {X} P g (suc n) a h =
    let rest = all_from P g n (a + 1) (λ j x l m e. h j x (omega arith) (omega arith) e) in
    elim (g a) as (λ (o : Option X). g a ≡ o → All P (cons_option o (filter_map g (range_with_len (a + 1) n)))) [
      | None ↦ λ e. rest
      | Some x ↦ λ e. All-cons P x (filter_map g (range_with_len (a + 1) n)) (h a x (omega arith) (omega arith) e) rest
    ] refl

all_at : {X : Type 0} (P : X → Type 0) (g : ℕ → Option X) (n a : ℕ) → All P (filter_map g (range_with_len a n)) → (j : ℕ) (x : X) → a ≤ j → j < a + n → g j ≡ Some x → P x
all_at P g zero a all j x l m e = absurd (omega arith)
all_at {X} P g (suc n) a all j x l m e =
    elim (g a) as (λ (o : Option X). g a ≡ o → All P (cons_option o (filter_map g (range_with_len (a + 1) n))) → P x) [
      | None ↦ λ i all.
          elim (cases_eq j a) [
            | inl same ↦ let none : None ≡ Some x = sym i ∙ subst (λ k. g k ≡ Some x) same e in absurd cc
            | inr apart ↦ all_at P g n (a + 1) all j x (omega arith) (omega arith) e
          ]
      | Some y ↦ λ i all.
          elim (cases_eq j a) [
            | inl same ↦ let at : Some y ≡ Some x = sym i ∙ subst (λ k. g k ≡ Some x) same e in let is : y ≡ x = search (rules, at) in subst P is (All-head P y (filter_map g (range_with_len (a + 1) n)) all)
            | inr apart ↦ all_at P g n (a + 1) (All-tail P y (filter_map g (range_with_len (a + 1) n)) all) j x (omega arith) (omega arith) e
          ]
    ] refl all

count_same : (f g : ℕ → Bool) (n : ℕ) → ((i : ℕ) → f i ≡ g i) → count f n ≡ count g n
count_same f g zero h = refl
count_same f g (suc n) h = rw (h n, count_same f g n h) refl

as_number : (b c : Bool) → b ≡ c → cond {A = ℕ} b 1 0 ≡ cond {A = ℕ} c 1 0
as_number b c e = ap (λ (d : Bool). cond {A = ℕ} d 1 0) e

count_from : {X : Type 0} (p : X → Bool) (g : ℕ → Option X) (n a : ℕ) → count_by p (filter_map g (range_with_len a n)) ≡ count (λ i. option_map_or p (g (a + i)) false) n
count_from p g zero a = refl
count_from {X} p g (suc n) a =
    let rest = count_from p g n (a + 1) in
    let shift = count_shift (λ i. option_map_or p (g (a + i)) false) n in
    let same = count_same (λ i. option_map_or p (g (a + 1 + i)) false) (λ i. option_map_or p (g (a + suc i)) false) n (λ i. ap (λ k. option_map_or p (g k) false) (let e : a + 1 + i ≡ a + suc i = omega arith in e)) in
    let first : option_map_or p (g (a + 0)) false ≡ option_map_or p (g a) false = ap (λ k. option_map_or p (g k) false) (let e : a + 0 ≡ a = omega arith in e) in
    elim (g a) as (λ (o : Option X). option_map_or p (g (a + 0)) false ≡ option_map_or p o false
    → count_by p (cons_option o (filter_map g (range_with_len (a + 1) n))) ≡ count (λ i. option_map_or p (g (a + i)) false) (suc n)) [
      | None ↦ λ f. let z : cond {A = ℕ} (option_map_or p (g (a + 0)) false) 1 0 ≡ 0 = as_number (option_map_or p (g (a + 0)) false) false f in omega (arith, rest, shift, same, z)
      | Some x ↦ λ f.
          let z : cond {A = ℕ} (option_map_or p (g (a + 0)) false) 1 0 ≡ cond {A = ℕ} (p x) 1 0 = as_number (option_map_or p (g (a + 0)) false) (p x) f in
          let more : count_by p (x ∷ filter_map g (range_with_len (a + 1) n)) ≡ cond (p x) 1 0 + count_by p (filter_map g (range_with_len (a + 1) n)) = sum_by-cons (λ (y : X). cond (p y) 1 0) x (filter_map g (range_with_len (a + 1) n)) in
          omega (arith, rest, shift, same, z, more)
    ] first

-- ---- the greatest

top_view_at : (P : Statement → Type 0) (ss : List Statement) → (ss ≡ [] → ⊥) → All P ss → (t : Statement) × P t × (t.log_view ≡ top_view ss)
top_view_at P [] some all = absurd (some refl)
top_view_at P (s ∷ []) some all = (s, All-head P s [] all, omega arith)
top_view_at P (s ∷ t ∷ ts) some all =
    let rest = top_view_at P (t ∷ ts) (λ e. cc) (All-tail P s (t ∷ ts) all) in
    let is = rest.2 in
    elim (cases_lt s.log_view (top_view (t ∷ ts))) [
      | inl less ↦ (rest.0, rest.1, omega arith)
      | inr more ↦ (s, All-head P s (t ∷ ts) all, omega arith)
    ]

top_commit_at : (P : Statement → Type 0) (ss : List Statement) → (ss ≡ [] → ⊥) → All P ss → (t : Statement) × P t × (t.commit ≡ top_commit ss)
top_commit_at P [] some all = absurd (some refl)
top_commit_at P (s ∷ []) some all = (s, All-head P s [] all, omega arith)
top_commit_at P (s ∷ t ∷ ts) some all =
    let rest = top_commit_at P (t ∷ ts) (λ e. cc) (All-tail P s (t ∷ ts) all) in
    let is = rest.2 in
    elim (cases_lt s.commit (top_commit (t ∷ ts))) [
      | inl less ↦ (rest.0, rest.1, omega arith)
      | inr more ↦ (s, All-head P s (t ∷ ts) all, omega arith)
    ]

commit_most : (n : ℕ) (ss : List Statement) → top_commit ss ≤ n → All (λ s. s.commit ≤ n) ss
commit_most n [] l = All-nil (λ s. s.commit ≤ n)
commit_most n (s ∷ ss) l = All-cons (λ s. s.commit ≤ n) s ss (omega arith) (commit_most n ss (omega arith))

-- ---- one denial

denies_here : (top k : ℕ) (log : ℕ → Option Header) (t : Statement) (e : Header) → t.log_view < top → log k ≡ Some e → (p : Part) → stated.stated_part k t ≡ p → denies_named e p ≡ true → Denies top k log (statement_told t)
denies_here top k log t e less is (Here h) at d =
    other e h less is (ap (λ (q : Part). header (told_of q)) at) (λ same. true≢false (sym (same_header_of h e same) ∙ not-true (same_header h e) d))
denies_here top k log t e less is (Lost h) at d =
    other e h less is (ap (λ (q : Part). header (told_of q)) at) (λ same. true≢false (sym (same_header_of h e same) ∙ not-true (same_header h e) d))
denies_here top k log t e less is (Wanted h) at d = plainly (ap (λ (q : Part). denied (told_of q)) at)
denies_here top k log t e less is Unknown at d = absurd (true≢false (sym d))
denies_here top k log t e less is Nothing at d = plainly (ap (λ (q : Part). denied (told_of q)) at)

newest_denied : (p : Part) → denies_as_newest p ≡ denied (told_of p)
newest_denied (Here h) = refl
newest_denied (Lost h) = refl
newest_denied (Wanted h) = refl
newest_denied Unknown = refl
newest_denied Nothing = refl

denies_older : (top k : ℕ) (log : ℕ → Option Header) (t : Statement) (o : Option Header) → t.log_view < top → log k ≡ o → denies_as_older o (stated.stated_part k t) ≡ true → Denies top k log (statement_told t)
denies_older top k log t None less is d = silent less is
denies_older top k log t (Some e) less is d = denies_here top k log t e less is (stated.stated_part k t) refl d

denies_told : (ss : List Statement) (k : ℕ) (t : Statement) → t.log_view ≤ top_view ss → denies ss k t ≡ true → Denies (top_view ss) k (named ss) (statement_told t)
denies_told ss k t most d =
    elim (t.log_view == top_view ss) as (λ b. (t.log_view == top_view ss) ≡ b → cond b (denies_as_newest (stated.stated_part k t)) (denies_as_older (named ss k) (stated.stated_part k t)) ≡ true → Denies (top_view ss) k (named ss) (statement_told t)) [
      | true ↦ λ e x. plainly (sym (newest_denied (stated.stated_part k t)) ∙ x)
      | false ↦ λ e x. let apart = eqb-false t.log_view (top_view ss) e in denies_older (top_view ss) k (named ss) t (named ss k) (omega arith) refl x
    ] refl d

-- ---- what a replica has heard

-- of j
abbrev pub heard_at : Replica → ℕ → Option Statement
heard_at r j = cond (eqb j r.index) (Some (statement_of r)) (get_or r.statements j None)

pub told_some : (o : Option Statement) (x : machine.Statement Header) → told_if o ≡ Some x → (t : Statement) × (o ≡ Some t) × (statement_told t ≡ x)
told_some None x e = absurd cc
told_some (Some t) x e = (t, refl, search (rules, e))

heard_within : (r : Replica) (j : ℕ) (t : Statement) → IsSound r → heard_at r j ≡ Some t → j < r.n
heard_within r j t sound e =
    let member = sound.member in
    let size = sound.lists.statements in
    elim (cases_lt j r.n) [
      | inl l ↦ l
      | inr past ↦
          elim (eqb j r.index) as (λ b. eqb j r.index ≡ b → cond b (Some (statement_of r)) (get_or r.statements j None) ≡ Some t → j < r.n) [
            | true ↦ λ b x. let same = eqb-true j r.index b in omega arith
            | false ↦ λ b x. let none : None ≡ Some t = sym (get_or_past r.statements j None (omega arith)) ∙ x in absurd cc
          ] refl e
    ]

abbrev IsHeard : Replica → Statement → Type 0
IsHeard r t = (j : ℕ) × (j < r.n) × (heard_at r j ≡ Some t)

module _ (r : Replica) (sound : IsSound r) (q : Quorums) (hs : List Header) (ends : choice q (stated r) ≡ Ends hs) where
  abbrev ss : List Statement
  ss = stated r

  ss_is : ss ≡ filter_map (heard_at r) (range_with_len 0 r.n)
  unfolding stated
  ss_is = refl

  each : All (IsHeard r) ss
  each = subst (All (IsHeard r)) (sym ss_is) (all_from (IsHeard r) (heard_at r) r.n 0 (λ j x a b e. (j, omega arith, e)))

  at : (P : Statement → Type 0) → All P ss → (j : ℕ) (t : Statement) → heard_at r j ≡ Some t → P t
  at P all j t e = let l = heard_within r j t sound e in all_at P (heard_at r) r.n 0 (subst (All P) ss_is all) j t (omega arith) (omega arith) e

  own_heard : heard_at r r.index ≡ Some (statement_of r)
  own_heard = rw (eq-eqb r.index r.index refl) refl

  some : ss ≡ [] → ⊥
  some e = at (λ t. ⊥) (subst (All (λ t. ⊥)) (sym e) (All-nil (λ t. ⊥))) r.index (statement_of r) own_heard

  meets : IsChoice q ss (Ends hs)
  meets =
      let are = All-weaker (IsStated (version r) r.cluster r.view) (IsStatement (version r) r.cluster) (λ s i. i.statement) ss (all_stated r sound) in
      subst (IsChoice q ss) ends (choice_meets q ss (bounded ss (some_statements (version r) r.cluster ss are)))

  -- where the log ends
  end_is : log_end (top_commit ss) hs ≡ meets.head
  end_is =
      let are = All-weaker (IsStated (version r) r.cluster r.view) (IsStatement (version r) r.cluster) (λ s i. i.statement) ss (all_stated r sound) in
      let above = meets.ends.next.above in
      log_end_is (version r) r.cluster ss meets.head hs meets.log.whole (omega arith) (headers_stand (version r) r.cluster ss meets.head hs are meets.log)

  abbrev l : Log
  l = chosen_log r ss hs

  module _ (u : Setup) (fits : Fits u) (size_is : r.n ≡ u.quorums.n) (nack_is : q.nack ≡ u.quorums.nack) where
    abbrev pub heard : ℕ → Option (machine.Statement Header)
    heard j = told_if (heard_at r j)

    heard_is : (j : ℕ) (t : Statement) → heard_at r j ≡ Some t → heard j ≡ Some (statement_told t)
    heard_is j t e = ap told_if e

    -- what holds of each statement heard
    by_each : (P : machine.Statement Header → Type 0) → All (λ t. P (statement_told t)) ss → (j : ℕ) (x : machine.Statement Header) → heard j ≡ Some x → P x
    by_each P all j x e = let y = told_some (heard_at r j) x e in subst P y.2 (at (λ t. P (statement_told t)) all j y.0 y.1)

    header_told : (k : ℕ) (t : Statement) → header ((statement_told t).tags k) ≡ stated.stated_header k t
    header_told k t = told_header (stated.stated_part k t)

    deniers : ℕ → Bool
    deniers j = option_map_or (denies ss (meets.head + 1)) (heard_at r j) false

    deniers_many : u.quorums.nack ≤ count deniers u.quorums.n
    unfolding deniers
    deniers_many =
        let enough = meets.ends.denied in
        let c : denials ss (meets.head + 1) ≡ count (λ i. option_map_or (denies ss (meets.head + 1)) (heard_at r (0 + i)) false) r.n =
        ap (count_by (denies ss (meets.head + 1))) ss_is ∙ count_from (denies ss (meets.head + 1)) (heard_at r) r.n 0 in
        let d = count_same (λ i. option_map_or (denies ss (meets.head + 1)) (heard_at r (0 + i)) false) deniers r.n (λ i. ap (λ k. option_map_or (denies ss (meets.head + 1)) (heard_at r k) false) (let e : 0 + i ≡ i = omega arith in e)) in
        let n : count deniers r.n ≡ count deniers u.quorums.n = ap (count deniers) size_is in
        omega arith

    denier_is : (j : ℕ) (o : Option Statement) → heard_at r j ≡ o → option_map_or (denies ss (meets.head + 1)) o false ≡ true
        → (t : machine.Statement Header) × (heard j ≡ Some t) × Denies (top_view ss) (suc meets.head) (named ss) t
    denier_is j None e d = absurd (true≢false (sym d))
    denier_is j (Some t) e d =
        let most : t.log_view ≤ top_view ss = at (λ s. s.log_view ≤ top_view ss) (view_most ss) j t e in
        let n : meets.head + 1 ≡ suc meets.head = omega arith in
        (statement_told t, heard_is j t e, subst (λ k. Denies (top_view ss) k (named ss) (statement_told t)) n (denies_told ss (meets.head + 1) t most d))

    pub chosen_is : Chosen u.quorums heard (top_view ss) (top_commit ss) l.head (named ss)
    unfolding deniers
    chosen_is =
        let above = meets.ends.next.above in
        let end = end_is in
        record {
          some_log_view =
              let y = top_view_at (IsHeard r) ss some each in
              (y.1.0, statement_told y.0, let a = y.1.1 in omega arith, heard_is y.1.0 y.0 y.1.2, y.2);
          no_later_log_view = λ i t e. by_each (λ x. x.log_view ≤ top_view ss) (view_most ss) i t e;
          some_commit =
              let y = top_commit_at (IsHeard r) ss some each in
              (y.1.0, statement_told y.0, heard_is y.1.0 y.0 y.1.2, y.2);
          no_later_commit = λ i t e. by_each (λ x. x.commit ≤ top_commit ss) (commit_most (top_commit ss) ss (omega arith)) i t e;
          named = λ k h e.
              let y = names_of (top_view ss) k ss h e in
              let j = All-contains (IsHeard r) ss y.statement each y.there in
              (j.0, statement_told y.statement, heard_is j.0 y.statement j.2, y.view, header_told k y.statement ∙ y.header);
          unnamed = λ k i t e is v. by_each (λ x. x.log_view ≡ top_view ss → header (x.tags k) ≡ None) (All-weaker (λ s. s.log_view ≡ top_view ss → stated.stated_header k s ≡ None) (λ s. s.log_view ≡ top_view ss → header ((statement_told s).tags k) ≡ None) (λ s f v. header_told k s ∙ f v) ss (unnamed (top_view ss) k ss e)) i t is v;
          ahead = omega arith;
          whole = λ k a b. let y = meets.ends.next.whole k a (omega arith) in (y.header, y.is_named);
          deniers = deniers;
          many = deniers_many;
          deny = λ i less d. subst (λ k. (t : machine.Statement Header) × (heard i ≡ Some t) × Denies (top_view ss) (suc k) (named ss) t) (sym end) (denier_is i (heard_at r i) refl d);
        }

    -- the headers that are taken
    header_is : (k : ℕ) (h : Header) → log_header l k ≡ Some h → (l.lo < k) × (k ≤ l.head) × (chosen_header ss k ≡ Some h)
    header_is k h e =
        let end = end_is in
        let whole = meets.log.whole in
        elim (cases_lt l.lo k) [
          | inr below ↦ let no_header : None ≡ Some h = rw (le-leb k l.lo below) at e in absurd cc
          | inl above ↦
              let got : slice_get hs (k - (l.lo + 1)) ≡ Some h = rw (lt-leb k l.lo above) at e in
              let within = got_within hs (k - (l.lo + 1)) h got in
              let start : l.lo ≡ log_start ss meets.head = omega arith in
              let is = meets.log.each k (omega arith) (omega arith) in
              let place : k - (l.lo + 1) ≡ k - (log_start ss meets.head + 1) = omega arith in
              (above, omega arith, sym is ∙ (ap (slice_get hs) (sym place) ∙ got))
        ]

    front_is : (k : ℕ) (h : Header) (o : Option Statement) → farthest ss ≡ o → k ≤ top_commit ss → option_and_then (stated.stated_header k) o ≡ Some h
        → (i : ℕ) × (t : machine.Statement Header) × (heard i ≡ Some t) × (k ≤ t.commit) × (header (t.tags k) ≡ Some h)
    front_is k h None e low is = absurd cc
    front_is k h (Some s) e low is =
        let y = found (IsHeard r) (λ (s : Statement). s.commit == top_commit ss) ss s e each in
        let c = eqb-true s.commit (top_commit ss) y.0 in
        let j = y.1 in
        (j.0, statement_told s, heard_is j.0 s j.2, omega arith, header_told k s ∙ is)

    pub source_is : (k : ℕ) (h : Header) → log_header l k ≡ Some h
        → (l.lo < k) × (k ≤ l.head) × ((named ss k ≡ Some h × (top_commit ss < k)) ⊎ ((i : ℕ) × (t : machine.Statement Header) × (heard i ≡ Some t) × (k ≤ t.commit) × (header (t.tags k) ≡ Some h)))
    source_is k h e =
        let y = header_is k h e in (
          y.0,
          y.1,
          elim (cases_lt (top_commit ss) k) [
            | inl above ↦ inl (sym (chosen_open ss k above) ∙ y.2, above)
            | inr below ↦ inr (front_is k h (farthest ss) refl below (sym (chosen_front ss k below) ∙ y.2))
          ],
        )

    pub whole_is : (k : ℕ) → l.lo < k → k ≤ l.head → (h : Header) × (log_header l k ≡ Some h)
    whole_is k a b =
        let end = end_is in
        let whole = meets.log.whole in
        let y = log_reaches hs (k - (l.lo + 1)) (omega arith) in
        (y.0, rw (lt-leb k l.lo a) y.1)

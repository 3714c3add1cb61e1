-- A member with the greatest checkpoint may take the log that is chosen.
use Rattle.std.proofs.Common.{arith, ℕ, zero, suc, ◌+◌, ◌≤◌, ◌<◌, ◌≡◌, ◌∙◌, ◌⊎◌, inl, inr, refl, sym, ap, subst, Bool, true, false, cond, ◌||◌, ◌==◌, List, [], ◌∷◌, length, Some}
use Rattle.std.specs.Prelude.{All, Contains, is_some, nat_lt}
use Rattle.std.specs.List.{find}
use Rattle.std.proofs.lemmas.Bool.{cases_lt, eq-eqb, le-leb, lt-ltb, true≢false}
use Rattle.std.proofs.lemmas.List.{length-map}
use Rattle.std.proofs.lemmas.List.Elements.{All-contains, All-head, All-map, All-tail, All-weaker}
use Rattle.vr_choose.proofs.Bounds.{bounded, some_statements}
use Rattle.vr_choose.proofs.Choices.{choice_meets}
use Rattle.vr_choose.proofs.Logs.{found}
use Rattle.vr_choose.proofs.Standing.{headers_stand}
use Rattle.vr_header.specs.declared.header.Header.{Header}
use Rattle.vr_header.specs.declared.part.Part.TheVariants.{Here}
use Rattle.vr_msg.specs.Choice.{IsChoice, log_start, stated_part, top_commit}
use Rattle.vr_msg.specs.Logs.{IsStatement}
use Rattle.vr_msg.specs.declared.choice.Choice.TheVariants.{Ends}
use Rattle.vr_msg.specs.declared.statement.Statement.{Statement}
use Rattle.vr_rules.proofs.Heads.{known_within}
use Rattle.vr_rules.proofs.Keeping.{spans_of}
use Rattle.vr_rules.proofs.Stating.{own_statement, run_of}
use Rattle.vr_rules.proofs.Trying.{log_end_is}
use Rattle.vr_rules.specs.Replica.{Replica, header_at, head, knows, part_at, run_start, statement_of, version, window_end}
use Rattle.vr_rules.specs.Sound.{IsSound}
use Rattle.vr_rules.specs.Words.{Log, chosen_log, fits, is_chain, is_newer, log_end, may_take}
use Rattle.law_progress.proofs.Deciding.{commit_most, sound_of, stated_at, stated_commit, stated_first}
use Rattle.law_progress.proofs.Lists.{All-each}
use Rattle.law_progress.specs.Deciding.{FurthestMembersTake, statements}
use Rattle.law_progress.specs.Whole.{IsMemberOf, top_checkpoint}

-- ---- what a log is asked

fits_of : (l : Log) (r : Replica) → l.head ≤ window_end r → l.lo ≤ r.commit → r.commit ≤ l.head
    → (r.checkpoint < l.head) ⊎ ((l.head ≡ 0) ⊎ (is_some (header_at r l.head) ≡ true)) → fits l r ≡ true
fits_of l r room low up (inl above) =
    rw (le-leb l.head (window_end r) room, le-leb l.lo r.commit low, le-leb r.commit l.head up, lt-ltb r.checkpoint l.head above) refl
fits_of l r room low up (inr (inl none)) =
    rw (le-leb l.head (window_end r) room, le-leb l.lo r.commit low, le-leb r.commit l.head up, eq-eqb l.head 0 none) (or_true (nat_lt r.checkpoint l.head))
  where
    or_true : (b : Bool) → (b || true) ≡ true
    or_true true = refl
    or_true false = refl
fits_of l r room low up (inr (inr known)) =
    rw (le-leb l.head (window_end r) room, le-leb l.lo r.commit low, le-leb r.commit l.head up, known) (two_true (nat_lt r.checkpoint l.head) (l.head == 0))
  where
    two_true : (a b : Bool) → (a || (b || true)) ≡ true
    two_true true b = refl
    two_true false true = refl
    two_true false false = refl

newer_of : (l : Log) (r : Replica) → l.view ≡ r.view → r.log_view < r.view → is_newer l r ≡ true
newer_of l r same before =
    rw (same, lt-ltb r.log_view r.view before, eq-eqb r.view r.view refl) (or_true (nat_lt r.view r.view))
  where
    or_true : (b : Bool) → (b || true) ≡ true
    or_true true = refl
    or_true false = refl

may_take_of : (hash : List ℕ → List ℕ) (l : Log) (r : Replica) → is_newer l r ≡ true → fits l r ≡ true → may_take hash l r ≡ is_chain hash l.headers
unfolding may_take
may_take_of hash l r newer fit = rw (newer, fit) refl

-- ---- how far the statements reach

-- what a statement says is here lies in its sender's window
here_near : (r : Replica) (k : ℕ) (h : Header) → IsSound r → stated_part k (statement_of r) ≡ Here h → k ≤ r.checkpoint + 64
here_near r k h sound e =
    elim (cases_lt (run_start r) k) [
      | inl after ↦
          let here : part_at r k ≡ Here h = sym (stated_at r k sound after) ∙ e in
          (known_within r k (spans_of r sound) (rw here refl)).1
      | inr before ↦ let reach = (run_of r sound).reach in omega (arith, reach, before)
    ]

pub top_most : (rs : List Replica) → All (λ (r : Replica). r.checkpoint ≤ top_checkpoint rs) rs
top_most rs = All-each (λ (r : Replica). r.checkpoint ≤ top_checkpoint rs) rs (λ r there. most rs r there)
  where
    most : (rs : List Replica) (r : Replica) → Contains rs r → r.checkpoint ≤ top_checkpoint rs
    most [] r there = absurd (let l = there.1 in omega (arith, l))
    most (x ∷ rs) r (zero, l, e) = let same : x.checkpoint ≡ r.checkpoint = ap (λ (y : Replica). y.checkpoint) e in omega (arith, same)
    most (x ∷ rs) r (suc i, l, e) = let rest = most rs r (i, omega (arith, l), e) in omega (arith, rest)

-- the greatest commit number lies in the window above the greatest checkpoint
commit_near : (rs : List Replica) → All IsSound rs → top_commit (statements rs) ≤ top_checkpoint rs + 64
commit_near [] all = omega arith
commit_near (r ∷ rs) all =
    let sound = All-head IsSound r rs all in
    let known = sound.order.known in
    let window = sound.order.window in
    let own = stated_commit r in
    let rest = commit_near rs (All-tail IsSound r rs all) in
    omega (arith, known, window, own, rest)

-- ---- the first of those with the greatest commit number

attained : (ss : List Statement) (c : ℕ) → c ≡ top_commit ss → 0 < length ss → (s : Statement) × (find (λ (s : Statement). s.commit == c) ss ≡ Some s)
attained [] c e some = absurd (omega (arith, some))
attained (s ∷ ss) c e some =
    elim (s.commit == c) as (λ b. (s.commit == c) ≡ b → (x : Statement) × (cond b (Some s) (find (λ (s : Statement). s.commit == c) ss) ≡ Some x)) [
      | true ↦ λ t. (s, refl)
      | false ↦ λ t.
          elim (cases_lt s.commit c) [
            | inl below ↦
                let rest : c ≡ top_commit ss = omega (arith, e, below) in
                let more : 0 < length ss = nonempty ss c rest (omega (arith, below)) in
                attained ss c rest more
            | inr above ↦ let same : s.commit ≡ c = omega (arith, e, above) in absurd (true≢false (sym (eq-eqb s.commit c same) ∙ t))
          ]
    ] refl
  where
    nonempty : (ss : List Statement) (c : ℕ) → c ≡ top_commit ss → 0 < c → 0 < length ss
    nonempty [] c e l = absurd (omega (arith, e, l))
    nonempty (s ∷ ss) c e l = omega arith

-- its run reaches down to its checkpoint, and so does the log
start_low : (ss : List Statement) (head low : ℕ) → 0 < length ss → All (λ (s : Statement). s.body.first ≤ low + 1) ss → head ≤ low + 64 → log_start ss head ≤ low
start_low ss head low some all near =
    let far = attained ss (top_commit ss) refl some in
    let s = far.0 in
    let first = (found (λ (s : Statement). s.body.first ≤ low + 1) (λ (s : Statement). s.commit == top_commit ss) ss s far.1 all).1 in
    rw (far.1) (omega (arith, first, near))

-- ---- the log that is chosen

are_statements : (file cluster n : ℕ) (rs : List Replica) → All (IsMemberOf file cluster n) rs → All (IsStatement file cluster) (statements rs)
are_statements file cluster n rs all =
    All-map (IsStatement file cluster) statement_of rs (All-weaker (IsMemberOf file cluster n) (λ r. IsStatement file cluster (statement_of r)) (λ r m.
    subst (λ v. IsStatement v cluster (statement_of r)) m.of_version (subst (λ c. IsStatement (version r) c (statement_of r)) m.of_group (own_statement r m.sound).statement)) rs all)

pub furthest_members_take : FurthestMembersTake
furthest_members_take file cluster n q rs r headers hash heard there top known before e =
    let ss = statements rs in
    let k : ℕ = top_checkpoint rs in
    let all = sound_of file cluster n rs heard.members in
    let are = are_statements file cluster n rs heard.members in
    let meets : IsChoice q ss (Ends headers) = subst (IsChoice q ss) e (choice_meets q ss (bounded ss (some_statements file cluster ss are))) in
    let h : ℕ = meets.head in
    let above = meets.ends.next.above in
    let whole = meets.log.whole in
    let end : log_end (top_commit ss) headers ≡ h = log_end_is file cluster ss h headers whole (omega (arith, above)) (headers_stand file cluster ss h headers are meets.log) in
    let sound = All-contains IsSound rs r all there in
    let applied = sound.order.applied in
    let commit = sound.order.commit in
    let most = All-contains (λ (x : Replica). x.commit ≤ top_commit ss) rs r (commit_most rs) there in
    let Near : Statement → Type 0 = λ s. (j : ℕ) (x : Header) → stated_part j s ≡ Here x → j ≤ k + 64 in
    let near_all : All Near ss = All-map Near statement_of rs (All-each (λ x. Near (statement_of x)) rs (λ x at j y is.
    let one = here_near x j y (All-contains IsSound rs x all at) is in
    let top = All-contains (λ (x : Replica). x.checkpoint ≤ k) rs x (top_most rs) at in
    omega (arith, one, top))) in
    let near : h ≤ k + 64 = elim (cases_lt (top_commit ss) h) [
      | inl more ↦
          let i = (meets.ends.next.whole h more (omega arith)) in
          let there = i.here in
          let s = All-contains Near ss there.1 near_all (there.0, there.2, there.3) in
          s h i.header there.4
      | inr at ↦ let room = commit_near rs all in omega (arith, at, room)
    ] in
    let low_all : All (λ (s : Statement). s.body.first ≤ k + 1) ss = All-map (λ (s : Statement). s.body.first ≤ k + 1) statement_of rs (All-each (λ x. (statement_of x).body.first ≤ k + 1) rs (λ x at.
    let reach = (run_of x (All-contains IsSound rs x all at)).reach in
    let top = All-contains (λ (x : Replica). x.checkpoint ≤ k) rs x (top_most rs) at in
    let first = stated_first x in
    omega (arith, reach, top, first))) in
    let some : 0 < length rs = let l = there.1 in omega (arith, l) in
    let low = start_low ss h k (rw (length-map rs statement_of) some) low_all near in
    let last : (r.checkpoint < h) ⊎ ((h ≡ 0) ⊎ (is_some (header_at r h) ≡ true)) = elim (cases_lt k h) [
      | inl up ↦ inl (omega (arith, top, up))
      | inr at ↦
          let same : r.checkpoint ≡ h = omega (arith, top, at, applied, commit, most, above) in
          elim (cases_lt 0 h) [
            | inl up ↦ inr (inr (subst (λ j. knows r j ≡ true) same (known.known (omega (arith, same, up)))))
            | inr none ↦ inr (inl (omega (arith, none)))
          ]
    ] in
    let l : Log = chosen_log r ss headers in
    let lo : l.lo ≤ r.commit = omega (arith, end, whole, low, top, applied, commit) in
    let up : r.commit ≤ l.head = omega (arith, end, most, above) in
    let room : l.head ≤ window_end r = omega (arith, end, near, top) in
    let lasts : (r.checkpoint < l.head) ⊎ ((l.head ≡ 0) ⊎ (is_some (header_at r l.head) ≡ true)) = subst (λ j. (r.checkpoint < j) ⊎ ((j ≡ 0) ⊎ (is_some (header_at r j) ≡ true))) (sym end) last in
    may_take_of hash l r (newer_of l r refl before) (fits_of l r room lo up lasts)

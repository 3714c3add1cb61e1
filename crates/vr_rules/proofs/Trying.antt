-- The primary of a view that isn't started takes over a log that its group's statements give.
use Rattle.std.proofs.Common.{ℕ, zero, suc, ◌+◌, ◌-◌, ◌≤◌, ◌<◌, ◌≡◌, ◌∙◌, inl, inr, arith, refl, sym, ap, subst, Bool, true, false, cond, List, [], ◌∷◌, length, get_or, Option, Some, None, eqb, rules}
use Rattle.std.specs.Prelude.{All, slice_get, filter_map, nat_le, not, ◌&&◌}
use Rattle.std.specs.List.{find, range_with_len, cons_option}
use Rattle.std.specs.Option.{option_and_then, option_map_or}
use Rattle.std.proofs.lemmas.Bool.{cases_lt, le-leb, lt-leb, lt-ltb, le-ltb}
use Rattle.std.proofs.lemmas.List.Elements.{All-cons, All-nil, All-head, All-tail, All-weaker}
use Rattle.vr_base.specs.declared.table.Quorums.{Quorums}
use Rattle.vr_base.specs.Groups.{quorums_of}
use Rattle.vr_header.specs.declared.header.Header.{Header}
use Rattle.vr_header.specs.declared.part.Part.{Part}
use Rattle.vr_header.specs.declared.part.Part.TheVariants.{Here, Lost, Wanted, Unknown, Nothing}
use Rattle.vr_header.specs.Spelling.{IsHeader}
use Rattle.vr_header.specs.Parts.{header_of}
use Rattle.vr_msg.specs.declared.choice.Choice.{Choice}
use Rattle.vr_msg.specs.declared.choice.Choice.TheVariants.{Ends, WaitsAt, TooFew}
use Rattle.vr_msg.specs.declared.statement.Statement.{Statement}
use Rattle.vr_msg.specs.Choice.{IsChoice, choice, chosen_header, farthest, stated_header, log_start, named, named_by, ops, start_of, top_commit, top_view}
use Rattle.vr_msg.specs.Logs.{FromOp, IsEntryAt, IsStatement}
use Rattle.vr_msg.specs.Spelling.{AreHeaders}
use Rattle.vr_choose.proofs.Bounds.{bounded, some_statements}
use Rattle.vr_choose.proofs.Choices.{choice_meets}
use Rattle.vr_choose.proofs.Logs.{found}
use Rattle.vr_choose.proofs.Standing.{headers_stand}
use Rattle.vr_rules.specs.Replica.{Replica, head, is_primary, is_started, view_change, statement_of, version}
use Rattle.vr_rules.specs.Steps.{Setting, says}
use Rattle.vr_rules.specs.Outputs.{to_primary, do_view_change, wait_line}
use Rattle.vr_rules.specs.Words.{Log, may_take, take, prepare_again, stated, log_end, chosen_log, choose_line, begin_view, try_log, obey_choice, decided, try, speak}
use Rattle.vr_rules.specs.Sound.{IsStated, IsSound}
use Rattle.vr_rules.proofs.Combining.{KeptBy, Keeps, kept_then, kept_says_then, kept_by, kept_naming, kept_if, kept_when, keeps_then, keeps_quiet, keeps_says, keeps_by, keeps_when, keeps_if, keeps_each}
use Rattle.vr_rules.proofs.Stating.{own_statement}
use Rattle.vr_rules.specs.Given.{IsLogFor}
use Rattle.vr_rules.proofs.Taking.{MayTake, may_take_is, kept_take, log_reaches}
use Rattle.vr_rules.proofs.Wording.{keeps_prepare_again, keeps_apply, keeps_advance}

-- ---- lists

each_kept : {X : Type 0} (P : X → Type 0) (f : ℕ → Option X) (is : List ℕ) → ((i : ℕ) (x : X) → f i ≡ Some x → P x) → All P (filter_map f is)
each_kept P f [] h = All-nil P
each_kept {X} P f (i ∷ is) h =
    let rest = each_kept P f is h in
    elim (f i) as (λ (o : Option X). f i ≡ o → All P (cons_option o (filter_map f is))) [
      | None ↦ λ e. rest
      | Some x ↦ λ e. All-cons P x (filter_map f is) (h i x e) rest
    ] refl

pub from_at : {X : Type 0} (P : ℕ → X → Type 0) (op : ℕ) (xs : List X) (i : ℕ) (x : X) → FromOp P op xs → slice_get xs i ≡ Some x → P (op + i) x
from_at P op [] i x all e = absurd cc
from_at P op (y ∷ ys) zero x all e =
    let same : y ≡ x = cc in
    let place : op ≡ op + 0 = omega arith in
    subst (λ k. P k x) place (subst (P op) same all.0)
from_at P op (y ∷ ys) (suc i) x all e =
    let place : op + 1 + i ≡ op + suc i = omega arith in
    subst (λ k. P k x) place (from_at P (op + 1) ys i x all.1 e)

known_header : (ps : List Part) (i : ℕ) (h : Header) → AreHeaders (filter_map header_of ps) → header_of (get_or ps i Nothing) ≡ Some h → IsHeader h
known_header [] i h all e = absurd cc
known_header (Here g ∷ ps) zero h all e = let same : g ≡ h = cc in subst IsHeader same all.0
known_header (Lost g ∷ ps) zero h all e = let same : g ≡ h = cc in subst IsHeader same all.0
known_header (Wanted g ∷ ps) zero h all e = let same : g ≡ h = cc in subst IsHeader same all.0
known_header (Unknown ∷ ps) zero h all e = absurd cc
known_header (Nothing ∷ ps) zero h all e = absurd cc
known_header (Here g ∷ ps) (suc i) h all e = known_header ps i h all.1 e
known_header (Lost g ∷ ps) (suc i) h all e = known_header ps i h all.1 e
known_header (Wanted g ∷ ps) (suc i) h all e = known_header ps i h all.1 e
known_header (Unknown ∷ ps) (suc i) h all e = known_header ps i h all e
known_header (Nothing ∷ ps) (suc i) h all e = known_header ps i h all e

-- ---- what is stated

pub all_stated : (r : Replica) → IsSound r → All (IsStated (version r) r.cluster r.view) (stated r)
unfolding stated
all_stated r h =
    each_kept (IsStated (version r) r.cluster r.view) (λ i. cond (eqb i r.index) (Some (statement_of r)) (get_or r.statements i None)) (range_with_len 0 r.n) (λ i s e.
    elim (eqb i r.index) as (λ b. cond b (Some (statement_of r)) (get_or r.statements i None) ≡ Some s → IsStated (version r) r.cluster r.view s) [
      | true ↦ λ t. let same : statement_of r ≡ s = search (rules, t) in subst (IsStated (version r) r.cluster r.view) same (own_statement r h)
      | false ↦ λ t. h.stated.each i s t
    ] e)

top_view_low : (v : ℕ) (ss : List Statement) → All (λ s. s.log_view ≤ v) ss → top_view ss ≤ v
top_view_low v [] all = omega arith
top_view_low v (s ∷ ss) all =
    let first = All-head (λ (s : Statement). s.log_view ≤ v) s ss all in
    let rest = top_view_low v ss (All-tail (λ (s : Statement). s.log_view ≤ v) s ss all) in
    omega arith

stated_is_header : (v cluster last k : ℕ) (s : Statement) (h : Header) → IsStated v cluster last s → stated_header k s ≡ Some h → IsHeader h
stated_is_header v cluster last k s h is e =
    elim (cases_lt k s.body.first) [
      | inl before ↦ let no_header : header_of Nothing ≡ Some h = rw (lt-ltb k s.body.first before) at e in absurd cc
      | inr from ↦
          let there : header_of (get_or s.body.parts (k - s.body.first) Nothing) ≡ Some h = rw (le-ltb k s.body.first from) at e in
          known_header s.body.parts (k - s.body.first) h is.values there
    ]

found_header : (v cluster last k : ℕ) (p : Statement → Bool) (ss : List Statement) (h : Header) (o : Option Statement) → find p ss ≡ o → All (IsStated v cluster last) ss
    → option_and_then (stated_header k) o ≡ Some h → IsHeader h
found_header v cluster last k p ss h None i all e = absurd cc
found_header v cluster last k p ss h (Some s) i all e = stated_is_header v cluster last k s h (found (IsStated v cluster last) p ss s i all).1 e

chosen_is : (v cluster last k : ℕ) (ss : List Statement) (h : Header) → All (IsStated v cluster last) ss → chosen_header ss k ≡ Some h → IsHeader h
unfolding named_by
chosen_is v cluster last k ss h all e =
    elim (cases_lt (top_commit ss) k) [
      | inl above ↦
          let there : named ss k ≡ Some h = rw (lt-leb k (top_commit ss) above) at e in
          found_header v cluster last k _ ss h _ refl all there
      | inr below ↦
          let there : option_and_then (stated_header k) (farthest ss) ≡ Some h = rw (le-leb k (top_commit ss) below) at e in
          found_header v cluster last k _ ss h _ refl all there
    ]

-- ---- the log that is chosen

start_low : (C head : ℕ) (o : Option Statement) → option_map_or (start_of C head) o C ≤ C
start_low C head None = omega arith
start_low C head (Some s) = omega arith

pub log_end_is : (v cluster : ℕ) (ss : List Statement) (head : ℕ) (hs : List Header) → log_start ss head + length hs ≡ head → top_commit ss ≤ head
    → FromOp (IsEntryAt v cluster (top_view ss)) (log_start ss head + 1) hs → log_end (top_commit ss) hs ≡ head
log_end_is v cluster ss head [] whole low all = let start = start_low (top_commit ss) head (farthest ss) in omega arith
log_end_is v cluster ss head (h ∷ hs) whole low all =
    let there = log_reaches (h ∷ hs) (length hs) (omega arith) in
    let is = from_at (IsEntryAt v cluster (top_view ss)) (log_start ss head + 1) (h ∷ hs) (length hs) there.0 all there.1 in
    let op = is.at_op in
    let place : length (h ∷ hs) - 1 ≡ length hs = omega arith in
    let last : slice_get (h ∷ hs) (length (h ∷ hs) - 1) ≡ Some there.0 = ap (slice_get (h ∷ hs)) place ∙ there.1 in
    rw last (omega arith)

pub chosen_log_is : (r : Replica) (q : Quorums) (ss : List Statement) (hs : List Header) → All (IsStated (version r) r.cluster r.view) ss → choice q ss ≡ Ends hs → IsLogFor r (chosen_log r ss hs)
chosen_log_is r q ss hs all e =
    let are = All-weaker (IsStated (version r) r.cluster r.view) (IsStatement (version r) r.cluster) (λ s i. i.statement) ss all in
    let meets : IsChoice q ss (Ends hs) = subst (IsChoice q ss) e (choice_meets q ss (bounded ss (some_statements (version r) r.cluster ss are))) in
    let top : ℕ = meets.head in
    let log = meets.log in
    let whole = log.whole in
    let above = meets.ends.next.above in
    let stand = headers_stand (version r) r.cluster ss top hs are log in
    let low = top_view_low r.view ss (All-weaker (IsStated (version r) r.cluster r.view) (λ s. s.log_view ≤ r.view) (λ s i. i.view) ss all) in
    let end : log_end (top_commit ss) hs ≡ top = log_end_is (version r) r.cluster ss top hs whole (omega arith) stand in
    record {
      commit = omega (arith, end);
      count = omega (arith, end);
      each = λ i h at.
          let is = from_at (IsEntryAt (version r) r.cluster (top_view ss)) (log_start ss top + 1) hs i h stand at in
          let made = is.made in
          let within = at_within hs i h at in
          let start : log_start ss top + 1 + i ≡ log_end (top_commit ss) hs - length hs + 1 + i = omega (arith, end) in
          let place : log_start ss top + 1 + i - (log_start ss top + 1) ≡ i = omega arith in
          let chosen : slice_get hs i ≡ chosen_header ss (log_start ss top + 1 + i) = subst (λ j. slice_get hs j ≡ chosen_header ss (log_start ss top + 1 + i)) place (log.each (log_start ss top + 1 + i) (omega arith) (omega arith)) in
          let entry : IsEntryAt (version r) r.cluster r.view (log_start ss top + 1 + i) h = record { entry = is.entry; of_version = is.of_version; of_group = is.of_group; at_op = is.at_op; made = omega arith } in (
            chosen_is (version r) r.cluster r.view (log_start ss top + 1 + i) ss h all (sym chosen ∙ at),
            subst (λ k. IsEntryAt (version r) r.cluster r.view k h) start entry,
          );
    }
  where
    at_within : {X : Type 0} (xs : List X) (i : ℕ) (x : X) → slice_get xs i ≡ Some x → i < length xs
    at_within [] i x e = absurd cc
    at_within (y ∷ ys) zero x e = omega arith
    at_within (y ∷ ys) (suc i) x e = let rest = at_within ys i x e in omega arith

-- ---- the words

kept_begin_view : {F : Type 0} (ss : List Statement) (l : Log) (s : Setting F) (r : Replica) (f : F) → IsSound r → IsLogFor r l → MayTake l r → KeptBy (begin_view ss l) s r f
unfolding begin_view
kept_begin_view ss l s r f h log m =
    kept_says_then (choose_line ss l) _ s r f (λ d.
    kept_then (take l) _ s r d (kept_take l s r d h log m)
    (keeps_then _ _ (keeps_says _) (keeps_then _ _ (keeps_by _ (λ r. keeps_each prepare_again (ops r.commit l.head) keeps_prepare_again)) (keeps_by _ (λ r. keeps_if _ _ _ keeps_advance keeps_apply)))))

kept_try_log : {F : Type 0} (ss : List Statement) (l : Log) (s : Setting F) (r : Replica) (f : F) → IsSound r → IsLogFor r l → KeptBy (try_log ss l) s r f
unfolding try_log
kept_try_log ss l s r f h log =
    kept_naming _ s r f (kept_by _ s r f (kept_if (may_take s.hash l r) (begin_view ss l) (says (wait_line l.head)) s r f
    (λ t. kept_begin_view ss l s r f h log (may_take_is s.hash l r t))
    (λ t. (keeps_says (wait_line l.head)).every s r f h)))

pub decided_ends : (n : ℕ) (ss : List Statement) (hs : List Header) (o : Option Quorums) → option_map_or (λ q. choice q ss) o TooFew ≡ Ends hs → (q : Quorums) × (choice q ss ≡ Ends hs)
decided_ends n ss hs None e = absurd cc
decided_ends n ss hs (Some q) e = (q, e)

kept_obey_choice : {F : Type 0} (c : Choice) (s : Setting F) (r : Replica) (f : F) → IsSound r → decided r ≡ c → KeptBy (obey_choice (stated r) c) s r f
kept_obey_choice TooFew s r f h e = keeps_quiet.every s r f h
kept_obey_choice (WaitsAt op) s r f h e = (keeps_says (wait_line op)).every s r f h
kept_obey_choice (Ends hs) s r f h e =
    let q = decided_ends r.n (stated r) hs (quorums_of r.n) e in
    kept_by _ s r f (kept_try_log (stated r) (chosen_log r (stated r) hs) s r f h (chosen_log_is r q.0 (stated r) hs (all_stated r h) q.1))

pub keeps_try : {F : Type 0} → Keeps {F = F} try
unfolding try
keeps_try = record {
  every = λ s r f h. kept_by _ s r f (kept_when (is_primary r && not (is_started r)) (obey_choice (stated r) (decided r)) s r f h (λ t. kept_obey_choice (decided r) s r f h refl));
}

pub keeps_speak : {F : Type 0} → Keeps {F = F} speak
unfolding speak
keeps_speak = keeps_by _ (λ r. keeps_when (nat_le (view_change r.n) _) _ (keeps_if (is_primary r) try _ keeps_try (keeps_says (to_primary do_view_change))))

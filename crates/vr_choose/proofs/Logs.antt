-- The headers of the new log.
use Rattle.std.proofs.Common.{ℕ, zero, suc, ◌+◌, ◌-◌, ◌≤◌, ◌<◌, ◌≡◌, inl, inr, arith, refl, sym, ap, ◌∙◌, Bool, true, false, cond, ◌==◌, List, [], ◌∷◌, length, Option, Some, None, subst}
use Rattle.std.specs.Prelude.{slice_get, IsSome, All}
use Rattle.std.specs.List.{range_with_len, filter_map, find, cons_option}
use Rattle.std.specs.Option.{option_and_then, option_map_or}
use Rattle.std.proofs.lemmas.Bool.{cases_lt, le-leb, lt-leb, eqb-true}
use Rattle.std.proofs.lemmas.List.Elements.{All-head, All-tail}
use Rattle.vr_header.specs.declared.header.Header.{Header}
use Rattle.vr_msg.specs.declared.statement.Statement.{Statement}
use Rattle.vr_msg.specs.Choice.{stated_header, top_commit, named, IsIntact, farthest, start_of, log_start, chosen_header, IsLog, log_headers}
use Rattle.vr_choose.proofs.Bounds.{IsBounded}

-- where each number of a range has an item, all are there, in order
pub items_at : {X : Type 0} (f : ℕ → Option X) (a n : ℕ) → ((k : ℕ) → a ≤ k → k < a + n → IsSome (f k))
    → (length (filter_map f (range_with_len a n)) ≡ n) × ((k : ℕ) → a ≤ k → k < a + n → slice_get (filter_map f (range_with_len a n)) (k - a) ≡ f k)
items_at f a zero h = (refl, λ k l m. absurd (omega arith))
items_at {X} f a (suc n) h =
    let rest = items_at f (a + 1) n (λ k l m. h k (omega arith) (omega arith)) in
    let cases : (o : Option X) → f a ≡ o → IsSome o
    → (length (cons_option o (filter_map f (range_with_len (a + 1) n))) ≡ suc n)
    × ((k : ℕ) → a ≤ k → k < a + suc n → slice_get (cons_option o (filter_map f (range_with_len (a + 1) n))) (k - a) ≡ f k) =
    elim [
      | None ↦ λ e s. cc
      | Some x ↦ λ e s. (
        rw (rest.0) refl,
        λ k l m.
            elim (cases_lt a k) [
              | inl above ↦ let i : k - a ≡ suc (k - (a + 1)) = omega arith in rw i (rest.1 k (omega arith) (omega arith))
              | inr at ↦ let i : k - a ≡ 0 = omega arith in let same : a ≡ k = omega arith in rw i (sym e ∙ ap f same)
            ],
      )
    ] in
    cases (f a) refl (h a (omega arith) (omega arith))

-- a list that has at each place what f gives of that number
pub items_are : {X : Type 0} (f : ℕ → Option X) (a : ℕ) (xs : List X) → ((i : ℕ) → i < length xs → slice_get xs i ≡ f (a + i)) → xs ≡ filter_map f (range_with_len a (length xs))
items_are f a [] h = refl
items_are f a (x ∷ xs) h =
    let first : Some x ≡ f a = h 0 (omega arith) ∙ ap f (omega arith) in
    let rest : xs ≡ filter_map f (range_with_len (a + 1) (length xs)) =
    items_are f (a + 1) xs (λ i l. h (suc i) (omega arith) ∙ ap f (omega arith)) in
    rw (← first) (ap (λ (ys : List _). x ∷ ys) rest)

pub found : {X : Type 0} (P : X → Type 0) (p : X → Bool) (xs : List X) (x : X) → find p xs ≡ Some x → All P xs → (p x ≡ true) × P x
found P p [] x e all = cc
found P p (y ∷ ys) x e all =
    elim (p y) as (λ b. p y ≡ b → cond b (Some y) (find p ys) ≡ Some x → (p x ≡ true) × P x) [
      | true ↦ λ t e. let same : y ≡ x = cc in (rw (← same) t, subst P same (All-head P y ys all))
      | false ↦ λ t e. found P p ys x e (All-tail P y ys all)
    ] refl e

-- up to the greatest commit number, the first statement that has it knows each header from the start on
known_front : (C head k : ℕ) (o : Option Statement) → ((s : Statement) → o ≡ Some s → (s.commit ≡ C) × IsBounded s)
    → option_map_or (start_of C head) o C < k → k ≤ C → IsSome (option_and_then (stated_header k) o)
known_front C head k None h l m = absurd (omega arith)
known_front C head k (Some s) h l m =
    let p = h s refl in
    let is = p.1 in
    let committed = is.committed in
    is.known k (omega arith) (omega (arith, p.0))

pub farthest_is : (ss : List Statement) → All IsBounded ss → (s : Statement) → farthest ss ≡ Some s → (s.commit ≡ top_commit ss) × IsBounded s
farthest_is ss all s e =
    let f = found IsBounded (λ (s : Statement). s.commit == top_commit ss) ss s e all in
    (eqb-true s.commit (top_commit ss) f.0, f.1)

known_open : (ss : List Statement) (k : ℕ) → IsIntact ss k → IsSome (named ss k)
known_open ss k i = rw (i.is_named) refl

pub chosen_front : (ss : List Statement) (k : ℕ) → k ≤ top_commit ss → chosen_header ss k ≡ option_and_then (stated_header k) (farthest ss)
chosen_front ss k m = rw (le-leb k (top_commit ss) m) refl

pub chosen_open : (ss : List Statement) (k : ℕ) → top_commit ss < k → chosen_header ss k ≡ named ss k
chosen_open ss k l = rw (lt-leb k (top_commit ss) l) refl

known_each : (ss : List Statement) (head : ℕ) → All IsBounded ss → ((j : ℕ) → top_commit ss < j → j ≤ head → IsIntact ss j)
    → (k : ℕ) → log_start ss head < k → k ≤ head → IsSome (chosen_header ss k)
known_each ss head all whole k l m =
    elim (cases_lt (top_commit ss) k) [
      | inl above ↦ rw (chosen_open ss k above) (known_open ss k (whole k above m))
      | inr below ↦ rw (chosen_front ss k below) (known_front (top_commit ss) head k (farthest ss) (farthest_is ss all) l below)
    ]

start_low : (C head : ℕ) (o : Option Statement) → option_map_or (start_of C head) o C ≤ C
start_low C head None = omega arith
start_low C head (Some s) = omega arith

pub log_is : (ss : List Statement) (head : ℕ) → All IsBounded ss → top_commit ss ≤ head → ((j : ℕ) → top_commit ss < j → j ≤ head → IsIntact ss j)
    → IsLog ss head (log_headers ss head)
unfolding log_headers
log_is ss head all reaches whole =
    let start : ℕ = log_start ss head in
    let low : start ≤ top_commit ss = start_low (top_commit ss) head (farthest ss) in
    let at = items_at (chosen_header ss) (start + 1) (head - start) (λ k l m. known_each ss head all whole k (omega arith) (omega arith)) in
    record {
      whole = omega (arith, at.0);
      each = λ k l m. at.1 k (omega arith) (omega arith);
    }

-- these are the only ones
pub log_only : (ss : List Statement) (head : ℕ) (headers : List Header) → IsLog ss head headers → headers ≡ log_headers ss head
unfolding log_headers
log_only ss head headers log =
    let start : ℕ = log_start ss head in
    let whole = log.whole in
    let size : length headers ≡ head - start = omega arith in
    let each : (i : ℕ) → i < length headers → slice_get headers i ≡ chosen_header ss (start + 1 + i) =
    λ i l.
    let place : start + 1 + i - (start + 1) ≡ i = omega arith in
    rw place at (log.each (start + 1 + i) (omega arith) (omega arith)) in
    rw (← size) (items_are (chosen_header ss) (start + 1) headers each)

-- The headers of a chosen log stand at their ops.
use Rattle.std.proofs.Common.{ℕ, zero, suc, ◌+◌, ◌-◌, ◌≤◌, ◌<◌, ◌≡◌, ◌∙◌, inl, inr, arith, refl, sym, subst, List, [], ◌∷◌, length, get_or, Option, Some, None, ◌==◌}
use Rattle.std.specs.Prelude.{All, slice_get}
use Rattle.std.specs.Option.{option_and_then, option_map_or}
use Rattle.std.proofs.lemmas.Bool.{cases_lt, le-ltb, lt-ltb}
use Rattle.std.proofs.lemmas.List.{get_or_past}
use Rattle.std.proofs.lemmas.List.Elements.{All-contains}
use Rattle.vr_header.specs.declared.header.Header.{Header}
use Rattle.vr_header.specs.declared.part.Part.{Part}
use Rattle.vr_header.specs.declared.part.Part.TheVariants.{Here, Lost, Wanted, Unknown, Nothing}
use Rattle.vr_header.specs.Parts.{header_of}
use Rattle.vr_msg.specs.declared.statement.Statement.{Statement}
use Rattle.vr_msg.specs.Logs.{FromOp, IsEntryAt, IsPartAt, IsStatement}
use Rattle.vr_msg.specs.Choice.{stated_header, top_view, top_commit, named, farthest, start_of, log_start, chosen_header}
use Rattle.vr_choose.specs.Laws.{HeadersStand, HeadersFew}
use Rattle.vr_choose.proofs.Logs.{found, chosen_front, chosen_open}
use Rattle.vr_choose.proofs.Named.{names_of}
use Rattle.vr_choose.proofs.Order.{view_most}

item_stands : {X : Type 0} (P : ℕ → X → Type 0) (op : ℕ) (xs : List X) (i : ℕ) (d : X) → FromOp P op xs → i < length xs → P (op + i) (get_or xs i d)
item_stands P op [] i d all l = absurd (omega arith)
item_stands P op (x ∷ xs) zero d all l = let e : op ≡ op + 0 = omega arith in rw e at all.0
item_stands P op (x ∷ xs) (suc i) d all l = let e : op + 1 + i ≡ op + suc i = omega arith in rw e at (item_stands P (op + 1) xs i d all.1 (omega arith))

all_stand : {X : Type 0} (P : ℕ → X → Type 0) (op : ℕ) (xs : List X) → ((i : ℕ) (x : X) → slice_get xs i ≡ Some x → P (op + i) x) → FromOp P op xs
all_stand P op [] h = tt
all_stand P op (x ∷ xs) h =
    let e : op + 0 ≡ op = omega arith in
    (rw e at (h 0 x refl), all_stand P (op + 1) xs (λ i y at. let f : op + suc i ≡ op + 1 + i = omega arith in rw f at (h (suc i) y at)))

-- of the header that a part knows
part_header : (version cluster last op : ℕ) (p : Part) (h : Header) → IsPartAt version cluster last op p → header_of p ≡ Some h → IsEntryAt version cluster last op h
part_header version cluster last op (Here g) h is e = let same : g ≡ h = cc in subst (IsEntryAt version cluster last op) same is
part_header version cluster last op (Lost g) h is e = let same : g ≡ h = cc in subst (IsEntryAt version cluster last op) same is
part_header version cluster last op (Wanted g) h is e = let same : g ≡ h = cc in subst (IsEntryAt version cluster last op) same is
part_header version cluster last op Unknown h is e = cc
part_header version cluster last op Nothing h is e = cc

stated_stands : (version cluster k : ℕ) (s : Statement) (h : Header) → IsStatement version cluster s → stated_header k s ≡ Some h → IsEntryAt version cluster s.log_view k h
stated_stands version cluster k s h is e =
    elim (cases_lt k s.body.first) [
      | inl before ↦ let none : header_of Nothing ≡ Some h = rw (lt-ltb k s.body.first before) at e in cc
      | inr from ↦
          let i : ℕ = k - s.body.first in
          let there : header_of (get_or s.body.parts i Nothing) ≡ Some h = rw (le-ltb k s.body.first from) at e in
          elim (cases_lt i (length s.body.parts)) [
            | inl within ↦
                let part = item_stands (IsPartAt version cluster s.log_view) s.body.first s.body.parts i Nothing is.parts within in
                let op : s.body.first + i ≡ k = omega arith in
                rw op at (part_header version cluster s.log_view (s.body.first + i) (get_or s.body.parts i Nothing) h part there)
            | inr past ↦ let none : header_of Nothing ≡ Some h = rw (get_or_past s.body.parts i Nothing past) at there in cc
          ]
    ]

later : (version cluster last most op : ℕ) (h : Header) → last ≤ most → IsEntryAt version cluster last op h → IsEntryAt version cluster most op h
later version cluster last most op h l is = let made = is.made in record { entry = is.entry; of_version = is.of_version; of_group = is.of_group; at_op = is.at_op; made = omega arith }

front_stands : (version cluster k : ℕ) (ss : List Statement) (h : Header) (o : Option Statement) → All (IsStatement version cluster) ss → farthest ss ≡ o
    → option_and_then (stated_header k) o ≡ Some h → IsEntryAt version cluster (top_view ss) k h
front_stands version cluster k ss h None all f e = cc
front_stands version cluster k ss h (Some s) all f e =
    let is = (found (IsStatement version cluster) (λ (s : Statement). s.commit == top_commit ss) ss s f all).1 in
    let low = (found (λ s. s.log_view ≤ top_view ss) (λ (s : Statement). s.commit == top_commit ss) ss s f (view_most ss)).1 in
    later version cluster s.log_view (top_view ss) k h low (stated_stands version cluster k s h is e)

open_stands : (version cluster k : ℕ) (ss : List Statement) (h : Header) → All (IsStatement version cluster) ss → named ss k ≡ Some h → IsEntryAt version cluster (top_view ss) k h
open_stands version cluster k ss h all e =
    let names = names_of (top_view ss) k ss h e in
    let s = names.statement in
    let is = All-contains (IsStatement version cluster) ss s all names.there in
    let view = names.view in
    later version cluster s.log_view (top_view ss) k h (omega arith) (stated_stands version cluster k s h is names.header)

chosen_stands : (version cluster k : ℕ) (ss : List Statement) (h : Header) → All (IsStatement version cluster) ss → chosen_header ss k ≡ Some h → IsEntryAt version cluster (top_view ss) k h
chosen_stands version cluster k ss h all e =
    elim (cases_lt (top_commit ss) k) [
      | inl above ↦ open_stands version cluster k ss h all (sym (chosen_open ss k above) ∙ e)
      | inr below ↦ front_stands version cluster k ss h (farthest ss) all refl (sym (chosen_front ss k below) ∙ e)
    ]

there_within : {X : Type 0} (xs : List X) (i : ℕ) (x : X) → slice_get xs i ≡ Some x → i < length xs
there_within [] i x e = cc
there_within (y ∷ ys) zero x e = omega arith
there_within (y ∷ ys) (suc i) x e = let rest = there_within ys i x e in omega arith

pub headers_stand : HeadersStand
headers_stand version cluster ss head headers all log =
    let start : ℕ = log_start ss head in
    let whole = log.whole in
    all_stand (IsEntryAt version cluster (top_view ss)) (start + 1) headers (λ i x at.
    let within = there_within headers i x at in
    let place : start + 1 + i - (start + 1) ≡ i = omega arith in
    let is : slice_get headers i ≡ chosen_header ss (start + 1 + i) = rw place at (log.each (start + 1 + i) (omega arith) (omega arith)) in
    chosen_stands version cluster (start + 1 + i) ss x all (sym is ∙ at))

start_high : (commit head : ℕ) (o : Option Statement) → head ≤ commit + 64 → head ≤ option_map_or (start_of commit head) o commit + 64
start_high commit head None l = l
start_high commit head (Some s) l = omega arith

pub headers_few : HeadersFew
headers_few ss head headers log near =
    let whole = log.whole in
    let high = start_high (top_commit ss) head (farthest ss) near in
    omega arith

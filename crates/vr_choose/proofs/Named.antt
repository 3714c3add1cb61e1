-- Who names a header.
use Rattle.std.proofs.Common.{ℕ, ◌≡◌, ◌∙◌, refl, sym, ap, Bool, true, false, cond, ◌&&◌, ◌==◌, List, [], ◌∷◌, Option, Some, None}
use Rattle.std.specs.Prelude.{All, Contains, is_some}
use Rattle.std.specs.List.{find}
use Rattle.std.specs.List.Sorted.{IsPermutation}
use Rattle.std.specs.Option.{option_and_then}
use Rattle.std.proofs.lemmas.Bool.{and_parts, eqb-true, eq-eqb}
use Rattle.std.proofs.lemmas.List.Elements.{All-cons, All-nil, All-contains, All-contains_itself}
use Rattle.std.proofs.lemmas.List.Sorted.{IsPermutation-sym, Contains-permutation}
use Rattle.vr_header.specs.declared.header.Header.{Header}
use Rattle.vr_msg.specs.declared.statement.Statement.{Statement}
use Rattle.vr_msg.specs.Choice.{stated_header, top_view, named, named_by}
use Rattle.vr_choose.specs.Laws.{NamesAgree, KeepsNames}
use Rattle.vr_choose.proofs.Logs.{found}
use Rattle.vr_choose.proofs.Order.{same_view}

-- a statement that gives the header named by log view w
pub record Names (w k : ℕ) (ss : List Statement) (h : Header) : Type 0 where
  pub statement : Statement
  pub there : Contains ss statement
  pub view : statement.log_view ≡ w
  pub header : stated_header k statement ≡ Some h

named_in : (w k : ℕ) (ss : List Statement) (h : Header) (o : Option Statement) → find (λ s. (s.log_view == w) && is_some (stated_header k s)) ss ≡ o
    → option_and_then (stated_header k) o ≡ Some h → Names w k ss h
named_in w k ss h None f e = cc
named_in w k ss h (Some s) f e =
    let is = found (Contains ss) (λ (s : Statement). (s.log_view == w) && is_some (stated_header k s)) ss s f (All-contains_itself ss) in
    record { statement = s; there = is.1; view = eqb-true s.log_view w (and_parts (s.log_view == w) (is_some (stated_header k s)) is.0).0; header = e }

pub names_of : (w k : ℕ) (ss : List Statement) (h : Header) → named_by w k ss ≡ Some h → Names w k ss h
unfolding named_by
names_of w k ss h e = named_in w k ss h (find (λ s. (s.log_view == w) && is_some (stated_header k s)) ss) refl e

no_header : (o : Option Header) → is_some o ≡ false → o ≡ None
no_header None e = refl
no_header (Some h) e = cc

-- of one that comes first, by whether it passes the test
first_unnamed : (t u : Bool) → (t && u) ≡ false → t ≡ true → u ≡ false
first_unnamed true u e t = e
first_unnamed false u e t = cc

-- where none is named, no statement of that log view has a header
pub unnamed : (w k : ℕ) (ss : List Statement) → named_by w k ss ≡ None → All (λ s. s.log_view ≡ w → stated_header k s ≡ None) ss
unfolding named_by
unnamed w k [] e = All-nil (λ s. s.log_view ≡ w → stated_header k s ≡ None)
unnamed w k (s ∷ ss) e =
    let P : Statement → Type 0 = λ s. s.log_view ≡ w → stated_header k s ≡ None in
    elim ((s.log_view == w) && is_some (stated_header k s)) as (λ b. ((s.log_view == w) && is_some (stated_header k s)) ≡ b
    → option_and_then (stated_header k) (cond b (Some s) (find (λ s. (s.log_view == w) && is_some (stated_header k s)) ss)) ≡ None → All P (s ∷ ss)) [
      | true ↦ λ t n.
          let some : is_some (stated_header k s) ≡ true = (and_parts (s.log_view == w) (is_some (stated_header k s)) t).1 in
          let none : is_some {T = Header} None ≡ true = rw n at some in
          cc
      | false ↦ λ t n. All-cons P s ss
          (λ v. no_header (stated_header k s) (first_unnamed (s.log_view == w) (is_some (stated_header k s)) t (eq-eqb s.log_view w v)))
          (unnamed w k ss n)
    ] refl e

same_named : (ss ts : List Statement) (k : ℕ) → IsPermutation ss ts → NamesAgree ss → (a b : Option Header) → named ss k ≡ a → named ts k ≡ b → a ≡ b
same_named ss ts k p agree None None e f = refl
same_named ss ts k p agree (Some a) (Some b) e f =
    let one = names_of (top_view ss) k ss a e in
    let other = names_of (top_view ts) k ts b f in
    let back = Contains-permutation ts ss other.statement (IsPermutation-sym ss ts p) other.there in
    ap Some (agree k one.statement other.statement a b one.there back one.view (other.view ∙ sym (same_view ss ts p)) one.header other.header)
same_named ss ts k p agree (Some a) None e f =
    let one = names_of (top_view ss) k ss a e in
    let on = Contains-permutation ss ts one.statement p one.there in
    let none = All-contains (λ s. s.log_view ≡ top_view ts → stated_header k s ≡ None) ts one.statement (unnamed (top_view ts) k ts f) on (one.view ∙ same_view ss ts p) in
    let clash : Some a ≡ None = sym one.header ∙ none in
    cc
same_named ss ts k p agree None (Some b) e f =
    let other = names_of (top_view ts) k ts b f in
    let back = Contains-permutation ts ss other.statement (IsPermutation-sym ss ts p) other.there in
    let none = All-contains (λ s. s.log_view ≡ top_view ss → stated_header k s ≡ None) ss other.statement (unnamed (top_view ss) k ss e) back (other.view ∙ sym (same_view ss ts p)) in
    let clash : Some b ≡ None = sym other.header ∙ none in
    cc

pub keeps_names : KeepsNames
keeps_names ss ts p agree k = same_named ss ts k p agree (named ss k) (named ts k) refl refl

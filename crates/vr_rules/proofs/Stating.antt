-- What a sound replica states of its log is of the form of a statement.
use Rattle.std.proofs.Common.{ℕ, zero, suc, ◌+◌, ◌-◌, ◌≤◌, ◌<◌, ◌≡◌, ◌∙◌, inl, inr, arith, refl, sym, ap, subst, true, List, [], ◌∷◌, length, get_or, take, drop, reverse, Some}
use Rattle.std.specs.Prelude.{slice_get, filter_map}
use Rattle.std.specs.List.{prefix_len, take_while}
use Rattle.std.proofs.lemmas.Bool.{cases_lt, true≢false}
use Rattle.std.proofs.lemmas.List.{get_or-drop, get_or-take, get_or-reverse, get_or_past, length-drop, length-take-le, length-reverse}
use Rattle.std.proofs.lemmas.List.Sums.{prefix_len-le-length, prefix_len_passes, prefix_len_stops, take_while-cons}
use Rattle.vr_header.specs.declared.header.Header.{Header}
use Rattle.vr_header.specs.declared.part.Part.{Part}
use Rattle.vr_header.specs.declared.part.Part.TheVariants.{Here, Lost, Wanted, Unknown, Nothing}
use Rattle.vr_header.specs.Spelling.{IsHeader}
use Rattle.vr_header.specs.Parts.{has_header, header_of}
use Rattle.vr_msg.specs.Logs.{FromOp, IsEntryAt, IsPartAt}
use Rattle.vr_msg.specs.Spelling.{AreHeaders}
use Rattle.vr_rules.specs.Replica.{Replica, part_at, parts_from, head, run, run_start, is_nothing, trimmed, statement_of, knows, version}
use Rattle.vr_rules.specs.Sound.{IsStated, IsSound}
use Rattle.vr_rules.proofs.Heads.{prefix_reaches, part_within, head_from, head_within, head_knows, head_stops}
use Rattle.vr_rules.proofs.Keeping.{spans_of}
use Rattle.vr_rules.proofs.Storing.{head_number}

-- ---- lists

run_length : (ps : List Part) → length (filter_map header_of (take_while has_header ps)) ≡ prefix_len has_header ps
run_length [] = refl
run_length (Here h ∷ ps) = let rest = run_length ps in rw (take_while-cons has_header (Here h) ps) (omega (arith, rest))
run_length (Lost h ∷ ps) = let rest = run_length ps in rw (take_while-cons has_header (Lost h) ps) (omega (arith, rest))
run_length (Wanted h ∷ ps) = let rest = run_length ps in rw (take_while-cons has_header (Wanted h) ps) (omega (arith, rest))
run_length (Unknown ∷ ps) = refl
run_length (Nothing ∷ ps) = refl

nothing_is : (p : Part) → is_nothing p ≡ true → p ≡ Nothing
nothing_is (Here h) e = absurd cc
nothing_is (Lost h) e = absurd cc
nothing_is (Wanted h) e = absurd cc
nothing_is Unknown e = absurd cc
nothing_is Nothing e = refl

trimmed_at : (ps : List Part) (i : ℕ) → get_or (trimmed ps) i Nothing ≡ get_or ps i Nothing
trimmed_at ps i =
    let j : ℕ = prefix_len is_nothing (reverse ps) in
    let size = length-reverse ps in
    let few = prefix_len-le-length is_nothing (reverse ps) in
    let n : ℕ = length ps - j in
    elim (cases_lt i n) [
      | inl within ↦ get_or-take n ps i Nothing within
      | inr past ↦
          get_or_past (take n ps) i Nothing (omega (arith, length-take-le n ps (omega arith))) ∙ sym (elim (cases_lt i (length ps)) [
            | inl l ↦
                let at = prefix_len_passes is_nothing (reverse ps) (length ps - 1 - i) Nothing (omega arith) in
                let back = get_or-reverse ps (length ps - 1 - i) Nothing (omega arith) in
                let place : length ps - 1 - (length ps - 1 - i) ≡ i = omega arith in
                sym (back ∙ ap (λ k. get_or ps k Nothing) place) ∙ nothing_is _ at
            | inr m ↦ get_or_past ps i Nothing m
          ])
    ]

got : {X : Type 0} (xs : List X) (i : ℕ) (x d : X) → slice_get xs i ≡ Some x → (i < length xs) × (get_or xs i d ≡ x)
got [] i x d e = absurd cc
got (y ∷ ys) zero x d e = (omega arith, cc)
got (y ∷ ys) (suc i) x d e = let rest = got ys i x d e in (omega (arith, rest.0), rest.1)

trimmed_last : (ps : List Part) → slice_get (trimmed ps) (length (trimmed ps) - 1) ≡ Some Nothing → ⊥
trimmed_last ps e =
    let j : ℕ = prefix_len is_nothing (reverse ps) in
    let size = length-reverse ps in
    let few = prefix_len-le-length is_nothing (reverse ps) in
    let n : ℕ = length ps - j in
    let len : length (trimmed ps) ≡ n = length-take-le n ps (omega arith) in
    let g = got (trimmed ps) (length (trimmed ps) - 1) Nothing Nothing e in
    let some : 0 < n = omega (arith, g.0, len) in
    let last : get_or ps (n - 1) Nothing ≡ Nothing = ap (λ k. get_or ps (k - 1) Nothing) (sym len) ∙ sym (trimmed_at ps (length (trimmed ps) - 1)) ∙ g.1 in
    let stops = prefix_len_stops is_nothing (reverse ps) Nothing (omega arith) in
    let back = get_or-reverse ps j Nothing (omega arith) in
    let place : length ps - 1 - j ≡ n - 1 = omega arith in
    let at : get_or (reverse ps) j Nothing ≡ Nothing = back ∙ ap (λ k. get_or ps k Nothing) place ∙ last in
    true≢false (sym (ap is_nothing at) ∙ stops)

trimmed_short : (ps : List Part) → length (trimmed ps) ≤ length ps
trimmed_short ps =
    let j : ℕ = prefix_len is_nothing (reverse ps) in
    omega (arith, length-take-le (length ps - j) ps (omega arith))

all_from : {X : Type 0} (P : ℕ → X → Type 0) (op : ℕ) (d : X) (xs : List X) → ((i : ℕ) → i < length xs → P (op + i) (get_or xs i d)) → FromOp P op xs
all_from P op d [] h = tt
all_from P op d (x ∷ xs) h =
    let e : op + 0 ≡ op = omega arith in (
      subst (λ k. P k x) e (h 0 (omega arith)),
      all_from P (op + 1) d xs (λ i l. let f : op + suc i ≡ op + 1 + i = omega arith in subst (λ k. P k (get_or xs i d)) f (h (suc i) (omega arith))),
    )

part_is : (v cluster last k : ℕ) (p : Part) → ((h : Header) → header_of p ≡ Some h → IsEntryAt v cluster last k h) → IsPartAt v cluster last k p
part_is v cluster last k (Here h) all = all h refl
part_is v cluster last k (Lost h) all = all h refl
part_is v cluster last k (Wanted h) all = all h refl
part_is v cluster last k Unknown all = tt
part_is v cluster last k Nothing all = tt

are_known : (ps : List Part) → ((i : ℕ) (h : Header) → header_of (get_or ps i Nothing) ≡ Some h → IsHeader h) → AreHeaders (filter_map header_of ps)
are_known [] all = tt
are_known (Here h ∷ ps) all = (all 0 h refl, are_known ps (λ i g e. all (suc i) g e))
are_known (Lost h ∷ ps) all = (all 0 h refl, are_known ps (λ i g e. all (suc i) g e))
are_known (Wanted h ∷ ps) all = (all 0 h refl, are_known ps (λ i g e. all (suc i) g e))
are_known (Unknown ∷ ps) all = are_known ps (λ i g e. all (suc i) g e)
are_known (Nothing ∷ ps) all = are_known ps (λ i g e. all (suc i) g e)

-- ---- the run of known headers that ends at the head

-- the Parts up to the head, the last one first
abbrev pub back : Replica → List Part
back r = reverse (take (head r + 1 - r.first) r.parts)

pub back_size : (r : Replica) → IsSound r → length (back r) ≡ head r + 1 - r.first
back_size r h =
    let s = spans_of r h in
    let parts = s.parts in
    let within = head_within r s in
    length-reverse (take (head r + 1 - r.first) r.parts) ∙ length-take-le (head r + 1 - r.first) r.parts (omega arith)

pub back_at : (r : Replica) (i : ℕ) → IsSound r → i < head r + 1 - r.first → get_or (back r) i Nothing ≡ part_at r (head r - i)
back_at r i h l =
    let s = spans_of r h in
    let parts = s.parts in
    let within = head_within r s in
    let n : ℕ = head r + 1 - r.first in
    let size : length (take n r.parts) ≡ n = length-take-le n r.parts (omega arith) in
    let place : length (take n r.parts) - 1 - i ≡ head r - i - r.first = omega arith in
    get_or-reverse (take n r.parts) i Nothing (omega arith)
    ∙ ap (λ k. get_or (take n r.parts) k Nothing) place
    ∙ get_or-take n r.parts (head r - i - r.first) Nothing (omega arith)
    ∙ sym (part_within r (head r - i) (omega arith))

pub run_size : (r : Replica) → length (run r) ≡ prefix_len has_header (back r)
unfolding run
run_size r = length-reverse (filter_map header_of (take_while has_header (back r))) ∙ run_length (back r)

pub record Run (r : Replica) : Type 0 where
  pub short : length (run r) ≤ 64
  pub start : head r ≡ run_start r + length (run r)
  pub first : r.first ≤ run_start r + 1
  pub reach : run_start r ≤ r.checkpoint
  pub known : (k : ℕ) → run_start r < k → k ≤ head r → knows r k ≡ true

pub run_of : (r : Replica) → IsSound r → Run r
run_of r h =
    let s = spans_of r h in
    let few = h.lists.few in
    let reach = s.reach in
    let from = head_from r in
    let size = run_size r in
    let most = prefix_len-le-length has_header (back r) in
    let length_is = back_size r h in
    let least = prefix_reaches has_header (back r) (head r - r.checkpoint) Nothing refl
    (λ i l. ap has_header (back_at r i h (omega arith)) ∙ head_knows r (head r - i) s (omega arith) (omega arith)) in
    record {
      short = omega arith;
      start = omega arith;
      first = omega arith;
      reach = omega arith;
      known = λ k a b.
          let i : ℕ = head r - k in
          let place : head r - i ≡ k = omega arith in
          let passes = prefix_len_passes has_header (back r) i Nothing (omega arith) in
          subst (λ j. knows r j ≡ true) place (sym (ap has_header (back_at r i h (omega arith))) ∙ passes);
    }

-- ---- the statement

-- the Parts that it gives
abbrev pub given : Replica → List Part
given r = trimmed (parts_from r (run_start r + 1))

pub given_at : (r : Replica) (i : ℕ) → IsSound r → get_or (given r) i Nothing ≡ part_at r (run_start r + 1 + i)
given_at r i h =
    let first = (run_of r h).first in
    let d : ℕ = run_start r + 1 - r.first in
    let place : d + i ≡ run_start r + 1 + i - r.first = omega arith in
    trimmed_at (drop d r.parts) i ∙ get_or-drop d r.parts i Nothing ∙ ap (λ k. get_or r.parts k Nothing) place ∙ sym (part_within r (run_start r + 1 + i) (omega arith))

given_run : (r : Replica) → IsSound r → prefix_len has_header (given r) ≡ head r - run_start r
given_run r h =
    let w = run_of r h in
    let start = w.start in
    let m : ℕ = head r - run_start r in
    let least = prefix_reaches has_header (given r) m Nothing refl (λ i l. ap has_header (given_at r i h) ∙ w.known (run_start r + 1 + i) (omega arith) (omega arith)) in
    elim (cases_lt m (prefix_len has_header (given r))) [
      | inl more ↦
          let passes = prefix_len_passes has_header (given r) m Nothing more in
          let place : run_start r + 1 + m ≡ head r + 1 = omega arith in
          absurd (head_stops r (spans_of r h) (subst (λ j. knows r j ≡ true) place (sym (ap has_header (given_at r m h)) ∙ passes)))
      | inr most ↦ omega arith
    ]

pub own_statement : (r : Replica) → IsSound r → IsStated (version r) r.cluster r.view (statement_of r)
unfolding statement_of
own_statement r h =
    let o = h.order in
    let l = h.lists in
    let w = run_of r h in
    let start = w.start in
    let short = w.short in
    let reach = w.reach in
    let first = w.first in
    let parts = l.parts in
    let few = l.few in
    let from = head_from r in
    let low = o.applied in
    let below = o.commit in
    let size = given_run r h in
    let d : ℕ = run_start r + 1 - r.first in
    let all : length (drop d r.parts) ≡ length r.parts - d = length-drop d r.parts in
    let trim = trimmed_short (drop d r.parts) in
    let each : (i : ℕ) (g : Header) → header_of (get_or (given r) i Nothing) ≡ Some g → IsHeader g × IsEntryAt (version r) r.cluster r.log_view (run_start r + 1 + i) g =
    λ i g e. h.entries.each (run_start r + 1 + i) g (sym (ap header_of (given_at r i h)) ∙ e) in
    record {
      statement = record {
        commit = o.known;
        head = head_number r h;
        first = (omega arith, omega arith);
        run = omega arith;
        short = omega arith;
        count = omega arith;
        last = trimmed_last (drop d r.parts);
        parts = all_from (IsPartAt (version r) r.cluster r.log_view) (run_start r + 1) Nothing (given r) (λ i m. part_is (version r) r.cluster r.log_view (run_start r + 1 + i) _ (λ g e. (each i g e).1));
      };
      values = are_known (given r) (λ i g e. (each i g e).0);
      view = o.views;
    }

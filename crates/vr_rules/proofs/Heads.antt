-- What a replica knows of an op, and of its head.
use Rattle.std.proofs.Common.{ℕ, zero, suc, ◌+◌, ◌-◌, ◌≤◌, ◌<◌, ◌≡◌, ◌≢◌, ◌∙◌, inl, inr, arith, refl, sym, ap, subst, Bool, true, false, List, [], ◌∷◌, length, get_or, set, drop, map, Some, None, is_some}
use Rattle.std.specs.List.{prefix_len, range_with_len}
use Rattle.std.proofs.lemmas.Bool.{cases_lt, lt-ltb, le-ltb, true≢false}
use Rattle.std.proofs.lemmas.List.{get_or-drop, get_or_past, get_or-set_same, get_or-set_other, length-set, length-drop}
use Rattle.std.proofs.lemmas.List.FromFn.{length-map-range_with_len, get_or-map-range_with_len}
use Rattle.std.proofs.lemmas.List.Sums.{prefix_len-le-length, prefix_len_passes}
use Rattle.vr_header.specs.declared.header.Header.{Header}
use Rattle.vr_header.specs.declared.part.Part.{Part}
use Rattle.vr_header.specs.declared.part.Part.TheVariants.{Nothing}
use Rattle.vr_header.specs.Parts.{header_of, has_header}
use Rattle.vr_rules.specs.Replica.{Replica, part_at, head, forgetting, with_part, knows}

-- ---- lists

-- where each of the first ones passes, so many do
pub prefix_reaches : {X : Type 0} (p : X → Bool) (xs : List X) (m : ℕ) (d : X) → p d ≡ false → ((i : ℕ) → i < m → p (get_or xs i d) ≡ true) → m ≤ prefix_len p xs
prefix_reaches p xs zero d n h = omega arith
prefix_reaches p [] (suc m) d n h = absurd (true≢false (sym (h 0 (omega arith)) ∙ n))
prefix_reaches p (x ∷ xs) (suc m) d n h =
    let rest = prefix_reaches p xs m d n (λ i l. h (suc i) (omega arith)) in
    rw (h 0 (omega arith)) (omega (arith, rest))

-- ---- Parts by op

-- the lists of ops are in order, as far as Parts are concerned
pub record Spans (r : Replica) : Type 0 where
  pub reach : r.first ≤ r.checkpoint + 1
  pub parts : r.first + length r.parts ≡ r.checkpoint + 65

pub part_within : (r : Replica) (k : ℕ) → r.first ≤ k → part_at r k ≡ get_or r.parts (k - r.first) Nothing
unfolding part_at
part_within r k l = rw (le-ltb k r.first l) refl

pub part_before : (r : Replica) (k : ℕ) → k < r.first → part_at r k ≡ Nothing
unfolding part_at
part_before r k l = rw (lt-ltb k r.first l) refl

pub part_past : (r : Replica) (k : ℕ) → r.first + length r.parts ≤ k → part_at r k ≡ Nothing
part_past r k l = part_within r k (omega arith) ∙ get_or_past r.parts (k - r.first) Nothing (omega arith)

-- what is known lies within the lists
pub known_within : (r : Replica) (k : ℕ) → Spans r → knows r k ≡ true → (r.first ≤ k) × (k ≤ r.checkpoint + 64)
known_within r k s e =
    elim (cases_lt k r.first) [
      | inl before ↦ absurd (true≢false (sym e ∙ ap has_header (part_before r k before)))
      | inr from ↦
          elim (cases_lt k (r.checkpoint + 65)) [
            | inl near ↦ (from, omega arith)
            | inr past ↦ let p = s.parts in absurd (true≢false (sym e ∙ ap has_header (part_past r k (omega arith))))
          ]
    ]

pub knows_some : (r : Replica) (k : ℕ) (h : Header) → header_of (part_at r k) ≡ Some h → knows r k ≡ true
knows_some r k h e = rw e refl

pub some_known : (r : Replica) (k : ℕ) → knows r k ≡ true → (h : Header) × (header_of (part_at r k) ≡ Some h)
some_known r k e =
    elim (header_of (part_at r k)) as (λ o. header_of (part_at r k) ≡ o → is_some o ≡ true → (h : Header) × (header_of (part_at r k) ≡ Some h)) [
      | None ↦ λ q t. absurd cc
      | Some h ↦ λ q t. (h, q)
    ] refl e

-- ---- the head

pub head_from : (r : Replica) → r.checkpoint ≤ head r
unfolding head
head_from r = omega arith

pub head_within : (r : Replica) → Spans r → head r ≤ r.checkpoint + 64
unfolding head
head_within r s =
    let d : ℕ = r.checkpoint + 1 - r.first in
    let p = s.parts in
    let q = s.reach in
    let l = prefix_len-le-length has_header (drop d r.parts) in
    let m = length-drop d r.parts in
    omega arith

pub head_knows : (r : Replica) (k : ℕ) → Spans r → r.checkpoint < k → k ≤ head r → knows r k ≡ true
unfolding head
head_knows r k s a b =
    let d : ℕ = r.checkpoint + 1 - r.first in
    let i : ℕ = k - (r.checkpoint + 1) in
    let q = s.reach in
    let passes = prefix_len_passes has_header (drop d r.parts) i Nothing (omega arith) in
    let at : get_or (drop d r.parts) i Nothing ≡ get_or r.parts (d + i) Nothing = get_or-drop d r.parts i Nothing in
    let place : d + i ≡ k - r.first = omega arith in
    let same : get_or (drop d r.parts) i Nothing ≡ part_at r k = at ∙ ap (λ j. get_or r.parts j Nothing) place ∙ sym (part_within r k (omega arith)) in
    sym (ap has_header same) ∙ passes

pub head_reaches : (r : Replica) (n : ℕ) → Spans r → ((k : ℕ) → r.checkpoint < k → k ≤ n → knows r k ≡ true) → n ≤ head r
unfolding head
head_reaches r n s h =
    let d : ℕ = r.checkpoint + 1 - r.first in
    let q = s.reach in
    let each : (i : ℕ) → i < n - r.checkpoint → has_header (get_or (drop d r.parts) i Nothing) ≡ true =
    λ i l.
    let k : ℕ = r.checkpoint + 1 + i in
    let at : get_or (drop d r.parts) i Nothing ≡ get_or r.parts (d + i) Nothing = get_or-drop d r.parts i Nothing in
    let place : d + i ≡ k - r.first = omega arith in
    ap has_header (at ∙ ap (λ j. get_or r.parts j Nothing) place ∙ sym (part_within r k (omega arith))) ∙ h k (omega arith) (omega arith) in
    let far = prefix_reaches has_header (drop d r.parts) (n - r.checkpoint) Nothing refl each in
    omega arith

pub head_stops : (r : Replica) → Spans r → knows r (head r + 1) ≡ true → ⊥
head_stops r s e =
    let far = head_reaches r (head r + 1) s (λ k a b. elim (cases_lt k (head r + 1)) [
      | inl l ↦ head_knows r k s a (omega arith)
      | inr m ↦ let same : head r + 1 ≡ k = omega arith in subst (λ j. knows r j ≡ true) same e
    ]) in
    omega arith

-- what is known of another replica with this checkpoint gives its head
pub head_least : (r q : Replica) → Spans r → Spans q → q.checkpoint ≡ r.checkpoint → ((k : ℕ) → knows r k ≡ true → knows q k ≡ true) → head r ≤ head q
head_least r q s t c h = head_reaches q (head r) t (λ k a b. h k (head_knows r k s (omega arith) b))

-- ---- a Part is set

pub with_part_spans : (k : ℕ) (p : Part) (r : Replica) → Spans r → Spans (with_part k p r)
unfolding with_part
with_part_spans k p r s = record { reach = s.reach; parts = rw (length-set r.parts (k - r.first) p) s.parts }

pub with_part_at : (k : ℕ) (p : Part) (r : Replica) → r.first ≤ k → k < r.first + length r.parts → part_at (with_part k p r) k ≡ p
unfolding with_part
with_part_at k p r a b =
    part_within (record r { parts = set r.parts (k - r.first) p }) k a ∙ get_or-set_same r.parts (k - r.first) p Nothing (omega arith)

pub with_part_other : (k : ℕ) (p : Part) (r : Replica) (j : ℕ) → r.first ≤ k → j ≢ k → part_at (with_part k p r) j ≡ part_at r j
unfolding with_part
with_part_other k p r j a n =
    let q : Replica = record r { parts = set r.parts (k - r.first) p } in
    elim (cases_lt j r.first) [
      | inl before ↦ part_before q j before ∙ sym (part_before r j before)
      | inr from ↦
          part_within q j from ∙ get_or-set_other r.parts (k - r.first) (j - r.first) p Nothing (λ e. n (omega (arith, e))) ∙ sym (part_within r j from)
    ]

-- ---- ops are forgotten

abbrev pub gone : Replica → ℕ
gone r = head r - 63 - r.first

pub forgetting_spans : (r : Replica) → Spans r → Spans (forgetting r)
unfolding forgetting
forgetting_spans r s =
    let a = s.reach in
    let b = s.parts in
    let c = head_within r s in
    record {
      reach = omega arith;
      parts = omega (arith, length-drop (gone r) r.parts);
    }

pub forgetting_at : (r : Replica) (k : ℕ) → r.first + gone r ≤ k → part_at (forgetting r) k ≡ part_at r k
unfolding forgetting
forgetting_at r k l =
    let q : Replica = record r { first = r.first + gone r; parts = drop (gone r) r.parts; ackers = drop (gone r) r.ackers } in
    let place : gone r + (k - (r.first + gone r)) ≡ k - r.first = omega arith in
    part_within q k l ∙ get_or-drop (gone r) r.parts (k - (r.first + gone r)) Nothing ∙ ap (λ i. get_or r.parts i Nothing) place ∙ sym (part_within r k (omega arith))

pub forgetting_before : (r : Replica) (k : ℕ) → k < r.first + gone r → part_at (forgetting r) k ≡ Nothing
unfolding forgetting
forgetting_before r k l =
    part_before (record r { first = r.first + gone r; parts = drop (gone r) r.parts; ackers = drop (gone r) r.ackers }) k l

pub forgetting_first : (r : Replica) → (forgetting r).first ≡ r.first + gone r
unfolding forgetting
forgetting_first r = refl

pub forgetting_checkpoint : (r : Replica) → (forgetting r).checkpoint ≡ r.checkpoint
unfolding forgetting
forgetting_checkpoint r = refl

-- what is known afterwards was known
pub forgetting_known : (r : Replica) (k : ℕ) (h : Header) → header_of (part_at (forgetting r) k) ≡ Some h → header_of (part_at r k) ≡ Some h
forgetting_known r k h e =
    elim (cases_lt k (r.first + gone r)) [
      | inl before ↦ let none : None ≡ Some h = sym (ap header_of (forgetting_before r k before)) ∙ e in absurd cc
      | inr from ↦ sym (ap header_of (forgetting_at r k from)) ∙ e
    ]

pub forgetting_head : (r : Replica) → Spans r → head (forgetting r) ≡ head r
forgetting_head r s =
    let q : Replica = forgetting r in
    let t = forgetting_spans r s in
    let c = forgetting_checkpoint r in
    let low : r.first + gone r ≤ r.checkpoint + 1 = omega (arith, t.reach, c, forgetting_first r) in
    let up = head_reaches q (head r) t (λ k a b. ap has_header (forgetting_at r k (omega arith)) ∙ head_knows r k s (omega arith) b) in
    let down = head_reaches r (head q) s (λ k a b. sym (ap has_header (forgetting_at r k (omega arith))) ∙ head_knows q k t (omega arith) b) in
    omega (arith, up, down)

-- ---- Parts are made anew, by their ops

abbrev pub remade : (ℕ → Part) → Replica → Replica
remade g r = record r { parts = map g (range_with_len r.first (length r.parts)) }

pub remade_spans : (g : ℕ → Part) (r : Replica) → Spans r → Spans (remade g r)
remade_spans g r s = record { reach = s.reach; parts = rw (length-map-range_with_len g r.first (length r.parts)) s.parts }

pub remade_at : (g : ℕ → Part) (r : Replica) (k : ℕ) → r.first ≤ k → k < r.first + length r.parts → part_at (remade g r) k ≡ g k
remade_at g r k a b =
    part_within (remade g r) k a ∙ get_or-map-range_with_len g r.first (length r.parts) (k - r.first) k Nothing (omega arith) (omega arith)

-- nothing is known of other ops
pub remade_known : (g : ℕ → Part) (r : Replica) (k : ℕ) → Spans r → knows (remade g r) k ≡ true → part_at (remade g r) k ≡ g k
remade_known g r k s e =
    let w = known_within (remade g r) k (remade_spans g r s) e in
    let p = s.parts in
    remade_at g r k w.0 (omega (arith, w.1))

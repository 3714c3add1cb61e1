-- What the order in which places are had comes to.
use Rattle.std.proofs.Common.{ap, arith, refl, sym, ◌≡◌, ◌≢◌, ◌<◌, ◌≤◌, ◌+◌, ◌-◌, ◌==◌, ℕ, Bool, true, false, nat_lt, nat_le, ◌&&◌, not, List, length, map, slice_get, slice_set, Option, Some, None, is_some, ◌⊎◌, inl, inr, min, if◌then◌else◌, option_map}
use Rattle.std.specs.Option.{option_map_or}
use Rattle.std.proofs.lemmas.Bool.{and_parts, cond_both}
use Rattle.std.proofs.lemmas.Grind.{common_steps}
use Rattle.std.proofs.lemmas.List.{get_or-set_other, length-set}
use Rattle.std.proofs.lemmas.Option.{slice_get-get_or, slice_get-map, slice_get_cases, slice_get_past}
use Rattle.vr_io_policy.specs.Guests.{answers, asks, comes, hears, speaks_as, speaks_for, waits, yields}
use Rattle.vr_io_policy.specs.Laws.{IsLate, Keeps, PlacesAreFair}
use Rattle.vr_io_policy.specs.Places.{at_place, has_word, speaking}
use Rattle.vr_io_policy.specs.Turns.{claim_of, first_turn, idle_turn, is_before, rank, turn_of, waiting_turn}
use Rattle.vr_io_policy.specs.declared.guest.Guest.{Guest}
use Rattle.vr_io_policy.specs.declared.turn.Claim.{Claim}
use Rattle.vr_io_policy.specs.declared.turn.Newcomer.{Newcomer}
use Rattle.vr_io_policy.specs.declared.turn.Turn.{Turn}
use Rattle.vr_io_policy.specs.declared.turn.Turn.TheVariants.{Useless, Forgotten, Crowding, Idle, Waiting, Awaited, Served}

members : (n : Newcomer) (g : Guest) (member : ℕ) → g.speaks ≡ Some member → Keeps n g
members n g member e = rw e refl

few : (member at : ℕ) (guests : List (Option Guest)) → 6 ≤ member → speaking member at guests ≡ guests
few member at guests h = let no : nat_lt member 6 ≡ false = grind (arith, common_steps, h) in rw no refl

word : (near : Bool) (count now : ℕ) (g : Guest) → ((comes near now).speaks ≡ None) × ((hears count now g).speaks ≡ g.speaks) × ((answers now g).speaks ≡ g.speaks)
word near count now g = (refl, refl, refl)

-- what stands at another place stays
other_place : (xs : List (Option Guest)) (at k : ℕ) (v : Option Guest) → k ≢ at → slice_get (slice_set xs at v) k ≡ slice_get xs k
other_place xs at k v ne = elim ((slice_get_cases xs k).1) [
  | inl within ↦ let below : k < length xs = within.1 in let below_too : k < length (slice_set xs at v) = rw (length-set xs at v) below in
      rw (slice_get-get_or (slice_set xs at v) k None below_too, slice_get-get_or xs k None below, get_or-set_other xs at k v None ne) refl
  | inr past ↦ let beyond : length xs ≤ k = past.0 in let beyond_too : length (slice_set xs at v) ≤ k = rw (length-set xs at v) beyond in
      rw (slice_get_past (slice_set xs at v) k beyond_too, slice_get_past xs k beyond) refl
]

-- who yields doesn't speak as that member
yielded : (member : ℕ) (g : Guest) → speaks_for member (yields member g) ≡ false
yielded member g = cond_both (speaks_for member g) None g.speaks (λ s. option_map_or (λ own. own == member) s false ≡ false) (λ _. refl) (λ no. no)

yielded_place : (member : ℕ) (p : Option Guest) → has_word member (option_map (yields member) p) ≡ false
yielded_place member None = refl
yielded_place member (Some g) = yielded member g

yielded_at : (member : ℕ) (p : Option (Option Guest)) → option_map_or (has_word member) (option_map (option_map (yields member)) p) false ≡ false
yielded_at member None = refl
yielded_at member (Some p) = yielded_place member p

-- an action at one place leaves the others
elsewhere : (f : Guest → Guest) (at k : ℕ) (xs : List (Option Guest)) → k ≢ at → slice_get (at_place f at xs) k ≡ slice_get xs k
elsewhere f at k xs ne = elim (slice_get xs at) as (λ p. slice_get (option_map_or (λ q. slice_set xs at (option_map f q)) p xs) k ≡ slice_get xs k) [
  | None ↦ refl
  | Some q ↦ other_place xs at k (option_map f q) ne
]

one : (member at k : ℕ) (guests : List (Option Guest)) → member < 6 → k ≢ at → option_map_or (has_word member) (slice_get (speaking member at guests) k) false ≡ false
one member at k guests h ne = let yes : nat_lt member 6 ≡ true = grind (arith, common_steps, h) in
    rw (yes, elsewhere (speaks_as member) at k (map (option_map (yields member)) guests) ne, slice_get-map (option_map (yields member)) guests k) (yielded_at member (slice_get guests k))

-- what has a turn has a claim
claims : (n : Newcomer) (g : Guest) (t : Turn) → turn_of n g ≡ Some t → (c : Claim) × (claim_of n (Some g) ≡ Some c)
claims n g t e = let c : Claim = record { turn = t; since = g.since } in (c, ap (option_map (λ (t : Turn). record { turn = t; since = g.since })) e)

kept : (n : Newcomer) (g : Guest) → turn_of n g ≡ None → Keeps n g
kept n g e = ap (option_map (λ (t : Turn). record { turn = t; since = g.since })) e

served : (n : Newcomer) (g : Guest) → n.near ≡ false → g.answered ≡ true → waits n.now g ≡ true → Keeps n g
served n g far answered w = kept n g (cond_both (is_some g.speaks) None (if waits n.now g then waiting_turn n g else Some (idle_turn n.now g)) (λ t. t ≡ None)
    (λ _. refl) (λ _. rw (w, answered, far) refl))

idle : (n : Newcomer) (g : Guest) → g.speaks ≡ None → (waits n.now g ≡ false) ⊎ (g.answered ≡ false) → (c : Claim) × (claim_of n (Some g) ≡ Some c)
idle n g none case = elim case [
  | inl still ↦ claims n g (idle_turn n.now g) (rw (none, still) refl)
  | inr never ↦ elim (waits n.now g) as (λ w. waits n.now g ≡ w → (c : Claim) × (claim_of n (Some g) ≡ Some c)) [
    | true ↦ λ w. claims n g (first_turn n g) (rw (none, w, never) refl)
    | false ↦ λ w. claims n g (idle_turn n.now g) (rw (none, w) refl)
  ] refl
]

strangers : (n : Newcomer) (g : Guest) → n.near ≡ true → g.speaks ≡ None → (c : Claim) × (claim_of n (Some g) ≡ Some c)
strangers n g near none = elim (waits n.now g) as (λ w. waits n.now g ≡ w → (c : Claim) × (claim_of n (Some g) ≡ Some c)) [
  | true ↦ λ w. claims n g (if not g.answered then first_turn n g else Served) (rw (none, w, near) (cond_both (not g.answered) (Some (first_turn n g)) (Some Served) (λ t. t ≡ Some (if not g.answered then first_turn n g else Served)) (λ h. rw h refl) (λ h. rw h refl)))
  | false ↦ λ w. claims n g (idle_turn n.now g) (rw (none, w) refl)
] refl

renew : (g : Guest) (count now : ℕ) → (asks g ≡ true) ⊎ (asks (hears count now g) ≡ false) → (hears count now g).since ≡ g.since
renew g count now case = cond_both (not (asks g) && nat_le 128 (min (g.said + count) 128)) now g.since (λ s. s ≡ g.since)
    (λ h. let p = and_parts (not (asks g)) (nat_le 128 (min (g.said + count) 128)) h in let p0 = p.0 in let p1 = p.1 in absurd (elim case [
      | inl a ↦ let no : not (asks g) ≡ false = ap not a in cc
      | inr a ↦ cc
    ]))
    (λ h. refl)

inside : (c d : Claim) → Some c ≡ Some d → c ≡ d
inside c d e = cc

-- a stranger that was answered and waits has the last turn, if any
last : (n : Newcomer) (g : Guest) (c : Claim) → g.speaks ≡ None → g.answered ≡ true → waits n.now g ≡ true → claim_of n (Some g) ≡ Some c → c.turn ≡ Served
last n g c none answered w e = cond_both n.near (Some Served) None (λ t. option_map (λ (t : Turn). record { turn = t; since = g.since }) t ≡ Some c → c.turn ≡ Served)
    (λ near e. ap (λ (c : Claim). c.turn) (sym (inside (record { turn = Served; since = g.since }) c e))) (λ near e. absurd cc) (rw (none, w, answered) at e)

-- one that waits for nothing has an earlier one
early : (n : Newcomer) (h : Guest) (d : Claim) → h.speaks ≡ None → waits n.now h ≡ false → claim_of n (Some h) ≡ Some d → rank d.turn < 6
early n h d none w e = let own = rw (none, w) at e in let same : idle_turn n.now h ≡ d.turn = ap (λ (c : Claim). c.turn) (inside (record { turn = idle_turn n.now h; since = h.since }) d own) in
    rw (← same) (cond_both (not h.answered) Useless (if nat_le 10000 (n.now - h.since) then Forgotten else Idle) (λ t. rank t < 6) (λ _. omega arith)
    (λ _. cond_both (nat_le 10000 (n.now - h.since)) Forgotten Idle (λ t. rank t < 6) (λ _. omega arith) (λ _. omega arith)))

-- so has one that waits for its first answer, and can't be a member's
early_too : (n : Newcomer) (h : Guest) (d : Claim) → h.speaks ≡ None → h.answered ≡ false → h.near ≡ false → waits n.now h ≡ true → claim_of n (Some h) ≡ Some d → rank d.turn < 6
early_too n h d none never far w e = let own = rw (none, w, never, far) at e in let t : Turn = if n.crowded then Crowding else Waiting in
    let same : t ≡ d.turn = ap (λ (c : Claim). c.turn) (inside (record { turn = t; since = h.since }) d own) in
    rw (← same) (cond_both n.crowded Crowding Waiting (λ t. rank t < 6) (λ _. omega arith) (λ _. omega arith))

early_both : (n : Newcomer) (h : Guest) (d : Claim) → h.speaks ≡ None → IsLate n h → claim_of n (Some h) ≡ Some d → rank d.turn < 6
early_both n h d none case e = elim case [
  | inl still ↦ early n h d none still e
  | inr new ↦ elim (waits n.now h) as (λ w. waits n.now h ≡ w → rank d.turn < 6) [
    | true ↦ λ w. early_too n h d none new.0 new.1 w e
    | false ↦ λ w. early n h d none w e
  ] refl
]

not_before : (c d : Claim) → rank d.turn < rank c.turn → is_before c d ≡ false
unfolding is_before
not_before c d h = grind (arith, common_steps, h)

up : (a : ℕ) → a < 6 → a < 7
up a h = omega arith

asking : (n : Newcomer) (g h : Guest) (c d : Claim) → g.speaks ≡ None → g.answered ≡ true → waits n.now g ≡ true → h.speaks ≡ None → waits n.now h ≡ false
    → claim_of n (Some g) ≡ Some c → claim_of n (Some h) ≡ Some d → is_before c d ≡ false
asking n g h c d none answered w none_too idle e f =
    not_before c d (rw (last n g c none answered w e) (up _ (early n h d none_too idle f)))

-- one that may be a member's, and waits to be heard
heard_last : (n : Newcomer) (g : Guest) (c : Claim) → g.speaks ≡ None → g.near ≡ true → g.answered ≡ false → waits n.now g ≡ true → claim_of n (Some g) ≡ Some c → c.turn ≡ Awaited
heard_last n g c none near never w e = let own = rw (none, w, never, near) at e in ap (λ (c : Claim). c.turn) (sym (inside (record { turn = Awaited; since = g.since }) c own))

awaited : (n : Newcomer) (g h : Guest) (c d : Claim) → g.speaks ≡ None → g.near ≡ true → g.answered ≡ false → waits n.now g ≡ true → h.speaks ≡ None → IsLate n h
    → claim_of n (Some g) ≡ Some c → claim_of n (Some h) ≡ Some d → is_before c d ≡ false
awaited n g h c d none near never w none_too late e f =
    not_before c d (rw (heard_last n g c none near never w e) (early_both n h d none_too late f))

pub are_fair : PlacesAreFair
are_fair = record { members = members; one = one; few = few; word = word; served = served; idle = idle; strangers = strangers; asking = asking; awaited = awaited; renew = renew }

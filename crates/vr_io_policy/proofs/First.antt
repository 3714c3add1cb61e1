-- Which of the places is had first.
use Rattle.std.proofs.Common.{arith, refl, ◌≡◌, ◌<◌, ◌≤◌, ◌+◌, ◌==◌, ℕ, Bool, true, false, nat_lt, ◌&&◌, ◌||◌, List, length, get_or, slice_get, Option, Some, None, IfSome, ◌⊎◌, inl, inr}
use Rattle.std.proofs.Math.Nat.{eq-or-lt_of_le}
use Rattle.std.proofs.lemmas.Bool.{cond_both}
use Rattle.std.proofs.lemmas.Grind.{common_steps}
use Rattle.std.proofs.lemmas.Option.{slice_get_cases, slice_get-get_or}
use Rattle.vr_io_policy.specs.Places.{IsFirst, IsPlace, NotBefore, claim_at, first_of}
use Rattle.vr_io_policy.specs.Turns.{claim_of, is_before, rank}
use Rattle.vr_io_policy.specs.declared.guest.Guest.{Guest}
use Rattle.vr_io_policy.specs.declared.places.Found.{Found}
use Rattle.vr_io_policy.specs.declared.turn.Claim.{Claim}
use Rattle.vr_io_policy.specs.declared.turn.Newcomer.{Newcomer}

-- none is before itself
not_itself : (c : Claim) → is_before c c ≡ false
unfolding is_before
not_itself c = grind (arith, common_steps)

-- what isn't before one isn't before an earlier one
not_before : (d c f : Claim) → is_before c f ≡ true → is_before d f ≡ false → is_before d c ≡ false
unfolding is_before
not_before d c f h g = grind (arith, common_steps, h, g)

-- one place more was looked at, and a claim to it is the first so far or isn't
own_more : (n : Newcomer) (guests : List (Option Guest)) (k : ℕ) (found : Option Found) (d : Option Claim)
    → claim_at n guests k ≡ d → IfSome found (λ f. claim_at n guests f.at ≡ Some f.claim)
    → IfSome (first_of found k d) (λ f. claim_at n guests f.at ≡ Some f.claim)
unfolding first_of
own_more n guests k found None e own = own
own_more n guests k None (Some c) e own = e
own_more n guests k (Some f) (Some c) e own =
    cond_both (is_before c f.claim) (Some (record { at = k; claim = c })) (Some f) (λ r. IfSome r (λ g. claim_at n guests g.at ≡ Some g.claim)) (λ t. e) (λ t. own)

-- what wasn't before what was found isn't before what is found now
still : (found : Option Found) (k : ℕ) (d e : Option Claim) → NotBefore found e → NotBefore (first_of found k d) e
unfolding first_of
still found k None e h = h
still None k (Some c) None h = tt
still None k (Some c) (Some d) h = absurd cc
still (Some f) k (Some c) None h = cond_both (is_before c f.claim) (Some (record { at = k; claim = c })) (Some f) (λ r. NotBefore r None) (λ t. tt) (λ t. tt)
still (Some f) k (Some c) (Some d) h =
    cond_both (is_before c f.claim) (Some (record { at = k; claim = c })) (Some f) (λ r. NotBefore r (Some d)) (λ t. not_before d c f.claim t h) (λ t. h)

-- nor is the claim itself
itself : (found : Option Found) (k : ℕ) (d : Option Claim) → NotBefore (first_of found k d) d
unfolding first_of
itself None k None = refl
itself (Some f) k None = tt
itself None k (Some c) = not_itself c
itself (Some f) k (Some c) =
    cond_both (is_before c f.claim) (Some (record { at = k; claim = c })) (Some f) (λ r. NotBefore r (Some c)) (λ t. not_itself c) (λ t. t)

-- nothing isn't before it
none_not_before : (found : Option Found) → NotBefore found None
none_not_before None = refl
none_not_before (Some f) = tt

up_to : (j k : ℕ) → j < k + 1 → j ≤ k
up_to j k h = omega arith

pub first_begin : (n : Newcomer) (guests : List (Option Guest)) → IsFirst n guests 0 None
first_begin n guests = record { own = tt; each = λ k below. absurd (omega (arith, below)) }

pub first_more : (n : Newcomer) (guests : List (Option Guest)) (k : ℕ) (found : Option Found)
    → IsFirst n guests k found → IsFirst n guests (k + 1) (first_of found k (claim_at n guests k))
first_more n guests k found is = record {
  own = own_more n guests k found (claim_at n guests k) refl is.own;
  each = λ j below. elim (eq-or-lt_of_le (up_to j k below)) [
    | inl same ↦ rw same (itself found k (claim_at n guests k))
    | inr less ↦ still found k (claim_at n guests k) (claim_at n guests j) (is.each j less)
  ];
}

-- of all places; past the last one there is nothing to claim
each_place : (n : Newcomer) (guests : List (Option Guest)) (found : Option Found) → IsFirst n guests (length guests) found
    → (k : ℕ) → NotBefore found (claim_at n guests k)
each_place n guests found is k = elim ((slice_get_cases guests k).1) [
  | inl within ↦ is.each k within.1
  | inr past ↦ rw past.1 (none_not_before found)
]

pub no_place : (n : Newcomer) (guests : List (Option Guest)) → IsFirst n guests (length guests) None → IsPlace n guests None
unfolding IsPlace
no_place n guests is k = each_place n guests None is k

pub this_place : (n : Newcomer) (guests : List (Option Guest)) (f : Found) → IsFirst n guests (length guests) (Some f) → IsPlace n guests (Some f.at)
unfolding IsPlace
this_place n guests f is = (f.claim, is.own, each_place n guests (Some f) is)

-- what may be claimed of a place that is there
pub claim_there : (n : Newcomer) (guests : List (Option Guest)) (k : ℕ) (d : Option Guest) → k < length guests
    → claim_at n guests k ≡ claim_of n (get_or guests k d)
claim_there n guests k d h = rw (slice_get-get_or guests k d h) refl

-- One more digit of a number.
use Rattle.std.proofs.Common.{◌≡◌, ◌≤◌, ◌<◌, ℕ, ◌+◌, List, length, drop, get_or, Some}
use Rattle.std.specs.Option.{option_and_then}
use Rattle.std.proofs.lemmas.List.{at_drop_more, at_drop_all}
use Rattle.vr_lines.specs.Numbers.{digits_on, with_digit}

pub digits_more : (n i : ℕ) (ds : List ℕ) → i < length ds → digits_on n (drop i ds) ≡ option_and_then (λ m. digits_on m (drop (i + 1) ds)) (with_digit n (get_or ds i 0))
unfolding digits_on
digits_more n i ds h = at_drop_more (digits_on n) ds i 0 h

pub digits_all : (n i : ℕ) (ds : List ℕ) → length ds ≤ i → digits_on n (drop i ds) ≡ Some n
unfolding digits_on
digits_all n i ds h = at_drop_all (digits_on n) ds i h

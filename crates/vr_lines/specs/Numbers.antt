-- Numbers in decimal digits.
use Rattle.std.specs.Prelude.{ℕ, Bool, nat_le, nat_lt, ◌+◌, ◌-◌, ◌*◌, ◌^◌, ◌==◌, ◌&&◌, List, [], ◌∷◌, length, Option, Some, None, option_and_then, if◌then◌else◌}

abbrev pub is_digit : ℕ → Bool
is_digit b = nat_le 48 b && nat_le b 57

-- one more digit after a number; none at 2 ^ 64 and beyond
abbrev pub with_digit : ℕ → ℕ → Option ℕ
with_digit n b =
    if is_digit b && nat_lt (10 * n + (b - 48)) (2 ^ 64) then Some (10 * n + (b - 48)) else None

-- further digits after a number
unfoldable pub digits_on : ℕ → List ℕ → Option ℕ
digits_on n [] = Some n
digits_on n (b ∷ bytes) = option_and_then (λ m. digits_on m bytes) (with_digit n b)

-- a number below 2 ^ 64, without sign or leading zeros
unfoldable pub number_of : List ℕ → Option ℕ
number_of [] = None
number_of (b ∷ bytes) = if b == 48 && nat_lt 0 (length bytes) then None else digits_on 0 (b ∷ bytes)

-- the same below a bound
abbrev pub number_below : ℕ → List ℕ → Option ℕ
number_below bound bytes = option_and_then (λ n. if nat_lt n bound then Some n else None) (number_of bytes)

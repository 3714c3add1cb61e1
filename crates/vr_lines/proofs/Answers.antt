-- What holds of an answer, where there is one.
use Rattle.std.proofs.Common.{◌≡◌, ◌<◌, ℕ, List, Bool, true, false, cond, refl, arith, Option, Some, None}
use Rattle.std.specs.Prelude.{nat_lt}
use Rattle.std.specs.Option.{IfSome, option_map, option_and_then}
use Rattle.std.proofs.lemmas.Bool.Decides.{nat_tests}
use Rattle.vr_lines.specs.Numbers.{number_of, number_below}

pub either : {X : Type 0} (P : X → Type 0) (b : Bool) (x y : Option X) → (b ≡ true → IfSome x P) → (b ≡ false → IfSome y P) → IfSome (cond b x y) P
either P true x y h k = h refl
either P false x y h k = k refl

-- where another answer comes from one
pub through : {X Y : Type 0} (P : Y → Type 0) (o : Option X) (f : X → Option Y) → ((x : X) → o ≡ Some x → IfSome (f x) P) → IfSome (option_and_then f o) P
through P None f h = tt
through P (Some x) f h = h x refl

pub mapped : {X Y : Type 0} (P : Y → Type 0) (o : Option X) (f : X → Y) → ((x : X) → o ≡ Some x → P (f x)) → IfSome (option_map f o) P
mapped P None f h = tt
mapped P (Some x) f h = h x refl

pub it_is : {X : Type 0} (P : X → Type 0) (o : Option X) (x : X) → IfSome o P → o ≡ Some x → P x
it_is P None x h e = absurd (cc)
it_is P (Some y) x h e = let same : y ≡ x = cc in rw (← same) h

-- a number below a bound is
pub below : (bound : ℕ) (bytes : List ℕ) (m : ℕ) → number_below bound bytes ≡ Some m → m < bound
below bound bytes m e =
    it_is (λ m. m < bound) (number_below bound bytes) m
    (through (λ m. m < bound) (number_of bytes) (λ m. cond (nat_lt m bound) (Some m) None)
    (λ m h. either (λ m. m < bound) (nat_lt m bound) (Some m) None (λ t. grind (arith, nat_tests)) (λ t. tt))) e

-- Zeros, by the bits of all.
use Rattle.std.proofs.Common.{ℕ, zero, suc, ◌+◌, ◌<◌, ◌≡◌, arith, refl, ap, ◌∙◌, true, eqb, ◌&&◌, List, ◌∷◌, [], length, take, get_or, sym}
use Rattle.std.specs.Prelude.{replicate}
use Rattle.std.specs.Int.Bits.{bit_or}
use Rattle.std.proofs.lemmas.Bool.{and_parts, eqb-true, ne_eqb}
use Rattle.std.proofs.lemmas.Nat.{le_or_l}
use Rattle.std.proofs.lemmas.List.Folds.{list_all_more}
use Rattle.vr_base.specs.Bytes.{is_zeros}

-- no bit is set in either
pub or_zeros : (a b : ℕ) → eqb (bit_or a b) 0 ≡ (eqb a 0 && eqb b 0)
or_zeros zero b = refl
or_zeros (suc a) b = ne_eqb (bit_or (suc a) b) 0 (let l = le_or_l (suc a) b in λ e. omega (arith, l, e)) ∙ ap (λ x. x && eqb b 0) (sym (ne_eqb (suc a) 0 (λ e. omega (arith, e))))

pub zeros_more : (bytes : List ℕ) (i : ℕ) → i < length bytes → is_zeros (take (i + 1) bytes) ≡ (is_zeros (take i bytes) && eqb (get_or bytes i 0) 0)
zeros_more bytes i l = list_all_more (λ b. eqb b 0) bytes i 0 l

pub zeros_are : (n : ℕ) → is_zeros (replicate n 0) ≡ true
zeros_are zero = refl
zeros_are (suc n) = zeros_are n

pub are_zeros : (b : List ℕ) → is_zeros b ≡ true → b ≡ replicate (length b) 0
are_zeros [] e = refl
are_zeros (x ∷ b) e = let p = and_parts (eqb x 0) (is_zeros b) e in ap (λ y. x ∷ y) (are_zeros b p.1) ∙ ap (λ y. y ∷ replicate (length b) 0) (eqb-true x 0 p.0)

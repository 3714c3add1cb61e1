use Rattle.std.proofs.Common.{◌≡◌, ℕ, ◌≤◌, ◌++◌, List, arith, length, take, drop}
use Rattle.std.specs.Prelude.{bit_xor, map}
use Rattle.std.proofs.lemmas.Grind.{common_steps}
use Rattle.std.proofs.lemmas.List.{take_all, drop_all}
use Rattle.std.proofs.lemmas.List.Edits.{map_over_more}
use Rattle.vr_mem.proofs.bytes.damage_all.Goals as goal

pub loop-i-preserved : goal.loop-i-preserved
loop-i-preserved c = grind (arith, common_steps, map_over_more (λ b. bit_xor b 255))

whole : (f : ℕ → ℕ) (xs ys : List ℕ) (n : ℕ) → length xs ≤ n → ys ≡ map f (take n xs) ++ drop n xs → ys ≡ map f xs
whole f xs ys n l e = grind (arith, common_steps, take_all, drop_all)

pub returns-clause-damaged : goal.returns-clause-damaged
returns-clause-damaged c = whole (λ b. bit_xor b 255) c.args.bytes.now c.loop-i.bytes c.loop-i.i (omega arith) c.loop-i.invariant

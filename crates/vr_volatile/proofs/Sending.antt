-- What is sent to one more replica.
use Rattle.std.proofs.Common.{zero, suc, ◌≡◌, ℕ, ◌+◌, [], ◌∷◌, ◌++◌, Bool, true, false, not, refl, ap, arith, zero-add, cond, eqb, map}
use Rattle.std.specs.List.{range_with_len}
use Rattle.std.proofs.lemmas.Grind.{common_steps}
use Rattle.std.proofs.lemmas.List.{map-append}
use Rattle.std.proofs.lemmas.List.Elements.{filter-append}
use Rattle.vr_msg.specs.declared.frame.Frame.{Frame}
use Rattle.vr_volatile.specs.Sends.{sent, sends}

range_more : (a n j : ℕ) → a + n ≡ j → range_with_len a (n + 1) ≡ range_with_len a n ++ j ∷ []
range_more a zero j e = grind (arith, common_steps)
range_more a (suc n) j e = grind (arith, common_steps, range_more (a + 1) n j)

at_last : (index to : ℕ) (m : Frame) (b : Bool) → map (sent index m) (cond b (to ∷ []) []) ≡ cond (not b) [] (sent index m to ∷ [])
at_last index to m true = refl
at_last index to m false = refl

pub sends_more : (index to : ℕ) (m : Frame) → sends index (to + 1) m ≡ sends index to m ++ (cond (not (not (eqb to index))) [] (sent index m to ∷ []))
unfolding sends
sends_more index to m =
    rw (range_more 0 to to (zero-add to), filter-append, map-append) (ap (λ x. sends index to m ++ x) (at_last index to m (not (eqb to index))))

pub sends_none : (index : ℕ) (m : Frame) → sends index 0 m ≡ []
unfolding sends
sends_none index m = refl

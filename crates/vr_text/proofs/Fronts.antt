-- Bytes that grow keep their front.
use Rattle.std.proofs.Common.{ℕ, ◌≡◌, ◌≤◌, ◌∙◌, refl, sym, ap, arith, List, ◌++◌, length, take, Result, Ok, Err}
use Rattle.std.specs.Result.{OnErr, OnOk}
use Rattle.std.proofs.lemmas.List.{take_all, take_at, take-take}
use Rattle.std.proofs.lemmas.Grind.{common_steps}
use Rattle.vr_text.specs.Fronts.{IsFront}

pub front_same : (a : List ℕ) → IsFront a a
unfolding IsFront
front_same a = take_all (length a) a (omega arith)

pub front_more : (a more : List ℕ) → IsFront a (a ++ more)
unfolding IsFront
front_more a more = take_at a more (length a) refl

pub front_grown : {E : Type 0} (a b more : List ℕ) (r : Result (Unit {0}) E) → OnOk r (b ≡ a ++ more) → OnErr r (b ≡ a) → IsFront a b
front_grown a b more (Ok x) h k = rw h (front_more a more)
front_grown a b more (Err x) h k = rw k (front_same a)

pub front_then : (a b c : List ℕ) → IsFront a b → IsFront b c → IsFront a c
unfolding IsFront
front_then a b c h k =
    let l : length (take (length a) b) ≡ length a = ap length h in
    let n : length a ≤ length b = grind (arith, common_steps, l) in
    sym (take-take (length a) (length b) c n) ∙ ap (take (length a)) k ∙ h

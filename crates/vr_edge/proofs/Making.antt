-- Lists whose room is made: one more, and one fewer.
use Rattle.std.proofs.Common.{◌≡◌, ◌≤◌, ℕ, List, [], ◌∷◌, ◌++◌, Option, Some, None, true, arith}
use Rattle.std.proofs.lemmas.Bool.{and_parts}
use Rattle.std.proofs.lemmas.List.Folds.{list_all-append}
use Rattle.std.specs.Global.{Global}
use Rattle.std.specs.Option.{option_to_list}
use Rattle.std.specs.Prelude.{IfSome, Vec, nat_le, vec_capacity}
use Rattle.vr_edge.specs.Made.{are_made}

pub made_more : {T : Type 0} (most : ℕ) (lists : List (Vec T Global)) (list : Vec T Global) → are_made most lists ≡ true → most ≤ vec_capacity list
    → are_made most (lists ++ list ∷ []) ≡ true
made_more most lists list made room = rw (list_all-append (λ list. nat_le most (vec_capacity list)) lists (list ∷ []), made) (grind (arith, room))

-- all but the last
pub made_before : {T : Type 0} (most : ℕ) (all lists : List (Vec T Global)) (last : Option (Vec T Global)) → all ≡ lists ++ option_to_list last
    → are_made most all ≡ true → are_made most lists ≡ true
made_before most all lists last is made =
    let parts : are_made most (lists ++ option_to_list last) ≡ true = rw is at made in
    (and_parts (are_made most lists) (are_made most (option_to_list last)) (rw list_all-append at parts)).0

pub made_last : {T : Type 0} (most : ℕ) (all lists : List (Vec T Global)) (last : Option (Vec T Global)) → all ≡ lists ++ option_to_list last
    → are_made most all ≡ true → IfSome last (λ list. most ≤ vec_capacity list)
made_last most all lists None is made = tt
made_last most all lists (Some list) is made =
    let parts : are_made most (lists ++ list ∷ []) ≡ true = rw is at made in
    let last = (and_parts (are_made most lists) (are_made most (list ∷ [])) (rw list_all-append at parts)).1 in
    grind (arith, last)

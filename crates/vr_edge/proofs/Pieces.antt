-- What a read takes from the bytes of a source in memory.
use Rattle.std.proofs.Common.{◌≡◌, ◌<◌, ℕ, ◌+◌, ◌-◌, List, [], ◌++◌, length, take, drop, ap, sym, ◌∙◌, arith, take-append-drop}
use Rattle.std.specs.Prelude.{min}
use Rattle.std.proofs.lemmas.List.{drop-drop, drop_all, take_at}
use Rattle.std.proofs.lemmas.Grind.{common_steps}

-- what was copied is the front of what was left
pub consumed : (items copied rest : List ℕ) (at count : ℕ) → length copied ≡ count → copied ≡ take count (drop at items) → drop at items ≡ take count (copied ++ rest) ++ drop (at + count) items
consumed items copied rest at count size e =
    sym (take-append-drop count (drop at items))
    ∙ ap (λ xs. xs ++ drop count (drop at items)) (sym e ∙ sym (take_at copied rest count size))
    ∙ ap (λ xs. take count (copied ++ rest) ++ xs) (drop-drop count at items)

-- nothing is copied only where nothing was left
pub none_left : (items : List ℕ) (size at count most room : ℕ) → size ≡ length items → count ≡ min most (size - at) → (0 < room → 0 < most) → count ≡ 0 → 0 < room → drop (at + count) items ≡ []
none_left items size at count most room whole e some none h =
    let more = some h in
    drop_all (at + count) items (grind (arith, common_steps))

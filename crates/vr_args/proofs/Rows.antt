-- What a parse found, by its rows, and texts one after another.
use Rattle.std.proofs.Common.{◌≡◌, ◌∙◌, ℕ, suc, ◌+◌, ◌<◌, List, [], ◌∷◌, ◌++◌, map, length, take, get_or, refl, ap, ap₂, sym}
use Rattle.std.proofs.lemmas.List.{take_more}
use Rattle.std.specs.Borrow.{Bor}
use Rattle.std.specs.Global.{Global}
use Rattle.std.specs.Prelude.{String, option_map, string_bytes}
use Rattle.clap.proofs.WalkLemmas.{first_value-rows, raw_values-rows}
use Rattle.clap.specs.Words.{Text, all_of, first_of, first_value, matched_of, raw_values, rows_of}
use Rattle.clap.specs.declared.parser.matches.Found.{Found}
use Rattle.vr_args.specs.Asked.{texts_now}

pub first_in_rows : (f : Found) (id : Text) → first_value f id ≡ first_of id (rows_of f)
first_in_rows = first_value-rows

pub all_in_rows : (f : Found) (id : Text) → option_map raw_values (matched_of f id) ≡ all_of id (rows_of f)
all_in_rows = raw_values-rows

map_length : {X Y : Type 0} (f : X → Y) (xs : List X) → length (map f xs) ≡ length xs
map_length f [] = refl
map_length f (x ∷ xs) = ap suc (map_length f xs)

map_append : {X Y : Type 0} (f : X → Y) (xs ys : List X) → map f (xs ++ ys) ≡ map f xs ++ map f ys
map_append f [] ys = refl
map_append f (x ∷ xs) ys = ap (λ l. f x ∷ l) (map_append f xs ys)

pub texts_length : (texts : List (Bor Text)) → length (texts_now texts) ≡ length texts
texts_length texts = map_length (λ text. text.now) texts

-- one text more is copied
pub copied_more : (copies : List (String Global)) (s : String Global) (texts : List (Bor Text)) (i : ℕ) (d : Bor Text) → i < length texts
    → map string_bytes copies ≡ map (λ t. t.now) (take i texts) → string_bytes s ≡ (get_or texts i d).now
    → map string_bytes (copies ++ s ∷ []) ≡ map (λ t. t.now) (take (i + 1) texts)
copied_more copies s texts i d h same one =
    map_append string_bytes copies (s ∷ [])
    ∙ (ap₂ (λ x y. x ++ y ∷ []) same one
    ∙ (sym (map_append (λ t. t.now) (take i texts) (get_or texts i d ∷ [])) ∙ ap (λ l. map (λ t. t.now) l) (sym (take_more texts i d h))))

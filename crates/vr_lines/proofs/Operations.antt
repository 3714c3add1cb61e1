-- An operation that is read fits its version.
use Rattle.std.proofs.Common.{◌≡◌, ◌<◌, ◌≤◌, ℕ, Bool, true, false, cond, List, [], ◌∷◌, refl, arith, Option, Some, None}
use Rattle.std.specs.Prelude.{IsTrue, codes, length}
use Rattle.std.specs.Option.{IfSome, option_map}
use Rattle.std.specs.Str.{bytes_eq}
use Rattle.std.proofs.lemmas.Bool.{le-leb}
use Rattle.vr_base.specs.Versions.{value_limit}
use Rattle.vr_header.specs.Bodies.{IsOperation}
use Rattle.vr_header.specs.Text.{is_text, text_of}
use Rattle.vr_header.specs.declared.operation.Operation.{Operation}
use Rattle.vr_header.specs.declared.operation.Operation.TheVariants as operation
use Rattle.vr_header.proofs.BodyLaws.{text_limit}
use Rattle.vr_lines.specs.Operations.{key_word, operation_words, pair_of, put_words, register_words}
use Rattle.vr_lines.specs.Words.{only_word}
use Rattle.vr_lines.proofs.Answers.{either, through, mapped, it_is}

-- ---- texts

-- what is longer than a limit is no text
pub long_text : (limit : ℕ) (bytes : List ℕ) → limit < length bytes → text_of limit bytes ≡ None
long_text limit bytes long =
    let cases : (t : Bool) → is_text limit bytes ≡ t → cond t (Some bytes) None ≡ None =
    elim [
      | true ↦ λ e. let most = text_limit limit bytes e in absurd (omega (arith, long))
      | false ↦ λ e. refl
    ] in
    cases (is_text limit bytes) refl

-- and a greater limit doesn't matter to what isn't
pub short_text : (limit most : ℕ) (bytes : List ℕ) → length bytes ≤ limit → limit ≤ most → text_of most bytes ≡ text_of limit bytes
unfolding is_text
short_text limit most bytes short more = rw (le-leb (length bytes) limit short, le-leb (length bytes) most (omega arith)) refl

text_fits : (limit : ℕ) (bytes : List ℕ) → IfSome (text_of limit bytes) (λ t. IsTrue (is_text limit t))
text_fits limit bytes = either (λ t. IsTrue (is_text limit t)) (is_text limit bytes) (Some bytes) None (λ e. e) (λ e. tt)

-- ---- operations

pair_fits : (version : ℕ) (key value : List ℕ) → IfSome (pair_of version key value) (IsOperation version)
pair_fits version key value =
    through (IsOperation version) (text_of 64 key) _ (λ k e.
    mapped (IsOperation version) (text_of (value_limit version) value) (operation.Put k) (λ v h. (
      it_is (λ t. IsTrue (is_text 64 t)) (text_of 64 key) k (text_fits 64 key) e,
      it_is (λ t. IsTrue (is_text (value_limit version) t)) (text_of (value_limit version) value) v (text_fits (value_limit version) value) h,
    )))

put_fits : (version : ℕ) (words : List (List ℕ)) → IfSome (put_words version words) (IsOperation version)
put_fits version [] = tt
put_fits version (key ∷ []) = tt
put_fits version (key ∷ value ∷ []) = pair_fits version key value
put_fits version (key ∷ value ∷ more ∷ words) = tt

key_fits : (version : ℕ) (words : List (List ℕ)) (make : List ℕ → Operation) → ((k : List ℕ) → IsTrue (is_text 64 k) → IsOperation version (make k))
    → IfSome (option_map make (key_word words)) (IsOperation version)
key_fits version words make h =
    mapped (IsOperation version) (key_word words) make (λ k e.
    h k (it_is (λ t. IsTrue (is_text 64 t)) (key_word words) k (through (λ t. IsTrue (is_text 64 t)) (only_word words) (text_of 64) (λ w u. text_fits 64 w)) e))

register_fits : (version : ℕ) (words : List (List ℕ)) → IfSome (register_words words) (IsOperation version)
register_fits version [] = tt
register_fits version (word ∷ words) = tt

pub operation_fits : (version : ℕ) (words : List (List ℕ)) → IfSome (operation_words version words) (IsOperation version)
unfolding operation_words
operation_fits version [] = tt
operation_fits version (word ∷ words) =
    either (IsOperation version) (bytes_eq word (codes "register")) (register_words words) _ (λ e. register_fits version words)
    (λ e. either (IsOperation version) (bytes_eq word (codes "put")) (put_words version words) _ (λ e. put_fits version words)
    (λ e. either (IsOperation version) (bytes_eq word (codes "get")) (option_map operation.Get (key_word words)) _
    (λ e. key_fits version words operation.Get (λ k h. h))
    (λ e. either (IsOperation version) (bytes_eq word (codes "del")) (option_map operation.Delete (key_word words)) None
    (λ e. key_fits version words operation.Delete (λ k h. h)) (λ e. tt))))

pub spelled_fits : (version : ℕ) (words : List (List ℕ)) (o : Option Operation) → o ≡ operation_words version words → IfSome o (λ o. IsOperation version o)
spelled_fits version words o e = rw e (operation_fits version words)

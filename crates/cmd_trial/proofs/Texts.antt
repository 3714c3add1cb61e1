-- Keys and values are texts.
use Rattle.std.proofs.Common.{◌≡◌, ◌≤◌, ◌<◌, ◌+◌, ◌%◌, ◌^◌, ◌∙◌, ℕ, true, List, [], ◌∷◌, refl, IsTrue, length, le-leb, arith}
use Rattle.std.specs.Fmt.{decimal}
use Rattle.std.specs.List.{list_all}
use Rattle.std.proofs.lemmas.List.Folds.{list_all-append}
use Rattle.std.proofs.lemmas.Fmt.{decimal_by_steps, length-decimal-le}
use Rattle.vr_base.proofs.Versions.{between}
use Rattle.vr_base.specs.Versions.{value_limit}
use Rattle.vr_header.specs.Text.{is_printable, is_text}
use Rattle.cmd_trial.specs.Told.{key, value}

abbrev ArePrintable : ℕ → List ℕ → Type 0
ArePrintable n bytes = list_all is_printable bytes ≡ true

printable_byte : (b : ℕ) → 33 ≤ b → b ≤ 126 → list_all is_printable (b ∷ []) ≡ true
printable_byte b least most = rw (le-leb 33 b least, le-leb b 126 most) refl

decimal_printable : (n : ℕ) → n < 2 ^ 64 → list_all is_printable (decimal n) ≡ true
decimal_printable n h =
    decimal_by_steps ArePrintable
    (λ m small. printable_byte (48 + m) (omega arith) (omega arith))
    (λ m ds large rest. list_all-append is_printable ds ((48 + m % 10) ∷ []) ∙ rw (rest, printable_byte (48 + m % 10) (omega arith) (omega arith)) refl)
    n h

-- a letter and a number below 1,000
lettered : (limit letter n : ℕ) → 4 ≤ limit → 33 ≤ letter → letter ≤ 126 → n < 1000 → IsTrue (is_text limit (letter ∷ decimal n))
unfolding is_text
lettered limit letter n room least most small =
    let short = length-decimal-le 3 n (omega arith) (omega arith) (omega arith) in
    let size : length (letter ∷ decimal n) ≤ limit = omega (arith, short, room) in
    let some : 1 ≤ length (letter ∷ decimal n) = omega arith in
    rw (le-leb 1 (length (letter ∷ decimal n)) some, le-leb 33 letter least, le-leb letter 126 most, decimal_printable n (omega arith), le-leb (length (letter ∷ decimal n)) limit size) refl

pub key_text : (number : ℕ) → number < 1000 → IsTrue (is_text 64 (key number))
key_text number h = lettered 64 107 number (omega arith) (omega arith) (omega arith) h

pub value_text : (number : ℕ) → number < 1000 → IsTrue (is_text (value_limit 2) (value number))
value_text number h = lettered (value_limit 2) 118 number (omega arith) (omega arith) (omega arith) h

-- a value with a number is one of any version
pub value_fits : (version number : ℕ) → number < 1000 → IsTrue (is_text (value_limit version) (value number))
value_fits version number h =
    let least = between version 1024 3000 (omega arith) in
    lettered (value_limit version) 118 number (omega (arith, least)) (omega arith) (omega arith) h

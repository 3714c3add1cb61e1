-- Keys and values that are drawn are texts.
use Rattle.std.proofs.Common.{◌≡◌, ◌≤◌, ◌<◌, ◌+◌, ◌%◌, ◌^◌, ◌∙◌, ℕ, true, List, [], ◌∷◌, refl, IsTrue, length, le-leb, arith}
use Rattle.std.specs.Fmt.{decimal}
use Rattle.std.specs.List.{list_all}
use Rattle.std.proofs.lemmas.List.Folds.{list_all-append}
use Rattle.std.proofs.lemmas.Fmt.{decimal_by_steps, length-decimal-le}
use Rattle.vr_header.specs.Text.{is_printable, is_text}
use Rattle.vr_draws.specs.Drawn.{key, value}

abbrev ArePrintable : ℕ → List ℕ → Type 0
ArePrintable n bytes = list_all is_printable bytes ≡ true

printable_byte : (b : ℕ) → 33 ≤ b → b ≤ 126 → list_all is_printable (b ∷ []) ≡ true
printable_byte b least most = rw (le-leb 33 b least, le-leb b 126 most) refl

decimal_printable : (n : ℕ) → n < 2 ^ 64 → list_all is_printable (decimal n) ≡ true
decimal_printable n h =
    decimal_by_steps ArePrintable
    (λ m small. printable_byte (48 + m) (omega arith) (omega arith))
    (λ m ds large rest. list_all-append is_printable ds ((48 + m % 10) ∷ []) ∙ rw (rest, printable_byte (48 + m % 10) (omega arith) (omega arith)) refl)
    n h

-- a letter and a number below 1,000
lettered : (limit letter n : ℕ) → 4 ≤ limit → 33 ≤ letter → letter ≤ 126 → n < 1000 → IsTrue (is_text limit (letter ∷ decimal n))
unfolding is_text
lettered limit letter n room least most small =
    let short = length-decimal-le 3 n (omega arith) (omega arith) (omega arith) in
    let size : length (letter ∷ decimal n) ≤ limit = omega (arith, short, room) in
    let some : 1 ≤ length (letter ∷ decimal n) = omega arith in
    rw (le-leb 1 (length (letter ∷ decimal n)) some, le-leb 33 letter least, le-leb letter 126 most, decimal_printable n (omega arith), le-leb (length (letter ∷ decimal n)) limit size) refl

pub key_text : (d : ℕ) → IsTrue (is_text 64 (key d))
key_text d = lettered 64 107 (d % 8) (omega arith) (omega arith) (omega arith) (omega arith)

pub short_value : (limit d : ℕ) → 4 ≤ limit → IsTrue (is_text limit (value d))
short_value limit d room = lettered limit 118 (d % 1000) room (omega arith) (omega arith) (omega arith)

pub value_text : (d : ℕ) → IsTrue (is_text 3000 (value d))
value_text d = short_value 3000 d (omega arith)

-- Writes one after another, and headers one after the other.
use Rattle.std.proofs.Common.{◌≡◌, ℕ, ◌+◌, ◌-◌, ◌*◌, ◌<◌, arith, take, length-append, List, ◌++◌, length, drop, get_or, refl, ◌∙◌, ap, append_assoc, add-one, drop-cons}
use Rattle.std.proofs.lemmas.List.{drop_at, take_all}
use Rattle.vr_header.specs.declared.header.Header.{Header}
use Rattle.vr_header.specs.Spelling.{header_bytes}
use Rattle.std.specs.Prelude.{replicate}
use Rattle.vr_super.specs.Copies.{IsGood, SuperValue, front_bytes, list_bytes, named_bytes, zeros}
use Rattle.vr_super.proofs.Format.{count_fits, length-front, length-list_bytes}

regrouped : (z a b c d e f g h i j k l : List ℕ)
    → ((((((((((((z ++ a) ++ b) ++ c) ++ d) ++ e) ++ f) ++ g) ++ h) ++ i) ++ j) ++ k) ++ l)
    ≡ z ++ (a ++ (b ++ (c ++ (d ++ (e ++ (f ++ (g ++ (h ++ (i ++ (j ++ (k ++ l)))))))))))
regrouped z a b c d e f g h i j k l = simp append_assoc

-- twelve writes after the first bytes
pub behind : (n : ℕ) (z a b c d e f g h i j k l : List ℕ) → length z ≡ n
    → drop n ((((((((((((z ++ a) ++ b) ++ c) ++ d) ++ e) ++ f) ++ g) ++ h) ++ i) ++ j) ++ k) ++ l)
    ≡ a ++ (b ++ (c ++ (d ++ (e ++ (f ++ (g ++ (h ++ (i ++ (j ++ (k ++ l))))))))))
behind n z a b c d e f g h i j k l m = ap (drop n) (regrouped z a b c d e f g h i j k l) ∙ drop_at z _ n m

pub list_more : (hs : List Header) (i : ℕ) (d : Header) → i < length hs → list_bytes (drop i hs) ≡ header_bytes (get_or hs i d) ++ list_bytes (drop (i + 1) hs)
unfolding list_bytes
list_more hs i d l = rw (add-one, drop-cons hs i d) refl

-- the numbers, the headers and zeros
pub text_is : (v : SuperValue) → IsGood v → (numbers pushed sized : List ℕ) (n : ℕ) → numbers ≡ front_bytes v.fields (length v.headers) → pushed ≡ numbers ++ list_bytes v.headers → n ≡ length pushed
    → sized ≡ take 10224 pushed ++ replicate (10224 - n) 0 → sized ≡ named_bytes v
unfolding named_bytes zeros
text_is v g numbers pushed sized n f p m s =
    let c = length v.headers in
    let k = count_fits v.fields c g.fields in
    let size : length pushed ≡ 112 + 128 * c = let a = length-append numbers (list_bytes v.headers) in let b = length-list_bytes v.headers g.each in let d = length-front v g.numbers in let e = ap length p in let q = ap length f in omega arith in
    let zero : 10224 - n ≡ 10112 - 128 * c = omega arith in
    s ∙ (ap (λ x. x ++ replicate (10224 - n) 0) (take_all 10224 pushed (omega arith) ∙ p)
    ∙ (ap (λ m. (numbers ++ list_bytes v.headers) ++ replicate m 0) zero ∙ (append_assoc numbers (list_bytes v.headers) (replicate (10112 - 128 * c) 0) ∙ ap (λ x. x ++ (list_bytes v.headers ++ replicate (10112 - 128 * c) 0)) f)))

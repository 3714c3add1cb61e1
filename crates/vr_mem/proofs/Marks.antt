-- Bytes with their marks.
use Rattle.std.proofs.Common.{ℕ, suc, ◌+◌, ◌*◌, ◌^◌, ◌<◌, ◌≡◌, arith, refl, sym, ap, ◌∙◌, Bool, true, false, ◌&&◌, List, [], ◌∷◌, length}
use Rattle.std.specs.Prelude.{bit_xor, bytes_eq, map}
use Rattle.std.proofs.lemmas.Bool.{ne_eqb}
use Rattle.std.proofs.lemmas.List.{length-map}
use Rattle.std.proofs.lemmas.Nat.{xor_block}
use Rattle.std.proofs.lemmas.Slice.Eq.{bytes_eq-Decides}
use Rattle.vr_base.specs.Bytes.{IsBytes, is_zeros}
use Rattle.vr_disk.specs.DiskState.{damaged}
use Rattle.vr_mem.specs.declared.bytes.Mark.{Mark}
use Rattle.vr_mem.specs.declared.bytes.Mark.TheVariants as mark
use Rattle.vr_mem.specs.contracts.bytes.Mark.{the_type}
use Rattle.vr_mem.specs.Seen.{marked}
use denote.Enum.Bare.{sameb}

-- ---- bits turned

damaged_owed : (b : ℕ) → b < 256 → bit_xor (b + 256) 255 ≡ bit_xor b 255 + 256
damaged_owed b l =
    let a : 1 * 2 ^ 8 + b ≡ b + 256 = omega arith in
    let d : bit_xor 1 0 * 2 ^ 8 + bit_xor b 255 ≡ bit_xor b 255 + 256 = omega arith in
    ap (λ n. bit_xor n 255) (sym a) ∙ (xor_block 8 1 0 b 255 l (omega arith) ∙ d)

bytes_tail : (b : ℕ) (bs : List ℕ) → IsBytes (b ∷ bs) → IsBytes bs
bytes_tail b bs h = λ i. h (suc i)

abbrev owed : List ℕ → List ℕ
owed bs = map (λ b. b + 256) bs

owed_damaged : (bs : List ℕ) → IsBytes bs → damaged (owed bs) ≡ owed (damaged bs)
owed_damaged [] h = refl
owed_damaged (b ∷ bs) h =
    ap (λ c. c ∷ damaged (owed bs)) (damaged_owed b (h 0))
    ∙ ap (λ cs. (bit_xor b 255 + 256) ∷ cs) (owed_damaged bs (bytes_tail b bs h))

-- bytes whose every bit is turned keep their mark
pub marked_damaged : (m : Mark) (bs : List ℕ) → IsBytes bs → damaged (marked m bs) ≡ marked m (damaged bs)
marked_damaged mark.Plain bs h = refl
marked_damaged mark.Owed bs h = owed_damaged bs h

-- ---- bytes that are the same

pub same_is : (a b : Mark) → sameb the_type a b ≡ true → a ≡ b
same_is mark.Plain mark.Plain e = refl
same_is mark.Owed mark.Owed e = refl
same_is mark.Plain mark.Owed e = absurd cc
same_is mark.Owed mark.Plain e = absurd cc

same_self : (a : Mark) → sameb the_type a a ≡ true
same_self mark.Plain = refl
same_self mark.Owed = refl

head_same : (a b : ℕ) (x y : List ℕ) → a ∷ x ≡ b ∷ y → a ≡ b
head_same a b x y e = cc

tail_same : (a b : ℕ) (x y : List ℕ) → a ∷ x ≡ b ∷ y → x ≡ y
tail_same a b x y e = cc

owed_only : (x y : List ℕ) → owed x ≡ owed y → x ≡ y
owed_only [] [] e = refl
owed_only [] (b ∷ y) e = absurd cc
owed_only (a ∷ x) [] e = absurd cc
owed_only (a ∷ x) (b ∷ y) e =
    let h : a + 256 ≡ b + 256 = head_same (a + 256) (b + 256) (owed x) (owed y) e in
    let s : a ≡ b = omega arith in
    ap (λ c. c ∷ x) s ∙ ap (λ z. b ∷ z) (owed_only x y (tail_same (a + 256) (b + 256) (owed x) (owed y) e))

-- what is owed has no byte in it
owed_other : (x y : List ℕ) → 0 < length x → IsBytes y → owed x ≡ y → ⊥
owed_other [] y l h e = absurd (omega arith)
owed_other (a ∷ x) [] l h e = absurd cc
owed_other (a ∷ x) (b ∷ y) l h e = let s : a + 256 ≡ b = head_same (a + 256) b (owed x) y e in let k : b < 256 = h 0 in absurd (omega arith)

owed_some : (x y : List ℕ) → 0 < length x → x ≡ owed y → 0 < length y
owed_some x [] l e = let n : length x ≡ 0 = ap length e in omega arith
owed_some x (b ∷ y) l e = omega arith

marked_mark : (a b : Mark) (x y : List ℕ) → 0 < length x → IsBytes x → IsBytes y → marked a x ≡ marked b y → a ≡ b
marked_mark mark.Plain mark.Plain x y l h k e = refl
marked_mark mark.Owed mark.Owed x y l h k e = refl
marked_mark mark.Plain mark.Owed x y l h k e = absurd (owed_other y x (owed_some x y l e) h (sym e))
marked_mark mark.Owed mark.Plain x y l h k e = absurd (owed_other x y l k e)

marked_by : (a : Mark) (x y : List ℕ) → marked a x ≡ marked a y → x ≡ y
marked_by mark.Plain x y e = e
marked_by mark.Owed x y e = owed_only x y e

-- a test that is true where these are the same
test_of : (x y : List ℕ) (t : Bool) → (t ≡ true → x ≡ y) → (x ≡ y → t ≡ true) → t ≡ bytes_eq x y
test_of x y true f g = sym ((bytes_eq-Decides x y).1 (f refl))
test_of x y false f g =
    elim (bytes_eq x y) as (λ b. bytes_eq x y ≡ b → false ≡ b) [
      | true ↦ λ e. g ((bytes_eq-Decides x y).0 e)
      | false ↦ λ e. refl
    ] refl

-- with the same mark
pub same_marks : (a b : Mark) (x y : List ℕ) → sameb the_type a b ≡ true → bytes_eq x y ≡ bytes_eq (marked a x) (marked b y)
same_marks a b x y e =
    test_of (marked a x) (marked b y) (bytes_eq x y)
    (λ t. ap (marked a) ((bytes_eq-Decides x y).0 t) ∙ ap (λ (m : Mark). marked m y) (same_is a b e))
    (λ p. (bytes_eq-Decides x y).1 (marked_by b x y (ap (λ (m : Mark). marked m x) (sym (same_is a b e)) ∙ p)))

-- with another mark
pub other_marks : (a b : Mark) (x y : List ℕ) → 0 < length x → IsBytes x → IsBytes y → sameb the_type a b ≡ false → false ≡ bytes_eq (marked a x) (marked b y)
other_marks a b x y l h k e =
    test_of (marked a x) (marked b y) false (λ t. absurd cc)
    (λ p. sym e ∙ (ap (λ (m : Mark). sameb the_type a m) (sym (marked_mark a b x y l h k p)) ∙ same_self a))

-- ---- zeros

pub plain_zeros : (a : Mark) (x : List ℕ) → sameb the_type a mark.Plain ≡ true → is_zeros x ≡ is_zeros (marked a x)
plain_zeros mark.Plain x e = refl
plain_zeros mark.Owed x e = absurd cc

pub owed_zeros : (a : Mark) (x : List ℕ) → 0 < length x → sameb the_type a mark.Plain ≡ false → false ≡ is_zeros (marked a x)
owed_zeros mark.Plain x l e = absurd cc
owed_zeros mark.Owed [] l e = absurd (omega arith)
owed_zeros mark.Owed (b ∷ x) l e = sym (ap (λ t. t && is_zeros (owed x)) (ne_eqb (b + 256) 0 (λ z. omega arith)))

pub length_marked : (a : Mark) (x : List ℕ) → length (marked a x) ≡ length x
length_marked mark.Plain x = refl
length_marked mark.Owed x = length-map x (λ b. b + 256)

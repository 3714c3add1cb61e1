-- A list of Parts is copied, one after the other.
use Rattle.std.proofs.Common.{arith, ℕ, zero, suc, ◌≡◌, ◌≤◌, ◌<◌, ◌+◌, refl, ap, subst, List, [], ◌∷◌, ◌++◌, length, take, drop, get_or, add-one}
use Rattle.std.proofs.lemmas.List.{drop_all, take_all}
use Rattle.vr_header.specs.declared.header.Header.{Header}
use Rattle.vr_header.specs.declared.part.Part.{Part}
use Rattle.vr_header.specs.declared.part.Part.TheVariants.{Here, Lost, Wanted, Unknown, Nothing}
use Rattle.vr_header.specs.Spelling.{IsHeader}
use Rattle.vr_msg.specs.Spelling.{AreHeaders, known}

pub copied_none : (xs : List Part) → [] ≡ take 0 xs
copied_none xs = refl

pub copied_more : (xs : List Part) (i : ℕ) (p q : Part) → i < length xs → q ≡ get_or xs i q → p ≡ q → take i xs ++ p ∷ [] ≡ take (i + 1) xs
copied_more [] i p q l e k = absurd (omega arith)
copied_more (x ∷ xs) zero p q l e k = rw (k, e) refl
copied_more (x ∷ xs) (suc i) p q l e k = rw add-one (ap (λ ys. x ∷ ys) (rw add-one at (copied_more xs i p q (omega arith) e k)))

pub copied_all : (xs : List Part) (i : ℕ) → length xs ≤ i → take i xs ≡ xs
copied_all xs i l = take_all i xs l

values_both : (p : Part) (ps : List Part) → AreHeaders (known (p ∷ [])) → AreHeaders (known ps) → AreHeaders (known (p ∷ ps))
values_both (Here h) ps a b = (a.0, b)
values_both (Lost h) ps a b = (a.0, b)
values_both (Wanted h) ps a b = (a.0, b)
values_both Unknown ps a b = b
values_both Nothing ps a b = b

pub known_more : (xs : List Part) (i : ℕ) (q : Part) → i < length xs → q ≡ get_or xs i q → AreHeaders (known (q ∷ [])) → AreHeaders (known (drop (i + 1) xs)) → AreHeaders (known (drop i xs))
known_more [] i q l e a h = absurd (omega arith)
known_more (x ∷ xs) zero q l e a h = values_both x xs (subst (λ y. AreHeaders (known (y ∷ []))) e a) h
known_more (x ∷ xs) (suc i) q l e a h =
    let rest : AreHeaders (known (drop (i + 1) xs)) = rw add-one (rw add-one at h) in
    known_more xs i q (omega arith) e a rest

pub known_all : (xs : List Part) (i : ℕ) → length xs ≤ i → AreHeaders (known (drop i xs))
known_all xs i l = rw (drop_all i xs l) tt

pub ruleset copies = (copied_none, copied_more, copied_all, known_more, known_all)

-- ---- of one Part

pub here_valued : (p : Part) (h g : Header) → p ≡ Here h → g ≡ h → IsHeader g → AreHeaders (known (p ∷ []))
here_valued p h g e k is = rw (e, ← k) (is, tt)

pub lost_valued : (p : Part) (h g : Header) → p ≡ Lost h → g ≡ h → IsHeader g → AreHeaders (known (p ∷ []))
lost_valued p h g e k is = rw (e, ← k) (is, tt)

pub wanted_valued : (p : Part) (h g : Header) → p ≡ Wanted h → g ≡ h → IsHeader g → AreHeaders (known (p ∷ []))
wanted_valued p h g e k is = rw (e, ← k) (is, tt)

pub ruleset valued = (here_valued, lost_valued, wanted_valued)

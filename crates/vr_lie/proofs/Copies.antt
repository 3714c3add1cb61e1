-- Four copies that read alike, of which one comes to read as something else.
use Rattle.std.proofs.Common.{ℕ, zero, suc, ◌+◌, ◌*◌, ◌/◌, ◌≤◌, ◌<◌, ◌≡◌, ◌≢◌, refl, sym, ap, ◌∙◌, arith, Bool, true, false, cond, eqb, leb, ◌||◌, List, [], ◌∷◌, ◌++◌, Option, Some, None, inl, inr}
use Rattle.std.specs.Prelude.{count_by, replicate}
use Rattle.std.proofs.lemmas.Bool.{and_parts, cases_eq, eqb-true, le-leb, leb-true}
use Rattle.std.proofs.lemmas.List.Sums.{sum_by-cons}
use Rattle.vr_disk.specs.DiskState.{Disk, Face, reads}
use Rattle.vr_disk.specs.Regions.{copy_place}
use Rattle.vr_disk.specs.Sectors.{behind, has, together}
use Rattle.vr_disk.proofs.Together.{has_is, is_has, together_same}
use Rattle.vr_super.specs.Opens.{agreed, copy_reading, four, good_copies, good_copy, if_good, opened, opens}
use Rattle.vr_super.proofs.Best.{one, opens_law}
use Rattle.vr_lie.specs.declared.trial.Lie.{Lie}
use Rattle.vr_lie.specs.Table.{CopiesAlike, both, if_others_have, others_have, reads_alike}
use Rattle.vr_lie.proofs.Lies.{reads_both}
use Rattle.vr_lie.proofs.Opening.{same_opens}
use Rattle.vr_lie.proofs.Trials.{same_told}

-- ---- what four copies open as, three of which are the same

-- four copies that are the same but for one
abbrev altered : ℕ → Option (List ℕ) → Option (List ℕ) → List (Option (List ℕ))
altered zero x o = x ∷ o ∷ o ∷ o ∷ []
altered (suc zero) x o = o ∷ x ∷ o ∷ o ∷ []
altered (suc (suc zero)) x o = o ∷ o ∷ x ∷ o ∷ []
altered (suc (suc (suc zero))) x o = o ∷ o ∷ o ∷ x ∷ []
altered (suc (suc (suc (suc c)))) x o = four o

count_four : (v : List ℕ) (p q r s : Option (List ℕ)) → count_by (has v) (p ∷ q ∷ r ∷ s ∷ []) ≡ one v p + (one v q + (one v r + one v s))
count_four v p q r s =
    let a = sum_by-cons (one v) p (q ∷ r ∷ s ∷ []) in
    let b = sum_by-cons (one v) q (r ∷ s ∷ []) in
    let c = sum_by-cons (one v) r (s ∷ []) in
    let d = sum_by-cons (one v) s [] in
    omega arith

count_altered : (c : ℕ) (v : List ℕ) (x o : Option (List ℕ)) → one v o ≡ 0 → count_by (has v) (altered c x o) ≤ one v x
count_altered zero v x o e = let n = count_four v x o o o in omega arith
count_altered (suc zero) v x o e = let n = count_four v o x o o in omega arith
count_altered (suc (suc zero)) v x o e = let n = count_four v o o x o in omega arith
count_altered (suc (suc (suc zero))) v x o e = let n = count_four v o o o x in omega arith
count_altered (suc (suc (suc (suc c)))) v x o e = let n = count_four v o o o o in omega arith

one_most : (v : List ℕ) (x : Option (List ℕ)) → one v x ≤ 1
one_most v x = elim (has v x) as (λ b. cond b 1 0 ≤ 1) [ true ↦ omega arith | false ↦ omega arith ]

-- two of them agree on what the three are, and on nothing else
agreed_is : (c : ℕ) (v : List ℕ) (x o : Option (List ℕ)) → agreed (altered c x o) v ≡ true → o ≡ Some v
agreed_is c v x o h =
    elim (has v o) as (λ b. has v o ≡ b → o ≡ Some v) [
      | true ↦ λ e. has_is v o e
      | false ↦ λ e.
          let none : one v o ≡ 0 = ap (λ b. cond b 1 0) e in
          let few = count_altered c v x o none in
          let most = one_most v x in
          let two = leb-true 2 (count_by (has v) (altered c x o)) h in
          absurd (omega arith)
    ] refl

count_those : (c : ℕ) (v : List ℕ) (x o : Option (List ℕ)) → one v o ≡ 1 → 2 ≤ count_by (has v) (altered c x o)
count_those zero v x o e = let n = count_four v x o o o in omega arith
count_those (suc zero) v x o e = let n = count_four v o x o o in omega arith
count_those (suc (suc zero)) v x o e = let n = count_four v o o x o in omega arith
count_those (suc (suc (suc zero))) v x o e = let n = count_four v o o o x in omega arith
count_those (suc (suc (suc (suc c)))) v x o e = let n = count_four v o o o o in omega arith

is_agreed : (c : ℕ) (v : List ℕ) (x : Option (List ℕ)) → agreed (altered c x (Some v)) v ≡ true
is_agreed c v x =
    let own : one v (Some v) ≡ 1 = ap (λ b. cond b 1 0) (is_has v (Some v) refl) in
    le-leb 2 (count_by (has v) (altered c x (Some v))) (count_those c v x (Some v) own)

none_of : (c : ℕ) (x o : Option (List ℕ)) → opened (altered c x o) ≡ None → None ≡ o
none_of c x None e = refl
none_of c x (Some v) e =
    let no : agreed (altered c x (Some v)) v ≡ false = (opens_law (altered c x (Some v))).none v e in
    absurd (let b : true ≡ false = sym (is_agreed c v x) ∙ no in cc)

opened_by : (c : ℕ) (x o p : Option (List ℕ)) → opened (altered c x o) ≡ p → p ≡ o
opened_by c x o None e = none_of c x o e
opened_by c x o (Some v) e = sym (agreed_is c v x o ((opens_law (altered c x o)).agree v e))

opened_altered : (c : ℕ) (x o : Option (List ℕ)) → opened (altered c x o) ≡ o
opened_altered c x o = opened_by c x o (opened (altered c x o)) refl

-- ---- a disk of such copies

good_same : (f : Face) (copy : ℕ) (o : Option (List ℕ)) → copy_reading f copy ≡ o → good_copy f copy ≡ if_good o
unfolding good_copy
good_same f copy o e = ap if_good e

-- copies of which each but one is the same
copies_altered : (f : Face) (c : ℕ) (o : Option (List ℕ)) → ((d : ℕ) → d < 4 → d ≢ c → good_copy f d ≡ o) → good_copies f ≡ altered c (good_copy f c) o
copies_altered f zero o h = rw (h 1 (omega arith) (λ e. absurd (omega arith)), h 2 (omega arith) (λ e. absurd (omega arith)), h 3 (omega arith) (λ e. absurd (omega arith))) refl
copies_altered f (suc zero) o h = rw (h 0 (omega arith) (λ e. absurd (omega arith)), h 2 (omega arith) (λ e. absurd (omega arith)), h 3 (omega arith) (λ e. absurd (omega arith))) refl
copies_altered f (suc (suc zero)) o h = rw (h 0 (omega arith) (λ e. absurd (omega arith)), h 1 (omega arith) (λ e. absurd (omega arith)), h 3 (omega arith) (λ e. absurd (omega arith))) refl
copies_altered f (suc (suc (suc zero))) o h = rw (h 0 (omega arith) (λ e. absurd (omega arith)), h 1 (omega arith) (λ e. absurd (omega arith)), h 2 (omega arith) (λ e. absurd (omega arith))) refl
copies_altered f (suc (suc (suc (suc c)))) o h =
    rw (h 0 (omega arith) (λ e. absurd (omega arith)), h 1 (omega arith) (λ e. absurd (omega arith)), h 2 (omega arith) (λ e. absurd (omega arith)), h 3 (omega arith) (λ e. absurd (omega arith))) refl

three_open : (f : Face) (c : ℕ) (o : Option (List ℕ)) → ((d : ℕ) → d < 4 → d ≢ c → good_copy f d ≡ o) → opened (good_copies f) ≡ o
three_open f c o h = ap opened (copies_altered f c o h) ∙ opened_altered c (good_copy f c) o

pub three_stay : (f g : Face) (c : ℕ) → CopiesAlike f → ((d : ℕ) → d < 4 → d ≢ c → copy_reading g d ≡ copy_reading f d) → opens g ≡ opens f
three_stay f g c a h =
    let o = if_good (Some a.bytes) in
    let was : opened (good_copies f) ≡ o = three_open f c o (λ d l n. good_same f d (Some a.bytes) (a.each d l)) in
    let now : opened (good_copies g) ≡ o = three_open g c o (λ d l n. good_same g d (Some a.bytes) (h d l n ∙ a.each d l)) in
    same_opens f g (now ∙ sym was)

-- ---- sectors that are hit in one copy

-- the sectors of each copy but one are others than these two
abbrev Spared : ℕ → ℕ → ℕ → Type 0
Spared a b c = (d k : ℕ) → d < 4 → d ≢ c → 20 * d ≤ k → k < 20 * d + 20 → (k ≢ a) × (k ≢ b)

-- where two sectors lie in one copy, or one of them after the copies
spared_by : (a b : ℕ) (x y z : Bool) → leb 80 a ≡ x → leb 80 b ≡ y → eqb (a / 20) (b / 20) ≡ z → (x || (y || z)) ≡ true → (c : ℕ) × Spared a b c
spared_by a b true y z p q r h = let l = leb-true 80 a p in (b / 20, λ d k m n i j. (λ e. absurd (omega arith), λ e. n (omega arith)))
spared_by a b false true z p q r h = let l = leb-true 80 b q in (a / 20, λ d k m n i j. (λ e. n (omega arith), λ e. absurd (omega arith)))
spared_by a b false false true p q r h = let s = eqb-true (a / 20) (b / 20) r in (a / 20, λ d k m n i j. (λ e. n (omega arith), λ e. n (omega arith)))
spared_by a b false false false p q r h = absurd cc

reading_spared : (f : Face) (a b : Lie) (c d : ℕ) → Spared a.at b.at c → d < 4 → d ≢ c → copy_reading (both f a b) d ≡ copy_reading f d
unfolding copy_reading
reading_spared f a b c d s l n = together_same 20 (20 * d) f (both f a b) (λ k i j. let p = s d k l n i j in reads_both f a b k p.0 p.1)

pub one_hit : (f : Face) (a b : Lie) → CopiesAlike f → (leb 80 a.at || (leb 80 b.at || eqb (a.at / 20) (b.at / 20))) ≡ true → opens (both f a b) ≡ opens f
one_hit f a b w h =
    let s = spared_by a.at b.at (leb 80 a.at) (leb 80 b.at) (eqb (a.at / 20) (b.at / 20)) refl refl refl h in
    three_stay f (both f a b) s.0 w (λ d l n. reading_spared f a b s.0 d s.1 l n)

-- ---- copies that are looked at sector by sector

-- a sector that reads as these bytes in all copies
record Shared (f : Face) (k : ℕ) : Type 0 where
  bytes : List ℕ
  first : reads f k ≡ Some bytes
  others : others_have f k bytes ≡ true

shared_by : (f : Face) (k : ℕ) (o : Option (List ℕ)) → reads f (copy_place 0 k) ≡ o → if_others_have f k o ≡ true → Shared f k
shared_by f k None r e = absurd cc
shared_by f k (Some b) r e = record { bytes = b; first = ap (reads f) (let z : k ≡ copy_place 0 k = omega arith in z) ∙ r; others = e }

shared : (f : Face) (k : ℕ) → reads_alike f k ≡ true → Shared f k
unfolding reads_alike
shared f k e = shared_by f k (reads f (copy_place 0 k)) refl e

-- each copy reads it as the first does
at_copy : (f : Face) (k c : ℕ) → Shared f k → c < 4 → reads f (20 * c + k) ≡ reads f k
at_copy f k zero s l = ap (reads f) (let z : copy_place 0 k ≡ k = omega arith in z)
at_copy f k (suc zero) s l = has_is s.bytes (reads f (copy_place 1 k)) (and_parts _ _ s.others).0 ∙ sym s.first
at_copy f k (suc (suc zero)) s l = has_is s.bytes (reads f (copy_place 2 k)) (and_parts _ _ (and_parts _ _ s.others).1).0 ∙ sym s.first
at_copy f k (suc (suc (suc zero))) s l = has_is s.bytes (reads f (copy_place 3 k)) (and_parts _ _ (and_parts _ _ s.others).1).1 ∙ sym s.first
at_copy f k (suc (suc (suc (suc c)))) s l = absurd (omega arith)

together_moved : (n i m : ℕ) (f : Face) → ((k : ℕ) → i ≤ k → k < i + n → reads f (m + k) ≡ reads f k) → together (m + i) n f ≡ together i n f
unfolding together
together_moved zero i m f h = refl
together_moved (suc n) i m f h =
    let rest : together (m + (i + 1)) n f ≡ together (i + 1) n f = together_moved n (i + 1) m f (λ k a b. h k (omega arith) (omega arith)) in
    let place : m + i + 1 ≡ m + (i + 1) = omega arith in
    ap (λ o. behind o (together (m + i + 1) n f)) (h i (omega arith) (omega arith)) ∙ ap (behind (reads f i)) (ap (λ j. together j n f) place ∙ rest)

together_some : (n i : ℕ) (f : Face) → ((k : ℕ) → i ≤ k → k < i + n → Shared f k) → (b : List ℕ) × (together i n f ≡ Some b)
unfolding together
together_some zero i f h = ([], refl)
together_some (suc n) i f h =
    let s = h i (omega arith) (omega arith) in
    let r = together_some n (i + 1) f (λ k a b. h k (omega arith) (omega arith)) in
    (s.bytes ++ r.0, ap (λ o. behind o (together (i + 1) n f)) s.first ∙ ap (behind (Some s.bytes)) r.1)

pub sectors_alike : (f : Face) → ((k : ℕ) → k < 20 → reads_alike f k ≡ true) → CopiesAlike f
unfolding copy_reading
sectors_alike f h =
    let each : (k : ℕ) → k < 20 → Shared f k = λ k l. shared f k (h k l) in
    let t = together_some 20 0 f (λ k i j. each k (omega arith)) in
    record { bytes = t.0; each = λ c l. ap (λ i. together i 20 f) (let e : 20 * c ≡ 20 * c + 0 = omega arith in e) ∙ (together_moved 20 0 (20 * c) f (λ k i j. at_copy f k c (each k (omega arith)) l) ∙ t.1) }

pub more_alike : (f : Face) (n : ℕ) → ((k : ℕ) → k < n → reads_alike f k ≡ true) → reads_alike f n ≡ true → (k : ℕ) → k < n + 1 → reads_alike f k ≡ true
more_alike f n h e k l = elim (cases_eq k n) [ inl s ↦ ap (reads_alike f) s ∙ e | inr d ↦ h k (omega arith) ]

-- a sector of the first copy that reads as zeros, or as something else, or not at all
pub zeros_alike : (d e : Disk) (k at : ℕ) (z r : Bool) → Some e ≡ Some d → at ≡ copy_place 0 k → z ≡ has (replicate 512 0) (reads d.face at) → z ≡ true → r ≡ others_have e.face k (replicate 512 0) → r ≡ reads_alike d.face k
unfolding reads_alike
zeros_alike d e k at z r t p v h w =
    let zeros : List ℕ = replicate 512 0 in
    let first : has zeros (reads d.face (copy_place 0 k)) ≡ true = ap (λ i. has zeros (reads d.face i)) (sym p) ∙ (sym v ∙ h) in
    w ∙ (ap (λ (x : Disk). others_have x.face k zeros) (same_told e d t) ∙ sym (ap (if_others_have d.face k) (has_is zeros (reads d.face (copy_place 0 k)) first)))

pub alike_by : (d e : Disk) (k at : ℕ) (o : Option (List ℕ)) (r : Bool) → Some e ≡ Some d → at ≡ copy_place 0 k → o ≡ reads e.face at → r ≡ if_others_have e.face k o → r ≡ reads_alike d.face k
unfolding reads_alike
alike_by d e k at o r t p v w =
    w ∙ (ap (if_others_have e.face k) (v ∙ ap (reads e.face) p) ∙ ap (λ (x : Disk). if_others_have x.face k (reads x.face (copy_place 0 k))) (same_told e d t))

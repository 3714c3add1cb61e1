-- Sector after sector: so many of them written, compared with bytes, or read into room.
use Rattle.std.proofs.Common.{ℕ, zero, suc, ◌+◌, ◌-◌, ◌*◌, ◌≤◌, ◌<◌, ◌≡◌, arith, refl, sym, ap, ◌∙◌, Bool, true, false, List, [], ◌∷◌, ◌++◌, length, drop, take, Option, Some, None, append_assoc, ◌&&◌}
use Rattle.std.proofs.lemmas.List.{append-nil, drop_all, drop_at, drop-drop, drop-replicate, take_all, take_at, take-append-drop, take-replicate}
use Rattle.std.proofs.lemmas.Bool.{and_parts, and_from}
use Rattle.std.proofs.lemmas.Slice.Eq.{bytes_eq-Decides}
use Rattle.std.specs.Prelude.{nat_eq, replicate}
use Rattle.std.specs.Cmp.Lexicographic.{pointwise}
use Rattle.vr_base.specs.Bytes.{piece}
use Rattle.vr_disk.specs.Regions.{sectors}
use Rattle.vr_disk.specs.DiskState.{Write, Face, IsFace, reads}
use Rattle.vr_disk.specs.Sectors.{behind, has, together, writes}
use Rattle.vr_disk.proofs.Faces.{there}
use Rattle.vr_disk.proofs.Together.{together_cons, together_size}

-- ---- written

writes_cons : (i n : ℕ) (bytes : List ℕ) → writes i (suc n) bytes ≡ Write i (piece 0 512 bytes) ∷ writes (i + 1) n (drop 512 bytes)
unfolding writes
writes_cons i n bytes = refl

pub writes_step : (at count k : ℕ) (bytes : List ℕ) → k < count
    → writes (at + k) (count - k) (drop (512 * k) bytes) ≡ Write (at + k) (piece (512 * k) 512 bytes) ∷ writes (at + (k + 1)) (count - (k + 1)) (drop (512 * (k + 1)) bytes)
unfolding piece
writes_step at count k bytes l =
    let n : count - k ≡ suc (count - (k + 1)) = omega arith in
    let i : at + k + 1 ≡ at + (k + 1) = omega arith in
    let d : 512 * k + 512 ≡ 512 * (k + 1) = omega arith in
    ap (λ m. writes (at + k) m (drop (512 * k) bytes)) n
    ∙ (writes_cons (at + k) (count - (k + 1)) (drop (512 * k) bytes)
    ∙ (ap (λ j. Write (at + k) (piece 0 512 (drop (512 * k) bytes)) ∷ writes j (count - (k + 1)) (drop 512 (drop (512 * k) bytes))) i
    ∙ ap (λ b. Write (at + k) (piece (512 * k) 512 bytes) ∷ writes (at + (k + 1)) (count - (k + 1)) b) (drop-drop 512 (512 * k) bytes ∙ ap (λ m. drop m bytes) d)))

pub writes_past : (at count k : ℕ) (bytes : List ℕ) → k ≡ count → writes (at + k) (count - k) (drop (512 * k) bytes) ≡ []
unfolding writes
writes_past at count k bytes e = let n : count - k ≡ 0 = omega arith in rw n refl

-- those of the first sectors, then those of the others
pub writes_split : (k n at : ℕ) (bytes : List ℕ) → writes at (k + n) bytes ≡ writes at k bytes ++ writes (at + k) n (drop (512 * k) bytes)
unfolding writes
writes_split zero n at bytes = let z : at + 0 ≡ at = omega arith in let m : 0 + n ≡ n = omega arith in rw (z, m) refl
writes_split (suc k) n at bytes =
    let i : at + 1 + k ≡ at + suc k = omega arith in
    let m : suc k + n ≡ suc (k + n) = omega arith in
    let rest = writes_split k n (at + 1) (drop 512 bytes) in
    ap (λ t. writes at t bytes) m
    ∙ ap (λ cs. Write at (piece 0 512 bytes) ∷ cs)
    (rest ∙ (ap (λ j. writes (at + 1) k (drop 512 bytes) ++ writes j n (drop (512 * k) (drop 512 bytes))) i ∙ ap (λ b. writes (at + 1) k (drop 512 bytes) ++ writes (at + suc k) n b) (drop-drop (512 * k) 512 bytes ∙ ap (λ m. drop m bytes) (omega arith))))

-- ---- compared

bool_ext : (p q : Bool) → (p ≡ true → q ≡ true) → (q ≡ true → p ≡ true) → p ≡ q
bool_ext true q f g = sym (f refl)
bool_ext false true f g = g refl
bool_ext false false f g = refl

and_false : (p : Bool) → (p && false) ≡ false
and_false true = refl
and_false false = refl

both_same : (m : ℕ) (x y b : List ℕ) → length x ≡ m → pointwise nat_eq (x ++ y) b ≡ (pointwise nat_eq x (take m b) && pointwise nat_eq y (drop m b))
both_same m x y b l =
    bool_ext _ _
    (λ e. let s : x ++ y ≡ b = (bytes_eq-Decides (x ++ y) b).0 e in
    and_from _ _ ((bytes_eq-Decides x (take m b)).1 (sym (ap (take m) (sym s) ∙ take_at x y m l))) ((bytes_eq-Decides y (drop m b)).1 (sym (ap (drop m) (sym s) ∙ drop_at x y m l))))
    (λ e. let p = and_parts (pointwise nat_eq x (take m b)) (pointwise nat_eq y (drop m b)) e in
    (bytes_eq-Decides (x ++ y) b).1 (ap (λ z. z ++ y) ((bytes_eq-Decides x (take m b)).0 p.0) ∙ (ap (λ z. take m b ++ z) ((bytes_eq-Decides y (drop m b)).0 p.1) ∙ take-append-drop m b)))

has_both : (m : ℕ) (b : List ℕ) (a r : Option (List ℕ)) → ((x : List ℕ) → a ≡ Some x → length x ≡ m) → has b (behind a r) ≡ (has (take m b) a && has (drop m b) r)
has_both m b None r h = refl
has_both m b (Some x) None h = sym (and_false (pointwise nat_eq x (take m b)))
has_both m b (Some x) (Some y) h = both_same m x y b (h x refl)

pub has_start : (i n : ℕ) (b : List ℕ) (f : Face) → has b (together i n f) ≡ has (drop (512 * 0) b) (together (i + 0) (n - 0) f)
has_start i n b f = let z : i + 0 ≡ i = omega arith in let m : n - 0 ≡ n = omega arith in rw (z, m) refl

pub has_step : (i n k : ℕ) (b : List ℕ) (f : Face) → IsFace f → k < n → i + n ≤ sectors
    → has (drop (512 * k) b) (together (i + k) (n - k) f) ≡ (has (piece (512 * k) 512 b) (reads f (i + k)) && has (drop (512 * (k + 1)) b) (together (i + (k + 1)) (n - (k + 1)) f))
unfolding piece
has_step i n k b f h l m =
    let s : n - k ≡ suc (n - (k + 1)) = omega arith in
    let j : i + k + 1 ≡ i + (k + 1) = omega arith in
    let d : 512 * k + 512 ≡ 512 * (k + 1) = omega arith in
    let rest = together (i + k + 1) (n - (k + 1)) f in
    ap (λ m. has (drop (512 * k) b) (together (i + k) m f)) s
    ∙ (ap (has (drop (512 * k) b)) (together_cons (n - (k + 1)) (i + k) f)
    ∙ (has_both 512 (drop (512 * k) b) (reads f (i + k)) rest (λ x e. ((there f (i + k) h (omega arith)).reads x e).size)
    ∙ (ap (λ y. has (take 512 (drop (512 * k) b)) (reads f (i + k)) && has y rest) (drop-drop 512 (512 * k) b ∙ ap (λ m. drop m b) d)
    ∙ ap (λ m. has (take 512 (drop (512 * k) b)) (reads f (i + k)) && has (drop (512 * (k + 1)) b) (together m (n - (k + 1)) f)) j)))

pub has_past : (i n k : ℕ) (b : List ℕ) (f : Face) → length b ≡ 512 * n → n ≤ k → k ≤ n → has (drop (512 * k) b) (together (i + k) (n - k) f) ≡ true
unfolding together
has_past i n k b f l m o =
    let z : n - k ≡ 0 = omega arith in
    let e : drop (512 * k) b ≡ [] = drop_all (512 * k) b (omega arith) in
    rw (z, e) refl

behind_nothing : (r : Option (List ℕ)) → behind (Some []) r ≡ r
behind_nothing None = refl
behind_nothing (Some x) = refl

behind_assoc : (a b r : Option (List ℕ)) → behind a (behind b r) ≡ behind (behind a b) r
behind_assoc None b r = refl
behind_assoc (Some x) None r = refl
behind_assoc (Some x) (Some y) None = refl
behind_assoc (Some x) (Some y) (Some z) = ap Some (sym (append_assoc x y z))

-- what the first sectors read as, then the others
pub together_split : (k n i : ℕ) (f : Face) → together i (k + n) f ≡ behind (together i k f) (together (i + k) n f)
unfolding together
together_split zero n i f = let z : i + 0 ≡ i = omega arith in let m : 0 + n ≡ n = omega arith in rw (z, m) (sym (behind_nothing (together i n f)))
together_split (suc k) n i f =
    let j : i + 1 + k ≡ i + suc k = omega arith in
    let m : suc k + n ≡ suc (k + n) = omega arith in
    ap (λ t. together i t f) m
    ∙ (ap (behind (reads f i)) (together_split k n (i + 1) f ∙ ap (λ m. behind (together (i + 1) k f) (together m n f)) j) ∙ behind_assoc (reads f i) (together (i + 1) k f) (together (i + suc k) n f))

pub has_split : (k n i : ℕ) (b : List ℕ) (f : Face) → IsFace f → i + (k + n) ≤ sectors → has b (together i (k + n) f) ≡ (has (take (512 * k) b) (together i k f) && has (drop (512 * k) b) (together (i + k) n f))
has_split k n i b f h l = ap (has b) (together_split k n i f) ∙ has_both (512 * k) b (together i k f) (together (i + k) n f) (together_size k i f h (omega arith))

-- ---- sectors of zeros

pub zeros_piece : (k n : ℕ) → k < n → piece (512 * k) 512 (replicate (512 * n) 0) ≡ replicate 512 0
unfolding piece
zeros_piece k n l = ap (take 512) (drop-replicate (512 * k) (512 * n) 0) ∙ take-replicate 512 (512 * n - 512 * k) 0 (omega (arith, l))

-- ---- read into room

behind_both : (x s : List ℕ) (r : Option (List ℕ)) → behind (Some x) (behind (Some s) r) ≡ behind (Some (x ++ s)) r
behind_both x s None = refl
behind_both x s (Some y) = ap Some (sym (append_assoc x s y))

pub fill_start : (i n : ℕ) (to : List ℕ) (f : Face) → together i n f ≡ behind (Some (take (512 * 0) to)) (together (i + 0) (n - 0) f)
fill_start i n to f = let z : i + 0 ≡ i = omega arith in let m : n - 0 ≡ n = omega arith in rw (z, m) (sym (behind_nothing (together i n f)))

-- the reading from the k-th sector on
from_sector : (i n k : ℕ) (f : Face) → k < n → together (i + k) (n - k) f ≡ behind (reads f (i + k)) (together (i + (k + 1)) (n - (k + 1)) f)
from_sector i n k f l =
    let s : n - k ≡ suc (n - (k + 1)) = omega arith in
    let j : i + k + 1 ≡ i + (k + 1) = omega arith in
    ap (λ m. together (i + k) m f) s ∙ (together_cons (n - (k + 1)) (i + k) f ∙ ap (λ m. behind (reads f (i + k)) (together m (n - (k + 1)) f)) j)

pub fill_step : (i n k : ℕ) (r : Option (List ℕ)) (old new s : List ℕ) (f : Face) → k < n → r ≡ behind (Some (take (512 * k) old)) (together (i + k) (n - k) f) → reads f (i + k) ≡ Some s → length s ≡ 512
    → take (512 * k + length s) new ≡ take (512 * k) old ++ s → r ≡ behind (Some (take (512 * (k + 1)) new)) (together (i + (k + 1)) (n - (k + 1)) f)
fill_step i n k r old new s f l e h z p =
    let rest = together (i + (k + 1)) (n - (k + 1)) f in
    let size : 512 * k + length s ≡ 512 * (k + 1) = omega arith in
    e ∙ (ap (behind (Some (take (512 * k) old))) (from_sector i n k f l ∙ ap (λ o. behind o rest) h)
    ∙ (behind_both (take (512 * k) old) s rest ∙ ap (λ x. behind (Some x) rest) (sym p ∙ ap (λ m. take m new) size)))

pub fill_stop : (i n k : ℕ) (r : Option (List ℕ)) (old : List ℕ) (f : Face) → k < n → r ≡ behind (Some (take (512 * k) old)) (together (i + k) (n - k) f) → reads f (i + k) ≡ None → r ≡ None
fill_stop i n k r old f l e h = e ∙ ap (behind (Some (take (512 * k) old))) (from_sector i n k f l ∙ ap (λ o. behind o (together (i + (k + 1)) (n - (k + 1)) f)) h)

pub fill_end : (i n k : ℕ) (r : Option (List ℕ)) (to : List ℕ) (f : Face) → n ≤ k → length to ≤ 512 * k → r ≡ behind (Some (take (512 * k) to)) (together (i + k) (n - k) f) → r ≡ Some to
unfolding together
fill_end i n k r to f l s e =
    let z : n - k ≡ 0 = omega arith in
    e ∙ (rw (z, take_all (512 * k) to s) (ap Some (append-nil to)))

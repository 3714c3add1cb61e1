-- What sectors one after the other read as, before and after calls.
use Rattle.std.proofs.Common.{ℕ, zero, suc, ◌+◌, ◌-◌, ◌*◌, ◌≤◌, ◌<◌, ◌≡◌, ◌⊎◌, inl, inr, arith, refl, sym, ap, ◌∙◌, true, List, [], ◌∷◌, ◌++◌, length, take, drop, Option, Some, None, subst, length-append, length-set}
use Rattle.std.specs.List.{AllByRecursion}
use Rattle.std.proofs.lemmas.Bool.{cases_lt}
use Rattle.std.proofs.lemmas.List.{get_or_append_left, get_or-append_right}
use Rattle.std.proofs.lemmas.Slice.Eq.{bytes_eq-Decides}
use Rattle.vr_base.specs.Bytes.{IsBytes, piece}
use Rattle.vr_base.proofs.Places.{take_both}
use Rattle.vr_disk.specs.Regions.{sectors}
use Rattle.vr_disk.specs.DiskState.{Call, Write, Sync, Face, IsFace, Cell, after, after_all, cell, reads, written}
use Rattle.vr_disk.specs.Sectors.{behind, has, together, writes}
use Rattle.vr_disk.specs.Stops.{Spares, WritesOnly}
use Rattle.vr_disk.proofs.Faces.{there}
use Rattle.vr_disk.proofs.Frames.{frame_all, reads_back}

-- ---- what a reading has

pub has_is : (bytes : List ℕ) (o : Option (List ℕ)) → has bytes o ≡ true → o ≡ Some bytes
has_is bytes None h = absurd cc
has_is bytes (Some b) h = ap Some ((bytes_eq-Decides b bytes).0 h)

pub is_has : (bytes : List ℕ) (o : Option (List ℕ)) → o ≡ Some bytes → has bytes o ≡ true
is_has bytes o e = rw e ((bytes_eq-Decides bytes bytes).1 refl)

-- ---- readings

pub together_cons : (n i : ℕ) (f : Face) → together i (suc n) f ≡ behind (reads f i) (together (i + 1) n f)
unfolding together
together_cons n i f = refl

-- the same sectors read the same together
pub together_same : (n i : ℕ) (f g : Face) → ((k : ℕ) → i ≤ k → k < i + n → reads g k ≡ reads f k) → together i n g ≡ together i n f
unfolding together
together_same zero i f g h = refl
together_same (suc n) i f g h =
    let now = h i (omega arith) (omega arith) in
    let rest = together_same n (i + 1) f g (λ k a b. h k (omega arith) (omega arith)) in
    ap (λ o. behind o (together (i + 1) n g)) now ∙ ap (behind (reads f i)) rest

-- the first sector of a reading
pub record First (i : ℕ) (f : Face) (bytes : List ℕ) : Type 0 where
  pub first : List ℕ
  pub rest : List ℕ
  pub reads : reads f i ≡ Some first
  pub whole : bytes ≡ first ++ rest

first_of : (a rest : Option (List ℕ)) (bytes : List ℕ) → behind a rest ≡ Some bytes → (x : List ℕ) × (y : List ℕ) × (a ≡ Some x) × (bytes ≡ x ++ y)
first_of None rest bytes e = absurd cc
first_of (Some x) None bytes e = absurd cc
first_of (Some x) (Some y) bytes e = let same : x ++ y ≡ bytes = cc in (x, y, refl, sym same)

pub together_first : (n i : ℕ) (f : Face) (bytes : List ℕ) → together i (suc n) f ≡ Some bytes → First i f bytes
unfolding together
together_first n i f bytes e = let p = first_of (reads f i) (together (i + 1) n f) bytes e in record { first = p.0; rest = p.1; reads = p.2; whole = p.3 }

-- a sync changes no reading
pub together_synced : (n i : ℕ) (f : Face) → together i n (after f Sync) ≡ together i n f
unfolding together
together_synced zero i f = refl
together_synced (suc n) i f = ap (behind (reads f i)) (together_synced n (i + 1) f)

-- a reading consists of bytes
bytes_append : (xs ys : List ℕ) → IsBytes xs → IsBytes ys → IsBytes (xs ++ ys)
bytes_append xs ys a b i =
    elim (cases_lt i (length xs)) [
      | inl l ↦ rw (get_or_append_left xs ys 0 i l) (a i)
      | inr g ↦ rw (get_or-append_right xs ys (length xs) i 0 refl g) (b (i - length xs))
    ]

nothing_bytes : IsBytes []
nothing_bytes i = omega arith

behind_bytes : (a r : Option (List ℕ)) (b : List ℕ) → ((x : List ℕ) → a ≡ Some x → IsBytes x) → ((x : List ℕ) → r ≡ Some x → IsBytes x) → behind a r ≡ Some b → IsBytes b
behind_bytes None r b f g e = absurd cc
behind_bytes (Some x) None b f g e = absurd cc
behind_bytes (Some x) (Some y) b f g e = let same : x ++ y ≡ b = cc in subst IsBytes same (bytes_append x y (f x refl) (g y refl))

pub together_bytes : (n i : ℕ) (f : Face) → IsFace f → i + n ≤ sectors → (b : List ℕ) → together i n f ≡ Some b → IsBytes b
unfolding together
together_bytes zero i f h l b e = let same : [] ≡ b = cc in subst IsBytes same nothing_bytes
together_bytes (suc n) i f h l b e = behind_bytes (reads f i) (together (i + 1) n f) b (λ x r. ((there f i h (omega arith)).reads x r).each) (together_bytes n (i + 1) f h (omega arith)) e

-- ---- how many bytes sectors have

behind_size : (a r : Option (List ℕ)) (b : List ℕ) (n : ℕ) → ((x : List ℕ) → a ≡ Some x → length x ≡ 512) → ((x : List ℕ) → r ≡ Some x → length x ≡ n) → behind a r ≡ Some b → length b ≡ 512 + n
behind_size None r b n f g e = absurd cc
behind_size (Some x) None b n f g e = absurd cc
behind_size (Some x) (Some y) b n f g e =
    let same : x ++ y ≡ b = cc in
    let one = f x refl in
    let two = g y refl in
    let all = length-append x y in
    let size : length (x ++ y) ≡ 512 + n = omega (arith, one, two, all) in
    ap length (sym same) ∙ size

pub together_size : (n i : ℕ) (f : Face) → IsFace f → i + n ≤ sectors → (b : List ℕ) → together i n f ≡ Some b → length b ≡ 512 * n
unfolding together
together_size zero i f h l b e = let same : [] ≡ b = cc in ap length (sym same)
together_size (suc n) i f h l b e =
    let x = behind_size (reads f i) (together (i + 1) n f) b (512 * n) (λ x r. ((there f i h (omega arith)).reads x r).size) (together_size n (i + 1) f h (omega arith)) e in
    omega (arith, x)

-- ---- calls one after another

pub after_all_append : (cs ds : List Call) (f : Face) → after_all f (cs ++ ds) ≡ after_all (after_all f cs) ds
after_all_append [] ds f = refl
after_all_append (c ∷ cs) ds f = after_all_append cs ds (after f c)

pub length_after_all : (cs : List Call) (f : Face) → length (after_all f cs).cells ≡ length f.cells
length_after_all [] f = refl
length_after_all (Write i b ∷ cs) f = length_after_all cs (after f (Write i b)) ∙ length-set f.cells i (written (cell f i) b)
length_after_all (Sync ∷ cs) f = length_after_all cs (after f Sync)

pub spares_append : (k : ℕ) (cs ds : List Call) → AllByRecursion (Spares k) cs → AllByRecursion (Spares k) ds → AllByRecursion (Spares k) (cs ++ ds)
spares_append k [] ds x y = y
spares_append k (c ∷ cs) ds x y = (x.0, spares_append k cs ds x.1 y)

pub only_append : (k : ℕ) (b : List ℕ) (cs ds : List Call) → AllByRecursion (WritesOnly k b) cs → AllByRecursion (WritesOnly k b) ds → AllByRecursion (WritesOnly k b) (cs ++ ds)
only_append k b [] ds x y = y
only_append k b (c ∷ cs) ds x y = (x.0, only_append k b cs ds x.1 y)

-- calls that write sectors from one up to another alone
unfoldable pub Within : ℕ → ℕ → Call → Type 0
Within low high (Write k bytes) = (low ≤ k) × (k < high)
Within low high Sync = Unit {0}

pub within_spares : (low high : ℕ) (cs : List Call) (i : ℕ) → AllByRecursion (Within low high) cs → (i < low) ⊎ (high ≤ i) → AllByRecursion (Spares i) cs
unfolding Within
within_spares low high [] i w o = tt
within_spares low high (Write k b ∷ cs) i w o = ((λ e. elim o [ inl l ↦ let p = w.0 in omega arith | inr l ↦ let p = w.0 in omega arith ]), within_spares low high cs i w.1 o)
within_spares low high (Sync ∷ cs) i w o = (tt, within_spares low high cs i w.1 o)

pub within_append : (low high : ℕ) (cs ds : List Call) → AllByRecursion (Within low high) cs → AllByRecursion (Within low high) ds → AllByRecursion (Within low high) (cs ++ ds)
within_append low high [] ds a b = b
within_append low high (c ∷ cs) ds a b = (a.0, within_append low high cs ds a.1 b)

-- ---- sectors written one after the other

pub writes_within : (low high n i : ℕ) (bytes : List ℕ) → low ≤ i → i + n ≤ high → AllByRecursion (Within low high) (writes i n bytes)
unfolding writes Within
writes_within low high zero i bytes a b = tt
writes_within low high (suc n) i bytes a b = ((a, omega arith), writes_within low high n (i + 1) (drop 512 bytes) (omega arith) (omega arith))

-- a sector before them
pub writes_spare : (n i k : ℕ) (bytes : List ℕ) → k < i → AllByRecursion (Spares k) (writes i n bytes)
unfolding writes
writes_spare zero i k bytes l = tt
writes_spare (suc n) i k bytes l = ((λ e. omega arith), writes_spare n (i + 1) k (drop 512 bytes) (omega arith))

pub writes_only : (n i k : ℕ) (b bytes : List ℕ) → k < i → AllByRecursion (WritesOnly k b) (writes i n bytes)
unfolding writes
writes_only zero i k b bytes l = tt
writes_only (suc n) i k b bytes l = ((λ e. absurd (omega arith)), writes_only n (i + 1) k b (drop 512 bytes) (omega arith))

pub together_written : (n i : ℕ) (bytes : List ℕ) (f : Face) → i + n ≤ length f.cells → together i n (after_all f (writes i n bytes)) ≡ Some (take (512 * n) bytes)
unfolding together writes piece
together_written zero i bytes f l = refl
together_written (suc n) i bytes f l =
    let p = piece 0 512 bytes in
    let g = after f (Write i p) in
    let h = after_all g (writes (i + 1) n (drop 512 bytes)) in
    let now : reads h i ≡ Some p = ap (λ (c : Cell). c.reads) (frame_all (writes (i + 1) n (drop 512 bytes)) g i (writes_spare n (i + 1) i (drop 512 bytes) (omega arith))) ∙ reads_back f i p (omega arith) in
    let rest : together (i + 1) n h ≡ Some (take (512 * n) (drop 512 bytes)) = together_written n (i + 1) (drop 512 bytes) g (rw length-set (omega arith)) in
    let size : 512 + 512 * n ≡ 512 * suc n = omega arith in
    ap (λ o. behind o (together (i + 1) n h)) now ∙ (ap (behind (Some p)) rest ∙ ap Some (take_both 512 (512 * n) bytes ∙ ap (λ m. take m bytes) size))

-- Calls that write whole regions leave disks that read alike.
use Rattle.std.proofs.Common.{ℕ, zero, suc, ◌+◌, ◌≤◌, ◌<◌, ◌≡◌, ◌⊎◌, ◌∙◌, inl, inr, arith, sym, ap, subst, false, List, [], ◌∷◌, ◌++◌, length, length-set, drop, take, Option, Some}
use Rattle.std.specs.List.{AllByRecursion}
use Rattle.std.specs.Option.{option_map_or}
use Rattle.std.proofs.lemmas.Bool.{cases_eq}
use Rattle.vr_base.specs.Bytes.{piece}
use Rattle.vr_disk.specs.Regions.{sectors}
use Rattle.vr_disk.specs.DiskState.{Call, Write, Sync, Cell, Face, IsFace, after, after_all, cell, reads, written}
use Rattle.vr_disk.specs.Sectors.{writes}
use Rattle.vr_disk.proofs.Faces.{there}
use Rattle.vr_disk.proofs.Frames.{frame_all, reads_back, reads_other}
use Rattle.vr_disk.proofs.Together.{Within, length_after_all, together_same, within_spares}
use Rattle.law_damage.specs.Alike.{Region, IsIn, IsRegion, ReadAlike, ReadsSame, VerifiesOnNeither, count, is_good, place, verifies}
use Rattle.law_damage.proofs.Fits.{Fits, own, before, behind, region_inside}

-- ---- one sector

-- no sector of the superblock reads as more than its size
abbrev pub Short : Face → Type 0
Short f = (k : ℕ) → k < 80 → (b : List ℕ) → reads f k ≡ Some b → length b ≤ 512

abbrev pub Slim : Call → Type 0
Slim (Write k b) = k < 80 → length b ≤ 512
Slim Sync = Unit {0}

-- one of the calls writes it
unfoldable pub Hits : ℕ → List Call → Type 0
Hits k [] = ⊥
Hits k (Write j b ∷ cs) = (k ≡ j) ⊎ Hits k cs
Hits k (Sync ∷ cs) = Hits k cs

some_same : (a b : List ℕ) → Some a ≡ Some b → a ≡ b
some_same a b e = cc

pub short_after : (cs : List Call) (f : Face) → length f.cells ≡ sectors → Short f → AllByRecursion Slim cs → Short (after_all f cs)
short_after [] f n h s = h
short_after (Sync ∷ cs) f n h s = short_after cs (after f Sync) n h s.1
short_after (Write i x ∷ cs) f n h s =
    short_after cs (after f (Write i x)) (length-set f.cells i (written (cell f i) x) ∙ n)
    (λ k l b e.
    elim (cases_eq k i) [
      | inl t ↦
          let back = reads_back f i x (omega arith) in
          let there : reads (after f (Write i x)) i ≡ Some b = subst (λ j. reads (after f (Write i x)) j ≡ Some b) t e in
          subst (λ y. length y ≤ 512) (some_same x b (sym back ∙ there)) (s.0 (omega arith))
      | inr d ↦ h k l b (sym (reads_other f i k x d) ∙ e)
    ])
    s.1

-- the same calls leave a sector the same that read the same before
pub still : (cs : List Call) (f g : Face) (k : ℕ) → length f.cells ≡ sectors → length g.cells ≡ sectors → k < sectors → reads g k ≡ reads f k → reads (after_all g cs) k ≡ reads (after_all f cs) k
still [] f g k n m l e = e
still (Sync ∷ cs) f g k n m l e = still cs (after f Sync) (after g Sync) k n m l e
still (Write i x ∷ cs) f g k n m l e =
    still cs (after f (Write i x)) (after g (Write i x)) k (length-set f.cells i (written (cell f i) x) ∙ n) (length-set g.cells i (written (cell g i) x) ∙ m) l
    (elim (cases_eq k i) [
      | inl t ↦
          let low : i < sectors = omega arith in
          subst (λ j. reads (after g (Write i x)) j ≡ reads (after f (Write i x)) j) (sym t) (reads_back g i x (omega arith) ∙ sym (reads_back f i x (omega arith)))
      | inr d ↦ reads_other g i k x d ∙ (e ∙ sym (reads_other f i k x d))
    ])

-- and one that they write
pub hit : (cs : List Call) (f g : Face) (k : ℕ) → length f.cells ≡ sectors → length g.cells ≡ sectors → k < sectors → Hits k cs → reads (after_all g cs) k ≡ reads (after_all f cs) k
unfolding Hits
hit [] f g k n m l h = absurd h
hit (Sync ∷ cs) f g k n m l h = hit cs (after f Sync) (after g Sync) k n m l h
hit (Write i x ∷ cs) f g k n m l h =
    let p = length-set f.cells i (written (cell f i) x) ∙ n in
    let q = length-set g.cells i (written (cell g i) x) ∙ m in
    elim h [
      | inl t ↦
          let low : i < sectors = omega arith in
          still cs (after f (Write i x)) (after g (Write i x)) k p q l
          (subst (λ j. reads (after g (Write i x)) j ≡ reads (after f (Write i x)) j) (sym t) (reads_back g i x (omega arith) ∙ sym (reads_back f i x (omega arith))))
      | inr later ↦ hit cs (after f (Write i x)) (after g (Write i x)) k p q l later
    ]

pub hits_append : (k : ℕ) (cs ds : List Call) → Hits k cs ⊎ Hits k ds → Hits k (cs ++ ds)
unfolding Hits
hits_append k [] ds h = elim h [ inl x ↦ absurd x | inr x ↦ x ]
hits_append k (Sync ∷ cs) ds h = hits_append k cs ds h
hits_append k (Write j b ∷ cs) ds h =
    elim h [
      | inl x ↦ elim x [ inl e ↦ inl e | inr y ↦ inr (hits_append k cs ds (inl y)) ]
      | inr x ↦ inr (hits_append k cs ds (inr x))
    ]

pub writes_hit : (n i k : ℕ) (bytes : List ℕ) → i ≤ k → k < i + n → Hits k (writes i n bytes)
unfolding writes Hits
writes_hit zero i k bytes a b = absurd (omega arith)
writes_hit (suc n) i k bytes a b = elim (cases_eq k i) [ inl e ↦ inl e | inr d ↦ inr (writes_hit n (i + 1) k (drop 512 bytes) (omega arith) (omega arith)) ]

pub take_short : (n : ℕ) (xs : List ℕ) → length (take n xs) ≤ n
take_short zero xs = omega arith
take_short (suc n) [] = omega arith
take_short (suc n) (x ∷ xs) = let l = take_short n xs in omega arith

piece_short : (bytes : List ℕ) → length (piece 0 512 bytes) ≤ 512
unfolding piece
piece_short bytes = take_short 512 bytes

pub slim_append : (cs ds : List Call) → AllByRecursion Slim cs → AllByRecursion Slim ds → AllByRecursion Slim (cs ++ ds)
slim_append [] ds a b = b
slim_append (c ∷ cs) ds a b = (a.0, slim_append cs ds a.1 b)

pub writes_slim : (n i : ℕ) (bytes : List ℕ) → AllByRecursion Slim (writes i n bytes)
unfolding writes
writes_slim zero i bytes = tt
writes_slim (suc n) i bytes = ((λ l. piece_short bytes), writes_slim n (i + 1) (drop 512 bytes))

-- ---- two disks

pub record Twins (v : ℕ) (f g : Face) : Type 0 where
  pub alike : ReadAlike v f g
  pub one : length f.cells ≡ sectors
  pub two : length g.cells ≡ sectors
  pub short : Short f
  pub brief : Short g

short_face : (f : Face) → IsFace f → Short f
short_face f h k l b e = let p = ((there f k h (omega arith)).reads b e).size in omega (arith, p)

pub twins : (v : ℕ) (f g : Face) → IsFace f → IsFace g → ReadAlike v f g → Twins v f g
twins v f g h k a = record { alike = a; one = h.count; two = k.count; short = short_face f h; brief = short_face g k }

-- a region whose sectors stay verifies as before
pub verifies_still : (v : ℕ) (f g : Face) (r : Region) → ((k : ℕ) → IsIn v r k → reads g k ≡ reads f k) → verifies v g r ≡ verifies v f r
verifies_still v f g r h = ap (λ (o : Option (List ℕ)). option_map_or (is_good v r) o false) (together_same (count v r) (place v r) f g (λ k a b. h k (a, b)))

abbrev pub AlikeAt : ℕ → Face → Face → Region → Type 0
AlikeAt v f g r = ReadsSame v f g r ⊎ VerifiesOnNeither v f g r

-- where neither disk has changed there
pub alike_still : (v : ℕ) (f g x y : Face) (r : Region) → AlikeAt v f g r → ((k : ℕ) → IsIn v r k → reads x k ≡ reads f k) → ((k : ℕ) → IsIn v r k → reads y k ≡ reads g k) → AlikeAt v x y r
alike_still v f g x y r a p q =
    elim a [
      | inl same ↦ inl (λ k i. q k i ∙ (same k i ∙ sym (p k i)))
      | inr n ↦ inr (record { first = verifies_still v f x r p ∙ n.first; second = verifies_still v g y r q ∙ n.second })
    ]

spared : (cs : List Call) (f : Face) (low n k : ℕ) → AllByRecursion (Within low (low + n)) cs → (k < low) ⊎ (low + n ≤ k) → reads (after_all f cs) k ≡ reads f k
spared cs f low n k w o = ap (λ (c : Cell). c.reads) (frame_all cs f k (within_spares low (low + n) cs k w o))

-- the calls write so many sectors from one on, each of them, and no other
pub record Fills (low n : ℕ) (cs : List Call) : Type 0 where
  pub within : AllByRecursion (Within low (low + n)) cs
  pub all : (k : ℕ) → low ≤ k → k < low + n → Hits k cs
  pub slim : AllByRecursion Slim cs

-- a region is filled, or none of its sectors is written
region_filled : (v low n : ℕ) (cs : List Call) (f g : Face) → Fills low n cs → (r : Region) → Fits v low n r → place v r + count v r ≤ sectors → Twins v f g → AlikeAt v f g r → AlikeAt v (after_all f cs) (after_all g cs) r
region_filled v low n cs f g c r (own at size) m t a =
    inl (λ k i. let l = i.0 in let h = i.1 in hit cs f g k t.one t.two (omega (arith, l, h, m)) (c.all k (omega (arith, l, at)) (omega (arith, h, at, size))))
region_filled v low n cs f g c r (before x) m t a =
    alike_still v f g (after_all f cs) (after_all g cs) r a (λ k i. let l = i.0 in spared cs f low n k c.within (inr (omega (arith, l, x)))) (λ k i. let l = i.0 in spared cs g low n k c.within (inr (omega (arith, l, x))))
region_filled v low n cs f g c r (behind x) m t a =
    alike_still v f g (after_all f cs) (after_all g cs) r a (λ k i. let h = i.1 in spared cs f low n k c.within (inl (omega (arith, h, x)))) (λ k i. let h = i.1 in spared cs g low n k c.within (inl (omega (arith, h, x))))

pub fill : (v low n : ℕ) (cs : List Call) (f g : Face) → Fills low n cs → ((r : Region) → IsRegion r → Fits v low n r) → Twins v f g → Twins v (after_all f cs) (after_all g cs)
fill v low n cs f g c fits t =
    let region : (r : Region) → IsRegion r → AlikeAt v (after_all f cs) (after_all g cs) r =
    λ r i. region_filled v low n cs f g c r (fits r i) (region_inside v r i) t (t.alike.each r i) in
    record {
      alike = record { each = region };
      one = length_after_all cs f ∙ t.one;
      two = length_after_all cs g ∙ t.two;
      short = short_after cs f t.one t.short c.slim;
      brief = short_after cs g t.two t.brief c.slim;
    }

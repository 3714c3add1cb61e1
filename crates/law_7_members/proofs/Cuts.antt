-- Calls that stop are calls that were cut, once their disk is attached again.
use Rattle.std.proofs.Common.{ℕ, zero, suc, ◌+◌, ◌*◌, ◌/◌, ◌%◌, ◌<◌, ◌≤◌, ◌≡◌, ◌⊎◌, inl, inr, arith, refl, sym, ap, ◌∙◌, subst, false, List, [], ◌∷◌, ◌++◌, length, take, get_or, set, Option, Some, length-set, get_or-set_other, get_or-set_same}
use Rattle.std.specs.List.{AllByRecursion}
use Rattle.std.proofs.lemmas.Bool.{cases_eq, cases_lt, cond_both}
use Rattle.std.proofs.lemmas.List.{set-get_or}
use Rattle.std.proofs.lemmas.Nat.{div-mul-add, mod-mul-add}
use Rattle.vr_disk.specs.DiskState.{Call, Cell, Disk, Face, Front, Runs, Sync, Waiting, Write, after, after_all, blank, cell, cut, noted, runs, settle, settled, settled_cell, waits, written}
use Rattle.vr_disk.specs.Stops.{Stops}
use Rattle.vr_disk.proofs.Running.{after_is}
use Rattle.vr_disk.proofs.Stopping.{nothing_left, stops_are}

-- ---- the code by which all that waits is as it was written

ones : ℕ → ℕ
ones zero = 0
ones (suc n) = ones n * 3 + 1

ones_rest : (n : ℕ) → ones (suc n) / 3 ≡ ones n
unfolding ones
ones_rest n = div-mul-add (ones n) 3 1 (omega arith)

ones_first : (n : ℕ) → ones (suc n) % 3 ≡ 1
unfolding ones
ones_first n = mod-mul-add (ones n) 3 1 (omega arith)

-- a sector that is there reads as what was written to it
abbrev IsAsWritten : List Cell → ℕ → Type 0
IsAsWritten cells i = i < length cells → (get_or cells i blank).reads ≡ Some (get_or cells i blank).truth

abbrev AreAsWritten : List Cell → List Waiting → Type 0
AreAsWritten cells ws = AllByRecursion (λ (w : Waiting). IsAsWritten cells w.index) ws

all_next : (P Q : Waiting → Type 0) (ws : List Waiting) → ((w : Waiting) → P w → Q w) → AllByRecursion P ws → AllByRecursion Q ws
all_next P Q [] h a = tt
all_next P Q (w ∷ ws) h a = (h w a.0, all_next P Q ws h a.1)

all_one : (P : Waiting → Type 0) (ws : List Waiting) (w : Waiting) → AllByRecursion P ws → P w → AllByRecursion P (ws ++ w ∷ [])
all_one P [] w a p = (p, tt)
all_one P (x ∷ xs) w a p = (a.0, all_one P xs w a.1 p)

written_here : (cells : List Cell) (k : ℕ) (b : List ℕ) → IsAsWritten (set cells k (written (get_or cells k blank) b)) k
written_here cells k b l =
    let size = length-set cells k (written (get_or cells k blank) b) in
    let is = get_or-set_same cells k (written (get_or cells k blank) b) blank (omega (arith, size, l)) in
    subst (λ (c : Cell). c.reads ≡ Some c.truth) (sym is) refl

written_still : (cells : List Cell) (k : ℕ) (b : List ℕ) (i : ℕ) → IsAsWritten cells i → IsAsWritten (set cells k (written (get_or cells k blank) b)) i
written_still cells k b i h =
    let new = written (get_or cells k blank) b in
    elim (cases_eq i k) [
      | inl same ↦ subst (IsAsWritten (set cells k new)) (sym same) (written_here cells k b)
      | inr other ↦ λ l.
          let size = length-set cells k new in
          subst (λ (c : Cell). c.reads ≡ Some c.truth) (sym (get_or-set_other cells k i new blank other)) (h (omega (arith, size, l)))
    ]

written_after : (f : Face) (c : Call) → AreAsWritten f.cells f.waiting → AreAsWritten (after f c).cells (after f c).waiting
written_after f (Write k b) a =
    let cells = set f.cells k (written (cell f k) b) in
    let w : Waiting = record { index = k; was = cell f k } in
    let still : AreAsWritten cells f.waiting = all_next (λ (w : Waiting). IsAsWritten f.cells w.index) (λ (w : Waiting). IsAsWritten cells w.index) f.waiting (λ w h. written_still f.cells k b w.index h) a in
    cond_both (waits k f.waiting) f.waiting (f.waiting ++ w ∷ []) (AreAsWritten cells) (λ _. still) (λ _. all_one (λ (w : Waiting). IsAsWritten cells w.index) f.waiting w still (written_here f.cells k b))
written_after f Sync a = tt

set_past : (xs : List Cell) (i : ℕ) (x : Cell) → length xs ≤ i → set xs i x ≡ xs
set_past [] i x l = refl
set_past (y ∷ ys) zero x l = absurd (omega (arith, l))
set_past (y ∷ ys) (suc i) x l = ap (λ (zs : List Cell). y ∷ zs) (set_past ys i x (omega (arith, l)))

set_written : (cells : List Cell) (i : ℕ) (was : Cell) → IsAsWritten cells i → set cells i (settled_cell 1 was (get_or cells i blank)) ≡ cells
set_written cells i was h =
    let c = get_or cells i blank in
    elim (cases_lt i (length cells)) [
      | inl l ↦
          let same : settled_cell 1 was c ≡ c = ap (λ (r : Option (List ℕ)). let x : Cell = record { truth = c.truth; reads = r; before = c.before } in x) (sym (h l)) in
          ap (set cells i) same ∙ set-get_or cells i blank
      | inr past ↦ set_past cells i (settled_cell 1 was c) past
    ]

settled_ones : (ws : List Waiting) (cells : List Cell) → AreAsWritten cells ws → settled (ones (length ws)) ws cells ≡ cells
settled_ones [] cells a = refl
settled_ones (w ∷ ws) cells a =
    let c = get_or cells w.index blank in
    let n = length ws in
    ap (λ (k : ℕ). settled k ws (set cells w.index (settled_cell (ones (suc n) % 3) w.was c))) (ones_rest n)
    ∙ (ap (λ (k : ℕ). settled (ones n) ws (set cells w.index (settled_cell k w.was c))) (ones_first n)
    ∙ (ap (settled (ones n) ws) (set_written cells w.index w.was a.0) ∙ settled_ones ws cells a.1))

-- ---- calls that were made, as a cut at the last of them

settled_face : (f : Face) → AreAsWritten f.cells f.waiting → settle (ones (length f.waiting)) f ≡ after f Sync
settled_face f a = ap (λ (cells : List Cell). let g : Face = record { cells = cells; waiting = [] } in g) (settled_ones f.waiting f.cells a)

cut_now : (c : Call) (cs : List Call) (f : Face) → AreAsWritten f.cells f.waiting → (code : ℕ) × (cut 0 code f (c ∷ cs) ≡ after (after f c) Sync)
unfolding cut
cut_now (Write i b) cs f a = let g = after f (Write i b) in (ones (length g.waiting), settled_face g (written_after f (Write i b) a))
cut_now Sync cs f a = (ones (length f.waiting), settled_face f a)

cut_after_made : (cs : List Call) (f : Face) (j : ℕ) → j < length cs → AreAsWritten f.cells f.waiting → (code : ℕ) × (cut j code f cs ≡ after (after_all f (take (suc j) cs)) Sync)
unfolding cut
cut_after_made [] f j l a = absurd (omega (arith, l))
cut_after_made (c ∷ cs) f zero l a = cut_now c cs f a
cut_after_made (c ∷ cs) f (suc j) l a = cut_after_made cs (after f c) j (omega (arith, l)) (written_after f c a)

-- ---- none of them, as a cut at the first one

set_twice : (xs : List Cell) (i : ℕ) (x y : Cell) → set (set xs i x) i y ≡ set xs i y
set_twice [] i x y = refl
set_twice (z ∷ zs) zero x y = refl
set_twice (z ∷ zs) (suc i) x y = ap (λ (cs : List Cell). z ∷ cs) (set_twice zs i x y)

unwritten : (cells : List Cell) (i : ℕ) (b : List ℕ) → settled 0 (noted [] i (get_or cells i blank)) (set cells i (written (get_or cells i blank) b)) ≡ cells
unwritten cells i b = set_twice cells i (written (get_or cells i blank) b) (get_or cells i blank) ∙ set-get_or cells i blank

cut_unmade : (c : Call) (cs : List Call) (f : Face) → f.waiting ≡ [] → cut 0 0 f (c ∷ cs) ≡ after f Sync
unfolding cut
cut_unmade (Write i b) cs f e =
    ap (λ (ws : List Waiting). let g : Face = record { cells = settled 0 (noted ws i (cell f i)) (set f.cells i (written (cell f i) b)); waiting = [] } in g) e
    ∙ ap (λ (cells : List Cell). let g : Face = record { cells = cells; waiting = [] } in g) (unwritten f.cells i b)
cut_unmade Sync cs f e = ap (λ (ws : List Waiting). let g : Face = record { cells = settled 0 ws f.cells; waiting = [] } in g) e

-- ---- calls that stopped

-- once it is attached again, the disk is as a cut at one of these calls leaves it
pub record IsCutAgain (cs : List Call) (f g : Face) : Type 0 where
  pub made : ℕ
  pub code : ℕ
  pub within : made < length cs
  pub is : cut made code f cs ≡ after g Sync

pub rested : (f : Face) → f.waiting ≡ [] → f ≡ after f Sync
rested f e = ap (λ (ws : List Waiting). let g : Face = record { cells = f.cells; waiting = ws } in g) e

none_wait : (f : Face) → f.waiting ≡ [] → AreAsWritten f.cells f.waiting
none_wait f e = subst (AreAsWritten f.cells) (sym e) tt

made_again : (cs : List Call) (f g : Face) (k : ℕ) → f.waiting ≡ [] → k ≤ length cs → 0 < length cs → g ≡ after_all f (take k cs) → IsCutAgain cs f g
made_again [] f g k e l some is = absurd (omega (arith, some))
made_again (c ∷ cs) f g zero e l some is = record { made = 0; code = 0; within = omega arith; is = cut_unmade c cs f e ∙ ap (λ (h : Face). after h Sync) (sym is) }
made_again (c ∷ cs) f g (suc j) e l some is =
    let x = cut_after_made (c ∷ cs) f j (omega (arith, l)) (none_wait f e) in
    record { made = j; code = x.0; within = omega (arith, l); is = x.1 ∙ ap (λ (h : Face). after h Sync) (sym is) }

stopped_again : (cs : List Call) (f g : Face) → f.waiting ≡ [] → Stops cs f g → IsCutAgain cs f g
stopped_again cs f g e s =
    let within = s.within in
    elim s.left [
      | inl is ↦ made_again cs f g s.calls e (omega (arith, within)) (omega (arith, within)) is
      | inr p ↦ record { made = s.calls; code = p.0; within = within; is = rested (cut s.calls p.0 f cs) (nothing_left cs f s.calls p.0 within) ∙ ap (λ (h : Face). after h Sync) (sym p.1) }
    ]

-- ---- what a disk tells of calls that stopped

-- it is as a cut leaves it; or there were no calls, and it is as it was
pub record HasStopped (cs : List Call) (f : Face) (d' : Option Disk) : Type 0 where
  pub disk : Disk
  pub told : d' ≡ Some disk
  pub left : IsCutAgain cs f disk.face ⊎ ((cs ≡ []) × (disk.face ≡ f))

pub failed_stopped : (cs : List Call) (d : Disk) (d' : Option Disk) → d.face.waiting ≡ [] → Runs cs (Some d) d' false → HasStopped cs d.face d'
failed_stopped cs d d' e r = record { disk = (runs cs d).disk; told = r.0; left = inl (stopped_again cs d.face (runs cs d).disk.face e (stops_are cs d (sym r.1))) }

take_made : (xs ys : List Call) → take (length xs) (xs ++ ys) ≡ xs
take_made [] ys = refl
take_made (x ∷ xs) ys = ap (λ (zs : List Call). x ∷ zs) (take_made xs ys)

length_made : (xs ys : List Call) → length xs ≤ length (xs ++ ys)
length_made [] ys = omega arith
length_made (x ∷ xs) ys = let l = length_made xs ys in omega (arith, l)

made_left : (made left : List Call) (f g : Face) → f.waiting ≡ [] → g ≡ after_all f made → (cs : List Call) → cs ≡ made ++ left → IsCutAgain cs f g ⊎ ((cs ≡ []) × (g ≡ f))
made_left made left f g e is [] same = inr (refl, is ∙ ap (after_all f) (none_made made left same))
  where
    none_made : (made left : List Call) → [] ≡ made ++ left → made ≡ []
    none_made [] left e = refl
    none_made (c ∷ cs) left e = absurd (let bad : [] ≡ c ∷ (cs ++ left) = e in cc)
made_left made left f g e is (c ∷ cs) same =
    let size = length_made made left in
    let all = ap (λ (xs : List Call). length xs) same in
    let first : take (length made) (c ∷ cs) ≡ made = ap (take (length made)) same ∙ take_made made left in
    inl (made_again (c ∷ cs) f g (length made) e (omega (arith, size, all)) (omega arith) (is ∙ ap (after_all f) (sym first)))

pub front_stopped : (cs : List Call) (d : Disk) (d' : Option Disk) → d.face.waiting ≡ [] → Front cs (Some d) d' → HasStopped cs d.face d'
front_stopped cs d d' e h = record { disk = (runs h.made d).disk; told = h.ran.0; left = made_left h.made h.left d.face (runs h.made d).disk.face e (after_is h.made d (sym h.ran.1)) cs h.whole }

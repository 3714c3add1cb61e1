-- Sectors that read as something else, and as before again.
use Rattle.std.proofs.Common.{ℕ, zero, suc, ◌<◌, ◌≡◌, ◌≢◌, refl, sym, ap, ◌∙◌, List, [], ◌∷◌, length, get_or, set, length-set, Option, get_or-set_other, get_or-set_same, inl, inr}
use Rattle.std.proofs.lemmas.Bool.{cases_eq}
use Rattle.std.proofs.lemmas.List.{set-get_or, set_comm}
use Rattle.vr_disk.specs.DiskState.{Cell, Face, blank, cell, reads}
use Rattle.vr_mem.specs.Lies.{lied}
use Rattle.vr_mem.specs.Seen.{reads_of}
use Rattle.vr_lie.specs.declared.trial.Lie.{Lie}
use Rattle.vr_lie.specs.Table.{both, shown}

set_again : {X : Type 0} → (xs : List X) (i : ℕ) (a b : X) → set (set xs i a) i b ≡ set xs i b
set_again [] i a b = refl
set_again (x ∷ xs) zero a b = refl
set_again (x ∷ xs) (suc i) a b = ap (λ ys. x ∷ ys) (set_again xs i a b)

abbrev as_read : Cell → Option (List ℕ) → Cell
as_read c r = record c { reads = r }

pub lied_same : (f : Face) (i : ℕ) (r : Option (List ℕ)) → r ≡ reads f i → lied f i r ≡ f
unfolding lied
lied_same f i r e =
    let own : as_read (cell f i) r ≡ cell f i = ap (as_read (cell f i)) e in
    let cells : set f.cells i (as_read (cell f i) r) ≡ f.cells = ap (set f.cells i) own ∙ set-get_or f.cells i blank in
    ap (λ (cs : List Cell). let g : Face = record { cells = cs; waiting = f.waiting } in g) cells

pub cells_lied : (f : Face) (i : ℕ) (r : Option (List ℕ)) → length (lied f i r).cells ≡ length f.cells
unfolding lied
cells_lied f i r = length-set f.cells i (as_read (cell f i) r)

pub lied_again : (f : Face) (i : ℕ) (r s : Option (List ℕ)) → i < length f.cells → lied (lied f i r) i s ≡ lied f i s
unfolding lied
lied_again f i r s l =
    let x = as_read (cell f i) r in
    let own : as_read (get_or (set f.cells i x) i blank) s ≡ as_read (cell f i) s = ap (λ c. as_read c s) (get_or-set_same f.cells i x blank l) in
    let cells : set (set f.cells i x) i (as_read (get_or (set f.cells i x) i blank) s) ≡ set f.cells i (as_read (cell f i) s) = ap (set (set f.cells i x) i) own ∙ set_again f.cells i x (as_read (cell f i) s) in
    ap (λ (cs : List Cell). let g : Face = record { cells = cs; waiting = f.waiting } in g) cells

pub cell_lied : (f : Face) (i k : ℕ) (r : Option (List ℕ)) → k ≢ i → cell (lied f i r) k ≡ cell f k
unfolding lied
cell_lied f i k r d = get_or-set_other f.cells i k (as_read (cell f i) r) blank d

lied_swap : (f : Face) (i k : ℕ) (r s : Option (List ℕ)) → i ≢ k → lied (lied f i r) k s ≡ lied (lied f k s) i r
unfolding lied
lied_swap f i k r s d =
    let x = as_read (cell f i) r in
    let y = as_read (cell f k) s in
    let there : get_or (set f.cells i x) k blank ≡ cell f k = get_or-set_other f.cells i k x blank (λ e. d (sym e)) in
    let here : get_or (set f.cells k y) i blank ≡ cell f i = get_or-set_other f.cells k i y blank d in
    let left : set (set f.cells i x) k (as_read (get_or (set f.cells i x) k blank) s) ≡ set (set f.cells i x) k y = ap (λ c. set (set f.cells i x) k (as_read c s)) there in
    let right : set (set f.cells k y) i (as_read (get_or (set f.cells k y) i blank) r) ≡ set (set f.cells k y) i x = ap (λ c. set (set f.cells k y) i (as_read c r)) here in
    ap (λ (cs : List Cell). let g : Face = record { cells = cs; waiting = f.waiting } in g) (left ∙ (set_comm f.cells i k x y d ∙ sym right))

-- two sectors read as something else, and then as before
undone_at : (f : Face) (i k : ℕ) (r s back was : Option (List ℕ)) → i < length f.cells → k < length f.cells → lied f k back ≡ f → lied f i was ≡ f → lied (lied (lied (lied f i r) k s) k back) i was ≡ f
undone_at f i k r s back was l m b w =
    let g = lied f i r in
    let once : lied (lied g k s) k back ≡ lied g k back = lied_again g k s back (rw (cells_lied f i r) m) in
    let rest : lied (lied g k back) i was ≡ f =
    elim (cases_eq i k) [
      | inl e ↦
          let same : lied g k back ≡ lied f k back = ap (λ n. lied (lied f n r) k back) e ∙ lied_again f k r back m in
          ap (λ h. lied h i was) (same ∙ b) ∙ w
      | inr d ↦ ap (λ h. lied h i was) (lied_swap f i k r back d ∙ ap (λ h. lied h i r) b) ∙ (lied_again f i r was l ∙ w)
    ] in
    ap (λ h. lied h i was) once ∙ rest

pub undone : (f : Face) (a b was back : Lie) → a.at < length f.cells → b.at < length f.cells → was.at ≡ a.at → back.at ≡ b.at → shown f was ≡ f → shown f back ≡ f → both (both f a b) back was ≡ f
undone f a b was back l m e g h k =
    let h' : lied f a.at (reads_of was.reads) ≡ f = ap (λ n. lied f n (reads_of was.reads)) (sym e) ∙ h in
    let k' : lied f b.at (reads_of back.reads) ≡ f = ap (λ n. lied f n (reads_of back.reads)) (sym g) ∙ k in
    let x = undone_at f a.at b.at (reads_of a.reads) (reads_of b.reads) (reads_of back.reads) (reads_of was.reads) l m k' h' in
    ap (λ n. lied (lied (both f a b) n (reads_of back.reads)) was.at (reads_of was.reads)) g ∙ (ap (λ n. lied (lied (both f a b) b.at (reads_of back.reads)) n (reads_of was.reads)) e ∙ x)

-- other sectors read as before
pub reads_lied : (f : Face) (i k : ℕ) (r : Option (List ℕ)) → k ≢ i → reads (lied f i r) k ≡ reads f k
reads_lied f i k r d = ap (λ (c : Cell). c.reads) (cell_lied f i k r d)

pub reads_both : (f : Face) (a b : Lie) (k : ℕ) → k ≢ a.at → k ≢ b.at → reads (both f a b) k ≡ reads f k
reads_both f a b k d e = reads_lied (shown f a) b.at k (reads_of b.reads) e ∙ reads_lied f a.at k (reads_of a.reads) d

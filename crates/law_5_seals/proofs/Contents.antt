-- What holds of the bytes of each sector stays so: after calls that write such bytes, in each cut of them, and by each fault.
use Rattle.std.proofs.Common.{ℕ, zero, suc, ◌/◌, ◌%◌, ◌<◌, ◌≡◌, arith, ◌∙◌, eqb, List, [], ◌∷◌, ◌++◌, length, get_or, set, length-set, Option, Some, None, subst}
use Rattle.std.specs.List.{All, AllByRecursion}
use Rattle.std.proofs.lemmas.Bool.{cond_both}
use Rattle.std.proofs.lemmas.List.Elements.{All-set, All-push, recursion_from_All}
use Rattle.vr_disk.specs.DiskState.{Call, Write, Sync, Face, Cell, Waiting, blank, after, after_all, begun, cell, cut, damaged, settle, settled, settled_cell, waits, written}
use Rattle.vr_disk.specs.Regions.{sectors}
use Rattle.vr_mem.specs.Lies.{lied}
use Rattle.vr_lie.specs.declared.fault.Fault.{Fault}
use Rattle.vr_lie.specs.declared.fault.Fault.TheVariants.{Damage, Stale, Unread, Misdirect}
use Rattle.vr_lie.specs.Faults.{IsFault, faulted}
use Rattle.law_5_seals.specs.Seals.{HasCell, HasSectors, HasWaiting, Puts}

module _ (P : List ℕ → Type 0) where
  some_has : (a b : List ℕ) → P a → Some a ≡ Some b → P b
  some_has a b h e = let same : a ≡ b = cc in subst P same h

  pub has_at : (f : Face) (i : ℕ) → HasSectors P f → i < sectors → HasCell P (cell f i)
  has_at f i h l = let n = h.count in h.cells i blank (omega arith)

  -- ---- calls

  has_after : (f : Face) (c : Call) → HasSectors P f → Puts P c → HasSectors P (after f c)
  has_after f (Write i bytes) h k =
      let was = has_at f i h k.0 in
      record {
        count = length-set f.cells i (written (cell f i) bytes) ∙ h.count;
        cells = All-set (HasCell P) f.cells i (written (cell f i) bytes) (record { truth = k.1; reads = λ b e. some_has bytes b k.1 e; before = was.truth }) h.cells;
        waiting = cond_both (waits i f.waiting) f.waiting (f.waiting ++ record { index = i; was = cell f i } ∷ []) (All (HasWaiting P)) (λ _. h.waiting)
            (λ _. All-push (HasWaiting P) f.waiting (record { index = i; was = cell f i }) h.waiting (record { index = k.0; was = was }));
      }
  has_after f Sync h k = record { count = h.count; cells = h.cells; waiting = λ n d l. absurd (omega arith) }

  pub has_after_all : (cs : List Call) (f : Face) → HasSectors P f → AllByRecursion (Puts P) cs → HasSectors P (after_all f cs)
  has_after_all [] f h k = h
  has_after_all (c ∷ cs) f h k = has_after_all cs (after f c) (has_after f c h k.0) k.1

  -- ---- cuts, where turned bytes have it too

  module _ (turns : (b : List ℕ) → P b → P (damaged b)) where
    has_settled_cell : (digit : ℕ) (was now : Cell) → HasCell P was → HasCell P now → HasCell P (settled_cell digit was now)
    has_settled_cell digit was now a b =
        cond_both (eqb digit 0) was _ (HasCell P) (λ _. a) (λ _.
        cond_both (eqb digit 1) _ _ (HasCell P) (λ _. record { truth = b.truth; reads = λ c e. some_has now.truth c b.truth e; before = b.before })
        (λ _. let l = turns now.truth b.truth in record { truth = l; reads = λ c e. some_has (damaged now.truth) c l e; before = b.before }))

    has_settled : (code : ℕ) (ws : List Waiting) (cells : List Cell) → AllByRecursion (HasWaiting P) ws → length cells ≡ sectors → All (HasCell P) cells
        → (length (settled code ws cells) ≡ sectors) × All (HasCell P) (settled code ws cells)
    has_settled code [] cells w n h = (n, h)
    has_settled code (x ∷ ws) cells w n h =
        let now = get_or cells x.index blank in
        let i = w.0.index in
        let c = settled_cell (code % 3) x.was now in
        has_settled (code / 3) ws (set cells x.index c) w.1 (length-set cells x.index c ∙ n)
        (All-set (HasCell P) cells x.index c (has_settled_cell (code % 3) x.was now w.0.was (h x.index blank (omega arith))) h)

    has_settle : (code : ℕ) (f : Face) → HasSectors P f → HasSectors P (settle code f)
    has_settle code f h =
        let p = has_settled code f.waiting f.cells (recursion_from_All (HasWaiting P) f.waiting h.waiting) h.count h.cells in
        record { count = p.0; cells = p.1; waiting = λ n d l. absurd (omega arith) }

    has_begun : (f : Face) (c : Call) → HasSectors P f → Puts P c → HasSectors P (begun f c)
    has_begun f (Write i bytes) h k = has_after f (Write i bytes) h k
    has_begun f Sync h k = h

    pub has_cut : (cs : List Call) (f : Face) (j code : ℕ) → HasSectors P f → AllByRecursion (Puts P) cs → HasSectors P (cut j code f cs)
    unfolding cut
    has_cut [] f j code h k = h
    has_cut (c ∷ cs) f zero code h k = has_settle code (begun f c) (has_begun f c h k.0)
    has_cut (c ∷ cs) f (suc j) code h k = has_cut cs (after f c) j code (has_after f c h k.0) k.1

    -- ---- faults

    has_lied : (f : Face) (i : ℕ) (o : Option (List ℕ)) → HasSectors P f → i < sectors → ((b : List ℕ) → o ≡ Some b → P b) → HasSectors P (lied f i o)
    unfolding lied
    has_lied f i o h l r =
        let c : Cell = record (cell f i) { reads = o } in
        let was = has_at f i h l in
        record { count = length-set f.cells i c ∙ h.count; cells = All-set (HasCell P) f.cells i c (record { truth = was.truth; reads = r; before = was.before }) h.cells; waiting = h.waiting }

    none_has : (b : List ℕ) → None ≡ Some b → P b
    none_has b e = absurd cc

    pub has_fault : (f : Face) (x : Fault) → IsFault x → HasSectors P f → HasSectors P (faulted f x)
    has_fault f (Damage i) l h = has_lied f i (Some (damaged (cell f i).truth)) h l (λ b e. some_has (damaged (cell f i).truth) b (turns (cell f i).truth (has_at f i h l).truth) e)
    has_fault f (Stale i) l h = has_lied f i (Some (cell f i).before) h l (λ b e. some_has (cell f i).before b (has_at f i h l).before e)
    has_fault f (Unread i) l h = has_lied f i None h l none_has
    has_fault f (Misdirect i k) l h =
        has_lied (lied f i (Some (cell f i).before)) k (Some (cell f i).truth) (has_lied f i (Some (cell f i).before) h l.0 (λ b e. some_has (cell f i).before b (has_at f i h l.0).before e)) l.1
        (λ b e. some_has (cell f i).truth b (has_at f i h l.0).truth e)

-- what follows from it holds of each sector too
pub has_weaker : (P Q : List ℕ → Type 0) (f : Face) → ((b : List ℕ) → P b → Q b) → HasSectors P f → HasSectors Q f
has_weaker P Q f w h =
    let cell : (c : Cell) → HasCell P c → HasCell Q c = λ c x. record { truth = w c.truth x.truth; reads = λ b e. w b (x.reads b e); before = w c.before x.before } in
    record { count = h.count; cells = λ k d l. cell (get_or f.cells k d) (h.cells k d l); waiting = λ k d l. (let x = h.waiting k d l in record { index = x.index; was = cell (get_or f.waiting k d).was x.was }) }

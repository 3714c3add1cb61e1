-- An honest disk stays honest under its calls.
use Rattle.std.proofs.Common.{ℕ, ◌/◌, ◌%◌, ◌<◌, ◌≡◌, refl, sym, ◌∙◌, arith, eqb, Bool, true, false, List, [], ◌∷◌, ◌++◌, length, get_or, set, Some, subst, cond}
use Rattle.std.specs.List.{All, AllByRecursion}
use Rattle.std.proofs.lemmas.Bool.{cond_both}
use Rattle.std.proofs.lemmas.List.Elements.{All-set, All-push, recursion_from_All, All-replicate}
use Rattle.vr_disk.specs.DiskState.{Beside, Call, Write, Sync, Cell, Disk, Face, Fate, CallVerdict, Goes, Fails, Cuts, Waiting, Runs, Attaches, after, attach_fails, attached, attached_as, begun, blank, cell, judged, ran, ran_as, runs, settle, settled, settled_cell, waits, written}
use Rattle.vr_disk.specs.Regions.{sectors}
use Rattle.vr_mem.specs.Honesty.{IsHonest}
use Rattle.vr_mem.specs.Seen.{copies, zero_cell}

abbrev HonestCell : Cell → Type 0
HonestCell c = c.reads ≡ Some c.truth

abbrev HonestWas : Waiting → Type 0
HonestWas w = w.was.reads ≡ Some w.was.truth

none_waits : All HonestWas []
none_waits = λ k d l. absurd (omega arith)

abbrev Within : Face → Call → Type 0
Within f (Write i bytes) = i < length f.cells
Within f Sync = Unit {0}

honest_after : (f : Face) (c : Call) → Within f c → IsHonest f → IsHonest (after f c)
honest_after f (Write i bytes) l h = record {
  cells = All-set HonestCell f.cells i (written (cell f i) bytes) refl h.cells;
  waiting = cond_both (waits i f.waiting) f.waiting (f.waiting ++ record { index = i; was = cell f i } ∷ []) (All HonestWas) (λ _. h.waiting)
      (λ _. All-push HonestWas f.waiting (record { index = i; was = cell f i }) h.waiting (h.cells i blank l));
}
honest_after f Sync l h = record { cells = h.cells; waiting = none_waits }

settled_honest : (digit : ℕ) (was now : Cell) → HonestCell was → HonestCell (settled_cell digit was now)
settled_honest digit was now h = cond_both (eqb digit 0) was _ HonestCell (λ _. h) (λ _. cond_both (eqb digit 1) _ _ HonestCell (λ _. refl) (λ _. refl))

cells_honest : (code : ℕ) (ws : List Waiting) (cells : List Cell) → AllByRecursion HonestWas ws → All HonestCell cells → All HonestCell (settled code ws cells)
cells_honest code [] cells w h = h
cells_honest code (x ∷ ws) cells w h =
    let c = settled_cell (code % 3) x.was (get_or cells x.index blank) in
    cells_honest (code / 3) ws (set cells x.index c) w.1 (All-set HonestCell cells x.index c (settled_honest (code % 3) x.was (get_or cells x.index blank) w.0) h)

settle_honest : (code : ℕ) (f : Face) → IsHonest f → IsHonest (settle code f)
settle_honest code f h = record { cells = cells_honest code f.waiting f.cells (recursion_from_All HonestWas f.waiting h.waiting) h.cells; waiting = none_waits }

begun_honest : (f : Face) (c : Call) → Within f c → IsHonest f → IsHonest (begun f c)
begun_honest f (Write i bytes) l h = honest_after f (Write i bytes) l h
begun_honest f Sync l h = h

ran_as_honest : (f : Face) (t : Fate) (b : Beside) (c : Call) (v : CallVerdict) → Within f c → IsHonest f → IsHonest (ran_as f t b c v).disk.face
ran_as_honest f t b c Goes l h = honest_after f c l h
ran_as_honest f t b c Fails l h = h
ran_as_honest f t b c (Cuts code) l h = settle_honest code (begun f c) (begun_honest f c l h)

ran_honest : (d : Disk) (c : Call) → Within d.face c → IsHonest d.face → IsHonest (ran d c).disk.face
unfolding ran
ran_honest d c l h = ran_as_honest d.face (judged d.fate).next d.beside c (judged d.fate).verdict l h

runs_one : (d : Disk) (c : Call) → (runs (c ∷ []) d).disk ≡ (ran d c).disk
runs_one d c = elim (ran d c).ok as (λ b. (cond b (record { disk = (ran d c).disk; ok = true }) (ran d c)).disk ≡ (ran d c).disk) [ true ↦ refl | false ↦ refl ]

pub one_honest : (d e : Disk) (c : Call) (ok : Bool) → Within d.face c → IsHonest d.face → Runs (c ∷ []) (Some d) (Some e) ok → IsHonest e.face
one_honest d e c ok l h r =
    let same : e ≡ (ran d c).disk = (let x : e ≡ (runs (c ∷ []) d).disk = cc in x) ∙ runs_one d c in
    subst (λ (x : Disk). IsHonest x.face) (sym same) (ran_honest d c l h)

attached_as_honest : (name : List ℕ) (d : Disk) (fails : Bool) → IsHonest d.face → IsHonest (attached_as name d fails).disk.face
attached_as_honest name d true h = h
attached_as_honest name d false h = record { cells = h.cells; waiting = none_waits }

pub attach_honest : (name : List ℕ) (d e : Disk) (ok : Bool) → IsHonest d.face → Attaches name (Some d) (Some e) ok → IsHonest e.face
unfolding attached
attach_honest name d e ok h r =
    let same : e ≡ (attached_as name d (attach_fails name d)).disk = let x = r.0 in cc in
    subst (λ (x : Disk). IsHonest x.face) (sym same) (attached_as_honest name d (attach_fails name d) h)

zeros_honest : (n : ℕ) → All HonestCell (copies n zero_cell)
unfolding copies zero_cell
zeros_honest n = All-replicate HonestCell n _ refl

pub made_honest : (f : Face) → f ≡ record { cells = copies sectors zero_cell; waiting = [] } → IsHonest f
made_honest f e = let g : Face = record { cells = copies sectors zero_cell; waiting = [] } in let h : IsHonest g = record { cells = zeros_honest sectors; waiting = none_waits } in subst IsHonest (sym e) h

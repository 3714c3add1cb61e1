-- Sectors that calls don't write.
use Rattle.std.proofs.Common.{ℕ, zero, suc, ◌/◌, ◌%◌, ◌<◌, ◌≡◌, ◌≢◌, refl, sym, ap, ◌∙◌, false, eqb, List, [], ◌∷◌, ◌++◌, length, get_or, set, Some, get_or-set_other, get_or-set_same}
use Rattle.std.specs.List.{AllByRecursion}
use Rattle.std.proofs.lemmas.Bool.{cond_both, or_parts, eqb-false, ne_eqb}
use Rattle.std.proofs.lemmas.List.Folds.{list_any-append}
use Rattle.vr_disk.specs.DiskState.{Call, Write, Sync, Face, Cell, Waiting, blank, after, after_all, cell, cut, cut_at, noted, reads, settled, settled_cell, waits, written}
use Rattle.vr_disk.specs.Stops.{Spares, SparedStays}

other_waits : (i : ℕ) (ws : List Waiting) (k : ℕ) (was : Cell) → k ≢ i → waits i ws ≡ false → waits i (noted ws k was) ≡ false
other_waits i ws k was d n =
    cond_both (waits k ws) ws (ws ++ record { index = k; was = was } ∷ []) (λ ws. waits i ws ≡ false) (λ _. n) (λ _. rw (list_any-append, n, ne_eqb k i d) refl)

pub waits_after : (f : Face) (c : Call) (i : ℕ) → Spares i c → waits i f.waiting ≡ false → waits i (after f c).waiting ≡ false
waits_after f (Write k bytes) i s n = other_waits i f.waiting k (cell f k) s n
waits_after f Sync i s n = refl

pub frame_after : (f : Face) (c : Call) (i : ℕ) → Spares i c → cell (after f c) i ≡ cell f i
frame_after f (Write k bytes) i s = let d : i ≢ k = λ e. s (sym e) in rw get_or-set_other refl
frame_after f Sync i s = refl

pub frame_settled : (code : ℕ) (ws : List Waiting) (cells : List Cell) (i : ℕ) → waits i ws ≡ false → get_or (settled code ws cells) i blank ≡ get_or cells i blank
frame_settled code [] cells i n = refl
frame_settled code (w ∷ ws) cells i n =
    let p = or_parts (eqb w.index i) (waits i ws) n in
    let d : i ≢ w.index = λ e. eqb-false w.index i p.0 (sym e) in
    frame_settled (code / 3) ws (set cells w.index (settled_cell (code % 3) w.was (get_or cells w.index blank))) i p.1 ∙ (rw get_or-set_other refl)

frame_cut_at : (code : ℕ) (f : Face) (c : Call) (i : ℕ) → Spares i c → waits i f.waiting ≡ false → cell (cut_at code f c) i ≡ cell f i
frame_cut_at code f (Write k bytes) i s n =
    let g = after f (Write k bytes) in
    frame_settled code g.waiting g.cells i (waits_after f (Write k bytes) i s n) ∙ frame_after f (Write k bytes) i s
frame_cut_at code f Sync i s n = frame_settled code f.waiting f.cells i n

pub frame_all : (cs : List Call) (f : Face) (i : ℕ) → AllByRecursion (Spares i) cs → cell (after_all f cs) i ≡ cell f i
frame_all [] f i s = refl
frame_all (c ∷ cs) f i s = frame_all cs (after f c) i s.1 ∙ frame_after f c i s.0

pub frame_cut : (cs : List Call) (f : Face) (i j code : ℕ) → AllByRecursion (Spares i) cs → waits i f.waiting ≡ false → cell (cut j code f cs) i ≡ cell f i
unfolding cut
frame_cut [] f i j code s n = refl
frame_cut (c ∷ cs) f i zero code s n = frame_cut_at code f c i s.0 n
frame_cut (c ∷ cs) f i (suc j) code s n = frame_cut cs (after f c) i j code s.1 (waits_after f c i s.0 n) ∙ frame_after f c i s.0

pub spared : SparedStays
spared cs f i s n = (frame_all cs f i s, λ j code. frame_cut cs f i j code s n)

-- a sector that was written reads back
pub reads_other : (f : Face) (k i : ℕ) (bytes : List ℕ) → i ≢ k → reads (after f (Write k bytes)) i ≡ reads f i
reads_other f k i bytes d = ap (λ (c : Cell). c.reads) (get_or-set_other f.cells k i (written (cell f k) bytes) blank d)

pub reads_back : (f : Face) (i : ℕ) (bytes : List ℕ) → i < length f.cells → reads (after f (Write i bytes)) i ≡ Some bytes
reads_back f i bytes l = ap (λ (c : Cell). c.reads) (get_or-set_same f.cells i (written (cell f i) bytes) blank l)

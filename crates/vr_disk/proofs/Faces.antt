-- Sectors stay sectors.
use Rattle.std.proofs.Common.{ℕ, zero, suc, ◌/◌, ◌%◌, ◌<◌, ◌≡◌, arith, ◌∙◌, eqb, List, [], ◌∷◌, ◌++◌, length, get_or, set, length-set, Some, subst, inl, inr}
use Rattle.std.specs.Prelude.{bit_xor}
use Rattle.std.specs.List.{All, AllByRecursion}
use Rattle.std.proofs.lemmas.Bool.{cases_lt, cond_both}
use Rattle.std.proofs.lemmas.List.{get_or-map, get_or_past, length-map}
use Rattle.std.proofs.lemmas.Nat.{xor_of_8}
use Rattle.vr_base.specs.Bytes.{IsBytes}
use Rattle.std.proofs.lemmas.List.Elements.{All-set, All-push, recursion_from_All}
use Rattle.vr_disk.specs.Regions.{sectors}
use Rattle.vr_disk.specs.DiskState.{Call, Write, Sync, Face, Cell, Waiting, IsCell, IsContent, IsFace, IsWaiting, blank, after, after_all, begun, cell, cut, damaged, settle, settled, settled_cell, waits, written}
use Rattle.vr_disk.specs.Stops.{IsCall, FacesStay}

sized : (a b : List ℕ) → IsContent a → Some a ≡ Some b → IsContent b
sized a b h e = let same : a ≡ b = cc in subst IsContent same h

damaged_byte : (bytes : List ℕ) (i : ℕ) → IsBytes bytes → get_or (damaged bytes) i 0 < 256
damaged_byte bytes i h =
    elim (cases_lt i (length bytes)) [
      | inl l ↦ rw (get_or-map (λ b. bit_xor b 255) bytes i 0 0 l) (xor_of_8 (get_or bytes i 0) 255 (h i) (omega arith))
      | inr g ↦ rw (get_or_past (damaged bytes) i 0 (let n = length-map bytes (λ b. bit_xor b 255) in omega arith)) (omega arith)
    ]

pub damaged_content : (bytes : List ℕ) → IsContent bytes → IsContent (damaged bytes)
damaged_content bytes h = record { size = length-map bytes (λ b. bit_xor b 255) ∙ h.size; each = λ i. damaged_byte bytes i h.each }

pub there : (f : Face) (i : ℕ) → IsFace f → i < sectors → IsCell (cell f i)
there f i h l = let n = h.count in h.cells i blank (omega arith)

pub face_after : (f : Face) (c : Call) → IsFace f → IsCall c → IsFace (after f c)
face_after f (Write i bytes) h k =
    let was = there f i h k.0 in
    record {
      count = length-set f.cells i (written (cell f i) bytes) ∙ h.count;
      cells = All-set IsCell f.cells i (written (cell f i) bytes) (record { truth = k.1; reads = λ b e. sized bytes b k.1 e; before = was.truth }) h.cells;
      waiting = cond_both (waits i f.waiting) f.waiting (f.waiting ++ record { index = i; was = cell f i } ∷ []) (All IsWaiting) (λ _. h.waiting)
          (λ _. All-push IsWaiting f.waiting (record { index = i; was = cell f i }) h.waiting (record { index = k.0; was = was }));
    }
face_after f Sync h k = record { count = h.count; cells = h.cells; waiting = λ n d l. absurd (omega arith) }

settled_stays : (digit : ℕ) (was now : Cell) → IsCell was → IsCell now → IsCell (settled_cell digit was now)
settled_stays digit was now a b =
    cond_both (eqb digit 0) was _ IsCell (λ _. a) (λ _.
    cond_both (eqb digit 1) _ _ IsCell (λ _. record { truth = b.truth; reads = λ c e. sized now.truth c b.truth e; before = b.before })
    (λ _. let l = damaged_content now.truth b.truth in record { truth = l; reads = λ c e. sized (damaged now.truth) c l e; before = b.before }))

cells_settled : (code : ℕ) (ws : List Waiting) (cells : List Cell) → AllByRecursion IsWaiting ws → length cells ≡ sectors → All IsCell cells
    → (length (settled code ws cells) ≡ sectors) × All IsCell (settled code ws cells)
cells_settled code [] cells w n h = (n, h)
cells_settled code (x ∷ ws) cells w n h =
    let now = get_or cells x.index blank in
    let i = w.0.index in
    let c = settled_cell (code % 3) x.was now in
    cells_settled (code / 3) ws (set cells x.index c) w.1 (length-set cells x.index c ∙ n)
    (All-set IsCell cells x.index c (settled_stays (code % 3) x.was now w.0.was (h x.index blank (omega arith))) h)

pub face_settled : (code : ℕ) (f : Face) → IsFace f → IsFace (settle code f)
face_settled code f h =
    let p = cells_settled code f.waiting f.cells (recursion_from_All IsWaiting f.waiting h.waiting) h.count h.cells in
    record { count = p.0; cells = p.1; waiting = λ n d l. absurd (omega arith) }

face_begun : (f : Face) (c : Call) → IsFace f → IsCall c → IsFace (begun f c)
face_begun f (Write i bytes) h k = face_after f (Write i bytes) h k
face_begun f Sync h k = h

pub face_after_all : (cs : List Call) (f : Face) → IsFace f → AllByRecursion IsCall cs → IsFace (after_all f cs)
face_after_all [] f h k = h
face_after_all (c ∷ cs) f h k = face_after_all cs (after f c) (face_after f c h k.0) k.1

pub face_cut : (cs : List Call) (f : Face) (j code : ℕ) → IsFace f → AllByRecursion IsCall cs → IsFace (cut j code f cs)
unfolding cut
face_cut [] f j code h k = h
face_cut (c ∷ cs) f zero code h k = face_settled code (begun f c) (face_begun f c h k.0)
face_cut (c ∷ cs) f (suc j) code h k = face_cut cs (after f c) j code (face_after f c h k.0) k.1

pub stay_faces : FacesStay
stay_faces cs f h k = (face_after_all cs f h k, λ j code. face_cut cs f j code h k)

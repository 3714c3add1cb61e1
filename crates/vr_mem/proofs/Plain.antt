-- Sectors of which no content stands for a text, and what is told of all sectors.
use Rattle.std.proofs.Common.{ℕ, zero, suc, ◌/◌, ◌%◌, ◌<◌, ◌≤◌, ◌≡◌, refl, sym, ap, ◌∙◌, arith, eqb, ltb, false, List, [], ◌∷◌, ◌++◌, length, get_or, set, length-set, take, Option, None, Some, subst, inl, inr}
use Rattle.std.specs.List.{All, AllByRecursion}
use Rattle.std.specs.Option.{option_map}
use Rattle.std.proofs.lemmas.Bool.{and_left, cases_eq, cases_lt, cond_both, le-ltb}
use Rattle.std.proofs.lemmas.List.{get_or-set_same, get_or-set_other, get_or_past, length-append, length-take}
use Rattle.std.proofs.lemmas.List.Elements.{All-push, recursion_from_All}
use Rattle.vr_base.specs.Bytes.{IsBytes, name_of}
use Rattle.vr_base.proofs.AreBytes.{IsBytes-append, IsBytes-name_of, IsBytes-take}
use Rattle.vr_base.proofs.FieldLaws.{length-name_of}
use Rattle.vr_disk.specs.DiskState.{Beside, Cell, Disk, Face, Fate, IsContent, Waiting, Write, Sync, after, blank, cell, damaged, reads, settle, settled, settled_cell, waits, written}
use Rattle.vr_disk.specs.Fronts.{front}
use Rattle.vr_disk.specs.Regions.{sectors}
use Rattle.vr_disk.proofs.Faces.{face_after, face_settled}
use Rattle.vr_mem.specs.Lies.{lied}
use Rattle.vr_mem.specs.declared.face.MemFace.{MemFace}
use Rattle.vr_mem.specs.declared.bytes.Mark.{Mark}
use Rattle.vr_mem.specs.declared.texts.TextNumber.{TextNumber}
use Rattle.vr_mem.specs.declared.texts.Texts.{Texts}
use Rattle.vr_mem.specs.Owed.{AreFree, ArePlain, AreSectors, IsPlainCell, KeepsOthers, first_item, begins_copy, meant, meant_face}
use Rattle.vr_mem.specs.Seen.{IsMemFace, copies, face_of, marked, zero_cell}
use Rattle.vr_mem.proofs.Faces.{face_lied, face_zeros}
use Rattle.vr_mem.proofs.Meant.{damaged_high, kept_face, meant_cell_at, meant_lied, meant_plain, meant_settle, meant_sync, meant_write, meant_zeros, plain_mark}

-- ---- what stays plain

abbrev PlainAt : List Cell → Type 0
PlainAt cells = (i : ℕ) → begins_copy i ≡ false → IsPlainCell (get_or cells i blank)

abbrev PlainWas : Waiting → Type 0
PlainWas w = begins_copy w.index ≡ false → IsPlainCell w.was

blank_plain : IsPlainCell blank
blank_plain = record { truth = omega arith; reads = λ x e. absurd cc; before = omega arith }

plain_same : (a b : List ℕ) → first_item a < 256 → Some a ≡ Some b → first_item b < 256
plain_same a b l e = let same : a ≡ b = cc in subst (λ (x : List ℕ). first_item x < 256) same l

set_past : (cells : List Cell) (i : ℕ) (c : Cell) → length cells ≤ i → get_or (set cells i c) i blank ≡ blank
set_past cells i c g = get_or_past (set cells i c) i blank (let n = length-set cells i c in omega arith)

plain_set : (cells : List Cell) (j : ℕ) (c : Cell) → PlainAt cells → (begins_copy j ≡ false → IsPlainCell c) → PlainAt (set cells j c)
plain_set cells j c h p i f =
    elim (cases_eq i j) [
      | inl e ↦
          elim (cases_lt j (length cells)) [
            | inl l ↦ rw (e, get_or-set_same cells j c blank l) (p (rw (sym e) f))
            | inr g ↦ rw (e, set_past cells j c g) blank_plain
          ]
      | inr d ↦ rw (get_or-set_other cells j i c blank d) (h i f)
    ]

none_plain : All PlainWas []
none_plain = λ k d l. absurd (omega arith)

pub plain_write : (f g : Face) (i : ℕ) (b : List ℕ) → g ≡ after f (Write i b) → (begins_copy i ≡ false → first_item b < 256) → ArePlain f → ArePlain g
plain_write f g i b e l h =
    rw e
    record {
      cells = plain_set f.cells i (written (cell f i) b) h.cells (λ n. record { truth = l n; reads = λ x s. plain_same b x (l n) s; before = (h.cells i n).truth });
      waiting = cond_both (waits i f.waiting) f.waiting (f.waiting ++ record { index = i; was = cell f i } ∷ []) (All PlainWas) (λ _. h.waiting)
          (λ _. All-push PlainWas f.waiting (record { index = i; was = cell f i }) h.waiting (h.cells i));
    }

pub plain_sync : (f g : Face) → g ≡ after f Sync → ArePlain f → ArePlain g
plain_sync f g e h = rw e record { cells = h.cells; waiting = none_plain }

settled_plain : (digit : ℕ) (was now : Cell) → IsPlainCell was → IsPlainCell now → IsPlainCell (settled_cell digit was now)
settled_plain digit was now a b =
    cond_both (eqb digit 0) was _ IsPlainCell (λ _. a) (λ _.
    cond_both (eqb digit 1) _ _ IsPlainCell (λ _. record { truth = b.truth; reads = λ x e. plain_same now.truth x b.truth e; before = b.before })
    (λ _. let l = damaged_high now.truth b.truth in record { truth = l; reads = λ x e. plain_same (damaged now.truth) x l e; before = b.before }))

cells_plain : (code : ℕ) (ws : List Waiting) (cells : List Cell) → AllByRecursion PlainWas ws → PlainAt cells → PlainAt (settled code ws cells)
cells_plain code [] cells w h = h
cells_plain code (x ∷ ws) cells w h =
    let now = get_or cells x.index blank in
    let c = settled_cell (code % 3) x.was now in
    cells_plain (code / 3) ws (set cells x.index c) w.1 (plain_set cells x.index c h (λ n. settled_plain (code % 3) x.was now (w.0 n) (h x.index n)))

pub plain_settle : (f g : Face) (code : ℕ) → g ≡ settle code f → ArePlain f → ArePlain g
plain_settle f g code e h = rw e record { cells = cells_plain code f.waiting f.cells (recursion_from_All PlainWas f.waiting h.waiting) h.cells; waiting = none_plain }

pub plain_lied : (f g : Face) (i : ℕ) (r : Option (List ℕ)) → g ≡ lied f i r → ((x : List ℕ) → r ≡ Some x → first_item x < 256) → ArePlain f → ArePlain g
unfolding lied
plain_lied f g i r e l h =
    rw e
    record {
      cells = plain_set f.cells i (record (cell f i) { reads = r }) h.cells (λ n. let c = h.cells i n in record { truth = c.truth; reads = l; before = c.before });
      waiting = h.waiting;
    }

zeros_high : (n : ℕ) → first_item (copies n 0) < 256
unfolding copies
zeros_high zero = omega arith
zeros_high (suc n) = omega arith

zero_plain : IsPlainCell zero_cell
unfolding zero_cell
zero_plain = let l = zeros_high 512 in record { truth = l; reads = λ x e. plain_same (copies 512 0) x l e; before = l }

zeros_at : (n i : ℕ) → IsPlainCell (get_or (copies n zero_cell) i blank)
unfolding copies
zeros_at zero i = blank_plain
zeros_at (suc n) zero = zero_plain
zeros_at (suc n) (suc i) = zeros_at n i

zeros_plain : (n : ℕ) → PlainAt (copies n zero_cell)
zeros_plain n i f = zeros_at n i

-- ---- what is told

pub front_content : (text : List ℕ) → IsBytes text → 496 ≤ length text → IsContent (front text)
unfolding front
front_content text h l =
    record {
      size = let a = length-append (name_of text) (take 496 text) in let b = length-name_of text in let c = length-take 496 text in omega arith;
      each = IsBytes-append (name_of text) (take 496 text) (IsBytes-name_of text) (IsBytes-take 496 text h);
    }

pub sectors_write : (o : Texts) (f g : MemFace) (i : ℕ) (b x : List ℕ) → AreSectors o f → i < sectors → IsMemFace g → face_of g ≡ after (face_of f) (Write i b) → meant o b ≡ x → IsContent x → (begins_copy i ≡ false → first_item b < 256)
    → AreSectors o g
sectors_write o f g i b x h l m e n k p = record {
  mem = m;
  whole = rw (meant_write o (face_of f) (face_of g) i b x n e) (face_after (meant_face o (face_of f)) (Write i x) h.whole (l, k));
  plain = plain_write (face_of f) (face_of g) i b e p h.plain;
}

pub sectors_sync : (o : Texts) (f g : MemFace) → AreSectors o f → IsMemFace g → face_of g ≡ after (face_of f) Sync → AreSectors o g
sectors_sync o f g h m e = record {
  mem = m;
  whole = rw (meant_sync o (face_of f) (face_of g) e) (face_after (meant_face o (face_of f)) Sync h.whole tt);
  plain = plain_sync (face_of f) (face_of g) e h.plain;
}

pub sectors_settle : (o : Texts) (f g : MemFace) (code : ℕ) → AreSectors o f → IsMemFace g → face_of g ≡ settle code (face_of f) → AreSectors o g
sectors_settle o f g code h m e = record {
  mem = m;
  whole = rw (meant_settle o (face_of f) (face_of g) code e) (face_settled code (meant_face o (face_of f)) h.whole);
  plain = plain_settle (face_of f) (face_of g) code e h.plain;
}

pub content_high : (r : Option (List ℕ)) → ((x : List ℕ) → r ≡ Some x → IsContent x) → (x : List ℕ) → r ≡ Some x → first_item x < 256
content_high r n x e = (n x e).each 0

pub sectors_lied : (o : Texts) (f g : MemFace) (i : ℕ) (r : Option (List ℕ)) → AreSectors o f → i < sectors → IsMemFace g → face_of g ≡ lied (face_of f) i r → ((x : List ℕ) → r ≡ Some x → IsContent x) → AreSectors o g
sectors_lied o f g i r h l m e n = record {
  mem = m;
  whole = rw (meant_lied o (face_of f) (face_of g) i r (content_high r n) e) (face_lied (meant_face o (face_of f)) i r h.whole l n);
  plain = plain_lied (face_of f) (face_of g) i r e (content_high r n) h.plain;
}

pub some_content : (b : List ℕ) → IsContent b → (x : List ℕ) → Some b ≡ Some x → IsContent x
some_content b h x e = let same : b ≡ x = cc in subst IsContent same h

pub none_content : (x : List ℕ) → None ≡ Some x → IsContent x
none_content x e = absurd cc

-- ---- what a disk tells

pub same_told : (f g : Face) (t : Fate) (b : Beside) → f ≡ g → (let d : Disk = record { face = f; fate = t; beside = b } in d) ≡ record { face = g; fate = t; beside = b }
same_told f g t b e = rw e refl

-- what is told of a sector, by what is kept of it
pub told_some : (o : Texts) (f : Face) (i : ℕ) (m n : Mark) (x : List ℕ) → m ≡ n → Some (marked n x) ≡ reads f i → Some (meant o (marked m x)) ≡ reads (meant_face o f) i
told_some o f i m n x e r = ap (λ k. Some (meant o (marked k x))) e ∙ (ap (option_map (meant o)) r ∙ sym (ap (λ (c : Cell). c.reads) (meant_cell_at o f i)))

pub told_none : (o : Texts) (f : Face) (i : ℕ) → None ≡ reads f i → None ≡ reads (meant_face o f) i
told_none o f i r = ap (option_map (meant o)) r ∙ sym (ap (λ (c : Cell). c.reads) (meant_cell_at o f i))

pub told_truth : (o : Texts) (f : Face) (i : ℕ) (x y : List ℕ) → x ≡ meant o y → y ≡ (cell f i).truth → x ≡ (cell (meant_face o f) i).truth
told_truth o f i x y e t = e ∙ (ap (meant o) t ∙ sym (ap (λ (c : Cell). c.truth) (meant_cell_at o f i)))

pub told_before : (o : Texts) (f : Face) (i : ℕ) (x y : List ℕ) → x ≡ meant o y → y ≡ (cell f i).before → x ≡ (cell (meant_face o f) i).before
told_before o f i x y e t = e ∙ (ap (meant o) t ∙ sym (ap (λ (c : Cell). c.before) (meant_cell_at o f i)))

same_reads : (o : Texts) (r : Option (List ℕ)) → ((b : List ℕ) → r ≡ Some b → first_item b < 256) → r ≡ option_map (meant o) r
same_reads o None l = refl
same_reads o (Some x) l = ap Some (sym (meant_plain o x (l x refl)))

-- a sector that begins no copy of the superblock reads as it stands
pub told_plain : (o : Texts) (f : Face) (i : ℕ) → ArePlain f → begins_copy i ≡ false → reads f i ≡ reads (meant_face o f) i
told_plain o f i h n = same_reads o (reads f i) (h.cells i n).reads ∙ sym (ap (λ (c : Cell). c.reads) (meant_cell_at o f i))

same_bytes : {X : Type 0} (m : Mark) (g : X → List ℕ) (r : Option X) → ((b : List ℕ) → option_map (λ x. marked m (g x)) r ≡ Some b → first_item b < 256) → option_map g r ≡ option_map (λ x. marked m (g x)) r
same_bytes m g None l = refl
same_bytes m g (Some x) l = ap Some (sym (plain_mark m (g x) (l (marked m (g x)) refl)))

after_fronts : (i : ℕ) → 80 ≤ i → begins_copy i ≡ false
after_fronts i l = and_left (ltb i 80) (eqb (i % 20) 0) (le-ltb i 80 l)

pub plain_reading : {X : Type 0} (o : Texts) (f : Face) (i : ℕ) (m : Mark) (g : X → List ℕ) (r : Option X) → option_map (λ x. marked m (g x)) r ≡ reads f i → ArePlain f → 80 ≤ i → option_map g r ≡ reads (meant_face o f) i
plain_reading o f i m g r e h l =
    let n = after_fronts i l in
    same_bytes m g r (λ b s. (h.cells i n).reads b (sym e ∙ s)) ∙ (e ∙ told_plain o f i h n)

-- ---- a disk that is made

pub made_sectors : (o : Texts) (f : MemFace) → IsMemFace f → face_of f ≡ record { cells = copies sectors zero_cell; waiting = [] } → AreSectors o f
made_sectors o f m e = record {
  mem = m;
  whole = face_zeros (meant_face o (face_of f)) (meant_zeros o (face_of f) e);
  plain = rw e record { cells = zeros_plain sectors; waiting = none_plain };
}

-- ---- a text that is kept

pub kept_sectors : (o p : Texts) (k : TextNumber) (f : MemFace) → KeepsOthers o p k → (face_of f).waiting ≡ [] → AreFree k (face_of f) → AreSectors o f → AreSectors p f
kept_sectors o p k f s e h x = record {
  mem = x.mem;
  whole = rw (kept_face o p k (face_of f) s e h x.plain) x.whole;
  plain = x.plain;
}

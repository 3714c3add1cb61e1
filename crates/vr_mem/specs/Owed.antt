-- Sectors whose name is owed. What is kept of one stands for another content: the name of a text, with the text after it.
use Rattle.std.specs.Prelude.{ℕ, ◌%◌, ◌<◌, ◌≡◌, ◌==◌, ◌&&◌, Bool, true, false, nat_lt, if◌then◌else◌, List, map, Some, slice_index_or}
use Rattle.std.specs.List.{All}
use Rattle.std.specs.Option.{option_map}
use Rattle.vr_disk.specs.DiskState.{Cell, Face, IsFace, Waiting, cell, damaged}
use Rattle.vr_disk.specs.Fronts.{front}
use Rattle.vr_mem.specs.declared.face.MemFace.{MemFace}
use Rattle.vr_mem.specs.declared.texts.TextNumber.{TextNumber}
use Rattle.vr_mem.specs.declared.texts.TextNumber.TheVariants as n
use Rattle.vr_mem.specs.declared.texts.Texts.{Texts}
use Rattle.vr_mem.specs.Seen.{IsMemFace, face_of}

-- ---- a face of which each content becomes what a function of contents says

abbrev pub cell_by : (List ℕ → List ℕ) → Cell → Cell
cell_by f c = record { truth = f c.truth; reads = option_map f c.reads; before = f c.before }

abbrev pub waiting_by : (List ℕ → List ℕ) → Waiting → Waiting
waiting_by f w = record { index = w.index; was = cell_by f w.was }

unfoldable pub face_by : (List ℕ → List ℕ) → Face → Face
face_by f g = record { cells = map (cell_by f) g.cells; waiting = map (waiting_by f) g.waiting }

-- ---- what stands for a text

-- one of three, by the number of a text
abbrev pub by_number : {X : Type 0} → TextNumber → X → X → X → X
by_number n.One a b c = a
by_number n.Two a b c = b
by_number n.Three a b c = c

-- the byte that stands for the text of this number
abbrev pub byte_of : TextNumber → ℕ
byte_of k = by_number k 1 2 3

-- the number of the text that a byte stands for, or that byte with each bit turned
-- a sector that is owed is full of 1, 2, 3 or of one of these turned: so any byte but these never comes, and is counted with 3
unfoldable pub number_of : ℕ → TextNumber
number_of b =
    if b == 1 then n.One
    else (if b == 254 then n.One
    else (if b == 2 then n.Two
    else (if b == 253 then n.Two
    else n.Three)))

unfoldable pub text_of : Texts → TextNumber → List ℕ
text_of o k = by_number k o.one.items o.two.items o.three.items

-- what a sector is meant to hold that is full of this byte
unfoldable pub content_by : Texts → ℕ → List ℕ
content_by o b = if nat_lt b 128 then front (text_of o (number_of b)) else damaged (front (text_of o (number_of b)))

-- what a content begins with: a byte, or one and 256 where it stands for another content
abbrev pub first_item : List ℕ → ℕ
first_item x = slice_index_or x 0 0

-- what a content stands for: itself, or the front of a text
unfoldable pub meant : Texts → List ℕ → List ℕ
meant o x = if nat_lt (first_item x) 256 then x else content_by o (first_item x % 256)

abbrev pub meant_cell : Texts → Cell → Cell
meant_cell o c = cell_by (meant o) c

-- a face with the names that are owed
unfoldable pub meant_face : Texts → Face → Face
meant_face o f = face_by (meant o) f

-- ---- texts that stay

-- the texts of all numbers but one stay
abbrev pub KeepsOthers : Texts → Texts → TextNumber → Type 0
KeepsOthers old new k = (j : TextNumber) → (j ≡ k → ⊥) → text_of new j ≡ text_of old j

abbrev pub same_number : TextNumber → TextNumber → Bool
same_number j k = by_number j (by_number k true false false) (by_number k false true false) (by_number k false false true)

-- whether a content stands for the text of this number
unfoldable pub stands_for : TextNumber → List ℕ → Bool
stands_for k x = if nat_lt (first_item x) 256 then false else same_number k (number_of (first_item x % 256))

-- neither what a sector should hold, nor what it reads as, nor what it held before stands for the text of this number
pub record IsFree (k : TextNumber) (c : Cell) : Type 0 where
  pub truth : stands_for k c.truth ≡ false
  pub reads : (x : List ℕ) → c.reads ≡ Some x → stands_for k x ≡ false
  pub before : stands_for k c.before ≡ false

-- no sector that begins a copy of the superblock has a content that stands for it
pub record AreFree (k : TextNumber) (f : Face) : Type 0 where
  pub first : IsFree k (cell f 0)
  pub second : IsFree k (cell f 20)
  pub third : IsFree k (cell f 40)
  pub fourth : IsFree k (cell f 60)

-- ---- where a content may stand for a text

-- whether a copy of the superblock begins with this sector
abbrev pub begins_copy : ℕ → Bool
begins_copy i = nat_lt i 80 && ((i % 20) == 0)

pub record IsPlainCell (c : Cell) : Type 0 where
  pub truth : first_item c.truth < 256
  pub reads : (x : List ℕ) → c.reads ≡ Some x → first_item x < 256
  pub before : first_item c.before < 256

-- no other sector has a content that stands for a text
pub record ArePlain (f : Face) : Type 0 where
  pub cells : (i : ℕ) → begins_copy i ≡ false → IsPlainCell (cell f i)
  pub waiting : All (λ w. begins_copy w.index ≡ false → IsPlainCell w.was) f.waiting

-- the sectors of a disk: what is told of them is sectors of bytes
pub record AreSectors (o : Texts) (f : MemFace) : Type 0 where
  pub mem : IsMemFace f
  pub whole : IsFace (meant_face o (face_of f))
  pub plain : ArePlain (face_of f)

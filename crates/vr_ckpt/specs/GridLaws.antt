-- What a name stands for, and what a stop leaves of a block.
use Rattle.std.specs.Prelude.{ℕ, ◌+◌, ◌≤◌, ◌<◌, ◌≡◌, ◌⊎◌, List, [], length, Some}
use Rattle.vr_base.specs.Bytes.{IsBytes, name_of}
use Rattle.vr_disk.specs.DiskState.{Face, IsFace, after_all, cell, cut}
use Rattle.vr_disk.specs.Regions.{block_place}
use Rattle.vr_header.specs.Spelling.{named_bytes}
use Rattle.vr_ckpt.specs.Blocks.{Content, IsContent, block_bytes, block_header, block_name, content_of, named}
use Rattle.vr_ckpt.specs.Grid.{block_reading, put_calls}
use Rattle.vr_ckpt.specs.Places.{grid_size}
use Rattle.vr_ckpt.specs.declared.name.Name.{Name}

-- a whole block has the bytes of its content, and no other bytes have that content
pub record OneSpelling : Type 0 where
  pub found : (b : List ℕ) (c : Content) → IsBytes b → content_of b ≡ Some c → (b ≡ block_bytes c) × IsContent c
  pub again : (c : Content) → IsContent c → content_of (block_bytes c) ≡ Some c

-- bytes of a name are the block of that name, and each block is read under its own name
pub record OwnNames : Type 0 where
  pub found : (name : Name) (b : List ℕ) (c : Content) → named name b ≡ Some c → (content_of b ≡ Some c) × (block_name c ≡ name)
  pub again : (c : Content) → IsContent c → named (block_name c) (block_bytes c) ≡ Some c

-- no chance collision: two texts of one name are one text
abbrev pub TellsApart : List ℕ → List ℕ → Type 0
TellsApart a b = name_of a ≡ name_of b → a ≡ b

-- a name is that of one block, where the hashed texts of two such don't collide
abbrev pub OneBlock : Type 0
OneBlock =
    (c d : Content) → IsContent c → IsContent d → TellsApart c.payload d.payload → TellsApart (named_bytes (block_header c)) (named_bytes (block_header d))
    → block_name c ≡ block_name d → c ≡ d

-- a block that is put reads as it was put, and no other sector changes, at the end or in a cut
pub record PutLeaves (address : ℕ) (bytes : List ℕ) (f : Face) : Type 0 where
  pub done : block_reading (after_all f (put_calls address bytes)) address ≡ Some bytes
  pub others : (i : ℕ) → (i < block_place address) ⊎ (block_place address + 8 ≤ i)
      → (cell (after_all f (put_calls address bytes)) i ≡ cell f i) × ((j code : ℕ) → cell (cut j code f (put_calls address bytes)) i ≡ cell f i)

abbrev pub PutLaw : Type 0
PutLaw =
    (address : ℕ) (bytes : List ℕ) (f : Face) → address < grid_size → length bytes ≡ 4096 → IsFace f → f.waiting ≡ [] → PutLeaves address bytes f

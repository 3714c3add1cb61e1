-- Blocks of 4,096 bytes: what one holds, its name, and its bytes both ways.
use Rattle.std.specs.Prelude.{ℕ, ◌+◌, ◌-◌, ◌^◌, ◌≤◌, ◌<◌, ◌≡◌, Bool, true, ◌&&◌, ◌||◌, ◌==◌, nat_eq, nat_le, nat_lt, if◌then◌else◌, List, ◌++◌, length, drop, replicate, Option, None, Some, Result, Ok, Err}
use Rattle.std.specs.Cmp.Lexicographic.{pointwise}
use Rattle.vr_base.specs.Bytes.{is_zeros, name_of, piece}
use Rattle.vr_header.specs.Names.{header_name, no_name}
use Rattle.vr_header.specs.Same.{same_header}
use Rattle.vr_header.specs.Spelling.{decoded, header_bytes}
use Rattle.vr_header.specs.declared.command.Command.TheVariants as command
use Rattle.vr_header.specs.declared.header.Header.{Header}
use Rattle.vr_header.specs.declared.header.HeaderFault.{HeaderFault}
use Rattle.vr_ckpt.specs.declared.block.Block.{Block}
use Rattle.vr_ckpt.specs.declared.name.Name.{Name}
use Rattle.vr_ckpt.specs.Places.{grid_size}

-- what a block holds: its group, its address in the grid, the checkpoint that wrote it, its kind and its payload
pub record Content : Type 0 where
  pub cluster : ℕ
  pub address : ℕ
  pub op : ℕ
  pub kind : ℕ
  pub payload : List ℕ

-- a data block or a root
abbrev pub is_kind : ℕ → Bool
is_kind kind = (kind == 2) || (kind == 3)

-- what the blocks of the program hold
pub record IsContent (c : Content) : Type 0 where
  pub cluster : c.cluster < 2 ^ 64
  pub address : c.address < grid_size
  pub op : c.op < 2 ^ 64
  pub kind : is_kind c.kind ≡ true
  pub payload : length c.payload ≤ 3968

-- ---- the bytes of a content

-- of version 1 in every file; the fields that a block has no use for are zero
unfoldable pub block_header : Content → Header
block_header c = record {
  body = record { 0 = name_of c.payload };
  parent = no_name;
  request_name = no_name;
  cluster = c.cluster;
  client = 0;
  request = 0;
  view = 0;
  op = c.op;
  commit = 0;
  size = 128 + length c.payload;
  command = command.Block;
  version = 1;
  replica = 0;
  kind = c.kind;
  aux = c.address;
}

-- a block's name is its header's, with its address
abbrev pub block_name : Content → Name
block_name c = record { address = c.address; sum = header_name (block_header c) }

-- the header, the payload, and zeros
unfoldable pub block_bytes : Content → List ℕ
block_bytes c = header_bytes (block_header c) ++ (c.payload ++ replicate (3968 - length c.payload) 0)

unfoldable pub block_of : Content → Block
block_of c = record { name = block_name c; bytes = block_bytes c }

-- ---- the content of bytes

-- what stands after a header
abbrev pub content_at : Header → List ℕ → Content
content_at h bytes = record { cluster = h.cluster; address = h.aux; op = h.op; kind = h.kind; payload = piece 128 (h.size - 128) bytes }

-- the header is that of what stands after it, and zeros fill the rest
unfoldable pub is_block : Header → List ℕ → Bool
is_block h bytes =
    nat_le h.size 4096 && (is_kind h.kind && (nat_lt h.aux grid_size && (is_zeros (drop h.size bytes) && same_header h (block_header (content_at h bytes)))))

abbrev pub with_header : List ℕ → Result Header HeaderFault → Option Content
with_header bytes (Err fault) = None
with_header bytes (Ok h) = if is_block h bytes then Some (content_at h bytes) else None

-- the content of these 4,096 bytes, None where they are no whole block
unfoldable pub content_of : List ℕ → Option Content
content_of bytes = if length bytes == 4096 then with_header bytes (decoded bytes) else None

abbrev pub has_name : Name → Content → Bool
has_name name c = (c.address == name.address) && pointwise nat_eq (header_name (block_header c)).0 name.sum.0

abbrev pub if_named : Name → Option Content → Option Content
if_named name None = None
if_named name (Some c) = if has_name name c then Some c else None

-- the content of the whole block of this name that these bytes are, None where they aren't
unfoldable pub named : Name → List ℕ → Option Content
named name bytes = if_named name (content_of bytes)

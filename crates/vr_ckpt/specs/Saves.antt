-- What a checkpoint writes: the payloads that changed since the one before, the root, one sync.
use Rattle.std.specs.Prelude.{ℕ, zero, suc, ◌+◌, ◌*◌, ◌<◌, ◌≡◌, nat_eq, if◌then◌else◌, List, [], ◌∷◌, ◌++◌, length, Option, None, Some, is_some, slice_get, true}
use Rattle.std.specs.Cmp.Lexicographic.{pointwise}
use Rattle.vr_base.specs.Bytes.{bytes16, bytes32, bytes64, piece}
use Rattle.vr_disk.specs.DiskState.{Call, Sync}
use Rattle.vr_state.specs.StateTexts.{payloads}
use Rattle.vr_state.specs.declared.texts.Texts.{Texts}
use Rattle.vr_ckpt.specs.Blocks.{Content, block_name, block_of, content_of}
use Rattle.vr_ckpt.specs.Grid.{block_calls}
use Rattle.vr_ckpt.specs.declared.block.Block.{Block}
use Rattle.vr_ckpt.specs.Places.{first_place, grid_size, keys_places, other_place, place_of, root_place, sessions_places}
use Rattle.vr_ckpt.specs.declared.plan.Run.{Run}
use Rattle.vr_ckpt.specs.declared.saving.SavedCheckpoint.{SavedCheckpoint}
use Rattle.vr_ckpt.specs.declared.table.Payload.{Payload}
use Rattle.vr_ckpt.specs.declared.table.PayloadTable.{PayloadTable}

-- the i-th payload of a text
unfoldable pub payload_at : List ℕ → ℕ → List ℕ
payload_at text i = piece (3968 * i) 3968 text

-- a payload in a block at this address
unfoldable pub data_content : Run → ℕ → List ℕ → Content
data_content r address bytes = record { cluster = r.cluster; address = address; op = r.op; kind = 2; payload = bytes }

-- a payload in the table, and the block that is written for it, if any
pub record PayloadBlocks : Type 0 where
  pub payload : Payload
  pub blocks : List Block

abbrev pub stays : Payload → PayloadBlocks
stays p = record { payload = p; blocks = [] }

unfoldable pub goes_to : Run → ℕ → List ℕ → PayloadBlocks
goes_to r address bytes = record {
  payload = record { name = block_name (data_content r address bytes); bytes = bytes };
  blocks = block_of (data_content r address bytes) ∷ [];
}

-- the i-th payload, by what the checkpoint before had there: with the same bytes it stays, else it goes to the other place
unfoldable pub payload_blocks : Run → ℕ → List ℕ → Option Payload → PayloadBlocks
payload_blocks r i bytes None = goes_to r (first_place r.op (place_of r.places i)) bytes
payload_blocks r i bytes (Some p) = if pointwise nat_eq p.bytes bytes then stays p else goes_to r (other_place (place_of r.places i) p.name.address) bytes

abbrev pub payload_blocks_at : Run → List ℕ → List Payload → ℕ → PayloadBlocks
payload_blocks_at r text old i = payload_blocks r i (payload_at text i) (slice_get old i)

-- so many payloads of a text from one on, and what is written for them
unfoldable pub payloads_from : Run → List ℕ → List Payload → ℕ → ℕ → List Payload
payloads_from r text old i zero = []
payloads_from r text old i (suc n) = (payload_blocks_at r text old i).payload ∷ payloads_from r text old (i + 1) n

unfoldable pub blocks_from : Run → List ℕ → List Payload → ℕ → ℕ → List Block
blocks_from r text old i zero = []
blocks_from r text old i (suc n) = (payload_blocks_at r text old i).blocks ++ blocks_from r text old (i + 1) n

abbrev pub payloads_of : Run → List ℕ → List Payload → List Payload
payloads_of r text old = payloads_from r text old 0 (payloads (length text))

abbrev pub changed : Run → List ℕ → List Payload → List Block
changed r text old = blocks_from r text old 0 (payloads (length text))

-- ---- both texts

abbrev pub sessions_run : ℕ → ℕ → Run
sessions_run cluster op = record { cluster = cluster; op = op; places = sessions_places }

abbrev pub keys_run : ℕ → ℕ → Run
keys_run cluster op = record { cluster = cluster; op = op; places = keys_places }

unfoldable pub table_of : ℕ → Texts → ℕ → PayloadTable → PayloadTable
table_of cluster texts op old = record {
  sessions = payloads_of (sessions_run cluster op) texts.sessions old.sessions;
  keys = payloads_of (keys_run cluster op) texts.keys old.keys;
}

-- ---- the root

unfoldable pub names_bytes : List Payload → List ℕ
names_bytes [] = []
names_bytes (p ∷ ps) = bytes64 p.name.address ++ (p.name.sum.0 ++ names_bytes ps)

-- the op, the lengths of the texts, the number of payloads, and their addresses and names
unfoldable pub root_payload : ℕ → ℕ → ℕ → PayloadTable → List ℕ
root_payload op sessions keys t =
    bytes64 op ++ (bytes32 sessions ++ (bytes32 keys ++ (bytes16 (length t.sessions + length t.keys) ++ (names_bytes t.sessions ++ names_bytes t.keys))))

unfoldable pub root_of : ℕ → Texts → ℕ → PayloadTable → Content
root_of cluster texts op t = record { cluster = cluster; address = root_place op; op = op; kind = 3; payload = root_payload op (length texts.sessions) (length texts.keys) t }

-- ---- what is written

-- the changed payloads in order, and the root
unfoldable pub written : ℕ → Texts → ℕ → PayloadTable → List Block
written cluster texts op old =
    changed (sessions_run cluster op) texts.sessions old.sessions
    ++ (changed (keys_run cluster op) texts.keys old.keys ++ block_of (root_of cluster texts op (table_of cluster texts op old)) ∷ [])

unfoldable pub blocks_calls : List Block → List Call
blocks_calls [] = []
blocks_calls (b ∷ bs) = block_calls b.name.address b.bytes ++ blocks_calls bs

unfoldable pub save_calls : ℕ → Texts → ℕ → PayloadTable → List Call
save_calls cluster texts op old = blocks_calls (written cluster texts op old) ++ Sync ∷ []

-- the root's name and the new table
abbrev pub saved_checkpoint : ℕ → Texts → ℕ → PayloadTable → SavedCheckpoint
saved_checkpoint cluster texts op old = record { root = block_name (root_of cluster texts op (table_of cluster texts op old)); table = table_of cluster texts op old }

-- a whole block at an address of the grid
pub record IsPlaced (b : Block) : Type 0 where
  pub address : b.name.address < grid_size
  pub size : length b.bytes ≡ 4096
  pub whole : is_some (content_of b.bytes) ≡ true

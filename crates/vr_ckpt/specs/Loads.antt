-- What a disk has of a checkpoint.
use Rattle.std.specs.Prelude.{ℕ, zero, suc, ◌+◌, ◌-◌, ◌*◌, ◌<◌, Bool, false, ◌&&◌, ◌==◌, nat_le, nat_lt, min, if◌then◌else◌, List, [], ◌∷◌, ◌++◌, length, Option, None, Some}
use Rattle.std.specs.Option.{option_and_then, option_map}
use Rattle.std.specs.Int.{w16, w32, w64}
use Rattle.vr_base.specs.Bytes.{number, piece}
use Rattle.vr_disk.specs.DiskState.{Face}
use Rattle.vr_state.specs.StateTexts.{key_payloads, payloads, session_payloads}
use Rattle.vr_ckpt.specs.Blocks.{Content}
use Rattle.vr_ckpt.specs.Grid.{named_at}
use Rattle.vr_ckpt.specs.declared.name.Name.{Name}
use Rattle.vr_ckpt.specs.Places.{is_place, keys_places, place_of, root_place, sessions_places}
use Rattle.vr_ckpt.specs.declared.loading.Gathered.{Gathered}
use Rattle.vr_ckpt.specs.declared.found.Load.{Load}
use Rattle.vr_ckpt.specs.declared.found.Load.TheVariants.{Loaded, Missing}
use Rattle.vr_ckpt.specs.declared.places.Places.{Places}
use Rattle.vr_ckpt.specs.declared.root.Root.{Root}
use Rattle.vr_ckpt.specs.declared.table.Payload.{Payload}

-- ---- the root

-- the i-th name that a root gives
unfoldable pub name_at : List ℕ → ℕ → Name
name_at bytes i = record { address = number w64 (18 + 24 * i) bytes; sum = record { 0 = piece (26 + 24 * i) 16 bytes } }

abbrev pub with_name : ℕ → Name → Option (List Name) → Option (List Name)
with_name low name rest = if is_place low name.address then option_map (λ names. name ∷ names) rest else None

-- so many names from the i-th on, each at one of its places: those of a text's payloads from the k-th on
unfoldable pub names_at : Places → ℕ → List ℕ → ℕ → ℕ → Option (List Name)
names_at l k bytes i zero = Some []
names_at l k bytes i (suc n) = with_name (place_of l k) (name_at bytes i) (names_at l (k + 1) bytes (i + 1) n)

-- how long the texts are
unfoldable pub sessions_size : List ℕ → ℕ
sessions_size bytes = number w32 8 bytes

unfoldable pub keys_size : List ℕ → ℕ
keys_size bytes = number w32 12 bytes

-- the numbers of a root's payload stand
unfoldable pub has_numbers : ℕ → List ℕ → Bool
has_numbers op bytes =
    if nat_lt (length bytes) 18 then false
    else ((number w64 0 bytes == op) && (nat_le (payloads (sessions_size bytes)) session_payloads && (nat_le (payloads (keys_size bytes)) key_payloads
    && ((number w16 16 bytes == payloads (sessions_size bytes) + payloads (keys_size bytes))
    && (length bytes == 18 + 24 * (payloads (sessions_size bytes) + payloads (keys_size bytes)))))))

abbrev pub is_root : Content → Bool
is_root c = (c.kind == 3) && ((c.address == root_place c.op) && has_numbers c.op c.payload)

abbrev pub both_named : List ℕ → Option (List Name) → Option (List Name) → Option Root
both_named bytes None keys = None
both_named bytes (Some sessions) None = None
both_named bytes (Some sessions) (Some keys) =
    Some (record { sessions_size = sessions_size bytes; keys_size = keys_size bytes; sessions = sessions; keys = keys })

-- what a root's payload says: how long the texts are, and the names of their payloads
unfoldable pub root_in : List ℕ → Option Root
root_in bytes =
    both_named bytes (names_at sessions_places 0 bytes 0 (payloads (sessions_size bytes))) (names_at keys_places 0 bytes (payloads (sessions_size bytes)) (payloads (keys_size bytes)))

-- the root that a block is, None where it isn't one
unfoldable pub read_root : Content → Option Root
read_root c = if is_root c then root_in c.payload else None

unfoldable pub root_at : Face → Name → Option Root
root_at f name = option_and_then read_root (named_at f name)

-- ---- the payloads

-- the payload of a data block, where it has this length
abbrev pub data_of : ℕ → Content → Option (List ℕ)
data_of size c = if (c.kind == 2) && (length c.payload == size) then Some c.payload else None

-- what the block of a name has; None: it is faulty
unfoldable pub data_at : Face → Name → ℕ → Option (List ℕ)
data_at f name size = option_and_then (data_of size) (named_at f name)

abbrev pub with_data : Name → Option (List ℕ) → Gathered → Gathered
with_data name None g = record { payloads = g.payloads; missing = name ∷ g.missing }
with_data name (Some bytes) g = record { payloads = record { name = name; bytes = bytes } ∷ g.payloads; missing = g.missing }

-- with those gathered before
unfoldable pub behind : List Payload → List Name → Gathered → Gathered
behind payloads missing g = record { payloads = payloads ++ g.payloads; missing = missing ++ g.missing }

-- by the names of a text's payloads, and how many bytes it has
unfoldable pub gathered : Face → ℕ → List Name → Gathered
gathered f size [] = record { payloads = []; missing = [] }
gathered f size (name ∷ names) = with_data name (data_at f name (min size 3968)) (gathered f (size - 3968) names)

unfoldable pub text_of : List Payload → List ℕ
text_of [] = []
text_of (p ∷ ps) = p.bytes ++ text_of ps

-- ---- the checkpoint

abbrev pub load_of : Gathered → Gathered → List Name → Load
load_of sessions keys [] =
    Loaded (record { sessions = text_of sessions.payloads; keys = text_of keys.payloads }) (record { sessions = sessions.payloads; keys = keys.payloads })
load_of sessions keys (name ∷ names) = Missing (name ∷ names)

abbrev pub gathered_both : Gathered → Gathered → Load
gathered_both sessions keys = load_of sessions keys (sessions.missing ++ keys.missing)

abbrev pub load_by : Face → Name → Option Root → Load
load_by f name None = Missing (name ∷ [])
load_by f name (Some r) = gathered_both (gathered f r.sessions_size r.sessions) (gathered f r.keys_size r.keys)

-- the texts with their table, or the faulty root alone, or the faulty data blocks in order
unfoldable pub loaded : Face → Name → Load
loaded f name = load_by f name (root_at f name)

-- where blocks are missing, at least one is named
abbrev pub HasSome : Load → Type 0
HasSome (Loaded texts table) = Unit {0}
HasSome (Missing names) = 0 < length names

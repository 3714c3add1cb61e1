-- Places at both ends, and a root that names as many payloads as there can be, computed.
use Rattle.std.specs.Prelude.{ℕ, zero, suc, ◌+◌, ◌*◌, ◌≡◌, true, false, List, [], ◌∷◌, length, map, replicate, Some, None}
use Rattle.std.specs.Option.{option_and_then}
use Rattle.std.proofs.Common.{refl}
use Rattle.vr_base.specs.Bytes.{bytes16, bytes32, bytes64, number, piece}
use Rattle.vr_disk.specs.DiskState.{Face}
use Rattle.vr_disk.specs.Regions.{block_place, sectors}
use Rattle.vr_disk.specs.Sectors.{together}
use Rattle.vr_ckpt.specs.Blocks.{named}
use Rattle.vr_ckpt.specs.Grid.{block_reading, named_at}
use Rattle.vr_ckpt.specs.Loads.{has_numbers, keys_size, name_at, names_at, root_in, sessions_size}
use Rattle.vr_ckpt.specs.Places.{keys_places, place_of, sessions_places, twin}
use Rattle.vr_ckpt.specs.Saves.{names_bytes, root_payload}
use Rattle.vr_ckpt.specs.declared.name.Name.{Name}
use Rattle.vr_ckpt.specs.declared.places.Places.{Places}
use Rattle.vr_ckpt.specs.declared.table.Payload.{Payload}

-- the places at the ends of both parts of a text
first_session : (place_of sessions_places 0 ≡ 1) × (twin (place_of sessions_places 0) ≡ 65)
unfolding place_of
first_session = (refl, refl)

session_8 : (place_of sessions_places 8 ≡ 9) × (twin (place_of sessions_places 8) ≡ 73)
unfolding place_of
session_8 = (refl, refl)

session_9 : (place_of sessions_places 9 ≡ 128) × (twin (place_of sessions_places 9) ≡ 256)
unfolding place_of
session_9 = (refl, refl)

session_48 : (place_of sessions_places 48 ≡ 167) × (twin (place_of sessions_places 48) ≡ 295)
unfolding place_of
session_48 = (refl, refl)

key_35 : (place_of keys_places 35 ≡ 45) × (twin (place_of keys_places 35) ≡ 109)
unfolding place_of
key_35 = (refl, refl)

key_36 : (place_of keys_places 36 ≡ 168) × (twin (place_of keys_places 36) ≡ 296)
unfolding place_of
key_36 = (refl, refl)

key_98 : (place_of keys_places 98 ≡ 230) × (twin (place_of keys_places 98) ≡ 358)
unfolding place_of
key_98 = (refl, refl)

-- ---- the last address

abbrev at_address : ℕ → Name
at_address a = record { address = a; sum = record { 0 = replicate 16 7 } }

last_block : block_place 383 + 8 ≡ sectors
last_block = refl

reads_383 : (f : Face) → named_at f (at_address 383) ≡ option_and_then (named (at_address 383)) (together (block_place 383) 8 f)
unfolding named_at block_reading
reads_383 f = refl

none_at_384 : (f : Face) → named_at f (at_address 384) ≡ None
unfolding named_at
none_at_384 f = refl

-- ---- roots

payloads_at : Places → ℕ → ℕ → List Payload
payloads_at l i zero = []
payloads_at l i (suc n) = record { name = at_address (place_of l i); bytes = [] } ∷ payloads_at l (i + 1) n

-- a root of the lower places of so many payloads of each text
abbrev root_bytes : ℕ → ℕ → List ℕ
root_bytes s k = root_payload 32 (3968 * s) (3968 * k) (record { sessions = payloads_at sessions_places 0 s; keys = payloads_at keys_places 0 k })

root_of_148 : (length (root_bytes 49 99) ≡ 3570) × (has_numbers 32 (root_bytes 49 99) ≡ true)
unfolding payloads_at place_of root_payload names_bytes has_numbers sessions_size keys_size number piece bytes16 bytes32 bytes64
root_of_148 = (refl, refl)

names_of_148 : root_in (root_bytes 49 99)
    ≡ Some (record {
      sessions_size = 3968 * 49;
      keys_size = 3968 * 99;
      sessions = map (λ (p : Payload). p.name) (payloads_at sessions_places 0 49);
      keys = map (λ (p : Payload). p.name) (payloads_at keys_places 0 99);
    })
unfolding payloads_at place_of root_payload names_bytes root_in names_at name_at sessions_size keys_size number piece bytes16 bytes32 bytes64
names_of_148 = refl

-- one payload more of either text is no root
too_many : (has_numbers 32 (root_bytes 50 0) ≡ false) × (has_numbers 32 (root_bytes 0 100) ≡ false)
unfolding payloads_at place_of root_payload names_bytes has_numbers sessions_size keys_size number piece bytes16 bytes32 bytes64
too_many = (refl, refl)

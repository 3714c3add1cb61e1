-- Rows of groups by the version of their files: what they are asked, when a session goes, how a file is migrated, and what is written to a disk
-- before they begin.
use Rattle.std.proofs.Common.{ℕ, ◌+◌, ◌-◌, ◌*◌, ◌≡◌, List, [], ◌∷◌, ◌++◌, map, drop, take, replicate, slice_get, Option, Some, None, codes, refl}
use Rattle.std.specs.List.{flat_map, range_with_len}
use Rattle.sha2.specs.Sha256.{digest_bytes, sha256}
use Rattle.vr_base.specs.Bytes.{bytes16, bytes32, bytes64, name_of}
use Rattle.vr_base.specs.declared.kind.Kind.{Kind}
use Rattle.vr_base.specs.declared.mode.Mode.TheVariants.{Strict, Careful}
use Rattle.vr_disk.specs.DiskState.{Call, Write, Sync}
use Rattle.vr_disk.specs.Sectors.{writes}
use Rattle.vr_header.specs.declared.operation.Operation.{Operation}
use Rattle.vr_header.specs.declared.operation.Operation.TheVariants.{Register, Get}
use Rattle.vr_header.specs.Spelling as header
use Rattle.vr_msg.specs.declared.request.RequestFields.{RequestFields}
use Rattle.vr_super.specs.Calls.{copy_calls, save_from}
use Rattle.vr_super.specs.Copies as super
use Rattle.vr_rules.specs.Formatting.{format_calls, reserved_header}
use Rattle.vr_rules.specs.Opening.{first_value}
use Rattle.vr_world.specs.World.{Happening, Asks, AsksInVersion, Arrives, Ticks, Stops, Starts, Migrates, Fuses, fresh_world, happen}
use Rattle.rows_computed.proofs.Plain.{after_fresh, hazards, lines}

-- a strict file of this version
abbrev kind_of : ℕ → Kind
kind_of v = record { mode = Strict; version = v }

-- ---- groups of two

-- a client asks replica 0 in a request of this version
abbrev request_by : (version client request : ℕ) → Operation → RequestFields
request_by version client request operation = record { version = version; cluster = 0; client = client; request = request; operation = operation }

abbrev asks_by : (version client request : ℕ) → Operation → Happening
asks_by version client request operation = Asks 0 (request_by version client request operation)

-- the lines of a group of n, whose files are of this version
unfoldable lines_of : (version n : ℕ) → List Happening → List (List ℕ)
unfolding after_fresh
lines_of v n xs = lines 0 (happen hazards (fresh_world hazards (kind_of v) n) xs).outputs

-- of a group of two
unfoldable lines_on : ℕ → List Happening → List (List ℕ)
unfolding lines_of
lines_on v xs = lines_of v 2 xs

-- two clients ask, each in requests of another version, and the first two messages arrive: who asks in the files' version has a session
abbrev both_ask : List Happening
both_ask = asks_by 1 7 0 Register ∷ asks_by 2 8 0 Register ∷ Arrives 0 ∷ Arrives 1 ∷ []

own_version : map (λ v. lines_on v both_ask) (1 ∷ 2 ∷ [])
    ≡ (
    codes "send 0 0 1 prepare view 0 op 1 made 0 commit 0"
    ∷ codes "send 1 1 0 prepare_ok view 0 op 1 made 0"
    ∷ codes "commit 0 op 1 view 0 client 7 request 0 register"
    ∷ codes "reply 0 client 7 request 0 op 1 session"
    ∷ []
    )
    ∷ (
    codes "send 0 0 1 prepare view 0 op 1 made 0 commit 0"
    ∷ codes "send 1 1 0 prepare_ok view 0 op 1 made 0"
    ∷ codes "commit 0 op 1 view 0 client 8 request 0 register"
    ∷ codes "reply 0 client 8 request 0 op 1 session"
    ∷ []
    )
    ∷ []
unfolding lines_on
own_version = refl

-- a request of an earlier version than the files is made in theirs, where that is asked for; one of a later version stays as it is
in_own_version : map (λ v. lines_on v (AsksInVersion 0 (request_by 1 7 0 Register) ∷ AsksInVersion 0 (request_by 2 8 0 Register) ∷ [])) (1 ∷ 2 ∷ [])
    ≡ (codes "send 0 0 1 prepare view 0 op 1 made 0 commit 0" ∷ [])
    ∷ (codes "send 0 0 1 prepare view 0 op 1 made 0 commit 0" ∷ codes "send 1 0 1 prepare view 0 op 2 made 0 commit 0" ∷ [])
    ∷ []
unfolding lines_on
in_own_version = refl

-- so many clients register, and both messages of each arrive
abbrev register_all : (version n : ℕ) → List Happening
register_all version n = flat_map (λ k. asks_by version (k + 1) 0 Register ∷ Arrives (2 * k) ∷ Arrives (2 * k + 1) ∷ []) (range_with_len 0 n)

-- what the first two of them have then, who ask for a key
abbrev first_two : (version n : ℕ) → List (List ℕ)
first_two version n = drop (5 * n - 1) (lines_on version (register_all version n ++ asks_by version 1 1 (Get (codes "a")) ∷ asks_by version 2 1 (Get (codes "a")) ∷ []))

-- a register evicts the oldest of 32 sessions on files of version 1, and none of so many on files of version 2
thirty_three : map (λ v. first_two v 33) (1 ∷ 2 ∷ [])
    ≡ (codes "reply 0 client 1 request 1 evicted" ∷ codes "send 66 0 1 prepare view 0 op 34 made 0 commit 33" ∷ [])
    ∷ (codes "send 66 0 1 prepare view 0 op 34 made 0 commit 33" ∷ codes "send 67 0 1 prepare view 0 op 35 made 0 commit 33" ∷ [])
    ∷ []
unfolding lines_on
thirty_three = refl

-- but the oldest of 64
sixty_five : first_two 2 65 ≡ codes "reply 0 client 1 request 1 evicted" ∷ codes "send 130 0 1 prepare view 0 op 66 made 0 commit 65" ∷ []
unfolding lines_on
sixty_five = refl

-- ---- groups of one

-- What is stored is committed at once. After a stop a tick chooses the log, and what was stored is committed again; the client that asks again is
-- answered by what it had.
alone : lines_of 2 1 (asks_by 2 7 0 Register ∷ Stops 0 ∷ Starts 0 ∷ Ticks 0 ∷ asks_by 2 7 0 Register ∷ asks_by 2 7 1 (Get (codes "a")) ∷ [])
    ≡ codes "commit 0 op 1 view 0 client 7 request 0 register"
    ∷ codes "reply 0 client 7 request 0 op 1 session"
    ∷ codes "start 0 view 1 log_view 0 commit 0"
    ∷ codes "choose 0 view 1 log 0 commit 0 head 1 own h"
    ∷ codes "commit 0 op 1 view 0 client 7 request 0 register"
    ∷ codes "reply 0 client 7 request 0 op 1 session"
    ∷ codes "reply 0 client 7 request 0 op 1 session"
    ∷ codes "commit 0 op 2 view 1 client 7 request 1 get a"
    ∷ codes "reply 0 client 7 request 1 op 2 absent"
    ∷ []
unfolding lines_of
alone = refl

-- ---- files of version 1 that become those of version 2

-- a replica has stored an entry, is stopped, and is started again after what happens to its file; then the entry's prepare comes again
abbrev stored_before : List Happening → List (List ℕ)
stored_before xs = drop 2 (lines_on 1 (asks_by 1 7 0 Register ∷ Arrives 0 ∷ Stops 1 ∷ xs ++ Starts 1 ∷ Arrives 0 ∷ []))

-- A migrated replica leaves messages of version 1 be. Nothing happens to the file of one that runs, nor to a file that was migrated.
migrates : stored_before (Migrates 0 ∷ Migrates 1 ∷ Migrates 1 ∷ []) ≡ codes "migrated 1" ∷ codes "start 1 view 0 log_view 0 commit 0" ∷ []
unfolding lines_on
migrates = refl

-- a migration that is cut after so many calls
abbrev cut_after : ℕ → List (List ℕ)
cut_after calls = stored_before (Fuses 1 calls 0 ∷ Migrates 1 ∷ [])

-- of its 597 calls those before the first sector of the third copy of the new value leave the old one, of which the entry is held
cut_migrations : map cut_after (0 ∷ 512 ∷ 554 ∷ []) ++ map cut_after (555 ∷ 596 ∷ [])
    ≡ replicate 3 (codes "halt 1" ∷ codes "start 1 view 0 log_view 0 commit 0" ∷ codes "send 2 1 0 prepare_ok view 0 op 1 made 0" ∷ [])
    ++ replicate 2 (codes "halt 1" ∷ codes "start 1 view 0 log_view 0 commit 0" ∷ [])
unfolding lines_on
cut_migrations = refl

-- ---- what is written to a disk before a group begins

-- of a copy of the first value the bytes with how many replicas there are, the version and the mode; a copy's checksum is its first 16 bytes
abbrev kind_bytes : Kind → List ℕ
kind_bytes kind = take 3 (drop (91 - 16) (super.named_bytes (first_value kind 0 2 1)))

first_values : map kind_bytes (kind_of 1 ∷ kind_of 2 ∷ record { mode = Careful; version = 2 } ∷ []) ≡ (2 ∷ 1 ∷ 0 ∷ []) ∷ (2 ∷ 2 ∷ 0 ∷ []) ∷ (2 ∷ 2 ∷ 1 ∷ []) ∷ []
unfolding super.named_bytes super.front_bytes bytes16 bytes32 bytes64 super.zeros super.list_bytes
first_values = refl

-- the byte of the version in a header of a slot that has no entry yet; a header's checksum is its first 16 bytes
reserved_versions : map (λ v. slice_get (header.named_bytes (reserved_header v 0 5)) (110 - 16)) (1 ∷ 2 ∷ []) ≡ Some 1 ∷ Some 2 ∷ []
unfolding header.named_bytes bytes32 bytes64 digest_bytes name_of sha256
reserved_versions = refl

-- the sector that is written, none at a sync
abbrev place : Call → Option ℕ
place (Write i bytes) = Some i
place Sync = None

-- Formatting writes the prepares of all slots, then the slots' headers, and syncs; then come the superblock's copies. On a file of version 1 the
-- prepares have 256 sectors from 144 on; on one of version 2 they have 512 from 1424 on.
formats : map (λ v. map place (take (64 * (4 * v) + 66) (format_calls (kind_of v) 0 2 1))) (1 ∷ 2 ∷ [])
    ≡ (map Some (range_with_len 144 256) ++ map Some (range_with_len 80 64) ++ None ∷ Some 0 ∷ [])
    ∷ (map Some (range_with_len 1424 512) ++ map Some (range_with_len 80 64) ++ None ∷ Some 0 ∷ [])
    ∷ []
unfolding format_calls copy_calls save_from writes
formats = refl

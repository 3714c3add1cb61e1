-- Worked rows of the grammar, computed: a line, and what it is.
use Rattle.std.proofs.Common.{◌≡◌, ℕ, ◌-◌, ◌^◌, ◌++◌, codes, replicate, refl, List, [], ◌∷◌, length, Option, Some, None}
use Rattle.vr_base.specs.Kinds.{of_mode, strict}
use Rattle.vr_base.specs.declared.kind.Kind.{Kind}
use Rattle.vr_base.specs.declared.mode.Mode.{Mode}
use Rattle.vr_base.specs.declared.mode.Mode.TheVariants.{Strict, Careful}
use Rattle.vr_header.specs.declared.operation.Operation.{Operation}
use Rattle.vr_header.specs.declared.operation.Operation.TheVariants.{Register, Put, Get, Delete}
use Rattle.vr_header.specs.Text.{is_text}
use Rattle.vr_lines.specs.declared.line.Line.{Line}
use Rattle.vr_lines.specs.declared.line.Line.TheVariants.{Cluster, Request, Deliver, Tick, Stop, Start, Migrate, Fuse, Damage, Stale, Unread, Misdirect}
use Rattle.vr_lines.specs.Grammar.{asked_by, line_words, longest, parse}
use Rattle.vr_lines.specs.Numbers.{digits_on, number_of}
use Rattle.vr_lines.specs.Operations.{operation_words}
use Rattle.vr_lines.specs.Versions.{line_sectors}
use Rattle.vr_lines.specs.Words.{words_of}

abbrev asks_of : ℕ → ℕ → ℕ → ℕ → Operation → Option Line
asks_of version r c q operation = Some (Request r (record { version = version; cluster = 0; client = c; request = q; operation = operation }))

abbrev asks : ℕ → ℕ → ℕ → Operation → Option Line
asks = asks_of 1

cluster_lines : (parse 1 0 (codes "cluster 2") ≡ Some (Cluster 2 strict)) × (parse 1 0 (codes "cluster 6") ≡ Some (Cluster 6 strict))
    × (parse 1 0 (codes "cluster 1") ≡ None) × (parse 1 0 (codes "cluster 7") ≡ None) × (parse 1 3 (codes "cluster 3") ≡ None)
    × (parse 1 0 (codes "cluster 03") ≡ None) × (parse 1 0 (codes "cluster 3 ") ≡ None) × (parse 1 0 (codes "cluster") ≡ None)
    × (parse 1 0 (codes "cluster  3") ≡ None) × (parse 1 0 (codes "deliver 0") ≡ None) × (parse 1 0 (codes "cluster 258") ≡ None)
unfolding parse line_words operation_words words_of number_of digits_on asked_by is_text
cluster_lines = (refl, refl, refl, refl, refl, refl, refl, refl, refl, refl, refl)

deliver_lines : (parse 1 2 (codes "deliver 0") ≡ Some (Deliver 0))
    × (parse 1 2 (codes "deliver 18446744073709551615") ≡ Some (Deliver (2 ^ 64 - 1)))
    × (parse 1 2 (codes "deliver 18446744073709551616") ≡ None) × (parse 1 2 (codes "deliver 00") ≡ None)
    × (parse 1 2 (codes "deliver -1") ≡ None) × (parse 1 2 (codes "deliver +1") ≡ None) × (parse 1 2 (codes "deliver 1 1") ≡ None)
    × (parse 1 2 (codes "deliver ") ≡ None) × (parse 1 2 (codes " deliver 1") ≡ None) × (parse 1 2 (codes "") ≡ None)
unfolding parse line_words operation_words words_of number_of digits_on asked_by is_text
deliver_lines = (refl, refl, refl, refl, refl, refl, refl, refl, refl, refl)

request_lines : (parse 1 2 (codes "request 1 7 0 register") ≡ asks 1 7 0 Register)
    × (parse 1 2 (codes "request 0 7 1 put a b") ≡ asks 0 7 1 (Put (codes "a") (codes "b")))
    × (parse 1 2 (codes "request 0 7 4294967295 get !~") ≡ asks 0 7 (2 ^ 32 - 1) (Get (codes "!~")))
    × (parse 1 6 (codes "request 5 18446744073709551615 1 del a") ≡ asks 5 (2 ^ 64 - 1) 1 (Delete (codes "a")))
unfolding parse line_words operation_words words_of number_of digits_on asked_by is_text
request_lines = (refl, refl, refl, refl)

no_requests : (parse 1 0 (codes "request 1 7 0 register") ≡ None) × (parse 1 2 (codes "request 2 7 0 register") ≡ None)
    × (parse 1 2 (codes "request 1 0 0 register") ≡ None) × (parse 1 2 (codes "request 1 7 1 register") ≡ None)
    × (parse 1 2 (codes "request 1 7 0 get a") ≡ None) × (parse 1 2 (codes "request 1 7 0 put a b") ≡ None)
    × (parse 1 2 (codes "request 1 7 4294967296 get a") ≡ None) × (parse 1 2 (codes "request 1 07 1 get a") ≡ None)
    × (parse 1 2 (codes "request 1 7 1 put a") ≡ None) × (parse 1 2 (codes "request 1 7 1 put a b c") ≡ None)
    × (parse 1 2 (codes "request 1 7 1 get ") ≡ None) × (parse 1 2 (codes "request 1 7 1 get a b") ≡ None)
    × (parse 1 2 (codes "request 1 7 1") ≡ None) × (parse 1 2 (codes "request 1 7 0 register ") ≡ None)
    × (parse 1 2 (codes "request 1 7 1 get a\t") ≡ None)
unfolding parse line_words operation_words words_of number_of digits_on asked_by is_text
no_requests = (refl, refl, refl, refl, refl, refl, refl, refl, refl, refl, refl, refl, refl, refl, refl)

long_texts : (parse 1 2 (codes "request 0 7 1 get " ++ replicate 64 97) ≡ asks 0 7 1 (Get (replicate 64 97)))
    × (parse 1 2 (codes "request 0 7 1 get " ++ replicate 65 97) ≡ None)
    × (parse 1 2 (codes "request 0 7 1 put a " ++ replicate 1024 98) ≡ asks 0 7 1 (Put (codes "a") (replicate 1024 98)))
    × (parse 1 2 (codes "request 0 7 1 put a " ++ replicate 1025 98) ≡ None)
unfolding parse line_words operation_words words_of number_of digits_on asked_by is_text
long_texts = (refl, refl, refl, refl)

-- a value of version 2 has up to 3,000 bytes
long_values : (operation_words 1 (codes "put" ∷ codes "a" ∷ replicate 1025 98 ∷ []) ≡ None)
    × (operation_words 2 (codes "put" ∷ codes "a" ∷ replicate 3000 98 ∷ []) ≡ Some (Put (codes "a") (replicate 3000 98)))
    × (operation_words 2 (codes "put" ∷ codes "a" ∷ replicate 3001 98 ∷ []) ≡ None)
unfolding operation_words is_text
long_values = (refl, refl, refl)

-- the longest line of each version
abbrev longest_put : List ℕ → List ℕ
longest_put value = codes "request 5 18446744073709551615 4294967295 put " ++ replicate 64 97 ++ codes " " ++ value

longest_line_1 : (parse 1 6 (longest_put (replicate 1024 98)) ≡ asks 5 (2 ^ 64 - 1) (2 ^ 32 - 1) (Put (replicate 64 97) (replicate 1024 98)))
    × (length (longest_put (replicate 1024 98)) ≡ longest 1)
unfolding parse line_words operation_words words_of number_of digits_on asked_by is_text
longest_line_1 = (refl, refl)

longest_line_2 : (parse 2 6 (longest_put (replicate 3000 98)) ≡ asks_of 2 5 (2 ^ 64 - 1) (2 ^ 32 - 1) (Put (replicate 64 97) (replicate 3000 98)))
    × (length (longest_put (replicate 3000 98)) ≡ longest 2)
unfolding parse line_words operation_words words_of number_of digits_on asked_by is_text
longest_line_2 = (refl, refl)

-- requests of version 2
requests_of_version_2 : (parse 2 2 (codes "request 1 7 0 register") ≡ asks_of 2 1 7 0 Register)
    × (parse 2 2 (codes "request 0 7 1 put a " ++ replicate 1025 98) ≡ asks_of 2 0 7 1 (Put (codes "a") (replicate 1025 98)))
    × (parse 2 2 (codes "request 0 7 1 put a " ++ replicate 3001 98) ≡ None)
unfolding parse line_words operation_words words_of number_of digits_on asked_by is_text
requests_of_version_2 = (refl, refl, refl)

-- a group on careful files
careful_lines : (parse 1 0 (codes "cluster 2 careful") ≡ Some (Cluster 2 (of_mode Careful))) × (parse 1 0 (codes "cluster 6 careful") ≡ Some (Cluster 6 (of_mode Careful)))
    × (parse 1 0 (codes "cluster 1 careful") ≡ None) × (parse 1 0 (codes "cluster 7 careful") ≡ None) × (parse 1 3 (codes "cluster 3 careful") ≡ None)
    × (parse 1 0 (codes "cluster 3  careful") ≡ None) × (parse 1 0 (codes "cluster 3 careful ") ≡ None) × (parse 1 0 (codes "cluster careful 3") ≡ None)
    × (parse 1 0 (codes "cluster careful") ≡ None) × (parse 1 0 (codes "cluster 3 Careful") ≡ None) × (parse 1 0 (codes "cluster 3 strict") ≡ None)
    × (parse 1 0 (codes "cluster 3 careful careful") ≡ None) × (parse 1 0 (codes "clusters 3 careful") ≡ None)
unfolding parse line_words words_of number_of digits_on
careful_lines = (refl, refl, refl, refl, refl, refl, refl, refl, refl, refl, refl, refl, refl)

-- a group of version 2, which may have one member
abbrev of_version_2 : Mode → Kind
of_version_2 mode = record { mode = mode; version = 2 }

version_2_lines : (parse 1 0 (codes "cluster 2 v2") ≡ Some (Cluster 2 (of_version_2 Strict))) × (parse 1 0 (codes "cluster 6 v2") ≡ Some (Cluster 6 (of_version_2 Strict)))
    × (parse 1 0 (codes "cluster 3 careful v2") ≡ Some (Cluster 3 (of_version_2 Careful))) × (parse 2 0 (codes "cluster 3 v2") ≡ Some (Cluster 3 (of_version_2 Strict)))
    × (parse 1 0 (codes "cluster 1 v2") ≡ Some (Cluster 1 (of_version_2 Strict))) × (parse 1 0 (codes "cluster 1 careful v2") ≡ Some (Cluster 1 (of_version_2 Careful)))
    × (parse 1 0 (codes "cluster 0 v2") ≡ None) × (parse 1 0 (codes "cluster 257 v2") ≡ None)
    × (parse 1 0 (codes "cluster 7 v2") ≡ None) × (parse 2 3 (codes "cluster 3 v2") ≡ None)
    × (parse 1 0 (codes "cluster 3 v2 careful") ≡ None) × (parse 1 0 (codes "cluster 3 v2 v2") ≡ None) × (parse 1 0 (codes "cluster 3 careful v2 ") ≡ None)
    × (parse 1 0 (codes "cluster 3 careful  v2") ≡ None) × (parse 1 0 (codes "cluster 3 careful careful v2") ≡ None) × (parse 1 0 (codes "cluster v2") ≡ None)
    × (parse 1 0 (codes "cluster 3 V2") ≡ None) × (parse 1 0 (codes "cluster 3 v1") ≡ None) × (parse 1 0 (codes "cluster 3 v3") ≡ None)
unfolding parse line_words words_of number_of digits_on
version_2_lines = (refl, refl, refl, refl, refl, refl, refl, refl, refl, refl, refl, refl, refl, refl, refl, refl, refl, refl, refl)

-- a tick, a stop, a start, a migration
member_lines : (parse 1 3 (codes "tick 2") ≡ Some (Tick 2)) × (parse 1 3 (codes "stop 0") ≡ Some (Stop 0)) × (parse 1 3 (codes "start 1") ≡ Some (Start 1)) × (parse 1 3 (codes "migrate 1") ≡ Some (Migrate 1))
    × (parse 1 3 (codes "tick 3") ≡ None) × (parse 1 0 (codes "tick 0") ≡ None) × (parse 1 3 (codes "tick") ≡ None) × (parse 1 3 (codes "tick 1 1") ≡ None)
    × (parse 1 3 (codes "tick 01") ≡ None) × (parse 1 3 (codes "tick 1 ") ≡ None) × (parse 1 3 (codes "ticks 1") ≡ None) × (parse 1 3 (codes "") ≡ None)
unfolding parse line_words words_of number_of digits_on
member_lines = (refl, refl, refl, refl, refl, refl, refl, refl, refl, refl, refl, refl)

-- a fuse: the call is from 1 to 1,000,000, the code below 2 ^ 64
fuses : (parse 1 3 (codes "fuse 1 6 0") ≡ Some (Fuse 1 6 0)) × (parse 1 3 (codes "fuse 1 1000000 18446744073709551615") ≡ Some (Fuse 1 1000000 (2 ^ 64 - 1)))
    × (parse 1 3 (codes "fuse 1 0 0") ≡ None) × (parse 1 3 (codes "fuse 1 1000001 0") ≡ None) × (parse 1 3 (codes "fuse 1 6 18446744073709551616") ≡ None)
    × (parse 1 3 (codes "fuse 1 6") ≡ None) × (parse 1 3 (codes "fuse 3 6 0") ≡ None) × (parse 1 3 (codes "fuse 1 6 0 0") ≡ None)
unfolding parse line_words words_of number_of digits_on
fuses = (refl, refl, refl, refl, refl, refl, refl, refl)

-- the sectors of both versions
sectors_of_lines : (line_sectors 1 ≡ 1424) × (line_sectors 2 ≡ 3984)
sectors_of_lines = (refl, refl)

-- faults: sectors of version 1 are below 1,424, those of version 2 below 3,984, and a write goes astray to another one
faults_of_version_2 : (parse 2 2 (codes "damage 1 3983") ≡ Some (Damage 1 3983)) × (parse 2 2 (codes "stale 0 1424") ≡ Some (Stale 0 1424)) × (parse 2 2 (codes "unread 1 1432") ≡ Some (Unread 1 1432))
    × (parse 2 2 (codes "misdirect 1 1424 3983") ≡ Some (Misdirect 1 1424 3983)) × (parse 2 2 (codes "damage 1 3984") ≡ None) × (parse 2 2 (codes "misdirect 1 3984 0") ≡ None)
unfolding parse line_words words_of number_of digits_on
faults_of_version_2 = (refl, refl, refl, refl, refl, refl)

faults : (parse 1 2 (codes "damage 1 1423") ≡ Some (Damage 1 1423)) × (parse 1 2 (codes "stale 0 81") ≡ Some (Stale 0 81)) × (parse 1 2 (codes "unread 1 0") ≡ Some (Unread 1 0))
    × (parse 1 2 (codes "misdirect 1 81 82") ≡ Some (Misdirect 1 81 82)) × (parse 1 2 (codes "misdirect 1 81 81") ≡ None) × (parse 1 2 (codes "damage 1 1424") ≡ None)
    × (parse 1 2 (codes "stale 2 0") ≡ None) × (parse 1 2 (codes "unread 1") ≡ None) × (parse 1 2 (codes "misdirect 1 81") ≡ None) × (parse 1 2 (codes "misdirect 1 1424 0") ≡ None)
unfolding parse line_words words_of number_of digits_on
faults = (refl, refl, refl, refl, refl, refl, refl, refl, refl, refl)

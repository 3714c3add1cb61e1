-- The definitions at values that were worked out by hand or by another program.
use Rattle.std.specs.Prelude.{ℕ, ◌≡◌, ◌+◌, List, [], ◌∷◌, ◌++◌, take, drop, length, map, replicate, slice_set, refl, true, false, Some, None, Ok, codes}
use Rattle.sha2.specs.Sha256.{sha256, first_words, schedule, rounds, compress, hash_after, digest_bytes}
use Rattle.vr_base.specs.Bytes.{bytes16, bytes32, bytes64, name_of, number, piece}
use Rattle.vr_header.specs.declared.command.Command.TheVariants.{Entry, Commit}
use Rattle.vr_header.specs.declared.header.Header.{Header}
use Rattle.vr_header.specs.declared.header.HeaderFault.TheVariants.{Short, BadSum, BadCommand, BadVersion, BadSize, NotZero}
use Rattle.vr_header.specs.declared.operation.Operation.TheVariants.{Register, Put, Get, Delete}
use Rattle.vr_header.specs.declared.outcome.Outcome.TheVariants as outcome
use Rattle.vr_header.specs.Bodies.{key_of, operation_bytes, operation_of, outcome_bytes, outcome_of, pair_of, value_of}
use Rattle.vr_header.specs.Made.{is_entry_header}
use Rattle.vr_header.specs.Names.{no_name, root_header}
use Rattle.vr_header.specs.Spelling.{code_of, command_of, commands, decoded, fault_of, decoded_header, header_bytes, is_named, named_bytes}
use Rattle.vr_header.specs.Text.{is_text}

-- 19 commands, numbered from 1
codes_of_commands : map code_of commands ≡ 1 ∷ 2 ∷ 3 ∷ 4 ∷ 5 ∷ 6 ∷ 7 ∷ 8 ∷ 9 ∷ 10 ∷ 11 ∷ 12 ∷ 13 ∷ 14 ∷ 15 ∷ 16 ∷ 17 ∷ 18 ∷ 19 ∷ []
codes_of_commands = refl

no_other_command : map command_of (0 ∷ 20 ∷ 255 ∷ []) ≡ None ∷ None ∷ None ∷ []
unfolding command_of
no_other_command = refl

-- the root of group 2
root_bytes : header_bytes (root_header 2) ≡
    30 ∷ 17 ∷ 18 ∷ 139 ∷ 158 ∷ 134 ∷ 171 ∷ 44 ∷ 139 ∷ 24 ∷ 201 ∷ 7 ∷ 124 ∷ 196 ∷ 36 ∷ 168 ∷ 227 ∷ 176 ∷ 196 ∷ 66 ∷ 152 ∷ 252 ∷ 28 ∷ 20 ∷ 154 ∷ 251 ∷ 244 ∷
    200 ∷ 153 ∷ 111 ∷ 185 ∷ 36 ∷ 0 ∷ 0 ∷ 0 ∷ 0 ∷ 0 ∷ 0 ∷ 0 ∷ 0 ∷ 0 ∷ 0 ∷ 0 ∷ 0 ∷ 0 ∷ 0 ∷ 0 ∷ 0 ∷ 0 ∷ 0 ∷ 0 ∷ 0 ∷ 0 ∷ 0 ∷ 0 ∷ 0 ∷ 0 ∷ 0 ∷ 0 ∷ 0 ∷ 0 ∷ 0 ∷ 0
    ∷ 0 ∷ 0 ∷ 0 ∷ 0 ∷ 0 ∷ 0 ∷ 0 ∷ 0 ∷ 2 ∷ 0 ∷ 0 ∷ 0 ∷ 0 ∷ 0 ∷ 0 ∷ 0 ∷ 0 ∷ 0 ∷ 0 ∷ 0 ∷ 0 ∷ 0 ∷ 0 ∷ 0 ∷ 0 ∷ 0 ∷ 0 ∷ 0 ∷ 0 ∷ 0 ∷ 0 ∷ 0 ∷ 0 ∷ 0 ∷ 0 ∷ 0 ∷ 0 ∷
    0 ∷ 0 ∷ 0 ∷ 0 ∷ 0 ∷ 0 ∷ 0 ∷ 128 ∷ 2 ∷ 0 ∷ 1 ∷ 0 ∷ 0 ∷ 0 ∷ 0 ∷ 0 ∷ 0 ∷ 0 ∷ 0 ∷ 0 ∷ 0 ∷ 0 ∷ 0 ∷ 0 ∷ 0 ∷ 0 ∷ 0 ∷ 0 ∷ []
unfolding header_bytes named_bytes bytes32 bytes64 name_of sha256 first_words schedule rounds compress hash_after digest_bytes
root_bytes = refl

-- a commit message of replica 3 in view 9, with all bytes of the greater numbers different
commit : Header
commit = record {
  body = record { 0 = name_of [] };
  parent = no_name;
  request_name = no_name;
  cluster = 0x0102030405060708;
  client = 0;
  request = 0;
  view = 9;
  op = 0x1112131415161718;
  commit = 10;
  size = 128;
  command = Commit;
  replica = 3;
  version = 1;
  kind = 0;
  aux = 0;
}

abbrev commit_bytes : List ℕ
commit_bytes =
    96 ∷ 188 ∷ 150 ∷ 201 ∷ 94 ∷ 66 ∷ 90 ∷ 31 ∷ 17 ∷ 72 ∷ 175 ∷ 254 ∷ 33 ∷ 34 ∷ 10 ∷ 157 ∷ 227 ∷ 176 ∷ 196 ∷ 66 ∷ 152 ∷ 252 ∷ 28 ∷ 20 ∷ 154 ∷ 251 ∷ 244 ∷
    200 ∷ 153 ∷ 111 ∷ 185 ∷ 36 ∷ 0 ∷ 0 ∷ 0 ∷ 0 ∷ 0 ∷ 0 ∷ 0 ∷ 0 ∷ 0 ∷ 0 ∷ 0 ∷ 0 ∷ 0 ∷ 0 ∷ 0 ∷ 0 ∷ 0 ∷ 0 ∷ 0 ∷ 0 ∷ 0 ∷ 0 ∷ 0 ∷ 0 ∷ 0 ∷ 0 ∷ 0 ∷ 0 ∷ 0 ∷ 0 ∷ 0
    ∷ 0 ∷ 1 ∷ 2 ∷ 3 ∷ 4 ∷ 5 ∷ 6 ∷ 7 ∷ 8 ∷ 0 ∷ 0 ∷ 0 ∷ 0 ∷ 0 ∷ 0 ∷ 0 ∷ 0 ∷ 0 ∷ 0 ∷ 0 ∷ 0 ∷ 0 ∷ 0 ∷ 0 ∷ 9 ∷ 17 ∷ 18 ∷ 19 ∷ 20 ∷ 21 ∷ 22 ∷ 23 ∷ 24 ∷ 0 ∷ 0 ∷
    0 ∷ 0 ∷ 0 ∷ 0 ∷ 0 ∷ 10 ∷ 0 ∷ 0 ∷ 0 ∷ 128 ∷ 8 ∷ 3 ∷ 1 ∷ 0 ∷ 0 ∷ 0 ∷ 0 ∷ 0 ∷ 0 ∷ 0 ∷ 0 ∷ 0 ∷ 0 ∷ 0 ∷ 0 ∷ 0 ∷ 0 ∷ 0 ∷ 0 ∷ 0 ∷ []

commit_spelled : header_bytes commit ≡ commit_bytes
unfolding commit header_bytes named_bytes bytes32 bytes64 name_of sha256 first_words schedule rounds compress hash_after digest_bytes
commit_spelled = refl

commit_read : decoded (commit_bytes ++ codes "more") ≡ Ok commit
unfolding commit command_of fault_of decoded_header is_named number piece name_of sha256 first_words schedule rounds compress hash_after digest_bytes
commit_read = refl

-- these bytes in the place of those from a place on, with the name made right again
abbrev with_right_name : ℕ → List ℕ → List ℕ → List ℕ
with_right_name at bytes all =
    let rest = drop 16 (take at all ++ bytes ++ drop (at + length bytes) all) in name_of rest ++ rest

faults : map fault_of
    (take 127 commit_bytes
    ∷ slice_set commit_bytes 127 1
    ∷ with_right_name 108 (0 ∷ 3 ∷ 0 ∷ []) commit_bytes
    ∷ with_right_name 108 (20 ∷ []) commit_bytes
    ∷ with_right_name 110 (3 ∷ []) commit_bytes
    ∷ with_right_name 104 (0 ∷ 0 ∷ 0 ∷ 127 ∷ []) commit_bytes
    ∷ with_right_name 104 (0 ∷ 0 ∷ 80 ∷ 1 ∷ []) commit_bytes
    ∷ with_right_name 104 (0 ∷ 0 ∷ 80 ∷ 0 ∷ []) commit_bytes
    ∷ with_right_name 120 (1 ∷ []) commit_bytes
    ∷ with_right_name 127 (1 ∷ []) commit_bytes ∷ [])
    ≡ Some Short ∷ Some BadSum ∷ Some BadCommand ∷ Some BadCommand ∷ Some BadVersion ∷ Some BadSize ∷ Some BadSize ∷ None ∷ Some NotZero ∷ Some NotZero ∷ []
unfolding command_of fault_of is_named number piece name_of sha256 first_words schedule rounds compress hash_after digest_bytes
faults = refl

-- keys of 1 to 64 bytes, values of 1 to 1,024, each byte from 33 to 126
texts : is_text 64 [] ∷ is_text 64 (replicate 64 97) ∷ is_text 64 (replicate 65 97) ∷ is_text 1024 (replicate 1024 97) ∷ is_text 1024 (replicate 1025 97)
    ∷ map (is_text 64) ((97 ∷ 32 ∷ []) ∷ (33 ∷ 126 ∷ []) ∷ (127 ∷ []) ∷ [])
    ≡ false ∷ true ∷ false ∷ true ∷ false ∷ false ∷ true ∷ false ∷ []
unfolding is_text
texts = refl

bodies : map operation_bytes (Register ∷ Put (codes "k1") (codes "v73") ∷ Get (codes "k1") ∷ Delete (codes "k") ∷ [])
    ≡ (1 ∷ []) ∷ (2 ∷ 2 ∷ 0 ∷ 3 ∷ 107 ∷ 49 ∷ 118 ∷ 55 ∷ 51 ∷ []) ∷ (3 ∷ 2 ∷ 107 ∷ 49 ∷ []) ∷ (4 ∷ 1 ∷ 107 ∷ []) ∷ []
unfolding operation_bytes bytes16
bodies = refl

-- no body: nothing, a byte too many, a key too short or too long for its length, no key, an unknown kind, a blank, lengths past the end
no_bodies : map (operation_of 1) ([] ∷ (1 ∷ 1 ∷ []) ∷ (3 ∷ 2 ∷ 107 ∷ []) ∷ (3 ∷ 1 ∷ 107 ∷ 49 ∷ []) ∷ (3 ∷ 0 ∷ []) ∷ (5 ∷ 1 ∷ 107 ∷ []) ∷ (3 ∷ 1 ∷ 32 ∷ [])
    ∷ (2 ∷ 9 ∷ 0 ∷ 1 ∷ 107 ∷ 118 ∷ []) ∷ (2 ∷ 1 ∷ 0 ∷ 2 ∷ 107 ∷ 118 ∷ []) ∷ (2 ∷ 1 ∷ 1 ∷ 1 ∷ 107 ∷ 118 ∷ []) ∷ [])
    ≡ replicate 10 None
unfolding operation_of pair_of key_of is_text
no_bodies = refl

outcomes : map outcome_bytes (outcome.Session ∷ outcome.Ok ∷ outcome.Full ∷ outcome.Absent ∷ outcome.Value (codes "v7") ∷ [])
    ≡ (1 ∷ []) ∷ (2 ∷ []) ∷ (3 ∷ []) ∷ (4 ∷ []) ∷ (5 ∷ 0 ∷ 2 ∷ 118 ∷ 55 ∷ []) ∷ []
unfolding outcome_bytes bytes16
outcomes = refl

no_outcomes : map (outcome_of 1) ([] ∷ (0 ∷ []) ∷ (2 ∷ 0 ∷ []) ∷ (5 ∷ 0 ∷ 0 ∷ []) ∷ (5 ∷ 0 ∷ 1 ∷ 118 ∷ 55 ∷ []) ∷ (5 ∷ 1 ∷ 2 ∷ 118 ∷ 55 ∷ []) ∷ (6 ∷ []) ∷ [])
    ≡ replicate 7 None
unfolding outcome_of value_of is_text
no_outcomes = refl

-- a header that an entry has, with another size, view, op or commit
abbrev numbered : ℕ → ℕ → ℕ → ℕ → Header
numbered size view op committed = record {
  body = no_name;
  parent = no_name;
  request_name = no_name;
  cluster = 2;
  client = 7;
  request = 0;
  view = view;
  op = op;
  commit = committed;
  size = size;
  command = Entry;
  replica = 0;
  version = 1;
  kind = 0;
  aux = 0;
}

entry_headers : map is_entry_header (numbered 129 0 1 0 ∷ numbered 2048 4294967294 4611686018427387904 0 ∷ numbered 128 0 1 0 ∷ numbered 2049 0 1 0
    ∷ numbered 129 4294967295 1 0 ∷ numbered 129 0 0 0 ∷ numbered 129 0 4611686018427387905 0 ∷ numbered 129 0 1 1 ∷ [])
    ≡ true ∷ true ∷ replicate 6 false
entry_headers = refl

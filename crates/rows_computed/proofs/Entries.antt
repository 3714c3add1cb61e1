-- The entries of the rows, byte for byte, and the names of their texts, computed.
use Rattle.std.proofs.Common.{ℕ, ◌≡◌, List, [], ◌∷◌, codes, refl}
use Rattle.sha2.specs.Sha256.{sha256, first_words, schedule, rounds, compress, hash_after, digest_bytes}
use Rattle.vr_base.specs.Bytes.{bytes16, bytes32, bytes64, name_of}
use Rattle.vr_header.specs.Bodies.{operation_bytes}
use Rattle.vr_header.specs.Made.{Whole}
use Rattle.vr_header.specs.Names.{root_header, request_header}
use Rattle.vr_header.specs.Spelling.{named_bytes}
use Rattle.vr_header.specs.declared.command.Command.TheVariants as command
use Rattle.vr_header.specs.declared.header.Header.{Header}
use Rattle.vr_header.specs.declared.operation.Operation.TheVariants.{Register, Put}

abbrev pub root_name : List ℕ
root_name = 138 ∷ 203 ∷ 80 ∷ 252 ∷ 35 ∷ 108 ∷ 108 ∷ 53 ∷ 55 ∷ 121 ∷ 24 ∷ 140 ∷ 151 ∷ 4 ∷ 171 ∷ 135 ∷ []

abbrev pub register_name : List ℕ
register_name = 75 ∷ 245 ∷ 18 ∷ 47 ∷ 52 ∷ 69 ∷ 84 ∷ 197 ∷ 59 ∷ 222 ∷ 46 ∷ 187 ∷ 140 ∷ 210 ∷ 183 ∷ 227 ∷ []

abbrev pub asks_register : List ℕ
asks_register = 225 ∷ 151 ∷ 146 ∷ 65 ∷ 10 ∷ 72 ∷ 19 ∷ 222 ∷ 216 ∷ 159 ∷ 246 ∷ 137 ∷ 210 ∷ 95 ∷ 138 ∷ 62 ∷ []

abbrev pub first_name : List ℕ
first_name = 130 ∷ 184 ∷ 109 ∷ 16 ∷ 92 ∷ 121 ∷ 25 ∷ 162 ∷ 189 ∷ 111 ∷ 165 ∷ 176 ∷ 18 ∷ 76 ∷ 208 ∷ 40 ∷ []

abbrev pub put_name : List ℕ
put_name = 140 ∷ 226 ∷ 64 ∷ 87 ∷ 140 ∷ 13 ∷ 79 ∷ 67 ∷ 106 ∷ 142 ∷ 72 ∷ 52 ∷ 56 ∷ 146 ∷ 13 ∷ 24 ∷ []

abbrev pub asks_put : List ℕ
asks_put = 71 ∷ 110 ∷ 98 ∷ 199 ∷ 229 ∷ 8 ∷ 9 ∷ 139 ∷ 86 ∷ 70 ∷ 164 ∷ 106 ∷ 184 ∷ 135 ∷ 158 ∷ 126 ∷ []

abbrev pub second_name : List ℕ
second_name = 247 ∷ 81 ∷ 179 ∷ 56 ∷ 22 ∷ 176 ∷ 47 ∷ 82 ∷ 80 ∷ 151 ∷ 69 ∷ 31 ∷ 139 ∷ 253 ∷ 171 ∷ 100 ∷ []

-- of client 8's register, in view 1, after the first entry
abbrev pub asks_later : List ℕ
asks_later = 207 ∷ 201 ∷ 149 ∷ 72 ∷ 13 ∷ 103 ∷ 61 ∷ 181 ∷ 150 ∷ 99 ∷ 29 ∷ 4 ∷ 208 ∷ 131 ∷ 44 ∷ 148 ∷ []

abbrev pub third_name : List ℕ
third_name = 138 ∷ 102 ∷ 254 ∷ 128 ∷ 217 ∷ 46 ∷ 45 ∷ 12 ∷ 222 ∷ 161 ∷ 80 ∷ 190 ∷ 97 ∷ 122 ∷ 140 ∷ 188 ∷ []

abbrev pub first_header : Header
first_header = record {
  body = record { 0 = register_name };
  parent = record { 0 = root_name };
  request_name = record { 0 = asks_register };
  cluster = 0;
  client = 7;
  request = 0;
  view = 0;
  op = 1;
  commit = 0;
  size = 129;
  command = command.Entry;
  replica = 0;
  version = 1;
  kind = 0;
  aux = 0;
}

abbrev pub second_header : Header
second_header = record {
  body = record { 0 = put_name };
  parent = record { 0 = first_name };
  request_name = record { 0 = asks_put };
  cluster = 0;
  client = 7;
  request = 1;
  view = 0;
  op = 2;
  commit = 0;
  size = 134;
  command = command.Entry;
  replica = 0;
  version = 1;
  kind = 0;
  aux = 0;
}

abbrev pub third_header : Header
third_header = record {
  body = record { 0 = register_name };
  parent = record { 0 = first_name };
  request_name = record { 0 = asks_later };
  cluster = 0;
  client = 8;
  request = 0;
  view = 1;
  op = 2;
  commit = 0;
  size = 129;
  command = command.Entry;
  replica = 0;
  version = 1;
  kind = 0;
  aux = 0;
}

abbrev pub first : Whole
first = record { header = first_header; operation = Register }

abbrev pub second : Whole
second = record { header = second_header; operation = Put (codes "a") (codes "b") }

abbrev pub third : Whole
third = record { header = third_header; operation = Register }

pub root_named : name_of (named_bytes (root_header 0)) ≡ root_name
unfolding operation_bytes named_bytes bytes16 bytes32 bytes64 name_of sha256 first_words schedule rounds compress hash_after digest_bytes
root_named = refl

pub register_named : name_of (operation_bytes Register) ≡ register_name
unfolding operation_bytes named_bytes bytes16 bytes32 bytes64 name_of sha256 first_words schedule rounds compress hash_after digest_bytes
register_named = refl

pub first_named : name_of (named_bytes first_header) ≡ first_name
unfolding operation_bytes named_bytes bytes16 bytes32 bytes64 name_of sha256 first_words schedule rounds compress hash_after digest_bytes
first_named = refl

pub put_named : name_of (operation_bytes (Put (codes "a") (codes "b"))) ≡ put_name
unfolding operation_bytes named_bytes bytes16 bytes32 bytes64 name_of sha256 first_words schedule rounds compress hash_after digest_bytes
put_named = refl

pub asks_register_named : name_of (named_bytes (request_header 1 0 7 0 Register)) ≡ asks_register
unfolding operation_bytes named_bytes bytes16 bytes32 bytes64 name_of sha256 first_words schedule rounds compress hash_after digest_bytes
asks_register_named = refl

pub asks_put_named : name_of (named_bytes (request_header 1 0 7 1 (Put (codes "a") (codes "b")))) ≡ asks_put
unfolding operation_bytes named_bytes bytes16 bytes32 bytes64 name_of sha256 first_words schedule rounds compress hash_after digest_bytes
asks_put_named = refl

pub second_named : name_of (named_bytes second_header) ≡ second_name
unfolding operation_bytes named_bytes bytes16 bytes32 bytes64 name_of sha256 first_words schedule rounds compress hash_after digest_bytes
second_named = refl

pub asks_later_named : name_of (named_bytes (request_header 1 0 8 0 Register)) ≡ asks_later
unfolding operation_bytes named_bytes bytes16 bytes32 bytes64 name_of sha256 first_words schedule rounds compress hash_after digest_bytes
asks_later_named = refl

pub third_named : name_of (named_bytes third_header) ≡ third_name
unfolding operation_bytes named_bytes bytes16 bytes32 bytes64 name_of sha256 first_words schedule rounds compress hash_after digest_bytes
third_named = refl

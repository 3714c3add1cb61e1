-- What the superblock of a member names at first, and the name of that, computed over 10,224 bytes.
use Rattle.std.proofs.Common.{ℕ, ◌≡◌, List, [], ◌∷◌, refl}
use Rattle.sha2.specs.Sha256.{sha256, first_words, schedule, rounds, compress, hash_after, digest_bytes}
use Rattle.vr_base.specs.Bytes.{bytes16, bytes32, bytes64, name_of}
use Rattle.vr_base.specs.Kinds.{strict}
use Rattle.vr_super.specs.Copies.{front_bytes, list_bytes, named_bytes, zeros}
use Rattle.vr_rules.specs.Opening.{first_value}

-- of member 1 of three
abbrev pub value_text : List ℕ
value_text = named_bytes (first_value strict 0 3 1)

abbrev value_name : List ℕ
value_name = 28 ∷ 90 ∷ 158 ∷ 80 ∷ 64 ∷ 1 ∷ 252 ∷ 52 ∷ 238 ∷ 179 ∷ 6 ∷ 61 ∷ 95 ∷ 65 ∷ 240 ∷ 164 ∷ []

pub value_named : name_of value_text ≡ value_name
unfolding named_bytes front_bytes list_bytes zeros bytes16 bytes32 bytes64 name_of sha256 first_words schedule rounds compress hash_after digest_bytes
value_named = refl

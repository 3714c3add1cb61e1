-- Rows of values that make a good copy, and of values that don't.
use Rattle.std.specs.Prelude.{ℕ, ◌≡◌, true, false, [], ◌∷◌, drop, replicate, take}
use Rattle.std.proofs.Common.{refl}
use Rattle.vr_base.specs.declared.mode.Mode.TheVariants.{Strict}
use Rattle.vr_base.specs.declared.sum.Sum.{Sum}
use Rattle.vr_base.specs.Bytes.{bytes16, bytes32, bytes64}
use Rattle.vr_header.specs.declared.command.Command.TheVariants.{Entry}
use Rattle.vr_header.specs.declared.header.Header.{Header}
use Rattle.vr_super.specs.declared.fields.Fields.{Fields}
use Rattle.vr_super.specs.Copies.{are_listed, front_bytes, good_fields, is_listed, zeros}

none : Sum
none = record { 0 = replicate 16 0 }

-- the first entry, of a version
entry : ℕ → Header
entry version = record {
  body = none;
  parent = none;
  request_name = none;
  cluster = 3;
  client = 5;
  request = 1;
  view = 0;
  op = 1;
  commit = 0;
  size = 129;
  command = Entry;
  replica = 0;
  version = version;
  kind = 0;
  aux = 0;
}

-- member 0 of so many, with one entry in a file of a version
fields : ℕ → ℕ → Fields
fields version n = record {
  sequence = 1;
  cluster = 3;
  view = 0;
  log_view = 0;
  checkpoint = 0;
  root_address = 0;
  root_name = none;
  commit = 0;
  head = 1;
  replica = 0;
  n = n;
  version = version;
  mode = Strict;
}

-- groups of 1, 2, 6 and 7 in either version
groups : good_fields (fields 1 1) 1 ∷ good_fields (fields 1 2) 1 ∷ good_fields (fields 1 6) 1 ∷ good_fields (fields 1 7) 1 ∷ good_fields (fields 2 1) 1 ∷ good_fields (fields 2 2) 1 ∷ good_fields (fields 2 6) 1 ∷ good_fields (fields 2 7) 1 ∷ []
    ≡ false ∷ true ∷ true ∷ false ∷ true ∷ true ∷ true ∷ false ∷ []
unfolding good_fields none fields
groups = refl

-- entries of either version in a file of either
entries : are_listed (fields 1 3) 1 (entry 1 ∷ []) ∷ are_listed (fields 1 3) 1 (entry 2 ∷ []) ∷ are_listed (fields 2 3) 1 (entry 1 ∷ []) ∷ are_listed (fields 2 3) 1 (entry 2 ∷ []) ∷ []
    ≡ true ∷ false ∷ true ∷ true ∷ []
unfolding are_listed is_listed none fields entry
entries = refl

-- bytes 90 to 93: the member, how many there are, the version and the mode
members : take 4 (drop 74 (front_bytes (fields 2 1) 1)) ≡ 0 ∷ 1 ∷ 2 ∷ 0 ∷ []
unfolding front_bytes bytes16 bytes32 bytes64 none fields zeros
members = refl

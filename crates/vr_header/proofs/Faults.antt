-- What bytes without a fault are.
use Rattle.std.proofs.Common.{◌≡◌, ℕ, ◌≤◌, Bool, true, false, cond, List, length, refl, Option, Some, None, Ok}
use Rattle.std.specs.Prelude.{is_none, is_ok, slice_index}
use Rattle.std.specs.Int.{w32, w64}
use Rattle.std.proofs.lemmas.Bool.{ltb-false, eqb-true}
use Rattle.vr_header.specs.declared.header.HeaderFault.{HeaderFault}
use Rattle.vr_base.specs.Bytes.{number}
use Rattle.vr_base.proofs.Versions.{version_of}
use Rattle.vr_header.proofs.Truths.{not_false, size_of}
use Rattle.vr_header.specs.Spelling.{command_of, decoded, fault_of, decoded_header, is_named}

-- each test passed
pub record IsSound (b : List ℕ) : Type 0 where
  pub long : 128 ≤ length b
  pub named : is_named b ≡ true
  pub command : is_none (command_of (slice_index b 108)) ≡ false
  pub version : (1 ≤ slice_index b 110) × (slice_index b 110 ≤ 2)
  pub size : (128 ≤ number w32 104 b) × (number w32 104 b ≤ 20480)
  pub zeros : number w64 120 b ≡ 0

passed : (t : Bool) (fault : HeaderFault) (rest : Option HeaderFault) → cond t (Some fault) rest ≡ None → (t ≡ false) × (rest ≡ None)
passed true fault rest e = absurd cc
passed false fault rest e = (refl, e)

pub sound : (b : List ℕ) → fault_of b ≡ None → IsSound b
unfolding fault_of
sound b e =
    let long = passed _ _ _ e in
    let named = passed _ _ _ long.1 in
    let command = passed _ _ _ named.1 in
    let version = passed _ _ _ command.1 in
    let size = passed _ _ _ version.1 in
    let zeros = passed _ _ _ size.1 in
    record {
      long = ltb-false _ _ long.0;
      named = not_false _ named.0;
      command = command.0;
      version = version_of _ (not_false _ version.0);
      size = size_of _ (not_false _ size.0);
      zeros = eqb-true _ _ (not_false _ zeros.0);
    }

-- what reading the fields at their places needs
pub no_fault : (b : List ℕ) → fault_of b ≡ None → (128 ≤ length b) × (128 ≤ number w32 104 b) × (number w32 104 b ≤ 20480) × (1 ≤ slice_index b 110) × (slice_index b 110 ≤ 2)
no_fault b e = let s = sound b e in (s.long, s.size.0, s.size.1, s.version.0, s.version.1)

pub none_of_ok : (b : List ℕ) → is_ok (decoded b) ≡ true → fault_of b ≡ None
none_of_ok b e =
    let cases : (o : Option HeaderFault) → fault_of b ≡ o → fault_of b ≡ None =
    elim [
      | None ↦ λ o. o
      | Some f ↦ λ o. absurd (let r = rw o at e in cc)
    ] in
    cases (fault_of b) refl

pub no_fault_of_ok : (b : List ℕ) → is_ok (decoded b) ≡ true → (128 ≤ length b) × (128 ≤ number w32 104 b) × (number w32 104 b ≤ 20480) × (1 ≤ slice_index b 110) × (slice_index b 110 ≤ 2)
no_fault_of_ok b e = no_fault b (none_of_ok b e)

pub read_at : (b : List ℕ) → is_ok (decoded b) ≡ true → decoded b ≡ Ok (decoded_header b)
read_at b e = rw (none_of_ok b e) refl

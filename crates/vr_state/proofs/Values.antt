-- How long a value is, and what a text with one has.
use Rattle.std.proofs.Common.{◌≡◌, ℕ, ◌+◌, ◌≤◌, List, length, Bool, true, false, leb, refl, arith, ◌&&◌}
use Rattle.std.proofs.lemmas.Bool.{and_parts, leb-true}
use Rattle.std.proofs.lemmas.List.{length-append}
use Rattle.std.specs.List.{list_all}
use Rattle.vr_base.specs.Versions.{value_limit}
use Rattle.vr_base.proofs.FieldLaws.{length-bytes16, length-bytes32, length-bytes64}
use Rattle.vr_header.specs.Bodies.{outcome_bytes}
use Rattle.vr_header.specs.Text.{is_text, is_printable}
use Rattle.vr_header.specs.declared.outcome.Outcome.TheVariants as outcome
use Rattle.vr_state.specs.declared.session.Session.{Session}
use Rattle.vr_state.specs.SessionTexts.{session_text}

pub value_length : (bytes : List ℕ) → is_text (value_limit 2) bytes ≡ true → length bytes ≤ value_limit 2
unfolding is_text
value_length bytes h = leb-true (length bytes) (value_limit 2) (and_parts _ _ (and_parts _ _ h).0).1

-- of a text its length alone says whether it is one within another limit
pub text_by_length : (a b : ℕ) (bytes : List ℕ) → is_text a bytes ≡ true → is_text b bytes ≡ leb (length bytes) b
unfolding is_text
text_by_length a b bytes h =
    let parts = and_parts (leb 1 (length bytes) && leb (length bytes) a) (list_all is_printable bytes) h in
    let some = (and_parts (leb 1 (length bytes)) (leb (length bytes) a) parts.0).0 in
    let by : (within : Bool) → (true && within && true) ≡ within = elim [ true ↦ refl | false ↦ refl ] in
    rw (some, parts.1) (by (leb (length bytes) b))

pub length_of_value : (value : List ℕ) → length (outcome_bytes (outcome.Value value)) ≡ 1 + (2 + length value)
unfolding outcome_bytes
length_of_value value = simp (length-append, length-bytes16) (omega arith)

pub length_of_session : (client : ℕ) (s : Session) → length (session_text (client, s)) ≡ 20 + length (outcome_bytes s.outcome)
unfolding session_text
length_of_session client s = simp (length-append, length-bytes64, length-bytes32) (omega arith)

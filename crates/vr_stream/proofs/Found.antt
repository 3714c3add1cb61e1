-- The messages that are found are those that the bytes begin with, as many as there are.
use Rattle.std.proofs.Common.{subst, ◌≡◌, ◌∙◌, ◌≤◌, ◌-◌, ℕ, zero, suc, nat_le, Bool, true, false, List, [], ◌∷◌, ◌++◌, length, take, drop, Option, Some, None, Result, Ok, Err, refl, ap, sym, arith}
use Rattle.std.specs.List.{flat_map}
use Rattle.std.proofs.lemmas.Grind.{common_steps}
use Rattle.std.proofs.lemmas.List.{append_assoc, length-drop, take-append-drop}
use Rattle.vr_base.proofs.FieldLaws.{IsBytes-drop, IsBytes-piece}
use Rattle.vr_base.specs.Bytes.{IsBytes, piece}
use Rattle.vr_header.specs.Spelling.{decoded}
use Rattle.vr_header.specs.declared.header.Header.{Header}
use Rattle.vr_header.specs.declared.header.HeaderFault.{HeaderFault}
use Rattle.vr_codec.proofs.Decided.{some_message}
use Rattle.vr_codec.specs.Shapes.{inspected}
use Rattle.vr_codec.specs.declared.fault.MsgFault.{MsgFault}
use Rattle.vr_stream.proofs.Messages.{first_found, first_there, none_behind, none_found, one_behind}
use Rattle.vr_stream.specs.Connections.{MessagesAreCut}
use Rattle.vr_stream.specs.Cutting.{AreMessages, BeginsNone, IsMessage, first_message, first_sized, first_with, messages, messages_in, rest_in, rest_of}

sized_is : (size : ℕ) (bytes m : List ℕ) → IsBytes bytes → first_sized size bytes ≡ Some m → IsMessage m
unfolding piece
sized_is size bytes m i e =
    let cases : (a b : Bool) (r : Result Header MsgFault) → nat_le 128 size ≡ a → nat_le size (length bytes) ≡ b → inspected (take size bytes) ≡ r → IsMessage m =
    elim [
      | true ↦ elim [
        | true ↦ elim [
          | Ok h ↦ λ p q r.
              let same : take size bytes ≡ m = (let o : first_sized size bytes ≡ Some (take size bytes) = rw (p, q, r) refl in let t : Some (take size bytes) ≡ Some m = sym o ∙ e in cc) in
              subst IsMessage same (some_message (take size bytes) h (IsBytes-piece 0 size bytes i) r)
          | Err f ↦ λ p q r. absurd (let o : first_sized size bytes ≡ None = rw (p, q, r) refl in let t : None ≡ Some m = sym o ∙ e in cc)
        ]
        | false ↦ λ r p q s. absurd (let o : first_sized size bytes ≡ None = rw (p, q) refl in let t : None ≡ Some m = sym o ∙ e in cc)
      ]
      | false ↦ λ b r p q s. absurd (let o : first_sized size bytes ≡ None = rw p refl in let t : None ≡ Some m = sym o ∙ e in cc)
    ] in
    cases (nat_le 128 size) (nat_le size (length bytes)) (inspected (take size bytes)) refl refl refl

first_is : (bytes m : List ℕ) → IsBytes bytes → first_message bytes ≡ Some m → IsMessage m
unfolding first_message
first_is bytes m i e =
    let cases : (r : Result Header HeaderFault) → first_with bytes r ≡ Some m → IsMessage m =
    elim [
      | Ok h ↦ λ x. sized_is h.size bytes m i x
      | Err f ↦ λ x. absurd (let t : None ≡ Some m = x in cc)
    ] in
    cases (decoded bytes) e

none_begins : (bytes : List ℕ) → first_message bytes ≡ None → BeginsNone bytes
none_begins bytes e = λ front rest j x. absurd (let t : None ≡ Some front = sym e ∙ first_there front rest bytes x j in cc)

none_cut : (bytes : List ℕ) → first_message bytes ≡ None → AreMessages [] bytes bytes
none_cut bytes e = record { each = tt; joined = refl; longest = none_begins bytes e }

one_cut : (bytes m rest : List ℕ) (ms : List (List ℕ)) → IsMessage m → take (length m) bytes ≡ m → AreMessages ms rest (drop (length m) bytes)
    → AreMessages (m ∷ ms) rest bytes
one_cut bytes m rest ms x front a = record {
  each = (x, a.each);
  joined = append_assoc m (flat_map (λ y. y) ms) rest ∙ (ap (λ z. m ++ z) a.joined ∙ (ap (λ z. z ++ drop (length m) bytes) (sym front) ∙ take-append-drop (length m) bytes));
  longest = a.longest;
}

cut_in : (n : ℕ) (bytes : List ℕ) → IsBytes bytes → length bytes ≤ n → AreMessages (messages_in n bytes) (rest_in n bytes) bytes
cut_in zero bytes i l =
    let empty : bytes ≡ [] = grind (arith, common_steps, l) in
    let e : first_message bytes ≡ None = ap first_message empty ∙ none_found in
    let n = none_behind zero bytes e in
    rw (n.0, n.1) (none_cut bytes e)
cut_in (suc n) bytes i l =
    let cases : (o : Option (List ℕ)) → first_message bytes ≡ o → AreMessages (messages_in (suc n) bytes) (rest_in (suc n) bytes) bytes =
    elim [
      | None ↦ λ e. let z = none_behind (suc n) bytes e in rw (z.0, z.1) (none_cut bytes e)
      | Some m ↦ λ e.
          let f = first_found bytes m e in
          let long = f.long in
          let left : length (drop (length m) bytes) ≡ length bytes - length m = length-drop (length m) bytes in
          let behind = cut_in n (drop (length m) bytes) (IsBytes-drop (length m) bytes i) (omega (arith, left, long, l)) in
          let z = one_behind n bytes m e in
          rw (z.0, z.1) (one_cut bytes m (rest_in n (drop (length m) bytes)) (messages_in n (drop (length m) bytes)) (first_is bytes m i e) f.front behind)
    ] in
    cases (first_message bytes) refl

pub messages_are_cut : MessagesAreCut
unfolding messages rest_of
messages_are_cut bytes i = cut_in (length bytes) bytes i (omega arith)

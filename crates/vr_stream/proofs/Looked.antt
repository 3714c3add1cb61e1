-- What stands at the front of bytes.
use Rattle.std.proofs.Common.{inl, ◌≡◌, ◌∙◌, ◌≤◌, ◌<◌, inr, ℕ, List, length, take, Bool, true, false, nat_lt, Option, Some, None, Result, Ok, Err, refl, ap, sym, arith}
use Rattle.std.specs.Int.{w32}
use Rattle.std.specs.Option.{option_map_or}
use Rattle.std.proofs.lemmas.Grind.{common_steps}
use Rattle.vr_base.specs.Bytes.{IsBytes, number, piece}
use Rattle.vr_base.proofs.FieldLaws.{IsBytes-piece}
use Rattle.vr_header.specs.Spelling.{decoded, decoded_header, fault_of, IsHeader}
use Rattle.vr_header.specs.declared.header.Header.{Header}
use Rattle.vr_header.specs.declared.header.HeaderFault.{HeaderFault}
use Rattle.vr_header.proofs.Faults.{no_fault}
use Rattle.vr_codec.proofs.Decided.{some_message}
use Rattle.vr_codec.proofs.Fitting.{no_fault_in}
use Rattle.vr_codec.specs.Deciding.{IsFault}
use Rattle.vr_codec.specs.Shapes.{inspected}
use Rattle.vr_codec.specs.declared.fault.MsgFault.{MsgFault}
use Rattle.vr_codec.specs.declared.fault.MsgFault.TheVariants as fault
use Rattle.vr_stream.specs.Cutting.{IsBroken, IsShort, IsSized, IsUnsized, first_message, first_sized, first_with}
use Rattle.vr_stream.proofs.Fronts.{no_fault_of}

-- a header's size is what stands at its place
pub size_read : (bytes : List ℕ) (h : Header) → decoded bytes ≡ Ok h → h.size ≡ number w32 104 bytes
unfolding decoded_header
size_read bytes h e =
    let cases : (o : Option HeaderFault) → option_map_or Err o (Ok (decoded_header bytes)) ≡ Ok h → h.size ≡ number w32 104 bytes =
    elim [
      | None ↦ λ d. let same : decoded_header bytes ≡ h = cc in ap (λ (x : Header). x.size) (sym same)
      | Some f ↦ λ d. absurd (let clash : Err f ≡ Ok h = d in cc)
    ] in
    cases (fault_of bytes) e

pub is_short : (bytes : List ℕ) (h : Header) → IsUnsized bytes → decoded bytes ≡ Ok h → IsHeader h → IsShort bytes
is_short bytes h u e i =
    let cases : (b : Bool) → nat_lt (length bytes) h.size ≡ b → length bytes < h.size =
    elim [
      | true ↦ λ t. grind (arith, t)
      | false ↦ λ t. absurd (u.none h.size (record { long = i.size.0; short = i.size.1; there = grind (arith, t); said = sym (size_read bytes h e) }))
    ] in
    inr (h, e, cases (nat_lt (length bytes) h.size) refl)

-- no message stands where there is no header
none_first : (bytes : List ℕ) (f : HeaderFault) → decoded bytes ≡ Err f → first_message bytes ≡ None
unfolding first_message
none_first bytes f e = ap (first_with bytes) e

-- nor where as many bytes have come as the header says, with a fault
fault_first : (bytes : List ℕ) (size : ℕ) (f : MsgFault) → IsBytes bytes → IsFault (take size bytes) f → first_sized size bytes ≡ None
unfolding piece
fault_first bytes size f i e =
    let taken : IsBytes (take size bytes) = IsBytes-piece 0 size bytes i in
    let cases : (r : Result Header MsgFault) → inspected (take size bytes) ≡ r → first_sized size bytes ≡ None =
    elim [
      | Ok h ↦ λ o. let m = some_message (take size bytes) h taken o in absurd (no_fault_of m.0 (take size bytes) f m.1 e)
      | Err g ↦ λ o. grind (arith, common_steps, o)
    ] in
    cases (inspected (take size bytes)) refl

broken_first : (bytes : List ℕ) (size : ℕ) (f : MsgFault) → IsBytes bytes → IsSized bytes size → IsFault (take size bytes) f → first_message bytes ≡ None
unfolding first_message
broken_first bytes size f i s e =
    let cases : (r : Result Header HeaderFault) → decoded bytes ≡ r → first_with bytes r ≡ None =
    elim [
      | Ok h ↦ λ d. ap (λ n. first_sized n bytes) (size_read bytes h d ∙ s.said) ∙ fault_first bytes size f i e
      | Err g ↦ λ d. refl
    ] in
    cases (decoded bytes) refl

pub header_broken : (bytes : List ℕ) (f : HeaderFault) → IsUnsized bytes → decoded bytes ≡ Err f → IsBroken bytes (fault.Header f)
header_broken bytes f u e =
    let all : take (length bytes) bytes ≡ bytes = grind (arith, common_steps) in
    record {
      size = length bytes;
      long = u.long;
      there = omega arith;
      sized = λ h d. absurd (let clash : Ok h ≡ Err f = sym d ∙ e in cc);
      fault = ap decoded all ∙ e;
      none = none_first bytes f e;
    }

pub message_broken : (bytes : List ℕ) (size : ℕ) (f : MsgFault) → IsBytes bytes → IsSized bytes size → IsFault (take size bytes) f → IsBroken bytes f
message_broken bytes size f i s e =
    record { size = size; long = s.long; there = s.there; sized = λ h d. size_read bytes h d ∙ s.said; fault = e; none = broken_first bytes size f i s e }

pub short_room : (bytes : List ℕ) → IsShort bytes → length bytes < 20480
short_room bytes (inl less) = omega (arith, less)
short_room bytes (inr (h, d, less)) =
    let most : number w32 104 bytes ≤ 20480 = (no_fault bytes (no_fault_in bytes h d).0).2 in
    omega (arith, less, size_read bytes h d, most)

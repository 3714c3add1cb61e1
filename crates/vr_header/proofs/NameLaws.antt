-- Headers by their names.
use Rattle.std.proofs.Common.{◌≡◌, ℕ, List, ◌++◌, refl, sym, ap, ◌∙◌, arith, Ok}
use Rattle.std.specs.Prelude.{◌↔◌}
use Rattle.std.proofs.lemmas.List.{take_all}
use Rattle.vr_base.specs.Bytes.{name_of}
use Rattle.vr_header.specs.declared.header.Header.{Header}
use Rattle.vr_header.specs.declared.operation.Operation.{Operation}
use Rattle.vr_header.specs.declared.operation.Operation.TheVariants.{Register}
use Rattle.vr_header.specs.Bodies.{IsOperation}
use Rattle.vr_header.specs.Made.{IsBodyOf, IsRequest}
use Rattle.vr_header.specs.Names.{header_name, request_header}
use Rattle.vr_header.specs.NoCollision.{NoCollision}
use Rattle.vr_header.specs.Spelling.{IsHeader, Spells, decoded, header_bytes, named_bytes}
use Rattle.vr_header.proofs.HeaderLaws.{decoded_again, length-header_bytes}

-- bytes 16 to 127 tell all fields
pub one_header_of_bytes : (h k : Header) → IsHeader h → IsHeader k → named_bytes h ≡ named_bytes k → h ≡ k
unfolding header_bytes
one_header_of_bytes h k fh fk e =
    let same : header_bytes h ≡ header_bytes k = ap (λ t. name_of t ++ t) e in
    let all : (x : Header) → IsHeader x → Spells x (header_bytes x) = λ x f. take_all 128 (header_bytes x) (omega (arith, length-header_bytes x f)) in
    let read : Ok h ≡ Ok k = sym (decoded_again h (header_bytes h) fh (all h fh)) ∙ (ap decoded same ∙ decoded_again k (header_bytes k) fk (all k fk)) in cc

-- where no two hashed texts share a name, headers of one name are one header
pub one_header : (IsHashed : List ℕ → Type 0) → NoCollision IsHashed → (h k : Header) → IsHeader h → IsHeader k
    → IsHashed (named_bytes h) → IsHashed (named_bytes k) → header_name h ≡ header_name k → h ≡ k
one_header IsHashed never h k fh fk hashed_h hashed_k e =
    one_header_of_bytes h k fh fk (never (named_bytes h) (named_bytes k) hashed_h hashed_k (ap (λ s. s.0) e))

-- the header of a request is one
pub request_is : (version cluster client request : ℕ) (operation : Operation) → ((operation ≡ Register) ↔ (request ≡ 0)) → IsOperation version operation → IsRequest (request_header version cluster client request operation) operation
request_is version cluster client request operation first fits =
    let body : IsBodyOf (request_header version cluster client request operation) operation = record { name = refl; size = refl; first = first; fits = fits } in
    record { command = refl; body = body; parent = refl; request_name = refl; view = refl; op = refl; commit = refl; replica = refl; kind = refl; aux = refl }

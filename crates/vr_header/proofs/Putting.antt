-- Pieces put one after the other.
use Rattle.std.proofs.Common.{true, false, cond, eqb, ℕ, ◌+◌, ◌-◌, ◌≤◌, ◌≡◌, arith, sym, ap, ◌∙◌, List, ◌∷◌, ◌++◌, length, drop, length-append}
use Rattle.std.proofs.lemmas.List.{drop-drop}
use Rattle.vr_base.specs.Bytes.{bytes16}
use Rattle.vr_base.proofs.FieldLaws.{length-bytes16}
use Rattle.vr_base.specs.Versions.{body_limit, value_limit}
use Rattle.vr_header.specs.Bodies.{IsOperation, operation_bytes}
use Rattle.vr_header.specs.declared.operation.Operation.{Operation}
use Rattle.vr_header.specs.declared.operation.Operation.TheVariants.{Register, Put, Get, Delete}
use Rattle.vr_header.proofs.BodyLaws.{text_limit}
use Rattle.vr_header.specs.Made.{Whole, entry_bytes}
use Rattle.vr_header.specs.Spelling.{IsHeader, header_bytes}
use Rattle.vr_header.proofs.HeaderLaws.{length-header_bytes}

-- what is the same from a place on is the same from a later one on
pub further : (n m : ℕ) (a b : List ℕ) → n ≤ m → drop n a ≡ drop n b → drop m a ≡ drop m b
further n m a b l e =
    let s : n + (m - n) ≡ m = omega arith in
    ap (λ k. drop k a) (sym s) ∙ (sym (drop-drop (m - n) n a) ∙ (ap (drop (m - n)) e ∙ (drop-drop (m - n) n b ∙ ap (λ k. drop k b) s)))

pub length-put : (key value : List ℕ) → length (operation_bytes (Put key value)) ≡ 4 + length key + length value
unfolding operation_bytes
length-put key value =
    let a = length-append (2 ∷ length key ∷ bytes16 (length value)) (key ++ value) in
    let b = length-append key value in
    let c = length-bytes16 (length value) in
    omega arith

pub length-entry : (e : Whole) → IsHeader e.header → length (entry_bytes e) ≡ 128 + length (operation_bytes e.operation)
unfolding entry_bytes
length-entry e h =
    let a = length-append (header_bytes e.header) (operation_bytes e.operation) in
    let b = length-header_bytes e.header h in
    omega arith

longest : (v : ℕ) → value_limit v + 68 ≤ body_limit v
longest v = elim (eqb v 2) as (λ t. cond t 3000 1024 + 68 ≤ cond t 3968 1920) [ true ↦ omega arith | false ↦ omega arith ]

-- an operation of a version is no longer than a body of it
pub body_fits : (v : ℕ) (o : Operation) → IsOperation v o → length (operation_bytes o) ≤ body_limit v
unfolding operation_bytes
body_fits v Register g = let l = longest v in omega arith
body_fits v (Put key value) g =
    let a = length-append (2 ∷ length key ∷ bytes16 (length value)) (key ++ value) in
    let b = length-append key value in
    let c = length-bytes16 (length value) in
    let k = text_limit 64 key g.0 in
    let m = text_limit (value_limit v) value g.1 in
    let l = longest v in
    omega arith
body_fits v (Get key) g = let k = text_limit 64 key g in let l = longest v in omega arith
body_fits v (Delete key) g = let k = text_limit 64 key g in let l = longest v in omega arith

-- Two prepares whose == is true are one.
use Rattle.std.proofs.Common.{◌≡◌, true, refl, ap}
use Rattle.std.proofs.lemmas.Bool.{and_parts, eqb-true}
use Rattle.std.proofs.lemmas.Slice.Eq.{bytes_eq-Decides}
use Rattle.vr_header.specs.contracts.entry.EntryPartialEq.TheImpl as entries
use Rattle.vr_header.specs.contracts.operation.OperationPartialEq.TheImpl as operations
use Rattle.vr_header.specs.declared.operation.Operation.{Operation}
use Rattle.vr_header.specs.declared.operation.Operation.TheVariants.{Register, Put, Get, Delete}
use Rattle.vr_header.specs.Made.{Whole}
use Rattle.vr_header.specs.Same.{same_header}
use Rattle.vr_header.proofs.SameHeaders.{same_header_is}
use Rattle.vr_msg.specs.contracts.frame.PreparePartialEq.TheImpl as prepares
use Rattle.vr_msg.specs.declared.frame.Prepare.{Prepare}

operation_is : (a b : Operation) → operations.ghosts.eq a b ≡ true → a ≡ b
operation_is Register Register e = refl
operation_is (Put k v) (Put l w) e =
    let p = and_parts _ _ e in
    let key = (bytes_eq-Decides k l).0 p.0 in
    let value = (bytes_eq-Decides v w).0 p.1 in
    λ i. Put (key i) (value i)
operation_is (Get k) (Get l) e = ap Get ((bytes_eq-Decides k l).0 e)
operation_is (Delete k) (Delete l) e = ap Delete ((bytes_eq-Decides k l).0 e)
operation_is Register (Put l w) e = absurd cc
operation_is Register (Get l) e = absurd cc
operation_is Register (Delete l) e = absurd cc
operation_is (Put k v) Register e = absurd cc
operation_is (Put k v) (Get l) e = absurd cc
operation_is (Put k v) (Delete l) e = absurd cc
operation_is (Get k) Register e = absurd cc
operation_is (Get k) (Put l w) e = absurd cc
operation_is (Get k) (Delete l) e = absurd cc
operation_is (Delete k) Register e = absurd cc
operation_is (Delete k) (Put l w) e = absurd cc
operation_is (Delete k) (Get l) e = absurd cc

entry_is : (a b : Whole) → entries.ghosts.eq a b ≡ true → a ≡ b
unfolding same_header
entry_is a b e =
    let p = and_parts _ _ e in
    let q = and_parts _ _ p.1 in
    let header = same_header_is a.header b.header p.0 in
    let operation = operation_is a.operation b.operation q.0 in
    λ i. record { header = header i; operation = operation i }

pub prepare_is : (a b : Prepare) → prepares.ghosts.eq a b ≡ true → a ≡ b
prepare_is a b e =
    let p = and_parts _ _ e in
    let q = and_parts _ _ p.1 in
    let r = and_parts _ _ q.1 in
    let s = and_parts _ _ r.1 in
    let version = eqb-true a.version b.version p.0 in
    let replica = eqb-true a.replica b.replica q.0 in
    let view = eqb-true a.view b.view r.0 in
    let commit = eqb-true a.commit b.commit s.0 in
    let entry = entry_is a.entry b.entry s.1 in
    λ i. record { version = version i; replica = replica i; view = view i; commit = commit i; entry = entry i }

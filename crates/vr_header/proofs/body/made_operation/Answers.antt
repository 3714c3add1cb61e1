use Rattle.std.proofs.Common.{◌≡◌, arith, sym, subst, Option}
use Rattle.std.specs.Prelude.{IfSome}
use Rattle.vr_header.specs.declared.operation.Operation.{Operation}
use Rattle.vr_header.specs.Bodies.{IsOperation, operation_bytes}
use Rattle.vr_header.proofs.BodyLaws.{any_operation, operation_found}
use Rattle.vr_header.proofs.body.made_operation.Goals as goal

pub owned_operation-requires : goal.owned_operation-requires
owned_operation-requires c =
    let b = c.args.bytes.now in
    let P : Option Operation → Type 0 = λ o. IfSome o (λ x. (b ≡ operation_bytes x) × IsOperation c.args.version x) in
    any_operation c.args.version _ (subst P (sym c.in-Some.ensures) (operation_found c.args.version b (λ i. omega (arith, c.type_inv.bytes i)))).1

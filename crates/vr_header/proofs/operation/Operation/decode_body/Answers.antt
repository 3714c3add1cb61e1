use Rattle.std.proofs.Common.{arith, ap, ◌∙◌}
use Rattle.vr_header.specs.Bodies.{operation_of}
use Rattle.vr_header.proofs.BodyLaws.{operation_again, operation_found}
use Rattle.vr_header.proofs.operation.Operation.decode_body.Goals as goal

pub returns-clause-found : goal.returns-clause-found
returns-clause-found c = operation_found c.args.version c.args.bytes.now (λ i. omega (arith, c.type_inv.bytes i))

pub returns-clause-only : goal.returns-clause-only
returns-clause-only c o form e = ap (operation_of c.args.version) e ∙ operation_again c.args.version o form

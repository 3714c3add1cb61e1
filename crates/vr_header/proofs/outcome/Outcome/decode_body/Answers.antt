use Rattle.std.proofs.Common.{arith, ap, ◌∙◌}
use Rattle.vr_header.specs.Bodies.{outcome_of}
use Rattle.vr_header.proofs.BodyLaws.{outcome_again, outcome_found}
use Rattle.vr_header.proofs.outcome.Outcome.decode_body.Goals as goal

pub returns-clause-found : goal.returns-clause-found
returns-clause-found c = outcome_found c.args.version c.args.bytes.now (λ i. omega (arith, c.type_inv.bytes i))

pub returns-clause-only : goal.returns-clause-only
returns-clause-only c o form e = ap (outcome_of c.args.version) e ∙ outcome_again c.args.version o form

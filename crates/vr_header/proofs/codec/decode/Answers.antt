use Rattle.std.proofs.Common.{◌∙◌, arith}
use Rattle.vr_header.proofs.HeaderLaws.{decoded_again, decoded_found}
use Rattle.vr_header.proofs.codec.decode.Goals as goal

pub returns-clause-found : goal.returns-clause-found
returns-clause-found c = rw (c.read.ensures) (decoded_found c.args.bytes.now (λ i. omega (arith, c.type_inv.bytes i)))

pub returns-clause-only : goal.returns-clause-only
returns-clause-only c h f e = c.read.ensures ∙ decoded_again h c.args.bytes.now f e

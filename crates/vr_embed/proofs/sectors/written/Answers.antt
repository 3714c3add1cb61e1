use Rattle.std.proofs.Common.{arith}
use Rattle.vr_embed.proofs.sectors.written.Goals as goal

pub returns-clause-content : goal.returns-clause-content
returns-clause-content c = record { size = c.requires; each = λ i. omega (arith, c.type_inv.bytes i) }

use Rattle.std.proofs.Common.{◌∙◌, ap, arith}
use Rattle.std.specs.Prelude.{min}
use Rattle.vr_rings.specs.Slots.{size_at}
use Rattle.vr_rings.proofs.Fronts.{front_bytes}
use Rattle.vr_rings.proofs.bytes.whole_front.Goals as goal

pub whole_by-requires-clause-given : goal.whole_by-requires-clause-given
unfolding size_at
whole_by-requires-clause-given g c = c.min-size.ensures ∙ ap (λ k. min k 4096) c.u32_at.ensures

pub whole_beyond-requires-clause-given : goal.whole_beyond-requires-clause-given
unfolding size_at
whole_beyond-requires-clause-given g c = c.min-size.ensures ∙ ap (λ k. min k 4096) c.u32_at.ensures

pub returns-then-size-bytes-clause-each : goal.returns-then-size-bytes-clause-each
returns-then-size-bytes-clause-each g c = front_bytes c.args.bytes.now (λ i. omega (arith, c.type_inv.bytes i))

pub returns-else-size-bytes-clause-each : goal.returns-else-size-bytes-clause-each
returns-else-size-bytes-clause-each g c = front_bytes c.args.bytes.now (λ i. omega (arith, c.type_inv.bytes i))

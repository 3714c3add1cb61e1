use Rattle.std.proofs.Common.{◌≤◌, ap, ◌∙◌, arith, length}
use Rattle.std.proofs.lemmas.List.{length-take-le}
use Rattle.vr_lines.proofs.Holding.{pushed}
use Rattle.vr_lines.proofs.lines.Lines.push.Goals as goal

pub returns-clause-bytes : goal.returns-clause-bytes
returns-clause-bytes c =
    let i = c.self.inside in
    let r = c.self.invariant in
    let few : c.min-count.result ≤ length c.args.piece.now = omega (arith, c.min-count.ensures) in
    let size = ap length c.copy_from_slice.ensures.after ∙ length-take-le c.min-count.result c.args.piece.now few in
    rw (← c.self.view_is) (pushed i.buffer c.copy_within.new.self c.args.piece.now c.copy_from_slice.new.self i.start i.end c.min-count.result _ r.1 (omega (arith, r.0, r.2)) c.copy_within.ensures.len c.copy_within.ensures.after c.copy_from_slice.ensures.after size)

use Rattle.std.proofs.Common.{◌+◌, ◌<◌, ◌≤◌, length, refl, inl, arith}
use Rattle.vr_lines.specs.Held.{between, room}
use Rattle.vr_lines.proofs.Cutting.{part_before, part_take}
use Rattle.vr_lines.proofs.Holding.{length_held, line_given, within}
use Rattle.vr_lines.proofs.lines.Lines.give.Goals as goal

pub returns-in-Some : goal.returns-in-Some
returns-in-Some c =
    let i = c.self.inside in
    let r = c.self.invariant in
    let bytes = between i.start i.end i.buffer in
    let size = length_held i.buffer i.start i.end r.1 (omega (arith, r.0, r.2)) in
    let inside = within i.buffer i.start i.end c.in-Some.at c.in-Some.ensures.within in
    let long : c.args.longest < length bytes = omega (arith, c.if-at-longest.true, inside, size) in
    let most : length bytes ≤ room = omega (arith, size, r.2) in
    rw (← c.self.view_is) (part_before (c.args.longest + 1) c.in-Some.at bytes c.in-Some.ensures.found (omega (arith, c.if-at-longest.true)), long, most, refl)

pub returns-in-Some-2 : goal.returns-in-Some-2
returns-in-Some-2 c =
    let i = c.self.inside in
    let r = c.self.invariant in
    let inside = within i.buffer i.start i.end c.in-Some.at c.in-Some.ensures.within in
    let g = line_given i.buffer i.start i.end c.in-Some.at inside c.in-Some.ensures.found in
    let size = length_held i.buffer i.start (i.start + c.in-Some.at) (omega arith) (omega (arith, inside, r.0, r.1, r.2)) in
    let short : length (between i.start (i.start + c.in-Some.at) i.buffer) ≤ c.args.longest = omega (arith, size, c.if-at-longest.false) in
    rw (← c.self.view_is) (inl (g.part, g.whole), short)

pub returns-in-None : goal.returns-in-None
returns-in-None c =
    let i = c.self.inside in
    let r = c.self.invariant in
    let bytes = between i.start i.end i.buffer in
    let size = length_held i.buffer i.start i.end r.1 (omega (arith, r.0, r.2)) in
    let long : c.args.longest < length bytes = omega (arith, c.if-held-longest.true, size) in
    let most : length bytes ≤ room = omega (arith, size, r.2) in
    rw (← c.self.view_is) (part_take (c.args.longest + 1) bytes (c.in-None.ensures.none refl), long, most, refl)

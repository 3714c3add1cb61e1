use Rattle.std.proofs.Common.{◌≡◌, ◌≤◌, ◌<◌, ◌-◌, ◌∙◌, arith, drop, length, length-append, take}
use Rattle.std.proofs.lemmas.List.{length-drop, length-take-le}
use Rattle.vr_lines.specs.Held.{between, room}
use Rattle.vr_lines.proofs.Holding.{filled, length_held}
use Rattle.vr_lines.proofs.lines.Lines.fill.Goals as goal

pub returns-clause-filled : goal.returns-clause-filled
returns-clause-filled g c =
    let i = c.self.inside in
    let r = c.self.invariant in
    let e = c.in_ok-count.ensures in
    let count = c.in_ok-count.count in
    let to = c.read.new.to in
    let few : count ≤ length to = e.bound.0 in
    let behind_it = drop (i.end - i.start) c.copy_within.new.self in
    let left : length to ≡ room - (i.end - i.start) = c.read.auto.to ∙ length-take-le (room - (i.end - i.start)) behind_it (omega (arith, length-drop (i.end - i.start) c.copy_within.new.self, c.copy_within.ensures.len, r.0)) in
    let size = length-take-le count to few in
    let held = length_held i.buffer i.start i.end r.1 (omega (arith, r.0, r.2)) in
    let free : i.end - i.start < room = rw (← c.self.view_is, held) at c.requires in
    let behind = filled i.buffer c.copy_within.new.self to i.start i.end count _ r.1 (omega (arith, r.0, r.2)) c.copy_within.ensures.len c.copy_within.ensures.after few in
    record {
      piece = take count to;
      size = size;
      consumed = e.bytes.0;
      behind = rw (← c.self.view_is) behind;
      fits = rw behind (omega (arith, length-append (between i.start i.end i.buffer) (take count to), held, size, few, left));
      end = λ none. e.bytes.1 none (omega (arith, left, free));
    }

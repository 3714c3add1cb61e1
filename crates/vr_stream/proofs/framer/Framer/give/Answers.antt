use Rattle.std.proofs.Common.{arith, inl, inr}
use Rattle.vr_stream.specs.Framers.{framing}
use Rattle.vr_stream.proofs.Standing.{damaged_at, settles_at}
use Rattle.vr_stream.proofs.framer.Framer.give.Goals as goal

pub returns-in-More-clause-stands : goal.returns-in-More-clause-stands
returns-in-More-clause-stands c =
    settles_at (framing c.args.self.now) c.in-Some.port c.index_mut-line.result.now c.next.new.self c.in-Some.is (omega (arith, c.if-at-len.false, c.len.ensures)) c.index_mut-line.ensures.value c.in-More.ensures.gives.0 (inl c.in-More.ensures.gives.1)

pub returns-then-over-clause-stands : goal.returns-then-over-clause-stands
returns-then-over-clause-stands c =
    settles_at (framing c.args.self.now) c.in-Some.port c.index_mut-line.result.now c.next.new.self c.in-Some.is (omega (arith, c.if-at-len.false, c.len.ensures)) c.index_mut-line.ensures.value c.in-Broken.ensures.gives.0 (inr (c.if-over.true, c.in-Broken.field-0, c.in-Broken.ensures.gives.1))

pub returns-else-over-clause-stands : goal.returns-else-over-clause-stands
returns-else-over-clause-stands c =
    damaged_at (framing c.args.self.now) c.in-Some.port c.index_mut-line.result.now c.next.new.self c.in-Broken.field-0 c.in-Some.is (omega (arith, c.if-at-len.false, c.len.ensures)) c.index_mut-line.ensures.value c.in-Broken.ensures.gives.0 c.if-over.false c.in-Broken.ensures.gives.1

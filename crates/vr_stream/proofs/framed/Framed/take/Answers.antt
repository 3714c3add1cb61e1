use Rattle.std.proofs.Common.{refl}
use Rattle.vr_stream.proofs.Giving.{heard_nowhere}
use Rattle.vr_stream.proofs.framed.Framed.take.Goals as goal

pub returns-then-not-take-clause-heard : goal.returns-then-not-take-clause-heard
returns-then-not-take-clause-heard g c =
    heard_nowhere _ _ _ _ _ _ _ _ _ c.requires.ready refl c.if-not-take.ensures c.shut.ensures.framing c.shut.ensures.calls

use Rattle.std.proofs.Common.{◌∙◌, sym}
use Rattle.vr_stream.proofs.Spoken.{told}
use Rattle.vr_stream.proofs.speaker.speaker.Goals as goal

pub returns-in-Ok : goal.returns-in-Ok
returns-in-Ok c = λ m s. c.spoken.ensures ∙ told m c.args.bytes.now c.in-Ok.header s (sym c.in-Ok.ensures.exact)

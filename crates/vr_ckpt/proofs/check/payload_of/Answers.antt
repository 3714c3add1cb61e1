use Rattle.std.proofs.Common.{◌∙◌, sym}
use Rattle.vr_ckpt.proofs.Contents.{no_header}
use Rattle.vr_ckpt.proofs.check.payload_of.Goals as goal

pub returns-in-Err-clause-value : goal.returns-in-Err-clause-value
returns-in-Err-clause-value g c = no_header c.args.bytes.now c.args.name.now _ c.requires (sym c.decode_by.ensures ∙ c.in-Err.is)

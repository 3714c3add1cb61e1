use Rattle.std.proofs.Common.{ap, subst, sym}
use Rattle.vr_msg.specs.Forms.{IsPrepare}
use Rattle.vr_msg.specs.declared.frame.Frame.TheVariants as frame
use Rattle.vr_group.proofs.Letters.{bytes_there, prepare_there}
use Rattle.vr_group.proofs.kept.keep_prepare.Goals as goal

pub returns-clause-frame : goal.returns-clause-frame
returns-clause-frame c = ap frame.Prepare (prepare_there c.args.prepare.now c.in_ok-entry_bytes.field-0 c.in_ok-entry_bytes.ensures)

pub returns-clause-kept : goal.returns-clause-kept
returns-clause-kept c =
    let p = c.args.prepare.now in
    (bytes_there c.in_ok-entry_bytes.field-0 p.entry c.in_ok-entry_bytes.ensures, subst IsPrepare (sym (prepare_there p c.in_ok-entry_bytes.field-0 c.in_ok-entry_bytes.ensures)) c.requires)

-- look
use Rattle.std.proofs.Common.{arith}
use Rattle.vr_lie.proofs.Tables.{at_table, looks, set_table}
use Rattle.vr_lie.proofs.table.look.Goals as goal

pub returns-clause-held : goal.returns-clause-held
returns-clause-held c =
    let n = c.requires.count in
    let s = c.requires.slot in
    set_table c.args.held.now c.args.slot c.look_in.new.held _ (looks c.args.version _ c.args.slot _ _ _ c.look_in.ensures.value (at_table c.args.held.now c.args.slot (omega arith)))

use Rattle.vr_volatile.proofs.Taken.{linked}
use Rattle.vr_volatile.proofs.taking.keep_name_at.Goals as goal

pub keep-requires : goal.keep-requires
keep-requires c = linked c.args.headers.now c.args.at c.header_in-header.result c.in-Some.next c.requires.chain c.header_in-header.ensures.at c.in-Some.ensures

use Rattle.vr_lines.proofs.Cutting.{found_end, found_none}
use Rattle.vr_lines.proofs.lines.find_end.Goals as goal

pub returns-clause-found : goal.returns-clause-found
returns-clause-found c = found_end c.args.bytes.now c.memchr.result c.memchr.ensures

pub returns-clause-none : goal.returns-clause-none
returns-clause-none c = found_none c.args.bytes.now c.memchr.result c.memchr.ensures

use Rattle.std.proofs.Common.{rules}
use Rattle.vr_lie.proofs.Ending.{first_header}
use Rattle.vr_lie.proofs.table.Held.first.Goals as goal

pub returns-clause-header : goal.returns-clause-header
returns-clause-header c = first_header c.args.self.now.short c.args.self.now.prepare c.split_at.result.0.now (search rules) c.split_at.ensures.front

use Rattle.vr_lines.proofs.Coming.{end_comes}
use Rattle.vr_lines.proofs.lines.Lines.read.Goals as goal

pub returns-in-End-clause-found : goal.returns-in-End-clause-found
returns-in-End-clause-found g c = end_comes c.args.longest _ _ _ _ c.loop-self.ended c.give.new.self c.loop-self.invariant.midst c.in-End.ensures

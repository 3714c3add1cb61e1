use Rattle.law_progress.proofs.Agreeing.{runs_begin}
use Rattle.law_progress.proofs.runs_begin.Goals as goal

pub returns : goal.returns
returns c = runs_begin

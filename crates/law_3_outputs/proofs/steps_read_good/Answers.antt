use Rattle.law_3_outputs.proofs.Reading.{reads_good}
use Rattle.law_3_outputs.proofs.steps_read_good.Goals as goal

pub returns : goal.returns
returns g _ = reads_good

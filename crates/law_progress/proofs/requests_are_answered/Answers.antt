use Rattle.law_progress.proofs.Answering.{requests_are_answered}
use Rattle.law_progress.proofs.requests_are_answered.Goals as goal

pub returns : goal.returns
returns c = requests_are_answered

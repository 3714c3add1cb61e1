use Rattle.rows_computed.proofs.Runs.{some_runs_answer}
use Rattle.rows_computed.proofs.running.some_runs_answer.Goals as goal

pub returns : goal.returns
returns c = some_runs_answer

use Rattle.rows_computed.proofs.Three.{three_answer}
use Rattle.rows_computed.proofs.running.three_run_and_answer.Goals as goal

pub returns : goal.returns
returns c = three_answer

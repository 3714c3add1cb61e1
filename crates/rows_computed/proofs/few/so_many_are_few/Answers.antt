use Rattle.rows_computed.proofs.FewAsk.{few_ask}
use Rattle.rows_computed.proofs.few.so_many_are_few.Goals as goal

pub returns : goal.returns
returns c = few_ask

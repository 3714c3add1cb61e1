use Rattle.law_1_machine.proofs.Runs as runs
use Rattle.law_1_machine.proofs.a_denied_entry_is_dropped.Goals as goal

pub returns : goal.returns
returns _ = runs.a_denied_entry_is_dropped

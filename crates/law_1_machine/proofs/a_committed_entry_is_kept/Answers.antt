use Rattle.law_1_machine.proofs.Runs as runs
use Rattle.law_1_machine.proofs.a_committed_entry_is_kept.Goals as goal

pub returns : goal.returns
returns _ = runs.a_committed_entry_is_kept

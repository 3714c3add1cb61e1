use Rattle.law_1_machine.proofs.Runs as runs
use Rattle.law_1_machine.proofs.a_cut_choice_is_found.Goals as goal

pub returns : goal.returns
returns _ = runs.a_cut_choice_is_found

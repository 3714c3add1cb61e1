use Rattle.law_1_machine.proofs.Runs as runs
use Rattle.law_1_machine.proofs.a_member_jumps.Goals as goal

pub returns : goal.returns
returns _ = runs.a_member_jumps

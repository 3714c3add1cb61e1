use Rattle.cmd_replay.proofs.Counts.{counts_told, writes_told}
use Rattle.cmd_replay.proofs.command.replay.Goals as goal

pub returns-clause-read : goal.returns-clause-read
returns-clause-read g c = counts_told _ _ _ _ _ _ _ _ _ c.read_schedule.ensures

pub returns-clause-write : goal.returns-clause-write
returns-clause-write g c = writes_told _ _ _ _ _ _ _ _ _ c.read_schedule.ensures

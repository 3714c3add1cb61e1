use Rattle.vr_host_disk.proofs.Runs.{runs_cut, runs_went}
use Rattle.vr_host_disk.proofs.laws.runs_tell.Goals as goal

pub returns : goal.returns
returns c = record { well = runs_went; cut = runs_cut }

use Rattle.vr_world.specs.Lying.{hazards}
use Rattle.vr_world.specs.World.{Begins, happen, no_world}
use Rattle.std.specs.Prelude.{◌∷◌}
use Rattle.law_6_one_log.proofs.Fresh.{schedules_are_runs}
use Rattle.law_6_one_log.proofs.Known.{one_log}
use Rattle.law_6_one_log.proofs.Traces.{keeps}
use Rattle.law_6_one_log.proofs.one_log.schedules_keep_one_log.Goals as goal

pub returns : goal.returns
returns _ = λ kind n xs k least many short may. let m = schedules_are_runs kind n xs k least many short may in keeps kind n k least many (one_log 0 n) (happen hazards no_world (Begins kind n ∷ xs)) m.0 m.1

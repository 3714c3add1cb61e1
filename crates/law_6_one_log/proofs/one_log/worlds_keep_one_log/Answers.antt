use Rattle.vr_world.specs.Lying.{hazards}
use Rattle.vr_world.specs.World.{happen}
use Rattle.law_4_disks.specs.Worlds.{first_world}
use Rattle.law_6_one_log.proofs.Fresh.{worlds_are_runs}
use Rattle.law_6_one_log.proofs.Known.{one_log}
use Rattle.law_6_one_log.proofs.Traces.{keeps_log}
use Rattle.law_6_one_log.proofs.one_log.worlds_keep_one_log.Goals as goal

pub returns : goal.returns
returns _ = λ kinds cluster n xs k number some many short lines never.
    let m = worlds_are_runs kinds cluster n xs k number some many short lines never in
    keeps_log kinds cluster n k number some many (one_log cluster n) (happen hazards (first_world kinds cluster n) xs) m.0 m.1

-- Every run of a group that was just made is followed, and its replies rest on its log.
use Rattle.std.specs.Prelude.{ℕ, List}
use Rattle.vr_world.specs.Group.{Played}
use Rattle.vr_world.specs.Safe.{Safe}
use Rattle.law_3_outputs.specs.Followed.{IsFitRun}
use Rattle.law_3_outputs.proofs.Truth.{safe}
use Rattle.law_6_one_log.proofs.Following.{follows_it}
use Rattle.law_6_one_log.proofs.Replying.{runs_reply}

pub runs_safe : (cluster n : ℕ) (run : List Played) → IsFitRun cluster n run → Safe cluster n run
runs_safe cluster n run fit = let x = follows_it cluster n run fit in safe cluster n x.setup run x.followed (runs_reply cluster n x.setup run x.followed x.bridges)

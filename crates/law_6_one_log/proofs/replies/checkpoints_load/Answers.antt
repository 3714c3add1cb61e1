use Rattle.vr_world.specs.Safe.{IsHashed}
use Rattle.law_6_one_log.proofs.Blocks.{loads_as}
use Rattle.law_6_one_log.proofs.replies.checkpoints_load.Goals as goal

pub returns : goal.returns
returns _ = λ run h never f reads cluster op texts old small fits kept hashed found table e. loads_as (λ bytes. IsHashed run h bytes) never f reads cluster op texts old small fits kept hashed found table e

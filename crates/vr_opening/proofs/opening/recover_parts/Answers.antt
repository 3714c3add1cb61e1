use Rattle.vr_opening.proofs.Clouds.{window_clouded}
use Rattle.vr_opening.proofs.opening.recover_parts.Goals as goal

pub forget-requires : goal.forget-requires
forget-requires g c = window_clouded _ _ _ c.in_ok-recover_ops.ensures.opening c.cloud.ensures.clouded

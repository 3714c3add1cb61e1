use Rattle.std.proofs.Common.{arith, subst, ◌<◌}
use Rattle.vr_opening.proofs.Clouds.{cloud_room, cloud_saved}
use Rattle.vr_opening.proofs.opening.cloud.Goals as goal

pub cloud_one-requires-clause-fits : goal.cloud_one-requires-clause-fits
cloud_one-requires-clause-fits c = cloud_room _ _ _ (subst (λ n. c.loop-i.i < n) c.places-i-end.ensures (omega (arith, c.loop-i-test.true))) c.loop-i.invariant c.requires

pub returns-clause-saved : goal.returns-clause-saved
returns-clause-saved c = cloud_saved _ _ _ c.loop-i.invariant

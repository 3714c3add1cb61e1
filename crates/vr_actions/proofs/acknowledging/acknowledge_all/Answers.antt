use Rattle.std.proofs.Common.{arith, refl}
use Rattle.vr_actions.proofs.Acks.{acking_ends}
use Rattle.vr_actions.proofs.acknowledging.acknowledge_all.Goals as goal

pub returns : goal.returns
returns c =
    acking_ends c.commit-commit.result c.args.head c.loop-i.i c.args.head _ _ _ c.loop-i.invariant (omega (arith, c.loop-i-test.false, c.saturating_sub-i-end.ensures)) c.commit-commit.ensures refl

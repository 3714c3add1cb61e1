use Rattle.vr_group.specs.Group.{world_of}
use Rattle.vr_group.proofs.Goings.{going_begins, going_fits, going_more}
use Rattle.vr_group.proofs.Headline.{asked_more, asked_none}
use Rattle.vr_group.proofs.world.happen_all.Goals as goal

pub loop-line-init : goal.loop-line-init
loop-line-init c = record { going = going_begins c.args.lines.now (world_of c.args.members.now) c.args.to.now; asked = asked_none c.args.lines.now }

pub happen_behind-requires-clause-of : goal.happen_behind-requires-clause-of
happen_behind-requires-clause-of c = (c.requires.of.0, going_fits c.requires.of.0 c.args.lines.now c.loop-line.line-index c.line-item.result (world_of c.args.members.now) _ _ _ c.requires.of.1 c.loop-line.invariant.going c.loop-line-test.true c.line-item.is)

pub loop-line-preserved : goal.loop-line-preserved
loop-line-preserved c =
    record {
      going = going_more c.requires.of.0 c.args.lines.now c.loop-line.line-index c.line-item.result _ _ _ _ _ _ c.requires.group c.requires.of.1 c.loop-line-test.true c.line-item.is c.loop-line.invariant.going c.in_ok-happen_behind.ensures.happened;
      asked = asked_more c.args.lines.now c.loop-line.line-index c.line-item.result c.loop-line-test.true c.line-item.is c.loop-line.invariant.asked c.in_ok-happen_behind.ensures.asked;
    }

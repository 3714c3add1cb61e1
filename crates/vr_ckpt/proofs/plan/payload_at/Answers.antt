use Rattle.vr_ckpt.proofs.Planning.{payload_there}
use Rattle.vr_ckpt.proofs.plan.payload_at.Goals as goal

pub returns : goal.returns
returns c = payload_there c.args.text.now c.split_at.result.1.now c.split_at-2.result.0.now c.args.i c.min.result c.split_at.ensures.back c.min.ensures c.split_at-2.ensures.front

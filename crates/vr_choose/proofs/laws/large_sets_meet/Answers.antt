use Rattle.vr_base.proofs.Count.{shared_member}
use Rattle.vr_choose.proofs.laws.large_sets_meet.Goals as goal

pub returns : goal.returns
returns c n f g more = shared_member f g n more

use Rattle.vr_io_policy.proofs.Gathering.{begins}
use Rattle.vr_io_policy.proofs.cache.SectorCache.new.Goals as goal

pub returns : goal.returns
returns c = begins c.in_ok-unknown.field-0.items c.in_ok-unknown.ensures

use Rattle.vr_group.proofs.Steps.{version_same}
use Rattle.vr_group.proofs.host.view_on.Goals as goal

pub returns-in-Some-opens-clause-version : goal.returns-in-Some-opens-clause-version
returns-in-Some-opens-clause-version c = version_same c.args.disk.now c.opens.new.disk c.opens.ensures.untouched.told

pub returns-in-None-clause-version : goal.returns-in-None-clause-version
returns-in-None-clause-version c = version_same c.args.disk.now c.opens.new.disk c.opens.ensures.untouched.told

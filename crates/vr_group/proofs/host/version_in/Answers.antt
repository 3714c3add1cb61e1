use Rattle.std.proofs.Common.{◌∙◌}
use Rattle.vr_host_disk.specs.Disks.{told_by}
use Rattle.vr_lie.specs.Told.{version_by}
use Rattle.vr_group.proofs.Migrates.{version_none}
use Rattle.vr_group.proofs.Steps.{version_same}
use Rattle.vr_group.proofs.host.version_in.Goals as goal

pub returns-in-Some-clause-version : goal.returns-in-Some-clause-version
returns-in-Some-clause-version c = version_same c.args.disk.now c.opens.new.disk c.opens.ensures.untouched.told

pub returns-in-None-clause-value : goal.returns-in-None-clause-value
returns-in-None-clause-value c =
    c.version.ensures ∙ (version_same c.args.disk.now c.opens.new.disk c.opens.ensures.untouched.told ∙ version_none (told_by c.args.disk.now).face (version_by c.args.disk.now.lie) c.in-None.ensures.value)

pub returns-in-None-clause-version : goal.returns-in-None-clause-version
returns-in-None-clause-version c = version_same c.args.disk.now c.opens.new.disk c.opens.ensures.untouched.told

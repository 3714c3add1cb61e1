use Rattle.std.proofs.Common.{Err}
use Rattle.vr_super.specs.declared.recovering.SuperFault.TheVariants as fault
use Rattle.vr_super.proofs.Choice.{left_by, lost_from, mended_from, mends, wanted_from}
use Rattle.vr_super.proofs.recovering.recover.Goals as goal

pub returns-in-Ok-clause-value : goal.returns-in-Ok-clause-value
returns-in-Ok-clause-value g c =
    mended_from (g.D.SectorDisk.told c.args.disk.now) (g.D.SectorDisk.told c.find.new.disk) (g.D.SectorDisk.told c.mend_found.new.disk) c.in-Ok.found c.mend_found.result
    c.find.ensures.untouched.told c.in-Ok.ensures.value c.mend_found.ensures.runs c.mend_found.ensures.kept c.mend_found.ensures.fault

pub returns-in-Err-Lost-clause-value : goal.returns-in-Err-Lost-clause-value
returns-in-Err-Lost-clause-value g c =
    lost_from (g.D.SectorDisk.told c.args.disk.now) (g.D.SectorDisk.told c.find.new.disk) c.in-Err-Lost.verdicts c.find.ensures.untouched.told (rw c.in-Err-Lost.field-0-is at c.in-Err-Lost.ensures.value)

pub returns-in-Err-NoMemory-clause-value : goal.returns-in-Err-NoMemory-clause-value
returns-in-Err-NoMemory-clause-value g c =
    wanted_from (g.D.SectorDisk.told c.args.disk.now) (g.D.SectorDisk.told c.find.new.disk) _ c.find.ensures.untouched.told (rw c.in-Err-NoMemory.field-0-is at c.in-Err-NoMemory.ensures.value)

pub returns-in-Ok-clause-stop : goal.returns-in-Ok-clause-stop
returns-in-Ok-clause-stop g c = mends (g.D.SectorDisk.told c.args.disk.now) (g.met.D.SectorDisk.whole c.args.disk.now)

pub returns-in-Err-Lost-clause-stop : goal.returns-in-Err-Lost-clause-stop
returns-in-Err-Lost-clause-stop g c = mends (g.D.SectorDisk.told c.args.disk.now) (g.met.D.SectorDisk.whole c.args.disk.now)

pub returns-in-Err-NoMemory-clause-stop : goal.returns-in-Err-NoMemory-clause-stop
returns-in-Err-NoMemory-clause-stop g c = mends (g.D.SectorDisk.told c.args.disk.now) (g.met.D.SectorDisk.whole c.args.disk.now)

pub returns-in-Ok-clause-left : goal.returns-in-Ok-clause-left
returns-in-Ok-clause-left g c =
    left_by (g.D.SectorDisk.told c.args.disk.now) (g.D.SectorDisk.told c.mend_found.new.disk) c.mend_found.result (g.met.D.SectorDisk.whole c.args.disk.now) (returns-in-Ok-clause-value g c)

pub returns-in-Err-Lost-clause-left : goal.returns-in-Err-Lost-clause-left
returns-in-Err-Lost-clause-left g c =
    left_by (g.D.SectorDisk.told c.args.disk.now) (g.D.SectorDisk.told c.find.new.disk) (Err (fault.Lost c.in-Err-Lost.verdicts)) (g.met.D.SectorDisk.whole c.args.disk.now) (returns-in-Err-Lost-clause-value g c)

pub returns-in-Err-NoMemory-clause-left : goal.returns-in-Err-NoMemory-clause-left
returns-in-Err-NoMemory-clause-left g c =
    left_by (g.D.SectorDisk.told c.args.disk.now) (g.D.SectorDisk.told c.find.new.disk) (Err fault.NoMemory) (g.met.D.SectorDisk.whole c.args.disk.now) (returns-in-Err-NoMemory-clause-value g c)

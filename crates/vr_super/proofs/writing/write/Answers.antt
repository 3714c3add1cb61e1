use Rattle.std.specs.Prelude.{true, false}
use Rattle.vr_super.proofs.Steps.{left_by}
use Rattle.vr_super.proofs.writing.write.Goals as goal

pub returns-in-Ok-clause-left : goal.returns-in-Ok-clause-left
returns-in-Ok-clause-left g c =
    left_by c.args.old.now c.args.new.now (g.D.SectorDisk.told c.args.disk.now) (g.D.SectorDisk.told c.write_value.new.disk) true (g.met.D.SectorDisk.whole c.args.disk.now) c.in-Ok.ensures.good c.in-Ok.ensures.runs

pub returns-in-Err-clause-left : goal.returns-in-Err-clause-left
returns-in-Err-clause-left g c =
    left_by c.args.old.now c.args.new.now (g.D.SectorDisk.told c.args.disk.now) (g.D.SectorDisk.told c.write_value.new.disk) false (g.met.D.SectorDisk.whole c.args.disk.now) c.in-Err.ensures.good c.in-Err.ensures.runs

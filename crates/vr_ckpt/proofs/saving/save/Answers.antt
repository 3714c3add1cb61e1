use Rattle.std.proofs.Common.{arith}
use Rattle.vr_ckpt.proofs.Done.{dones}
use Rattle.vr_ckpt.proofs.Keeping.{keeps}
use Rattle.vr_ckpt.proofs.saving.save.Goals as goal

pub returns-in_err-saved-clause-stop : goal.returns-in_err-saved-clause-stop
returns-in_err-saved-clause-stop g c = keeps (g.D.SectorDisk.told c.args.disk.now) c.args.cluster c.args.texts.now c.args.op c.args.old.now c.requires.texts

pub returns-in_err-write_synced-clause-stop : goal.returns-in_err-write_synced-clause-stop
returns-in_err-write_synced-clause-stop g c = keeps (g.D.SectorDisk.told c.args.disk.now) c.args.cluster c.args.texts.now c.args.op c.args.old.now c.requires.texts

pub returns-clause-stop : goal.returns-clause-stop
returns-clause-stop g c = keeps (g.D.SectorDisk.told c.args.disk.now) c.args.cluster c.args.texts.now c.args.op c.args.old.now c.requires.texts

pub returns-in_err-saved-clause-done : goal.returns-in_err-saved-clause-done
returns-in_err-saved-clause-done g c =
    dones (g.D.SectorDisk.told c.args.disk.now) c.args.cluster c.args.texts.now c.args.op c.args.old.now (g.met.D.SectorDisk.whole c.args.disk.now) (let f = c.ranges.cluster.fits in omega arith) c.requires.op c.requires.texts

pub returns-in_err-write_synced-clause-done : goal.returns-in_err-write_synced-clause-done
returns-in_err-write_synced-clause-done g c =
    dones (g.D.SectorDisk.told c.args.disk.now) c.args.cluster c.args.texts.now c.args.op c.args.old.now (g.met.D.SectorDisk.whole c.args.disk.now) (let f = c.ranges.cluster.fits in omega arith) c.requires.op c.requires.texts

pub returns-clause-done : goal.returns-clause-done
returns-clause-done g c =
    dones (g.D.SectorDisk.told c.args.disk.now) c.args.cluster c.args.texts.now c.args.op c.args.old.now (g.met.D.SectorDisk.whole c.args.disk.now) (let f = c.ranges.cluster.fits in omega arith) c.requires.op c.requires.texts

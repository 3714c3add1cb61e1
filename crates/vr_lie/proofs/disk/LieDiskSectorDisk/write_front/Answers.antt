use Rattle.std.proofs.Common.{refl}
use Rattle.vr_disk.specs.DiskState.{Write}
use Rattle.vr_disk.specs.Fronts.{front}
use Rattle.vr_mem.specs.Cells.{disk_of}
use Rattle.vr_lie.proofs.Calls.{cuts_told, fails_told, goes_told}
use Rattle.vr_lie.proofs.disk.LieDiskSectorDisk.write_front.Goals as goal

pub returns-in-Goes-clause-told : goal.returns-in-Goes-clause-told
returns-in-Goes-clause-told c = goes_told (disk_of c.args.self.now.disk) (disk_of c.judge.new.self) _ (Write c.args.i (front c.args.text.now)) refl c.in-Goes.ensures.verdict c.in-Goes.ensures.told c.put_text.ensures.told

pub returns-in-Fails-clause-told : goal.returns-in-Fails-clause-told
returns-in-Fails-clause-told c = rw c.fault.ensures.failed (fails_told (disk_of c.args.self.now.disk) (disk_of c.judge.new.self) _ (Write c.args.i (front c.args.text.now)) refl c.in-Fails.ensures.verdict c.in-Fails.ensures.told c.fault.ensures.same)

pub returns-in-Cuts-clause-told : goal.returns-in-Cuts-clause-told
returns-in-Cuts-clause-told c =
    rw c.fault-in-Cuts.ensures.failed
    (cuts_told (disk_of c.args.self.now.disk) (disk_of c.judge.new.self) (disk_of c.cut_put_text.new.disk) _ (Write c.args.i (front c.args.text.now)) c.in-Cuts.code refl c.in-Cuts.ensures.verdict c.in-Cuts.ensures.told c.cut_put_text.ensures.told c.fault-in-Cuts.ensures.same)

use Rattle.std.proofs.Common.{refl}
use Rattle.vr_disk.specs.DiskState.{Sync}
use Rattle.vr_mem.specs.Cells.{disk_of}
use Rattle.vr_lie.proofs.Calls.{clear_table, cuts_told, fails_told, goes_told, sync_held}
use Rattle.vr_lie.proofs.disk.LieDiskSectorDisk.sync.Goals as goal

pub returns-in-Goes-clause-told : goal.returns-in-Goes-clause-told
returns-in-Goes-clause-told c = goes_told (disk_of c.args.self.now.disk) (disk_of c.judge.new.self) _ Sync refl c.in-Goes.ensures.verdict c.in-Goes.ensures.told c.clear.ensures.told

pub returns-in-Fails-clause-told : goal.returns-in-Fails-clause-told
returns-in-Fails-clause-told c = rw c.fault.ensures.failed (fails_told (disk_of c.args.self.now.disk) (disk_of c.judge.new.self) _ Sync refl c.in-Fails.ensures.verdict c.in-Fails.ensures.told c.fault.ensures.same)

pub returns-in-Cuts-clause-told : goal.returns-in-Cuts-clause-told
returns-in-Cuts-clause-told c =
    rw c.fault-in-Cuts.ensures.failed
    (cuts_told (disk_of c.args.self.now.disk) (disk_of c.judge.new.self) (disk_of c.cut_sync.new.disk) _ Sync c.in-Cuts.code refl c.in-Cuts.ensures.verdict c.in-Cuts.ensures.told c.cut_sync.ensures.told c.fault-in-Cuts.ensures.same)

pub invariant_of-self : goal.invariant_of-self
invariant_of-self c = record { table = clear_table c.args.self.now.version (disk_of c.args.self.now.disk) (disk_of c.judge.new.self) (disk_of c.clear.new.self) _ c.in-Goes.ensures.told c.clear.ensures.told c.args.self.now.table }

pub returns-in-Goes-clause-held : goal.returns-in-Goes-clause-held
returns-in-Goes-clause-held c = sync_held c.args.self.now.version (disk_of c.args.self.now.disk) _ c.in-Goes.ensures.verdict

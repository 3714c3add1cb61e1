use Rattle.vr_ckpt.proofs.Puts.{name_fits, puts}
use Rattle.vr_ckpt.proofs.Sealed.{whole_named}
use Rattle.vr_ckpt.proofs.writing.put_block.Goals as goal

pub note_block-requires : goal.note_block-requires
note_block-requires g c = whole_named c.args.name.now c.args.block.now c.requires

pub write_at-requires-clause-address : goal.write_at-requires-clause-address
write_at-requires-clause-address g c = (name_fits c.args.name.now c.args.block.now c.requires).0

pub write_at-requires-clause-size : goal.write_at-requires-clause-size
write_at-requires-clause-size g c = (name_fits c.args.name.now c.args.block.now c.requires).1

pub returns-in_err-write_at-clause-stop : goal.returns-in_err-write_at-clause-stop
returns-in_err-write_at-clause-stop g c = puts (g.D.SectorDisk.told c.args.disk.now) c.args.name.now c.args.block.now (g.met.D.SectorDisk.whole c.args.disk.now) c.requires

pub returns-in_err-sync-clause-stop : goal.returns-in_err-sync-clause-stop
returns-in_err-sync-clause-stop g c = puts (g.D.SectorDisk.told c.args.disk.now) c.args.name.now c.args.block.now (g.met.D.SectorDisk.whole c.args.disk.now) c.requires

pub returns-clause-stop : goal.returns-clause-stop
returns-clause-stop g c = puts (g.D.SectorDisk.told c.args.disk.now) c.args.name.now c.args.block.now (g.met.D.SectorDisk.whole c.args.disk.now) c.requires

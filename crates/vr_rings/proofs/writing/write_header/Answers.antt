use Rattle.vr_rings.proofs.Leaving.{header_leaves}
use Rattle.vr_rings.proofs.writing.write_header.Goals as goal

pub returns-in_err-put_header-clause-stop : goal.returns-in_err-put_header-clause-stop
returns-in_err-put_header-clause-stop g c = header_leaves c.args.header.now (g.D.SectorDisk.told c.args.disk.now) (g.met.D.SectorDisk.whole c.args.disk.now) c.sector_by-sector.ensures.header

pub returns-clause-stop : goal.returns-clause-stop
returns-clause-stop g c = header_leaves c.args.header.now (g.D.SectorDisk.told c.args.disk.now) (g.met.D.SectorDisk.whole c.args.disk.now) c.sector_by-sector.ensures.header

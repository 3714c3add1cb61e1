use Rattle.vr_rings.proofs.Short.{ends, goes_on}
use Rattle.vr_rings.proofs.reading.ends_in.Goals as goal

pub returns-clause-ends : goal.returns-clause-ends
returns-clause-ends g c =
    ends c.args.version c.args.slot c.prepare_place.result c.prepare_sectors-count.result (g.D.SectorDisk.told c.args.disk.now) c.are_zeros.result c.args.first.now.bytes (g.met.D.SectorDisk.whole c.args.disk.now) c.requires.slot
    c.prepare_place.ensures.place c.prepare_sectors-count.ensures.count c.requires.begins.first c.are_zeros.ensures.value

pub returns-clause-goes_on : goal.returns-clause-goes_on
returns-clause-goes_on g c =
    goes_on c.args.version c.args.slot c.prepare_place.result c.prepare_sectors-count.result (g.D.SectorDisk.told c.args.disk.now) c.are_zeros.result c.args.first.now.bytes (g.met.D.SectorDisk.whole c.args.disk.now) c.requires.slot c.requires.begins.short
    c.prepare_place.ensures.place c.prepare_sectors-count.ensures.count c.requires.begins.first c.are_zeros.ensures.value

use Rattle.std.proofs.Common.{rules}
use Rattle.vr_rings.proofs.Fronts.{front_filled}
use Rattle.vr_rings.proofs.reading.read_front.Goals as goal

pub returns : goal.returns
returns g c =
    record {
      told = search rules;
      faults = search rules;
      size = search rules;
      value = front_filled c.args.version c.args.slot c.prepare_place.result c.prepare_sectors-count.result (g.D.SectorDisk.told c.args.disk.now) c.read_sectors.result c.read_sectors.new.to c.prepare_place.ensures.place c.prepare_sectors-count.ensures.count (search rules) c.read_sectors.ensures.value;
    }

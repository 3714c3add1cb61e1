use Rattle.vr_mem.specs.Cells.{disk_of}
use Rattle.vr_lie.proofs.Ending.{same_ends}
use Rattle.vr_lie.proofs.reading.ends_first.Goals as goal

pub returns-clause-value : goal.returns-clause-value
returns-clause-value c = same_ends c.args.version (disk_of c.args.disk.now).face c.args.slot c.prepare_place.result c.prepare_sectors-count.result c.are_zeros.result c.prepare_place.ensures.place c.prepare_sectors-count.ensures.count c.are_zeros.ensures.value

use Rattle.std.specs.Prelude.{map}
use Rattle.vr_super.specs.Seen.{seen}
use Rattle.vr_super.proofs.Choice.{chosen_from}
use Rattle.vr_super.proofs.recovering.choose_apart.Goals as goal

pub returns-clause-value : goal.returns-clause-value
returns-clause-value g c = chosen_from (g.D.SectorDisk.told c.args.disk.now) (map seen c.read_all.new.readings) c.choose.result c.read_all.ensures.value c.choose.ensures

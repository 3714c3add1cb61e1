use Rattle.vr_super.proofs.Alike.{found_from}
use Rattle.vr_super.proofs.opening.opens.Goals as goal

pub returns-then-read_alike-clause-value : goal.returns-then-read_alike-clause-value
returns-then-read_alike-clause-value g c = found_from (g.D.SectorDisk.told c.args.disk.now) c.read_alike.new.to c.look_up_alike.result c.if-read_alike.ensures.value c.look_up_alike.ensures.value

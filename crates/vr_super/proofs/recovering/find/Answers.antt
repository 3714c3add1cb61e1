use Rattle.std.proofs.Common.{Some, Ok, Err}
use Rattle.vr_super.specs.Opens.{four, if_good}
use Rattle.vr_super.proofs.Alike.{alike_four, found_alike}
use Rattle.vr_super.proofs.Choice.{chosen_from, found_apart, fails}
use Rattle.vr_super.proofs.recovering.find.Goals as goal

pub returns-in-Ok-clause-value : goal.returns-in-Ok-clause-value
returns-in-Ok-clause-value g c =
    let told = g.D.SectorDisk.told c.args.disk.now in
    let b = c.read_alike.new.to in
    let chosen = chosen_from told (four (if_good (Some b))) (Ok c.in-Ok.value) (alike_four told b c.if-read_alike.ensures.value) c.in-Ok.ensures.value in
    found_alike told b c.in-Ok.value (g.met.D.SectorDisk.whole c.args.disk.now) c.if-read_alike.ensures.value chosen

pub returns-in-Err-clause-value : goal.returns-in-Err-clause-value
returns-in-Err-clause-value g c =
    let told = g.D.SectorDisk.told c.args.disk.now in
    let b = c.read_alike.new.to in
    fails told c.in-Err.fault (chosen_from told (four (if_good (Some b))) (Err c.in-Err.fault) (alike_four told b c.if-read_alike.ensures.value) c.in-Err.ensures.value)

pub returns-in-Ok-choose_apart-clause-value : goal.returns-in-Ok-choose_apart-clause-value
returns-in-Ok-choose_apart-clause-value g c = found_apart (g.D.SectorDisk.told c.args.disk.now) c.in-Ok-choose_apart.value (rw c.read_alike.ensures.untouched.told at c.in-Ok-choose_apart.ensures.value)

pub returns-in-Err-choose_apart-clause-value : goal.returns-in-Err-choose_apart-clause-value
returns-in-Err-choose_apart-clause-value g c = fails (g.D.SectorDisk.told c.args.disk.now) c.in-Err-choose_apart.fault (rw c.read_alike.ensures.untouched.told at c.in-Err-choose_apart.ensures.value)

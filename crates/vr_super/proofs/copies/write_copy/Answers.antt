use Rattle.std.proofs.Common.{Err, rules, ◌≡◌, false, true}
use Rattle.vr_super.proofs.Fronts.{copy_stopped, copy_then}
use Rattle.vr_super.proofs.copies.write_copy.Goals as goal

pub returns-in_err-write_front-clause-runs : goal.returns-in_err-write_front-clause-runs
returns-in_err-write_front-clause-runs g c =
    let is : c.from_residual.result ≡ Err c.in_err-write_front.field-0.0 = search rules in
    rw is (copy_stopped c.args.copy c.args.text.now (g.D.SectorDisk.told c.args.disk.now) (g.D.SectorDisk.told c.write_front.new.self) c.in_err-write_front.ensures.told)

pub returns-in_err-write_others-clause-runs : goal.returns-in_err-write_others-clause-runs
returns-in_err-write_others-clause-runs g c =
    let is : c.from_residual-in_err-write_others.result ≡ Err c.in_err-write_others.field-0.0 = search rules in
    rw is (copy_then c.args.copy c.args.text.now (g.D.SectorDisk.told c.args.disk.now) (g.D.SectorDisk.told c.write_front.new.self) (g.D.SectorDisk.told c.write_others.new.disk) false
    c.in_ok-write_front.ensures.told c.in_err-write_others.ensures.runs)

pub returns-clause-runs : goal.returns-clause-runs
returns-clause-runs g c =
    copy_then c.args.copy c.args.text.now (g.D.SectorDisk.told c.args.disk.now) (g.D.SectorDisk.told c.write_front.new.self) (g.D.SectorDisk.told c.write_others.new.disk) true
    c.in_ok-write_front.ensures.told c.in_ok-write_others.ensures.runs

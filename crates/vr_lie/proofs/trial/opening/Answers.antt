use Rattle.std.proofs.Common.{ap, arith, ◌≡◌}
use Rattle.vr_disk.specs.DiskState.{Disk}
use Rattle.vr_mem.specs.Cells.{disk_of}
use Rattle.vr_lie.proofs.Opening.{found_none, found_opened, opening_is}
use Rattle.vr_lie.proofs.trial.opening.Goals as goal

pub read_sectors-requires-clause-within : goal.read_sectors-requires-clause-within
read_sectors-requires-clause-within c = let o = found_opened (disk_of c.args.disk.now).face c.in-Some.found c.in-Some.ensures.value in let l = o.within in omega arith

pub returns-in-Some-clause-value : goal.returns-in-Some-clause-value
returns-in-Some-clause-value c =
    let o = found_opened (disk_of c.args.disk.now).face c.in-Some.found c.in-Some.ensures.value in
    let same : disk_of c.opens.new.disk ≡ disk_of c.args.disk.now = let t = c.opens.ensures.untouched.told in cc in
    opening_is (disk_of c.args.disk.now).face _ c.in-Some.found.copy _ o (ap (λ (d : Disk). d.face) same) c.read_sectors.ensures.value

pub returns-in-None-clause-value : goal.returns-in-None-clause-value
returns-in-None-clause-value c = found_none (disk_of c.args.disk.now).face c.in-None.ensures.value

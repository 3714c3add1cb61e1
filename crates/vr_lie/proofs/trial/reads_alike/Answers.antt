use Rattle.std.proofs.Common.{None, Some, false, refl, ap, ◌∙◌}
use Rattle.vr_disk.specs.DiskState.{Disk}
use Rattle.vr_mem.specs.Cells.{disk_of}
use Rattle.vr_lie.specs.Table.{others_have}
use Rattle.vr_lie.proofs.Copies.{alike_by, zeros_alike}
use Rattle.vr_lie.proofs.trial.reads_alike.Goals as goal

pub returns-then-reads_zeros-clause-value : goal.returns-then-reads_zeros-clause-value
returns-then-reads_zeros-clause-value c =
    zeros_alike (disk_of c.args.disk.now) (disk_of c.reads_zeros.new.self) c.args.k c.copy_place.result c.reads_zeros.result c.others_zeros.result c.reads_zeros.ensures.told c.copy_place.ensures.place c.reads_zeros.ensures.value c.if-reads_zeros.true c.others_zeros.ensures.value

pub returns-in-Some-clause-value : goal.returns-in-Some-clause-value
returns-in-Some-clause-value c =
    alike_by (disk_of c.args.disk.now) (disk_of c.reads_zeros.new.self) c.args.k c.copy_place-2.result (Some c.in-Some.first.bytes) c.others_have.result c.reads_zeros.ensures.told c.copy_place-2.ensures.place c.in-Some.ensures.value
    (c.others_have.ensures.value ∙ ap (λ (d : Disk). others_have d.face c.args.k c.in-Some.first.bytes) c.in-Some.ensures.told)

pub returns-in-None-clause-value : goal.returns-in-None-clause-value
returns-in-None-clause-value c = alike_by (disk_of c.args.disk.now) (disk_of c.reads_zeros.new.self) c.args.k c.copy_place-2.result None false c.reads_zeros.ensures.told c.copy_place-2.ensures.place c.in-None.ensures.value refl

use Rattle.std.proofs.Common.{ap, arith, refl, sym, true, ◌∙◌, ◌≡◌}
use Rattle.vr_disk.specs.DiskState.{Disk}
use Rattle.vr_mem.specs.Cells.{disk_of}
use Rattle.vr_lie.specs.Table.{reads_alike}
use Rattle.vr_lie.proofs.Copies.{more_alike, sectors_alike}
use Rattle.vr_lie.proofs.trial.are_alike.Goals as goal

pub loop-k-init : goal.loop-k-init
loop-k-init c = record { told = refl; faults = refl; alike = λ k l. absurd (omega arith) }

pub loop-k-preserved : goal.loop-k-preserved
loop-k-preserved c =
    let i = c.loop-k.invariant in
    let n = c.loop-k.k in
    let here : reads_alike (disk_of c.args.disk.now).face n ≡ true = ap (λ (d : Disk). reads_alike d.face n) (sym i.told) ∙ (sym c.reads_alike.ensures.value ∙ c.if-not-reads_alike.false) in
    record { told = c.reads_alike.ensures.told ∙ i.told; faults = c.reads_alike.ensures.faults ∙ i.faults; alike = more_alike (disk_of c.args.disk.now).face n i.alike here }

pub returns-clause-value : goal.returns-clause-value
returns-clause-value c e =
    let i = c.loop-k.invariant in
    let past = c.loop-k-test.false in
    sectors_alike (disk_of c.args.disk.now).face (λ k l. i.alike k (omega arith))

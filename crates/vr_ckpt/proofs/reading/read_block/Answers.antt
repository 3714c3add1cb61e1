use Rattle.std.proofs.Common.{◌∙◌, arith, sym, refl}
use Rattle.vr_ckpt.specs.Blocks.{named}
use Rattle.vr_ckpt.proofs.Readings.{reads_it, reads_none, reads_not, reads_outside, whole_of}
use Rattle.vr_ckpt.proofs.reading.read_block.Goals as goal

pub returns-then-name-from-clause-exact : goal.returns-then-name-from-clause-exact
returns-then-name-from-clause-exact g c = reads_outside (g.D.SectorDisk.told c.args.disk.now) c.args.name.now (omega arith)

pub returns-then-not-fill-clause-exact : goal.returns-then-not-fill-clause-exact
returns-then-not-fill-clause-exact g c =
    reads_not (g.D.SectorDisk.told c.args.disk.now) c.args.name.now c.fill.new.to c.fill.result (omega arith) c.if-not-fill.true c.fill.ensures.value

pub returns-in-None-clause-exact : goal.returns-in-None-clause-exact
returns-in-None-clause-exact g c =
    let told = g.D.SectorDisk.told c.args.disk.now in
    reads_none told c.args.name.now c.fill.new.to (reads_it told c.args.name.now c.fill.new.to c.fill.result (omega arith) c.if-not-fill.false c.fill.ensures.value) (sym c.in-None.is ∙ c.payload_of.ensures.value)

pub returns-in-Some-clause-exact : goal.returns-in-Some-clause-exact
returns-in-Some-clause-exact g c =
    rw c.set.ensures (reads_it (g.D.SectorDisk.told c.args.disk.now) c.args.name.now c.fill.new.to c.fill.result (omega arith) c.if-not-fill.false c.fill.ensures.value)

pub returns-in-Some-clause-whole : goal.returns-in-Some-clause-whole
returns-in-Some-clause-whole g c =
    rw c.set.ensures (whole_of c.args.name.now c.fill.new.to c.in-Some.size (named c.args.name.now c.fill.new.to) refl (sym c.in-Some.is ∙ c.payload_of.ensures.value))

use Rattle.std.proofs.Common.{◌≡◌, ◌+◌, ◌*◌, true, false}
use Rattle.std.specs.Prelude.{IfSome}
use Rattle.vr_disk.specs.DiskState.{reads}
use Rattle.vr_disk.specs.Fronts.{front}
use Rattle.vr_disk.specs.Sectors.{has, together}
use Rattle.vr_super.proofs.Fronts.{front_other, front_same, zeros_others}
use Rattle.vr_super.proofs.copies.reads_text.Goals as goal

pub read_filled-requires-clause-zeros : goal.read_filled-requires-clause-zeros
read_filled-requires-clause-zeros g c = zeros_others c.args.filled c.args.text.now c.split_at.result.1.now c.requires.text.least c.requires.text.most c.split_at.ensures.back c.requires.text.zeros

pub returns-then-not-reads_front-clause-value : goal.returns-then-not-reads_front-clause-value
returns-then-not-reads_front-clause-value g c =
    let told = g.D.SectorDisk.told c.args.disk.now in
    let other : IfSome told (λ d. false ≡ has (front c.args.text.now) (reads d.face (20 * c.args.copy))) = rw c.if-not-reads_front.true at c.reads_front.ensures.value in
    front_other c.args.copy c.args.text.now told (g.met.D.SectorDisk.whole c.args.disk.now) c.requires.copy other

pub returns-clause-value : goal.returns-clause-value
returns-clause-value g c =
    let told = g.D.SectorDisk.told c.args.disk.now in
    let same : IfSome told (λ d. true ≡ has (front c.args.text.now) (reads d.face (20 * c.args.copy))) = rw c.if-not-reads_front.false at c.reads_front.ensures.value in
    let rest : IfSome told (λ d. c.read_filled.result ≡ has c.split_at.result.1.now (together (20 * c.args.copy + 1) 19 d.face)) = rw c.reads_front.ensures.told at c.read_filled.ensures.value in
    front_same c.args.copy c.args.text.now c.split_at.result.1.now told true c.read_filled.result (g.met.D.SectorDisk.whole c.args.disk.now) c.requires.copy c.split_at.ensures.back same rest

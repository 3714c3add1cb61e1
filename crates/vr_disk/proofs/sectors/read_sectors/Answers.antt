use Rattle.std.proofs.Common.{◌≡◌, ◌∙◌, ◌+◌, arith, refl, sym, ap, Some, None, cond}
use Rattle.vr_disk.specs.DiskState.{Disk, reads}
use Rattle.vr_disk.specs.Sectors.{together}
use Rattle.vr_disk.proofs.SectorSteps.{fill_end, fill_start, fill_step, fill_stop}
use Rattle.vr_disk.proofs.Telling.{if_some, reads_to}
use Rattle.vr_disk.proofs.sectors.read_sectors.Goals as goal

pub loop-k-init : goal.loop-k-init
loop-k-init g c = record { told = refl; faults = refl; read_faults = refl; size = c.requires.size; rest = λ d e. fill_start c.args.at c.args.count c.args.to.now d.face }

pub loop-k-preserved : goal.loop-k-preserved
loop-k-preserved g c =
    let k = c.loop-k.k in
    let i = c.args.at in
    let n = c.args.count in
    let s = c.read.new.to.bytes in
    let told = c.loop-k.invariant.told in
    let ok = sym c.is_ok.ensures.value ∙ c.if-not-is_ok.false in
    record {
      told = c.read.ensures.told ∙ told;
      faults = c.read.ensures.others ∙ c.loop-k.invariant.faults;
      read_faults = grind (arith, c.read.ensures.cause.kept, c.loop-k.invariant.read_faults, ok);
      size = let z = c.loop-k.invariant.size in omega arith;
      rest = λ d e.
          let read : reads d.face (i + k) ≡ Some s = reads_to (i + k) (g.D.SectorDisk.told c.loop-k.disk) _ d c.read.ensures.bytes (told ∙ e) ∙ ap (λ b. cond b (Some s) None) ok in
          fill_step i n k (together i n d.face) c.loop-k.to c.put.new.out s d.face c.loop-k-test.true (c.loop-k.invariant.rest d e) read (omega arith) c.put.ensures.front;
    }

pub returns-then-not-is_ok-clause-value : goal.returns-then-not-is_ok-clause-value
returns-then-not-is_ok-clause-value g c =
    let k = c.loop-k.k in
    let i = c.args.at in
    let n = c.args.count in
    let s = c.read.new.to.bytes in
    let ok = sym c.is_ok.ensures.value ∙ c.if-not-is_ok.true in
    if_some (λ (d : Disk). together i n d.face ≡ None) (g.D.SectorDisk.told c.args.disk.now) (λ d e.
    let read : reads d.face (i + k) ≡ None = reads_to (i + k) (g.D.SectorDisk.told c.loop-k.disk) _ d c.read.ensures.bytes (c.loop-k.invariant.told ∙ e) ∙ ap (λ b. cond b (Some s) None) ok in
    fill_stop i n k (together i n d.face) c.loop-k.to d.face c.loop-k-test.true (c.loop-k.invariant.rest d e) read)

pub returns-clause-value : goal.returns-clause-value
returns-clause-value g c =
    if_some (λ (d : Disk). together c.args.at c.args.count d.face ≡ Some c.loop-k.to) (g.D.SectorDisk.told c.args.disk.now)
    (λ d e. fill_end c.args.at c.args.count c.loop-k.k (together c.args.at c.args.count d.face) c.loop-k.to d.face (omega arith) (let z = c.loop-k.invariant.size in omega arith) (c.loop-k.invariant.rest d e))

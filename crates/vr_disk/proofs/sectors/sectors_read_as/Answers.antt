use Rattle.std.proofs.Common.{◌≡◌, ◌∙◌, ◌+◌, ◌*◌, ◌≤◌, arith, refl, sym, ap, true, false, drop, ◌&&◌, ◌-◌}
use Rattle.vr_disk.specs.DiskState.{Disk, IsFace, reads}
use Rattle.vr_disk.specs.Sectors.{has, together}
use Rattle.vr_base.specs.Bytes.{piece}
use Rattle.vr_disk.proofs.SectorSteps.{has_past, has_start, has_step}
use Rattle.vr_disk.proofs.Telling.{if_some, some_if}
use Rattle.vr_disk.proofs.sectors.sectors_read_as.Goals as goal

pub loop-k-init : goal.loop-k-init
loop-k-init g c = record { told = refl; faults = refl; reads = omega arith; rest = λ d e. has_start c.args.at c.args.count c.args.bytes.now d.face }

pub loop-k-preserved : goal.loop-k-preserved
loop-k-preserved g c =
    let k = c.loop-k.k in
    let i = c.args.at in
    let n = c.args.count in
    let b = c.args.bytes.now in
    let told = c.loop-k.invariant.told in
    record {
      told = c.sector_reads_as.ensures.untouched.told ∙ told;
      faults = c.sector_reads_as.ensures.untouched.faults ∙ c.loop-k.invariant.faults;
      reads = omega (arith, c.sector_reads_as.ensures.reads, c.loop-k.invariant.reads);
      rest = λ d e.
          let whole : IsFace d.face = some_if (λ (d : Disk). IsFace d.face) (g.D.SectorDisk.told c.args.disk.now) d (g.met.D.SectorDisk.whole c.args.disk.now) e in
          let sector : has (piece (512 * k) 512 b) (reads d.face (i + k)) ≡ true =
          sym (some_if (λ (d : Disk). c.sector_reads_as.result ≡ has (piece (512 * k) 512 b) (reads d.face (i + k))) (g.D.SectorDisk.told c.loop-k.disk) d c.sector_reads_as.ensures.value (told ∙ e)) ∙ c.if-not-sector_reads_as.false in
          c.loop-k.invariant.rest d e ∙ (has_step i n k b d.face whole c.loop-k-test.true c.requires.within ∙ ap (λ x. x && has (drop (512 * (k + 1)) b) (together (i + (k + 1)) (n - (k + 1)) d.face)) sector);
    }

pub returns-then-not-sector_reads_as-clause-value : goal.returns-then-not-sector_reads_as-clause-value
returns-then-not-sector_reads_as-clause-value g c =
    let k = c.loop-k.k in
    let i = c.args.at in
    let n = c.args.count in
    let b = c.args.bytes.now in
    if_some (λ (d : Disk). false ≡ has b (together i n d.face)) (g.D.SectorDisk.told c.args.disk.now) (λ d e.
    let whole : IsFace d.face = some_if (λ (d : Disk). IsFace d.face) (g.D.SectorDisk.told c.args.disk.now) d (g.met.D.SectorDisk.whole c.args.disk.now) e in
    let sector : has (piece (512 * k) 512 b) (reads d.face (i + k)) ≡ false =
    sym (some_if (λ (d : Disk). c.sector_reads_as.result ≡ has (piece (512 * k) 512 b) (reads d.face (i + k))) (g.D.SectorDisk.told c.loop-k.disk) d c.sector_reads_as.ensures.value (c.loop-k.invariant.told ∙ e)) ∙ c.if-not-sector_reads_as.true in
    sym (c.loop-k.invariant.rest d e ∙ (has_step i n k b d.face whole c.loop-k-test.true c.requires.within ∙ ap (λ x. x && has (drop (512 * (k + 1)) b) (together (i + (k + 1)) (n - (k + 1)) d.face)) sector)))

pub returns-clause-value : goal.returns-clause-value
returns-clause-value g c =
    let k = c.loop-k.k in
    let n = c.args.count in
    let past : n ≤ k = omega arith in
    let most : k ≤ n = let m = c.loop-k.auto.k-end in omega arith in
    if_some (λ (d : Disk). true ≡ has c.args.bytes.now (together c.args.at n d.face)) (g.D.SectorDisk.told c.args.disk.now)
    (λ d e. sym (c.loop-k.invariant.rest d e ∙ has_past c.args.at n k c.args.bytes.now d.face c.requires.size past most))

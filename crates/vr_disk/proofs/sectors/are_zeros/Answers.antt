use Rattle.std.specs.Prelude.{replicate}
use Rattle.std.proofs.lemmas.List.{length-replicate}
use Rattle.vr_disk.proofs.SectorSteps.{zeros_piece}
use Rattle.std.proofs.Common.{ℕ, List, ◌≡◌, ◌∙◌, ◌+◌, ◌*◌, ◌≤◌, arith, refl, sym, ap, true, false, drop, ◌&&◌, ◌-◌}
use Rattle.vr_disk.specs.DiskState.{Disk, IsFace, reads}
use Rattle.vr_disk.specs.Sectors.{has, together}
use Rattle.vr_base.specs.Bytes.{piece}
use Rattle.vr_disk.proofs.SectorSteps.{has_past, has_start, has_step}
use Rattle.vr_disk.proofs.Telling.{if_some, some_if}
use Rattle.vr_disk.proofs.sectors.are_zeros.Goals as goal

pub loop-k-init : goal.loop-k-init
loop-k-init g c = record { told = refl; faults = refl; reads = omega arith; rest = λ d e. has_start c.args.at c.args.count (replicate (512 * c.args.count) 0) d.face }

pub loop-k-preserved : goal.loop-k-preserved
loop-k-preserved g c =
    let k = c.loop-k.k in
    let i = c.args.at in
    let n = c.args.count in
    let b : List ℕ = replicate (512 * n) 0 in
    let told = c.loop-k.invariant.told in
    record {
      told = c.reads_zeros.ensures.told ∙ told;
      faults = c.reads_zeros.ensures.faults ∙ c.loop-k.invariant.faults;
      reads = omega (arith, c.reads_zeros.ensures.reads, c.loop-k.invariant.reads);
      rest = λ d e.
          let whole : IsFace d.face = some_if (λ (d : Disk). IsFace d.face) (g.D.SectorDisk.told c.args.disk.now) d (g.met.D.SectorDisk.whole c.args.disk.now) e in
          let sector : has (piece (512 * k) 512 b) (reads d.face (i + k)) ≡ true =
          ap (λ x. has x (reads d.face (i + k))) (zeros_piece k n c.loop-k-test.true) ∙ sym (some_if (λ (d : Disk). c.reads_zeros.result ≡ has (replicate 512 0) (reads d.face (i + k))) (g.D.SectorDisk.told c.loop-k.disk) d c.reads_zeros.ensures.value (told ∙ e)) ∙ c.if-not-reads_zeros.false in
          c.loop-k.invariant.rest d e ∙ (has_step i n k b d.face whole c.loop-k-test.true c.requires ∙ ap (λ x. x && has (drop (512 * (k + 1)) b) (together (i + (k + 1)) (n - (k + 1)) d.face)) sector);
    }

pub returns-then-not-reads_zeros-clause-value : goal.returns-then-not-reads_zeros-clause-value
returns-then-not-reads_zeros-clause-value g c =
    let k = c.loop-k.k in
    let i = c.args.at in
    let n = c.args.count in
    let b : List ℕ = replicate (512 * n) 0 in
    if_some (λ (d : Disk). false ≡ has b (together i n d.face)) (g.D.SectorDisk.told c.args.disk.now) (λ d e.
    let whole : IsFace d.face = some_if (λ (d : Disk). IsFace d.face) (g.D.SectorDisk.told c.args.disk.now) d (g.met.D.SectorDisk.whole c.args.disk.now) e in
    let sector : has (piece (512 * k) 512 b) (reads d.face (i + k)) ≡ false =
    ap (λ x. has x (reads d.face (i + k))) (zeros_piece k n c.loop-k-test.true) ∙ sym (some_if (λ (d : Disk). c.reads_zeros.result ≡ has (replicate 512 0) (reads d.face (i + k))) (g.D.SectorDisk.told c.loop-k.disk) d c.reads_zeros.ensures.value (c.loop-k.invariant.told ∙ e)) ∙ c.if-not-reads_zeros.true in
    sym (c.loop-k.invariant.rest d e ∙ (has_step i n k b d.face whole c.loop-k-test.true c.requires ∙ ap (λ x. x && has (drop (512 * (k + 1)) b) (together (i + (k + 1)) (n - (k + 1)) d.face)) sector)))

pub returns-clause-value : goal.returns-clause-value
returns-clause-value g c =
    let k = c.loop-k.k in
    let n = c.args.count in
    let past : n ≤ k = omega arith in
    let most : k ≤ n = let m = c.loop-k.auto.k-end in omega arith in
    if_some (λ (d : Disk). true ≡ has (replicate (512 * n) 0) (together c.args.at n d.face)) (g.D.SectorDisk.told c.args.disk.now)
    (λ d e. sym (c.loop-k.invariant.rest d e ∙ has_past c.args.at n k (replicate (512 * n) 0) d.face (length-replicate {A = ℕ} (512 * n) 0) past most))

use Rattle.std.proofs.Common.{◌≡◌, ◌+◌, ◌*◌, ◌-◌, true, false}
use Rattle.std.specs.Prelude.{IfSome, replicate}
use Rattle.vr_disk.specs.Sectors.{has, together}
use Rattle.vr_super.proofs.Behind.{filled_other, filled_same}
use Rattle.vr_super.proofs.sectors.read_filled.Goals as goal

pub returns-then-not-sectors_read_as-clause-value : goal.returns-then-not-sectors_read_as-clause-value
returns-then-not-sectors_read_as-clause-value g c =
    let r = c.requires in
    let other : IfSome (g.D.SectorDisk.told c.args.disk.now) (λ d. false ≡ has c.split_at.result.0.now (together c.args.at c.args.filled d.face)) = rw c.if-not-sectors_read_as.true at c.sectors_read_as.ensures.value in
    filled_other c.args.at c.args.count c.args.filled c.args.bytes.now c.split_at.result.0.now (g.D.SectorDisk.told c.args.disk.now) (g.met.D.SectorDisk.whole c.args.disk.now) r.within r.filled r.zeros c.split_at.ensures.front other

pub returns-clause-value : goal.returns-clause-value
returns-clause-value g c =
    let r = c.requires in
    let same : IfSome (g.D.SectorDisk.told c.args.disk.now) (λ d. true ≡ has c.split_at.result.0.now (together c.args.at c.args.filled d.face)) = rw c.if-not-sectors_read_as.false at c.sectors_read_as.ensures.value in
    let rest : IfSome (g.D.SectorDisk.told c.args.disk.now) (λ d. c.are_zeros.result ≡ has (replicate (512 * (c.args.count - c.args.filled)) 0) (together (c.args.at + c.args.filled) (c.args.count - c.args.filled) d.face)) = rw c.sectors_read_as.ensures.untouched.told at c.are_zeros.ensures.value in
    filled_same c.args.at c.args.count c.args.filled c.args.bytes.now c.split_at.result.0.now (g.D.SectorDisk.told c.args.disk.now) true c.are_zeros.result (g.met.D.SectorDisk.whole c.args.disk.now) r.within r.filled r.zeros c.split_at.ensures.front same rest

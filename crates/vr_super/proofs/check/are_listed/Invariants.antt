use Rattle.std.proofs.Common.{◌≡◌, ◌+◌, ◌-◌, ◌*◌, drop}
use Rattle.std.specs.Prelude.{is_some}
use Rattle.vr_super.specs.Copies.{list_at}
use Rattle.vr_super.proofs.check.are_listed.Given as goal

abbrev pub invariant-loop-i : goal.invariant-loop-i
invariant-loop-i g l = record {
  list : is_some (list_at l.f l.op l.count l.bytes) ≡ is_some (list_at l.f (l.op + l.i) (l.count - l.i) (drop (128 * l.i) l.bytes));
  told : g.D.SectorDisk.told l.disk ≡ g.D.SectorDisk.told l.fn.disk;
  faults : g.D.SectorDisk.faults l.disk ≡ g.D.SectorDisk.faults l.fn.disk;
  reads : g.D.SectorDisk.read_faults l.disk ≡ g.D.SectorDisk.read_faults l.fn.disk;
}

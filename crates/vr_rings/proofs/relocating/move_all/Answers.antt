use Rattle.std.proofs.Common.{◌∙◌, ◌<◌, arith, refl}
use Rattle.std.proofs.lemmas.Result.{err_from_is_err_and}
use Rattle.vr_rings.proofs.Relocated.{moving_ends, moving_goes, moving_starts, moving_stops}
use Rattle.vr_rings.proofs.relocating.move_all.Goals as goal

pub loop-slot-init : goal.loop-slot-init
loop-slot-init g c = record { moved = moving_starts (g.D.SectorDisk.told c.args.disk.now); faults = refl }

pub loop-slot-preserved : goal.loop-slot-preserved
loop-slot-preserved g c =
    let l : c.loop-slot.slot < 64 = omega arith in
    record {
      moved = moving_goes c.loop-slot.slot _ _ _ l c.loop-slot.invariant.moved c.in_ok-move_slot.ensures.runs;
      faults = c.in_ok-move_slot.ensures.cause.kept ∙ c.loop-slot.invariant.faults;
    }

pub returns-in_err-move_slot-clause-runs : goal.returns-in_err-move_slot-clause-runs
returns-in_err-move_slot-clause-runs g c =
    let p = err_from_is_err_and c.from_residual.result c.from_residual.ensures.1 in
    let l : c.loop-slot.slot < 64 = omega arith in
    rw p.1 (moving_stops c.loop-slot.slot _ _ _ l c.loop-slot.invariant.moved c.in_err-move_slot.ensures.runs)

pub returns-clause-runs : goal.returns-clause-runs
returns-clause-runs g c = moving_ends c.loop-slot.slot _ _ (omega arith) c.loop-slot.invariant.moved

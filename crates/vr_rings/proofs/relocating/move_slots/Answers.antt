use Rattle.std.proofs.lemmas.Result.{err_from_is_err_and}
use Rattle.vr_rings.proofs.Relocated.{moved_synced}
use Rattle.vr_rings.proofs.relocating.move_slots.Goals as goal

pub returns-in_err-sync-clause-runs : goal.returns-in_err-sync-clause-runs
returns-in_err-sync-clause-runs g c =
    let p = err_from_is_err_and c.from_residual-in_err-sync.result c.from_residual-in_err-sync.ensures.1 in
    rw p.1 (moved_synced _ _ _ _ c.in_ok-move_all.ensures.runs c.in_err-sync.ensures.told)

pub returns-clause-runs : goal.returns-clause-runs
returns-clause-runs g c = moved_synced _ _ _ _ c.in_ok-move_all.ensures.runs c.in_ok-sync.ensures.told

use Rattle.std.proofs.Common.{Some, subst, ℕ}
use Rattle.vr_opening.specs.Recovering.{MendsValue}
use Rattle.vr_opening.proofs.Moves.{any_halted, any_refused, any_well}
use Rattle.vr_opening.proofs.Recovers.{unfound_cause}
use Rattle.vr_opening.proofs.migrating.migrate_any.Goals as goal

pub returns-in-Err-clause-cause : goal.returns-in-Err-clause-cause
returns-in-Err-clause-cause g c = unfound_cause _ _ _ c.in-Err.ensures.cause

pub returns-in-Err-clause-step : goal.returns-in-Err-clause-step
returns-in-Err-clause-step g c = any_refused _ _ _ _ c.new.ensures c.in-Err.ensures.value

pub returns-in-Ok-moved-clause-step : goal.returns-in-Ok-moved-clause-step
returns-in-Ok-moved-clause-step g c = any_well c.in-Ok.value _ _ _ (subst (λ (n : ℕ). MendsValue (Some n) c.in-Ok.value (g.D.SectorDisk.told c.args.disk.now) (g.D.SectorDisk.told c.find_value.new.disk)) c.new.ensures c.in-Ok.ensures.value) c.in-Ok-moved.ensures.step

pub returns-in-Err-moved-clause-step : goal.returns-in-Err-moved-clause-step
returns-in-Err-moved-clause-step g c = any_halted c.in-Ok.value _ _ _ c.in-Err-moved.halt (subst (λ (n : ℕ). MendsValue (Some n) c.in-Ok.value (g.D.SectorDisk.told c.args.disk.now) (g.D.SectorDisk.told c.find_value.new.disk)) c.new.ensures c.in-Ok.ensures.value) c.in-Err-moved.ensures.step

use Rattle.vr_opening.proofs.Recovers.{begun_stopped, begun_then, begun_wanted}
use Rattle.vr_opening.proofs.reopen.open_value.Goals as goal

pub returns-in-Err-clause-step : goal.returns-in-Err-clause-step
returns-in-Err-clause-step g c = begun_wanted _ _ _

pub returns-in-Ok-open_mended-clause-step : goal.returns-in-Ok-open_mended-clause-step
returns-in-Ok-open_mended-clause-step g c = begun_then _ _ _ _ _ _ _ c.in-Ok.ensures.blank c.in-Ok-open_mended.ensures.step

pub returns-in-Err-open_mended-clause-step : goal.returns-in-Err-open_mended-clause-step
returns-in-Err-open_mended-clause-step g c = begun_stopped _ _ _ _ _ _ _ _ c.in-Ok.ensures.blank c.in-Err-open_mended.ensures.step

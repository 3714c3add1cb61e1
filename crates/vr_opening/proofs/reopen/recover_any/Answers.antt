use Rattle.vr_opening.proofs.Recovers.{refused_any, unfound_cause}
use Rattle.vr_opening.proofs.reopen.recover_any.Goals as goal

pub returns-in-Err-clause-cause : goal.returns-in-Err-clause-cause
returns-in-Err-clause-cause g c = unfound_cause _ _ _ c.in-Err.ensures.cause

pub returns-in-Err-clause-step : goal.returns-in-Err-clause-step
returns-in-Err-clause-step g c = refused_any _ _ _ _ _ c.in-Err.ensures.value

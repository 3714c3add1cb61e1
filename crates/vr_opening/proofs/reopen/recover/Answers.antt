use Rattle.std.proofs.Common.{refl}
use Rattle.vr_opening.proofs.Recovers.{halted, recovered, refused, refused_cause, never_alone}
use Rattle.vr_opening.proofs.reopen.recover.Goals as goal

pub returns-in-Ok-open_value-clause-step : goal.returns-in-Ok-open_value-clause-step
returns-in-Ok-open_value-clause-step g c = recovered _ _ _ _ _ _ _ _ _ c.config_of-found.ensures (c.if-is_same.ensures.same refl) c.in-Ok.ensures.value c.in-Ok-open_value.ensures.step

pub returns-in-Err-open_value-clause-step : goal.returns-in-Err-open_value-clause-step
returns-in-Err-open_value-clause-step g c = halted _ _ _ _ _ _ _ _ _ c.config_of-found.ensures (c.if-is_same.ensures.same refl) c.in-Ok.ensures.value c.in-Err-open_value.ensures.step

pub refusal_of-requires : goal.refusal_of-requires
refusal_of-requires g c = never_alone _ _ _ c.in-Err.ensures.value

pub returns-in-Err-clause-cause : goal.returns-in-Err-clause-cause
returns-in-Err-clause-cause g c = refused_cause _ _ _ _ c.refusal_of.ensures c.in-Err.ensures.cause

pub returns-in-Err-clause-step : goal.returns-in-Err-clause-step
returns-in-Err-clause-step g c = refused _ _ _ _ _ _ c.refusal_of.ensures c.in-Err.ensures.value

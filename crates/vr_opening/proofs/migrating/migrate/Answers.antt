use Rattle.std.proofs.Common.{refl}
use Rattle.vr_opening.proofs.Moves.{migrated_well, migration_halted, migration_refused}
use Rattle.vr_opening.proofs.Recovers.{refused_cause, never_alone}
use Rattle.vr_opening.proofs.migrating.migrate.Goals as goal

pub refusal_of-requires : goal.refusal_of-requires
refusal_of-requires g c = never_alone _ _ _ c.in-Err.ensures.value

pub returns-in-Err-clause-cause : goal.returns-in-Err-clause-cause
returns-in-Err-clause-cause g c = refused_cause _ _ _ _ c.refusal_of.ensures c.in-Err.ensures.cause

pub returns-in-Err-clause-step : goal.returns-in-Err-clause-step
returns-in-Err-clause-step g c = migration_refused _ _ _ _ _ c.refusal_of.ensures c.in-Err.ensures.value

pub returns-in-Ok-moved-clause-step : goal.returns-in-Ok-moved-clause-step
returns-in-Ok-moved-clause-step g c = migrated_well c.args.asked.now c.config_of-found.result c.in-Ok.value _ _ _ c.config_of-found.ensures (c.if-is_same.ensures.same refl) c.in-Ok.ensures.value c.in-Ok-moved.ensures.step

pub returns-in-Err-moved-clause-step : goal.returns-in-Err-moved-clause-step
returns-in-Err-moved-clause-step g c = migration_halted c.args.asked.now c.config_of-found.result c.in-Ok.value _ _ _ c.in-Err-moved.halt c.config_of-found.ensures (c.if-is_same.ensures.same refl) c.in-Ok.ensures.value c.in-Err-moved.ensures.step

use Rattle.vr_rules.proofs.SavesSteps as saves
use Rattle.vr_rules.proofs.sending.steps_save_well.Goals as goal

pub returns : goal.returns
returns g _ = saves.steps_save_well

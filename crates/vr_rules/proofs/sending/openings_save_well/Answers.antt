use Rattle.vr_rules.proofs.SavesOpening as saves
use Rattle.vr_rules.proofs.sending.openings_save_well.Goals as goal

pub returns : goal.returns
returns g _ = saves.openings_save_well

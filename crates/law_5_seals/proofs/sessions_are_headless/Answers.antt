use Rattle.law_5_seals.proofs.Spelling.{sessions_are_headless}
use Rattle.law_5_seals.proofs.sessions_are_headless.Goals as goal

pub returns : goal.returns
returns _ = sessions_are_headless

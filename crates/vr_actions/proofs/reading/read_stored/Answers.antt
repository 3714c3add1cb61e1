use Rattle.std.proofs.Common.{refl}
use Rattle.vr_actions.proofs.Readings.{here_read}
use Rattle.vr_actions.proofs.reading.read_stored.Goals as goal

pub returns-in-Some-clause-reads : goal.returns-in-Some-clause-reads
returns-in-Some-clause-reads g c = here_read _ _ _ _ _ _ _ c.requires.here c.in_ok-entry.ensures.found _ c.in-Some.is refl c.find_entry.ensures.left

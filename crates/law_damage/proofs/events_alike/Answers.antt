use Rattle.law_damage.proofs.Laws.{events}
use Rattle.law_damage.proofs.events_alike.Goals as goal

pub returns : goal.returns
returns c = events

use Rattle.law_3_outputs.proofs.Hushing.{opening_replies_nothing}
use Rattle.law_3_outputs.proofs.openings_reply_nothing.Goals as goal

pub returns : goal.returns
returns g _ = λ s v f a i. opening_replies_nothing s v f a i

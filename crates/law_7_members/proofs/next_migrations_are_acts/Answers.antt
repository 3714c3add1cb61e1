use Rattle.law_7_members.proofs.Left.{next_migrations_are_acts}
use Rattle.law_7_members.proofs.next_migrations_are_acts.Goals as goal

pub returns : goal.returns
returns _ = next_migrations_are_acts

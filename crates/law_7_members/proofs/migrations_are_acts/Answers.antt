use Rattle.law_7_members.proofs.Halting.{migrations_are_acts}
use Rattle.law_7_members.proofs.migrations_are_acts.Goals as goal

pub returns : goal.returns
returns _ = migrations_are_acts

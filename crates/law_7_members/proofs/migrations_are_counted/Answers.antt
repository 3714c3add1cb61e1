use Rattle.law_7_members.proofs.Migrations.{migrations_are_counted}
use Rattle.law_7_members.proofs.migrations_are_counted.Goals as goal

pub returns : goal.returns
returns _ = migrations_are_counted

use Rattle.law_7_members.proofs.Migrations.{migrations_keep_slots}
use Rattle.law_7_members.proofs.migrations_keep_slots.Goals as goal

pub returns : goal.returns
returns _ = migrations_keep_slots

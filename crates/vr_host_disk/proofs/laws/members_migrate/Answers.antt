use Rattle.vr_host_disk.proofs.Acting.{migrations_go, migrations_halt}
use Rattle.vr_host_disk.proofs.laws.members_migrate.Goals as goal

pub returns : goal.returns
returns c = record { go = migrations_go; halt = migrations_halt }

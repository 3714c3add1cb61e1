use Rattle.std.proofs.Common.{arith}
use Rattle.vr_mail.proofs.Groups.{cluster_long}
use Rattle.vr_mail.proofs.cluster.tells_cluster.Goals as goal

pub returns-then-bytes : goal.returns-then-bytes
returns-then-bytes c m s = absurd (omega (arith, cluster_long m c.args.bytes.now s, c.if-bytes.true))

use Rattle.std.proofs.Common.{arith}
use Rattle.vr_super.proofs.Heads.{few}
use Rattle.vr_super.proofs.value.few_at.Goals as goal

pub returns-clause-few : goal.returns-clause-few
returns-clause-few c = let k = few c.args.bytes.now c.requires.good in let e = c.count_at.ensures in omega arith

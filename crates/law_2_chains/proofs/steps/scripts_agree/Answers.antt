use Rattle.law_2_chains.specs.Chains.{Stopped}
use Rattle.law_2_chains.proofs.Playing.{leaves, cut_at}
use Rattle.law_2_chains.proofs.steps.scripts_agree.Goals as goal

pub returns : goal.returns
returns g = (leaves, λ u start i. cut_at (Stopped u start i))

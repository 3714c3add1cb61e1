use Rattle.law_1_machine.proofs.Choice.{choice}
use Rattle.law_1_machine.proofs.choices_are_safe.Goals as goal

pub returns : goal.returns
returns g _ = λ q hs a o v w c head ts e all ch. choice q hs a o v w c head ts e all ch

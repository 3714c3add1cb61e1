use Rattle.std.proofs.Common.{arith, refl}
use Rattle.vr_repair.proofs.Rules.{give_block_ignored}
use Rattle.vr_repair.proofs.blocks.handle_give_block.Goals as goal

pub returns-in_default : goal.returns-in_default
returns-in_default g c = record { ready = c.requires.ready; cause = record { later = omega arith; kept = refl; failed = λ e. absurd cc; wanted = λ e. absurd cc }; step = give_block_ignored _ _ _ _ _ c.decide_give_block.ensures.rule c.in_default.not-BlockTaken c.in_default.not-BlockMended }

use Rattle.std.proofs.Common.{arith, refl}
use Rattle.vr_repair.proofs.Rules.{get_block_ignored}
use Rattle.vr_repair.proofs.blocks.handle_get_block.Goals as goal

pub returns-in_default : goal.returns-in_default
returns-in_default g c = record { cause = record { later = omega arith; kept = refl; failed = λ e. absurd cc; wanted = λ e. absurd cc }; step = get_block_ignored _ _ _ _ _ c.decide_get_block.ensures c.in_default.not-BlockGiven }

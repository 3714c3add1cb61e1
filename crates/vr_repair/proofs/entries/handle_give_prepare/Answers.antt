use Rattle.std.proofs.Common.{arith, refl}
use Rattle.vr_repair.proofs.Rules.{give_prepare_ignored}
use Rattle.vr_repair.proofs.entries.handle_give_prepare.Goals as goal

pub returns-in_default : goal.returns-in_default
returns-in_default g c = record { ready = c.requires.ready; cause = record { later = omega arith; kept = refl; failed = λ e. absurd cc; wanted = λ e. absurd cc }; step = give_prepare_ignored _ _ _ _ _ c.decide_give_prepare.ensures.rule c.in_default.not-EntryTaken }

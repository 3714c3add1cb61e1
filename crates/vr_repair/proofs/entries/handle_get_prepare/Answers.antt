use Rattle.std.proofs.Common.{arith, refl}
use Rattle.vr_repair.proofs.Rules.{get_prepare_ignored}
use Rattle.vr_repair.proofs.entries.handle_get_prepare.Goals as goal

pub returns-in_default : goal.returns-in_default
returns-in_default g c = record { ready = c.requires.ready; cause = record { later = omega arith; kept = refl; failed = λ e. absurd cc; wanted = λ e. absurd cc }; step = get_prepare_ignored _ _ _ _ _ c.decide_get_prepare.ensures c.in_default.not-EntryGiven }

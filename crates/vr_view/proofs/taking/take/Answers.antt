use Rattle.std.proofs.lemmas.Bool.{and_parts}
use Rattle.vr_rules.specs.Words.{may_take}
use Rattle.vr_volatile.proofs.Memory.{stays_ok}
use Rattle.vr_view.specs.Logs.{MayTake}
use Rattle.vr_view.proofs.Takes.{view_taken}
use Rattle.vr_view.proofs.taking.take.Goals as goal

-- the test has it that the headers are a chain
pub take_over-requires-clause-chain : goal.take_over-requires-clause-chain
unfolding MayTake may_take
take_over-requires-clause-chain g c = (and_parts _ _ (and_parts _ _ c.requires.may.may).1).1

pub returns-clause-view : goal.returns-clause-view
returns-clause-view g c = stays_ok _ _ _ _ c.save.ensures.spends.view (view_taken _ _ _ c.take_over.ensures.taken)

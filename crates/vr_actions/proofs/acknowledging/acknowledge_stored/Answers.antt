use Rattle.std.proofs.Common.{◌∙◌, sym}
use Rattle.vr_actions.proofs.Acks.{here_entry}
use Rattle.vr_actions.proofs.acknowledging.acknowledge_stored.Goals as goal

pub acknowledge-requires-clause-entry : goal.acknowledge-requires-clause-entry
acknowledge-requires-clause-entry c = here_entry _ _ _ (sym c.part_at.ensures ∙ c.in-Here.is) c.requires.ready

-- The client's entry is taken out.
use Rattle.std.proofs.Common.{◌∙◌}
use Rattle.vr_state.proofs.Lookups.{remove_entry_is_without}
use Rattle.vr_state.proofs.session_table.remove.Goals as goal

pub returns : goal.returns
returns c = c.shift_remove-session.ensures.entries ∙ remove_entry_is_without c.args.client c.args.table.now.entries c.requires

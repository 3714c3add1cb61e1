-- The client is new, so its entry goes to the end.
use Rattle.std.proofs.Common.{◌∙◌}
use Rattle.vr_state.proofs.Lookups.{insert_entry_end}
use Rattle.vr_state.proofs.session_table.push.Goals as goal

pub returns : goal.returns
returns c = record { ok = c.in_ok-insert.ensures.entries ∙ insert_entry_end c.args.table.now.entries c.args.client c.args.session c.requires }

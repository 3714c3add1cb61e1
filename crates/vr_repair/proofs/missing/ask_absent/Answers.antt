use Rattle.std.proofs.Common.{sym}
use Rattle.vr_volatile.proofs.Repairs.{ready_absent}
use Rattle.vr_repair.proofs.missing.ask_absent.Goals as goal

pub ask_entry-requires-clause-entry : goal.ask_entry-requires-clause-entry
ask_entry-requires-clause-entry g c = ready_absent _ _ c.requires.ready (sym c.in-Some.ensures)

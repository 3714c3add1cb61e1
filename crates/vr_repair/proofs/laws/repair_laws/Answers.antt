use Rattle.vr_repair.proofs.Handled.{blocks_taken, entries_taken}
use Rattle.vr_repair.proofs.Repaired.{blocks_repaired, entries_repaired}
use Rattle.vr_repair.proofs.laws.repair_laws.Goals as goal

pub returns : goal.returns
returns c = record { entries = entries_repaired; blocks = blocks_repaired; taken_entries = entries_taken; taken_blocks = blocks_taken }

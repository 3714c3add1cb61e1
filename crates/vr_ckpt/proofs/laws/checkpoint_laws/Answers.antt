use Rattle.vr_ckpt.proofs.Below.{few_below}
use Rattle.vr_ckpt.proofs.Done.{done_law}
use Rattle.vr_ckpt.proofs.Keeping.{keep_law, tables_held}
use Rattle.vr_ckpt.proofs.laws.checkpoint_laws.Goals as goal

pub returns-clause-keep : goal.returns-clause-keep
returns-clause-keep c = keep_law

pub returns-clause-held : goal.returns-clause-held
returns-clause-held c = tables_held

pub returns-clause-done : goal.returns-clause-done
returns-clause-done c = done_law

pub returns-clause-below : goal.returns-clause-below
returns-clause-below c = few_below

use Rattle.law_1_machine.proofs.Columns.{table_fits}
use Rattle.law_1_machine.proofs.the_table_fits.Goals as goal

pub returns : goal.returns
returns _ = table_fits

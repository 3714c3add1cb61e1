use Rattle.std.proofs.Common.{sym}
use Rattle.std.specs.Prelude.{map}
use Rattle.vr_super.specs.Seen.{seen}
use Rattle.vr_super.proofs.Alike.{chosen_read}
use Rattle.vr_super.proofs.Choice.{opened_good}
use Rattle.vr_super.proofs.recovering.choose.Goals as goal

pub read_value-requires-clause-good : goal.read_value-requires-clause-good
read_value-requires-clause-good c = opened_good c.in-Some.best.now.bytes c.args.readings.now c.requires (sym c.in-Some.ensures)

pub returns-in-Some : goal.returns-in-Some
returns-in-Some c =
    let bytes = c.in-Some.best.now.bytes in
    let good = opened_good bytes c.args.readings.now c.requires (sym c.in-Some.ensures) in
    chosen_read (map seen c.args.readings.now) bytes c.read_value.result (sym c.in-Some.ensures) good c.read_value.ensures.value c.read_value.ensures.fault

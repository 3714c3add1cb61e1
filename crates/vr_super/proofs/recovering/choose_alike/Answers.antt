use Rattle.std.proofs.Common.{◌∙◌, sym}
use Rattle.vr_super.specs.Opens.{four, if_good}
use Rattle.std.proofs.Common.{Some}
use Rattle.vr_super.proofs.Alike.{chosen_bad, chosen_read, opened_good}
use Rattle.vr_super.proofs.recovering.choose_alike.Goals as goal

pub returns-then-is_good-clause-value : goal.returns-then-is_good-clause-value
returns-then-is_good-clause-value g c =
    let b = c.args.bytes.now in
    let good = sym c.is_good.ensures.value ∙ c.if-is_good.true in
    chosen_read (four (if_good (Some b))) b c.read_value.result (opened_good b good) good c.read_value.ensures.value c.read_value.ensures.fault

pub returns-else-is_good-clause-value : goal.returns-else-is_good-clause-value
returns-else-is_good-clause-value g c = chosen_bad c.args.bytes.now (sym c.is_good.ensures.value ∙ c.if-is_good.false)

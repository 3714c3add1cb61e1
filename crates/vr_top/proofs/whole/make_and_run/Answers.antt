use Rattle.std.proofs.Common.{ap, rules}
use Rattle.vr_top.proofs.Begun.{failed, short_of_nothing, short_of_objects, short_of_path, short_of_words}
use Rattle.vr_top.specs.Making.{texts_told}
use Rattle.vr_top.proofs.whole.make_and_run.Goals as goal

pub returns-in_err-words : goal.returns-in_err-words
returns-in_err-words g c =
    failed _ c.from_residual.result (search rules) (short_of_words _ _ _ _ (ap texts_told c.in_err-words.ensures) c.words.ensures)

pub returns-in_err-path : goal.returns-in_err-path
returns-in_err-path g c =
    failed _ c.from_residual-in_err-path.result (search rules)
    (short_of_path _ _ _ _ _ _ c.in_ok-words.ensures.1 c.in_err-path.ensures c.words.ensures c.path.ensures)

pub returns-in_err-objects : goal.returns-in_err-objects
returns-in_err-objects g c =
    failed _ c.from_residual-in_err-objects.result (search rules)
    (short_of_objects _ _ _ _ _ _ _ _ _ _ c.in_ok-words.ensures.1 c.in_ok-path.ensures.0 c.in_ok-path.ensures.1 c.in_err-objects.was
    c.words.ensures c.path.ensures c.make.ensures)

pub returns : goal.returns
returns g c =
    short_of_nothing _ _ _ _ _ _ _ _ _ _ _ _ _ _ c.in_ok-words.ensures.0 c.in_ok-words.ensures.1 c.in_ok-path.ensures.0 c.in_ok-path.ensures.1 c.in_ok-objects.was
    c.words.ensures c.path.ensures c.make.ensures c.take_back.ensures (record { ends = c.run-status.ensures.ends; trial = c.run-status.ensures.trial })

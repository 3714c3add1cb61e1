use Rattle.std.proofs.Common.{map}
use Rattle.std.specs.Prelude.{string_bytes}
use Rattle.vr_args.proofs.Found.{enters_by, fails_by}
use Rattle.vr_args.proofs.reading.matches_of.Goals as goal

pub returns-clause-fails : goal.returns-clause-fails
returns-clause-fails c =
    fails_by c.in_ok-command.field-0 (map string_bytes c.args.words.now) c.try_get_matches_from.result c.in_ok-command.ensures
    c.try_get_matches_from.ensures.kinds

pub returns-clause-entered : goal.returns-clause-entered
returns-clause-entered c =
    enters_by c.in_ok-command.field-0 (map string_bytes c.args.words.now) c.try_get_matches_from.result c.in_ok-command.ensures
    c.try_get_matches_from.ensures.matches

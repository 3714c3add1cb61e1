-- The outputs of the schedule that words ask for have one log.
use Rattle.std.proofs.Common.{◌≡◌, ◌<◌, List, Option, Some, None, refl, arith}
use Rattle.clap.specs.Words.{Text}
use Rattle.cmd_replay.proofs.Headline.{schedule_has_one_log as of_replay}
use Rattle.cmd_soak.proofs.Headline.{headline as of_soak}
use Rattle.vr_top.specs.Ends.{HasOneLog}
use Rattle.vr_top.specs.Roles.{IsGood}
use Rattle.vr_top.proofs.Good.{asked_good}
use Rattle.vr_args.specs.Asked.{Asked, Client, Migrate, Node, Replay, Soak, Trial, asked}

one_log : (o : Option Asked) → ((a : Asked) → o ≡ Some a → IsGood a) → HasOneLog o
one_log None good = tt
one_log (Some Replay) good = of_replay
one_log (Some (Soak w)) good = of_soak w.seed w.count (let few : w.count < 1000000 = good (Soak w) refl in omega (arith, few))
one_log (Some (Node a)) good = tt
one_log (Some (Client a)) good = tt
one_log (Some (Trial a)) good = tt
one_log (Some (Migrate a)) good = tt

pub words_have_one_log : (words : List Text) → HasOneLog (asked words)
words_have_one_log words = one_log (asked words) (asked_good words)

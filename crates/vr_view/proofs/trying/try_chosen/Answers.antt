use Rattle.std.proofs.Common.{refl}
use Rattle.vr_view.proofs.Choices.{choice_ends, chosen_taught}
use Rattle.vr_view.proofs.trying.try_chosen.Goals as goal

pub try_log-requires-clause-act : goal.try_log-requires-clause-act
try_log-requires-clause-act g c = record { ready = c.requires.send.ready; room = c.requires.send.room }

pub try_log-requires-clause-taught : goal.try_log-requires-clause-taught
try_log-requires-clause-taught g c = chosen_taught _ _ _ _ _ c.requires.send.ready c.requires.send.view c.requires.stated refl c.requires.chosen c.chosen_log-log.ensures

pub returns : goal.returns
returns g c =
    record {
      ready = c.try_log.ensures.ready;
      cause = c.try_log.ensures.cause;
      step = choice_ends _ _ _ _ _ _ _ _ _ _ _ refl c.requires.chosen c.requires.stated c.chosen_log-log.ensures c.try_log.ensures.step;
    }

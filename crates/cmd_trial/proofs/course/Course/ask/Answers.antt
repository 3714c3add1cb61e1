use Rattle.std.proofs.Common.{rules}
use Rattle.cmd_trial.proofs.course.Course.ask.Goals as goal

pub exchange-requires : goal.exchange-requires
exchange-requires g c = record { number = search rules; first = search rules; fits = c.in-Ok.ensures.fits c.args.self.now.core.version }

use Rattle.std.proofs.Common.{rules, sym}
use Rattle.vr_actions.proofs.Loads.{load_then, ready_loaded, ready_opened}
use Rattle.vr_actions.proofs.loading.load.Goals as goal

pub returns-in_ok-take_load-clause-acts : goal.returns-in_ok-take_load-clause-acts
returns-in_ok-take_load-clause-acts g c = record { ready = search (rules, ready_loaded, ready_opened); cause = search rules; step = load_then _ _ _ _ _ _ (sym c.if-has_checkpoint.ensures) c.in_ok-found.ensures.found c.in_ok-take_load.ensures.loaded }

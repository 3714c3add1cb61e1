use Rattle.std.proofs.Common.{rules, ◌∙◌, ap}
use Rattle.vr_volatile.proofs.Memory.{may_ready, readies}
use Rattle.vr_rules.specs.Words.{lost}
use Rattle.vr_rules.proofs.Stepping.{found_lost}
use Rattle.vr_actions.proofs.applying.apply_found.Goals as goal

pub returns-in-None-clause-acts : goal.returns-in-None-clause-acts
returns-in-None-clause-acts g c =
    record {
      ready = search (rules, may_ready, readies);
      cause = search rules;
      step = found_lost _ _ _ _ _ _ _ (rw c.in-None.is at c.in_ok-entry.ensures.found) (c.lose.ensures.lost ∙ ap (lost c.args.header.now) c.find_entry.ensures.left);
    }

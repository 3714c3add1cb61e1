use Rattle.std.proofs.Common.{rules, ◌∙◌, ap}
use Rattle.vr_rules.specs.Words.{lost}
use Rattle.vr_volatile.proofs.Memory.{readies}
use Rattle.vr_repair.proofs.Visits.{found_stored, slot_lost, slot_read_from}
use Rattle.vr_repair.proofs.visiting.visit_stored.Goals as goal

pub returns-then-has_entry-clause-found : goal.returns-then-has_entry-clause-found
returns-then-has_entry-clause-found g c = found_stored _ _ _ _ c.has_entry.ensures.value _ _ c.has_entry.ensures.untouched.told c.if-has_entry.true c.mend_header.ensures.found

pub returns-then-has_entry-clause-acts : goal.returns-then-has_entry-clause-acts
returns-then-has_entry-clause-acts g c =
    record {
      ready = c.mend_header.ensures.acts.ready;
      cause = search rules;
      step = slot_read_from _ _ _ _ _ _ c.requires.here c.has_entry.ensures.untouched.told c.has_entry.ensures.value _ _ _ _ _ c.has_entry.ensures.left c.if-has_entry.true c.mend_header.ensures.acts.step;
    }

pub returns-else-has_entry-clause-acts : goal.returns-else-has_entry-clause-acts
returns-else-has_entry-clause-acts g c =
    record {
      ready = search (rules, readies);
      cause = search rules;
      step = slot_lost _ _ _ _ _ _ c.requires.here c.has_entry.ensures.untouched.told c.has_entry.ensures.value _ c.if-has_entry.false (c.lose.ensures.lost ∙ ap (lost c.args.header.now) c.has_entry.ensures.left);
    }

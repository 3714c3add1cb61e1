use Rattle.std.proofs.Common.{arith, refl, rules}
use Rattle.vr_rules.specs.Words.{prepare_again}
use Rattle.vr_actions.proofs.Goes.{over_ends, over_stops}
use Rattle.vr_view.proofs.trying.prepare_all.Goals as goal

pub returns-in-Err-clause-acts : goal.returns-in-Err-clause-acts
returns-in-Err-clause-acts g c =
    record {
      ready = search rules;
      cause = search rules;
      step =
          over_stops prepare_again c.commit-commit.result c.head_of-head.result c.loop-i.i _ c.args.log.now.head _ _ _ _ _ _ _ _ _ _ _ _ c.loop-i.invariant.step
          (omega (arith, c.loop-i-test.true, c.saturating_sub-i-end.ensures)) refl c.commit-commit.ensures c.head_of-head.ensures c.in-Err.ensures.acts.step;
    }

pub returns-clause-acts : goal.returns-clause-acts
returns-clause-acts g c =
    record {
      ready = search rules;
      cause = search rules;
      step =
          over_ends prepare_again c.commit-commit.result c.head_of-head.result c.loop-i.i c.args.log.now.head _ _ _ _ _ _ c.loop-i.invariant.step
          (omega (arith, c.loop-i-test.false, c.saturating_sub-i-end.ensures)) c.commit-commit.ensures c.head_of-head.ensures;
    }

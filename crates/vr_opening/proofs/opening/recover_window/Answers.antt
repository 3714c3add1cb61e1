use Rattle.std.proofs.Common.{◌+◌, ◌∙◌, subst}
use Rattle.vr_super.specs.Copies.{SuperValue}
use Rattle.vr_opening.specs.Finding.{IsOpening}
use Rattle.vr_opening.proofs.Olds.{ops_at, ops_stopped}
use Rattle.vr_opening.proofs.opening.recover_window.Goals as goal

pub returns-in-Err-clause-step : goal.returns-in-Err-clause-step
returns-in-Err-clause-step g c = ops_stopped _ _ _ _ _ _ _ _ _ _ _ _ _ _ _ c.loop-i-test.true c.loop-i.invariant.saved c.loop-i.invariant.step c.in-Err.ensures.step

pub loop-i-preserved : goal.loop-i-preserved
loop-i-preserved g c =
    let same = c.loop-i.invariant.saved in
    record {
      opening = subst (λ (v : SuperValue). IsOpening (v.fields.checkpoint + (c.loop-i.i + 1)) c.recover_nth.new.replica) same c.in-Ok.ensures.opening;
      saved = c.in-Ok.ensures.saved ∙ same;
      faults = c.in-Ok.ensures.cause.kept ∙ c.loop-i.invariant.faults;
      step = ops_at _ _ _ _ _ _ _ _ _ _ _ _ c.loop-i-test.true same c.loop-i.invariant.step c.in-Ok.ensures.step;
    }

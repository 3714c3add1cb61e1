use Rattle.std.proofs.Common.{arith, ◌<◌, ◌≤◌, ◌∙◌, ap, length, subst, sym}
use Rattle.vr_super.specs.Copies.{SuperValue}
use Rattle.vr_opening.proofs.Olds.{olds_at, olds_end, olds_found, olds_stopped}
use Rattle.vr_opening.proofs.opening.recover_olds.Goals as goal

pub returns-in-Err-clause-step : goal.returns-in-Err-clause-step
returns-in-Err-clause-step g c =
    let test = c.loop-i-test.true in
    let end = c.header_count-count.ensures in
    let inside : c.loop-i.i < length c.args.replica.now.saved.headers = omega (arith, test, end) in
    olds_stopped _ _ _ _ _ _ _ _ _ _ _ _ _ _ _ inside c.loop-i.invariant.saved c.loop-i.invariant.step c.in-Err.ensures.step

pub loop-i-preserved : goal.loop-i-preserved
loop-i-preserved g c =
    let same = c.loop-i.invariant.saved in
    let test = c.loop-i-test.true in
    let end = c.header_count-count.ensures in
    let inside : c.loop-i.i < length c.args.replica.now.saved.headers = omega (arith, test, end) in
    record {
      opening = c.in-Ok.ensures.opening;
      saved = c.in-Ok.ensures.saved ∙ same;
      faults = c.in-Ok.ensures.cause.kept ∙ c.loop-i.invariant.faults;
      step = olds_at _ _ _ _ _ _ _ _ _ _ _ _ inside same c.loop-i.invariant.step c.in-Ok.ensures.step;
    }

pub returns-clause-opening : goal.returns-clause-opening
returns-clause-opening g c =
    let same = c.loop-i.invariant.saved in
    let test = c.loop-i-test.false in
    let end = c.header_count-count.ensures in
    let past : length c.args.replica.now.saved.headers ≤ c.loop-i.i = omega (arith, test, end) in
    olds_found _ _ _ c.loop-i.invariant.opening (subst (λ (v : SuperValue). length v.headers ≤ c.loop-i.i) (sym same) past) (sym (ap (λ (v : SuperValue). v.fields.checkpoint) same))

pub returns-clause-step : goal.returns-clause-step
returns-clause-step g c =
    let test = c.loop-i-test.false in
    let end = c.header_count-count.ensures in
    let past : length c.args.replica.now.saved.headers ≤ c.loop-i.i = omega (arith, test, end) in
    olds_end c.args.replica.now.saved _ _ _ _ _ _ _ past c.loop-i.invariant.step

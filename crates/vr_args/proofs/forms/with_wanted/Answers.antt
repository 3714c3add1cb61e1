use Rattle.std.proofs.Common.{◌<◌, ◌≤◌, arith, length}
use Rattle.vr_args.proofs.Forming.{wanting_done, wanting_next}
use Rattle.vr_args.proofs.forms.with_wanted.Goals as goal

pub loop-id-preserved : goal.loop-id-preserved
loop-id-preserved c =
    let test = c.loop-id-test.true in
    let end = c.loop-id.auto.id-index-end in
    let h : c.loop-id.id-index < length c.args.ids.now = omega (arith, test, end) in
    record {
      form = wanting_next c.loop-id.command c.and_wanted-command.result c.args.ids.now c.loop-id.id-index _ _ h c.loop-id.invariant.form c.and_wanted-command.ensures.form;
      local = c.and_wanted-command.ensures.local;
    }

pub returns-clause-form : goal.returns-clause-form
returns-clause-form c =
    let test = c.loop-id-test.false in
    let end = c.loop-id.auto.id-index-end in
    let h : length c.args.ids.now ≤ c.loop-id.id-index = omega (arith, test, end) in
    wanting_done c.loop-id.command c.args.ids.now c.loop-id.id-index _ h c.loop-id.invariant.form

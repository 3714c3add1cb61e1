use Rattle.std.proofs.Common.{◌<◌, arith, length}
use Rattle.vr_state.specs.StateTexts.{payloads}
use Rattle.vr_ckpt.proofs.Planning.{blocks_end, blocks_step, payloads_end, payloads_step}
use Rattle.vr_ckpt.proofs.plan.plan_text.Goals as goal

pub loop-i-preserved : goal.loop-i-preserved
loop-i-preserved c =
    let text = c.args.text.now in
    let n = payloads (length text) in
    let l : c.loop-i.i < n = let e = c.payloads_in-i-end.ensures in let t = c.loop-i-test.true in omega arith in
    record {
      kept = payloads_step c.args.run text c.args.old.now c.loop-i.i n c.loop-i.payloads c.push.new.self _ c.in_ok-plan_payload.field-0 l c.in_ok-plan_payload.ensures.payload c.in_ok-push.ensures.ok c.loop-i.invariant.kept;
      placed = λ h. c.in_ok-plan_payload.ensures.placed (c.loop-i.invariant.placed h);
      writes = blocks_step c.args.run text c.args.old.now c.loop-i.i n c.loop-i.blocks c.plan_payload.new.blocks _ l c.in_ok-plan_payload.ensures.blocks c.loop-i.invariant.writes;
    }

pub returns-clause-payloads : goal.returns-clause-payloads
returns-clause-payloads c =
    let text = c.args.text.now in
    let n = payloads (length text) in
    payloads_end c.args.run text c.args.old.now c.loop-i.i n c.loop-i.payloads _ (let e = c.payloads_in-i-end.ensures in let t = c.loop-i-test.false in omega arith) c.loop-i.invariant.kept

pub returns-clause-blocks : goal.returns-clause-blocks
returns-clause-blocks c =
    let text = c.args.text.now in
    let n = payloads (length text) in
    blocks_end c.args.run text c.args.old.now c.loop-i.i n c.loop-i.blocks _ (let e = c.payloads_in-i-end.ensures in let t = c.loop-i-test.false in omega arith) c.loop-i.invariant.writes

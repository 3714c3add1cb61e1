use Rattle.std.proofs.Common.{arith}
use Rattle.vr_embed.proofs.Worlds.{goes_on}
use Rattle.vr_embed.proofs.group.Group.deliver.Goals as goal

pub loop-preserved : goal.loop-preserved
loop-preserved c =
    let i = c.loop.invariant in
    let e = c.in_ok-deliver_one.ensures in
    let a = i.least in
    let b = i.most in
    let d = e.least in
    let f = e.most in
    let n = i.counted in
    let k = e.one c.if-not-branch.false in
    record {
      goes = goes_on c.args.self.now.link.next c.loop.self.link.next c.deliver_one.new.self.link.next c.args.self.now c.loop.self c.deliver_one.new.self i.least e.least i.goes e.goes;
      least = omega (arith, a, d);
      most = omega (arith, b, f);
      counted = omega (arith, n, k);
    }

pub returns-then-not-branch-clause-goes : goal.returns-then-not-branch-clause-goes
returns-then-not-branch-clause-goes c =
    let i = c.loop.invariant in
    let e = c.in_ok-deliver_one.ensures in
    goes_on c.args.self.now.link.next c.loop.self.link.next c.deliver_one.new.self.link.next c.args.self.now c.loop.self c.deliver_one.new.self i.least e.least i.goes e.goes

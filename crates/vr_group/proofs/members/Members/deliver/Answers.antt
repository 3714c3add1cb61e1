use Rattle.std.proofs.Common.{◌≡◌, ◌%◌, arith, get_or, sym, ◌∙◌}
use Rattle.vr_group.specs.Group.{world_of}
use Rattle.vr_group.proofs.Acts.{deliver_nothing, letter_delivered}
use Rattle.vr_group.proofs.members.Members.deliver.Goals as goal

pub returns-then-count-eq0-clause-happened : goal.returns-then-count-eq0-clause-happened
returns-then-count-eq0-clause-happened c = deliver_nothing (world_of c.args.self.now) c.args.number _ c.args.to.now (sym c.len-count.ensures ∙ c.if-count-eq0.true) c.clear.ensures

pub returns-clause-happened : goal.returns-clause-happened
returns-clause-happened c =
    let letter = c.index-as_slice-number.result in
    let all = c.as_slice.ensures in
    let item = c.index-as_slice-number.is in
    let is : letter ≡ get_or c.args.self.now.sent (c.args.number % c.len-count.result) letter = cc in
    letter_delivered (world_of c.args.self.now) c.args.number c.len-count.result c.to.result c.event.result.now letter c.act_at-acted.new.hosts.items c.record_outputs.new.sent c.act_at-acted.new.out c.args.to.now c.record_outputs.new.to c.len-count.ensures (omega (arith, c.if-count-eq0.false)) is c.to.ensures
    (c.event.ensures ∙ c.in_ok-delivery.ensures) c.in_ok-acted.ensures (rw c.as_slice-2.ensures at c.in_ok-record_outputs.ensures.sent) (rw c.as_slice-2.ensures at c.in_ok-record_outputs.ensures.text)

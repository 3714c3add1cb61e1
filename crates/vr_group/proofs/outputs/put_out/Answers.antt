use Rattle.std.proofs.Common.{rules, ◌≡◌, ◌∷◌}
use Rattle.vr_group.proofs.Numbering.{count_fits, count_rest, puts_rest}
use Rattle.vr_group.proofs.outputs.put_out.Goals as goal

pub number_after-next-requires : goal.number_after-next-requires
number_after-next-requires c =
    let is : c.loop-output.output-iterator.rest.items ≡ c.in-Some.output ∷ c.next.new.self.rest.items = search rules in
    count_fits c.loop-output.number c.args.end c.in-Some.output _ _ is c.loop-output.invariant.room

pub loop-output-preserved : goal.loop-output-preserved
loop-output-preserved c =
    let is : c.loop-output.output-iterator.rest.items ≡ c.in-Some.output ∷ c.next.new.self.rest.items = search rules in
    let next = c.number_after-next.ensures in
    record {
      room = count_rest c.loop-output.number c.args.end c.number_after-next.result c.in-Some.output _ _ is next c.loop-output.invariant.room;
      puts = puts_rest c.loop-output.number c.number_after-next.result c.in-Some.output _ c.next.new.self.rest.items c.put_of.result c.loop-output.puts c.push.new.self _ is next c.put_of.ensures c.in_ok-push.ensures.ok c.loop-output.invariant.puts;
    }

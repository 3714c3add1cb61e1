use Rattle.std.proofs.Common.{◌≡◌, ◌*◌, arith, length, take}
use Rattle.vr_io_policy.proofs.Gathering.{gathered, whole_more}
use Rattle.vr_io_policy.proofs.page_buffer.put_all.Goals as goal

pub loop-k-preserved : goal.loop-k-preserved
loop-k-preserved c = record {
  size = let z = c.loop-k.invariant.size in omega arith;
  front = gathered c.args.sectors.now c.loop-k.k c.loop-k.out c.put.new.out c.bytes.result c.loop-k-test.true (omega arith) c.bytes.ensures c.loop-k.invariant.front c.put.ensures.front;
  whole = whole_more c.args.sectors.now c.loop-k.k c.bytes.result (omega arith) c.bytes.ensures c.loop-k.invariant.whole;
}

use Rattle.vr_codec.proofs.Fitting.{headers_next, headers_read}
use Rattle.vr_codec.proofs.read.read_headers.Goals as goal

pub loop-i-preserved : goal.loop-i-preserved
loop-i-preserved c = rw (c.split_at.ensures.back, c.in_ok-push.ensures.items, c.decoded_header.ensures.fields) (record {
  headers = headers_next c.args.count c.loop-i.i c.loop-i.rest.now c.loop-i-test.true c.loop-i.invariant.headers;
  same = headers_read c.args.count c.loop-i.i c.loop-i.rest.now c.loop-i.headers.items _ c.loop-i-test.true c.loop-i.invariant.same;
})

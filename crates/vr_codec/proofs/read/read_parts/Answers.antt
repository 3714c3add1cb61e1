use Rattle.std.proofs.Common.{◌<◌, length, arith}
use Rattle.vr_codec.proofs.Fitting.{parts_next, parts_read}
use Rattle.vr_codec.proofs.read.read_parts.Goals as goal

pub read_part-requires : goal.read_part-requires
read_part-requires c = (parts_next c.args.tags.now c.loop-tag.tag-index c.loop-tag.rest.now (omega arith) c.loop-tag.invariant.headers).0

pub rest_at-rest-requires : goal.rest_at-rest-requires
rest_at-rest-requires c = (parts_next c.args.tags.now c.loop-tag.tag-index c.loop-tag.rest.now (omega arith) c.loop-tag.invariant.headers).0

pub loop-tag-preserved : goal.loop-tag-preserved
loop-tag-preserved c =
    let lt : c.loop-tag.tag-index < length c.args.tags.now = omega arith in
    rw (c.rest_at-rest.ensures, c.in_ok-push.ensures.items, c.read_part.ensures) (record {
      headers = (parts_next c.args.tags.now c.loop-tag.tag-index c.loop-tag.rest.now lt c.loop-tag.invariant.headers).1;
      same = parts_read c.args.tags.now c.loop-tag.tag-index c.loop-tag.rest.now c.loop-tag.parts.items _ lt c.loop-tag.invariant.same;
    })

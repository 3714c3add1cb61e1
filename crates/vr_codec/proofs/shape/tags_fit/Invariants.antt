use Rattle.std.proofs.Common.{◌≡◌, ◌+◌, drop}
use Rattle.vr_codec.specs.Shapes.{tags_fit}
use Rattle.vr_codec.proofs.shape.tags_fit.Given as goal

abbrev pub invariant-loop-tag : goal.invariant-loop-tag
invariant-loop-tag l = record {
  at_op : l.at ≡ l.op + l.tag-index;
  same : tags_fit l.version l.cluster l.last (drop l.tag-index l.tags) l.at l.rest ≡ tags_fit l.fn.version l.fn.cluster l.fn.last l.fn.tags l.fn.op l.fn.bytes;
}

use Rattle.std.proofs.Common.{◌≡◌, ◌++◌, drop, true}
use Rattle.vr_codec.specs.Reading.{are_parts, parts_at}
use Rattle.vr_codec.proofs.read.read_parts.Given as goal

abbrev pub invariant-loop-tag : goal.invariant-loop-tag
invariant-loop-tag l = record {
  headers : are_parts (drop l.tag-index l.tags) l.rest ≡ true;
  same : l.parts.items ++ parts_at (drop l.tag-index l.tags) l.rest ≡ parts_at l.fn.tags l.fn.bytes;
}

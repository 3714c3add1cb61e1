use Rattle.std.proofs.Common.{◌≡◌, ◌++◌, drop}
use Rattle.std.specs.Prelude.{map}
use Rattle.vr_base.specs.Bytes.{KeepsFront}
use Rattle.vr_msg.specs.Spelling.{tag}
use Rattle.vr_codec.proofs.write.write_tags.Given as goal

abbrev pub invariant-loop-part : goal.invariant-loop-part
invariant-loop-part l = record {
  bytes : l.to.items ++ map tag (drop l.part-index l.parts) ≡ l.initial.to.items ++ map tag l.parts;
  front : KeepsFront l.initial.to.items l.to.items;
}

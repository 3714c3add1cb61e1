use Rattle.std.proofs.Common.{◌≡◌, ◌++◌, drop}
use Rattle.vr_base.specs.Bytes.{KeepsFront}
use Rattle.vr_msg.specs.Spelling.{AreHeaders, headers_bytes, known}
use Rattle.vr_codec.proofs.write.write_known.Given as goal

abbrev pub invariant-loop-part : goal.invariant-loop-part
invariant-loop-part l = record {
  bytes : l.to.items ++ headers_bytes (known (drop l.part-index l.parts)) ≡ l.initial.to.items ++ headers_bytes (known l.parts);
  front : KeepsFront l.initial.to.items l.to.items;
  values : AreHeaders (known (drop l.part-index l.parts)) → AreHeaders (known l.parts);
}

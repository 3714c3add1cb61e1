use Rattle.std.proofs.Common.{◌≡◌, ◌++◌, drop}
use Rattle.vr_base.specs.Bytes.{KeepsFront}
use Rattle.vr_msg.specs.Spelling.{AreHeaders, headers_bytes}
use Rattle.vr_codec.proofs.write.write_headers.Given as goal

abbrev pub invariant-loop-header : goal.invariant-loop-header
invariant-loop-header l = record {
  bytes : l.to.items ++ headers_bytes (drop l.header-index l.headers) ≡ l.initial.to.items ++ headers_bytes l.headers;
  front : KeepsFront l.initial.to.items l.to.items;
  values : AreHeaders (drop l.header-index l.headers) → AreHeaders l.headers;
}

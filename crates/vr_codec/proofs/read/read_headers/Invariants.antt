use Rattle.std.proofs.Common.{◌≡◌, ◌-◌, ◌++◌, true}
use Rattle.vr_codec.specs.Reading.{are_headers, headers_at}
use Rattle.vr_codec.proofs.read.read_headers.Given as goal

abbrev pub invariant-loop-i : goal.invariant-loop-i
invariant-loop-i l = record {
  headers : are_headers (l.count - l.i) l.rest ≡ true;
  same : l.headers.items ++ headers_at (l.count - l.i) l.rest ≡ headers_at l.fn.count l.fn.bytes;
}

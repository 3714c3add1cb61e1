use Rattle.std.proofs.Common.{◌≡◌, ◌++◌, drop}
use Rattle.vr_super.specs.Copies.{list_bytes}
use Rattle.vr_super.proofs.bytes.push_headers.Given as goal

abbrev pub invariant-loop-header : goal.invariant-loop-header
invariant-loop-header l = l.bytes.items ++ list_bytes (drop l.header-index l.headers) ≡ l.initial.bytes.items ++ list_bytes l.headers

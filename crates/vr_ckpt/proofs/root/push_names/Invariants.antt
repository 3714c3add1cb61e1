use Rattle.std.proofs.Common.{◌≡◌, ◌+◌, ◌*◌, ◌++◌, drop, length}
use Rattle.vr_ckpt.specs.Saves.{names_bytes}
use Rattle.vr_ckpt.proofs.root.push_names.Given as goal

abbrev pub invariant-loop-payload : goal.invariant-loop-payload
invariant-loop-payload l = record {
  names : l.bytes.items ++ names_bytes (drop l.payload-index l.payloads) ≡ l.initial.bytes.items ++ names_bytes l.payloads;
  size : length l.bytes.items ≡ length l.initial.bytes.items + 24 * l.payload-index;
}

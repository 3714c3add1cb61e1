use Rattle.std.proofs.Common.{◌≡◌, ◌++◌, drop}
use Rattle.std.specs.List.{flat_map}
use Rattle.vr_state.specs.Pairs.{pair_text, kv_text}
use Rattle.vr_state.proofs.kv_encode.write_pairs.Given as goal

abbrev pub invariant-loop-pair : goal.invariant-loop-pair
invariant-loop-pair l = l.text ++ flat_map pair_text (drop l.pair-index l.pairs) ≡ l.fn.text ++ kv_text l.pairs

use Rattle.std.proofs.Common.{◌≡◌, ◌+◌, length, drop}
use Rattle.std.specs.List.{flat_map}
use Rattle.vr_state.specs.Pairs.{pair_text}
use Rattle.vr_state.proofs.kv_encode.texts_length.Given as goal

-- with the bytes of the pairs that are left it is those of all
abbrev pub invariant-loop-pair : goal.invariant-loop-pair
invariant-loop-pair l = l.bytes + length (flat_map pair_text (drop l.pair-index l.pairs)) ≡ length (flat_map pair_text l.pairs)

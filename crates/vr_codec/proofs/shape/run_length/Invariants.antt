use Rattle.std.proofs.Common.{◌≡◌, ◌+◌, drop}
use Rattle.std.specs.List.{prefix_len}
use Rattle.vr_codec.specs.Shapes.{knows}
use Rattle.vr_codec.proofs.shape.run_length.Given as goal

abbrev pub invariant-loop-i : goal.invariant-loop-i
invariant-loop-i l = l.i + prefix_len knows (drop l.i l.tags) ≡ prefix_len knows l.tags

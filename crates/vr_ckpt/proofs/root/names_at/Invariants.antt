use Rattle.std.proofs.Common.{◌≡◌, ◌+◌, ◌-◌, ◌++◌}
use Rattle.std.specs.Option.{option_map}
use Rattle.vr_ckpt.specs.Loads.{names_at}
use Rattle.vr_ckpt.proofs.root.names_at.Given as goal

abbrev pub invariant-loop-k : goal.invariant-loop-k
invariant-loop-k l = names_at l.places 0 l.bytes l.first l.count ≡ option_map (λ rest. l.names ++ rest) (names_at l.places l.k l.bytes (l.first + l.k) (l.count - l.k))

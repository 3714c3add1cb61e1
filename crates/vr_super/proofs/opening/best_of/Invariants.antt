use Rattle.std.proofs.Common.{◌≡◌, drop}
use Rattle.std.specs.Prelude.{map}
use Rattle.std.specs.Option.{option_map}
use Rattle.vr_super.specs.Opens.{agreed, best_of, opened}
use Rattle.vr_super.specs.Seen.{seen}
use Rattle.vr_super.proofs.opening.best_of.Given as goal

abbrev pub invariant-loop-r : goal.invariant-loop-r
invariant-loop-r l = opened (map seen l.readings) ≡ best_of (agreed (map seen l.readings)) (option_map (λ r. r.now.bytes) l.best) (map seen (drop l.r-index l.readings))

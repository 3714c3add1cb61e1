-- How a view is entered.
use Rattle.std.specs.Prelude.{ℕ, nat_lt}
use Rattle.vr_rules.specs.Steps.{Word, by, when}
use Rattle.vr_rules.specs.Words.{enter}

-- a view is entered unless the replica is in it
unfoldable pub entering : {F : Type 0} → ℕ → Word F
entering view = by (λ r. when (nat_lt r.view view) (enter view))

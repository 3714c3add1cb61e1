-- What a tick leads to.
use Rattle.std.specs.Prelude.{◌+◌, nat_lt}
use Rattle.vr_rules.specs.declared.rule.Rule.{Rule}
use Rattle.vr_rules.specs.declared.rule.Rule.TheVariants as rules
use Rattle.vr_rules.specs.Outputs.{send_to_all, start_view_change}
use Rattle.vr_rules.specs.Replica.{head}
use Rattle.vr_rules.specs.Steps.{Word, ◌⨾◌, by, says, when}
use Rattle.vr_rules.specs.Words.{ask, prepare_again, speak, visit}
use Rattle.vr_replica.specs.declared.ticking.TickRule.{TickRule}
use Rattle.vr_replica.specs.declared.ticking.TickRule.TheVariants as tick

-- what a tick leads to is the rule of that name
abbrev pub tick_rule : TickRule → Rule
tick_rule tick.TickedPrimary = rules.TickedPrimary
tick_rule tick.TickedBackup = rules.TickedBackup
tick_rule tick.TickedChanging = rules.TickedChanging

-- the first open entry, if there is one, is sent again
unfoldable pub tells_first : {F : Type 0} → Word F
tells_first = by (λ r. when (nat_lt r.commit (head r)) (prepare_again (r.commit + 1)))

-- what is told while a view isn't started
abbrev pub tells_all : {F : Type 0} → Word F
tells_all = says (send_to_all start_view_change) ⨾ speak ⨾ visit ⨾ ask

-- What an event leads to is the rule of that name.
use Rattle.vr_rules.specs.declared.rule.Rule.TheVariants as rules
use Rattle.vr_rules.specs.declared.rule.Rule.{Rule}
use Rattle.vr_view.specs.declared.giving.SyncRule.{SyncRule}
use Rattle.vr_view.specs.declared.giving.SyncRule.TheVariants as sync
use Rattle.vr_view.specs.declared.jumping.JumpRule.{JumpRule}
use Rattle.vr_view.specs.declared.jumping.JumpRule.TheVariants as jump

abbrev pub sync_rule : SyncRule → Rule
sync_rule sync.Ignored = rules.Ignored
sync_rule sync.SyncGiven = rules.SyncGiven

abbrev pub jump_rule : JumpRule → Rule
jump_rule jump.Ignored = rules.Ignored
jump_rule jump.Jumped = rules.Jumped

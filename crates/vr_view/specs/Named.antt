-- What an event leads to is the rule of that name.
use Rattle.vr_rules.specs.declared.rule.Rule.TheVariants as rules
use Rattle.vr_rules.specs.declared.rule.Rule.{Rule}
use Rattle.vr_view.specs.declared.changing.ChangeRule.{ChangeRule}
use Rattle.vr_view.specs.declared.changing.ChangeRule.TheVariants as change
use Rattle.vr_view.specs.declared.stating.StateRule.{StateRule}
use Rattle.vr_view.specs.declared.stating.StateRule.TheVariants as state
use Rattle.vr_view.specs.declared.starting.StartRule.{StartRule}
use Rattle.vr_view.specs.declared.starting.StartRule.TheVariants as start
use Rattle.vr_view.specs.declared.starting.ViewRule.{ViewRule}
use Rattle.vr_view.specs.declared.starting.ViewRule.TheVariants as view

abbrev pub change_rule : ChangeRule → Rule
change_rule change.Ignored = rules.Ignored
change_rule change.ChangeBefore = rules.ChangeBefore
change_rule change.ChangeLater = rules.ChangeLater
change_rule change.ChangeHeard = rules.ChangeHeard
change_rule change.ChangeDone = rules.ChangeDone

abbrev pub state_rule : StateRule → Rule
state_rule state.Ignored = rules.Ignored
state_rule state.StatedBefore = rules.StatedBefore
state_rule state.StatedLate = rules.StatedLate
state_rule state.Stated = rules.Stated

abbrev pub start_rule : StartRule → Rule
start_rule start.Ignored = rules.Ignored
start_rule start.Taken = rules.Taken
start_rule start.SyncAsked = rules.SyncAsked

abbrev pub view_rule : ViewRule → Rule
view_rule view.Ignored = rules.Ignored
view_rule view.ViewGiven = rules.ViewGiven

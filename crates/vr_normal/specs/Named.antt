-- What an event leads to is the rule of that name.
use Rattle.vr_rules.specs.declared.rule.Rule.TheVariants as rules
use Rattle.vr_rules.specs.declared.rule.Rule.{Rule}
use Rattle.vr_normal.specs.declared.counting.CountRule.{CountRule}
use Rattle.vr_normal.specs.declared.counting.CountRule.TheVariants as count
use Rattle.vr_normal.specs.declared.learning.CommitRule.{CommitRule}
use Rattle.vr_normal.specs.declared.learning.CommitRule.TheVariants as commit
use Rattle.vr_normal.specs.declared.requesting.RequestRule.{RequestRule}
use Rattle.vr_normal.specs.declared.requesting.RequestRule.TheVariants as request
use Rattle.vr_normal.specs.declared.storing.PrepareRule.{PrepareRule}
use Rattle.vr_normal.specs.declared.storing.PrepareRule.TheVariants as prepare

abbrev pub count_rule : CountRule → Rule
count_rule count.Ignored = rules.Ignored
count_rule count.Counted = rules.Counted

abbrev pub commit_rule : CommitRule → Rule
commit_rule commit.Ignored = rules.Ignored
commit_rule commit.CommitBefore = rules.CommitBefore
commit_rule commit.CommitLater = rules.CommitLater
commit_rule commit.CommitHeard = rules.CommitHeard

abbrev pub request_rule : RequestRule → Rule
request_rule request.Ignored = rules.Ignored
request_rule request.Redirected = rules.Redirected
request_rule request.Behind = rules.Behind
request_rule request.InFlight = rules.InFlight
request_rule (request.Answered a) = rules.Answered
request_rule request.Full = rules.Full
request_rule request.Made = rules.Made

abbrev pub prepare_rule : PrepareRule → Rule
prepare_rule prepare.Ignored = rules.Ignored
prepare_rule prepare.PreparedBefore = rules.PreparedBefore
prepare_rule prepare.PreparedLater = rules.PreparedLater
prepare_rule prepare.Past = rules.Past
prepare_rule prepare.Beyond = rules.Beyond
prepare_rule prepare.Known = rules.Known
prepare_rule prepare.Next = rules.Next
prepare_rule prepare.Ahead = rules.Ahead
prepare_rule prepare.Other = rules.Other

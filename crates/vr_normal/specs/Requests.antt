-- Requests at a primary that doesn't lag, and what is replied to those that aren't fresh.
use Rattle.std.specs.Prelude.{◌≡◌, ◌-◌, ⊤, true, not, ◌||◌, nat_le, List, [], ◌∷◌}
use Rattle.vr_msg.specs.declared.output.Output.{Output}
use Rattle.vr_msg.specs.declared.reply.ReplyKind.TheVariants as reply
use Rattle.vr_msg.specs.declared.request.RequestFields.{RequestFields}
use Rattle.vr_msg.specs.Normal.{last_op, pipeline}
use Rattle.vr_msg.specs.Numbers.{IsNumber}
use Rattle.vr_rules.specs.Deciding.{Table, session_answer}
use Rattle.vr_rules.specs.declared.rule.Rule.TheVariants.{Answered, Full, Made}
use Rattle.vr_rules.specs.Outputs.{replies}
use Rattle.vr_rules.specs.declared.asker.Asker.{Asker}
use Rattle.vr_rules.specs.Replica.{Replica, head}
use Rattle.vr_state.specs.Asks.{is_fresh}
use Rattle.vr_state.specs.declared.session.SessionAnswer.{SessionAnswer}
use Rattle.vr_state.specs.declared.session.SessionAnswer.TheVariants as answer
use Rattle.vr_normal.specs.declared.requesting.RequestRule.{RequestRule}
use Rattle.vr_normal.specs.declared.requesting.RequestRule.TheVariants as request

-- the last rows of the table of requests
abbrev pub open_rows : RequestFields → Replica → Table
open_rows q r =
    (not (is_fresh (session_answer q r)), Answered)
    ∷ (nat_le pipeline (head r - r.commit) || nat_le last_op (head r), Full)
    ∷ (true, Made)
    ∷ []

-- the answer that a rule has is what the sessions answer
unfoldable pub Answers : RequestRule → RequestFields → Replica → Type 0
Answers request.Ignored q r = ⊤
Answers request.Redirected q r = ⊤
Answers request.Behind q r = ⊤
Answers request.InFlight q r = ⊤
Answers (request.Answered a) q r = a ≡ session_answer q r
Answers request.Full q r = ⊤
Answers request.Made q r = ⊤

-- the op of an answer, where it has one, is the number of an entry
abbrev pub HasNumber : SessionAnswer → Type 0
HasNumber answer.Fresh = ⊤
HasNumber (answer.Repeat outcome op) = IsNumber op
HasNumber answer.Old = ⊤
HasNumber answer.Gap = ⊤
HasNumber answer.Evicted = ⊤

-- what is replied to a request that isn't fresh
abbrev pub stored_replies : Asker → SessionAnswer → Replica → List Output
stored_replies a answer.Fresh r = []
stored_replies a (answer.Repeat outcome op) r = replies a (reply.Outcome (record { op = op; outcome = outcome })) r
stored_replies a answer.Old r = replies a reply.Old r
stored_replies a answer.Gap r = replies a reply.Gap r
stored_replies a answer.Evicted r = replies a reply.Evicted r

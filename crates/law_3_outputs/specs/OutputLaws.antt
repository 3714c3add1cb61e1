-- What is proved of runs that the machine follows, and of every step.
use Rattle.std.specs.Prelude.{ℕ, ◌≤◌, ◌⊎◌, false, List, length, Contains}
use Rattle.vr_header.specs.Made.{Whole}
use Rattle.vr_msg.specs.declared.event.Event.{Event}
use Rattle.vr_msg.specs.declared.output.Chosen.{Chosen}
use Rattle.vr_msg.specs.declared.output.Output.TheVariants as output
use Rattle.vr_msg.specs.declared.reply.ReplyFields.{ReplyFields}
use Rattle.vr_super.specs.Copies.{SuperValue}
use Rattle.vr_rules.specs.Opening.{blank, opening}
use Rattle.vr_world.specs.Group.{Played}
use Rattle.vr_rules.specs.Replica.{Replica}
use Rattle.vr_rules.specs.Rules.{react}
use Rattle.vr_rules.specs.Steps.{Setting, outputs}
use Rattle.law_2_chains.specs.Chains.{Setup}
use Rattle.vr_world.specs.Safe.{Safe}
use Rattle.law_3_outputs.specs.Followed.{IsFollowed}
use Rattle.law_3_outputs.specs.Answering.{HasState, IsNumbered, Jumps, Leaves, Lined, PutsWell}
use Rattle.vr_rules.specs.Sound.{IsSound}
use Rattle.law_3_outputs.specs.Picked.{IsChosenBy}
use Rattle.law_3_outputs.specs.Replied.{IsReplied}

-- a run that the machine follows, and that gives what its replies ask for, is safe
abbrev pub FollowedRunsAreSafe : Type 0
FollowedRunsAreSafe = (cluster n : ℕ) (u : Setup) (run : List Played) (x : IsFollowed cluster n u run) → IsReplied cluster n u run x → Safe cluster n run

-- A replica has the state of a log's first entries, and in a step applies the log's next ones. Then each of its replies is true of that
-- log, and it has the state of as many as it has applied at the end; or it takes over a checkpoint of another replica.
abbrev pub StepsAnswer : Type 0 → Type 0
StepsAnswer F =
    (log : List Whole) → IsNumbered log → (s : Setting F) (r : Replica) (f : F) (e : Event) → r.applied ≤ length log → PutsWell log s r f e → HasState log r
    → Lined log r.index r.applied (outputs (react e s r f).script) → Leaves log r false (react e s r f) ⊎ Jumps r (react e s r f)

-- each choose line of a step is of the rules' choice from what the replica had heard, with what the event brought
abbrev pub StepsChoose : Type 0 → Type 0
StepsChoose F = (s : Setting F) (r : Replica) (f : F) (e : Event) → IsSound r → (l : Chosen) → Contains (outputs (react e s r f).script) (output.Choose l) → IsChosenBy e r l

-- an opening replies nothing: none that goes on to apply leads its view
abbrev pub OpeningsReplyNothing : Type 0 → Type 0
OpeningsReplyNothing F = (s : Setting F) (v : SuperValue) (f : F) (a : ReplyFields) → Contains (outputs (opening v s (blank v) f).script) (output.Reply a) → ⊥

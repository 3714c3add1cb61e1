-- Whole runs of members' programs that meet all that the laws on them ask: a group of one, and one of three, that answers a register and a put.
use Rattle.std.specs.Prelude.{ℕ, ◌≡◌, List, Contains}
use Rattle.vr_base.specs.Kinds.{of_mode}
use Rattle.vr_base.specs.declared.kind.Kind.{Kind}
use Rattle.vr_base.specs.declared.mode.Mode.TheVariants.{Strict}
use Rattle.vr_header.specs.NoCollision.{NoCollision}
use Rattle.vr_header.specs.declared.outcome.Outcome.{Outcome}
use Rattle.vr_header.specs.declared.outcome.Outcome.TheVariants as outcome
use Rattle.vr_msg.specs.declared.output.Output.{Output}
use Rattle.vr_msg.specs.declared.output.Output.TheVariants as output
use Rattle.vr_msg.specs.declared.reply.ReplyFields.{ReplyFields}
use Rattle.vr_msg.specs.declared.reply.ReplyKind.TheVariants as reply
use Rattle.vr_world.specs.Lying.{Lying}
use Rattle.vr_world.specs.World.{Host}
use Rattle.law_6_one_log.specs.Schedules.{IsHashedOf}
use Rattle.law_7_members.specs.Files.{ActBy, all_lines}
use Rattle.law_7_members.specs.Whole.{AreRuns, KeepOneLog, all_said, on_zeros, world_of}

-- strict files of version 2
abbrev pub lone_kind : ℕ → Kind
lone_kind i = record { mode = Strict; version = 2 }

-- the one member of group 0, made on a file of zeros
abbrev pub lone_member : ℕ → Host Lying
lone_member = on_zeros lone_kind 0 1

-- strict files of version 1
abbrev pub plain_kind : ℕ → Kind
plain_kind i = of_mode Strict

-- the three members of group 0, each made on a file of zeros
abbrev pub plain_member : ℕ → Host Lying
plain_member = on_zeros plain_kind 0 3

-- among these outputs client 7 is answered for its request of this number, at an op
pub record IsAnswered (os : List Output) (request op : ℕ) (o : Outcome) : Type 0 where
  pub given : ReplyFields
  pub among : Contains os (output.Reply given)
  pub client : given.client ≡ 7
  pub number : given.request ≡ request
  pub outcome : given.kind ≡ reply.Outcome (record { op = op; outcome = o })

-- Runs make members and handle two requests of client 7, a register and a put, which are executed and answered. They meet what `runs_keep_one_log` asks, names
-- and all; so they keep one log.
pub record RunsAnswer (kinds : ℕ → Kind) (n : ℕ) (first : ℕ → Host Lying) : Type 0 where
  pub acts : List ActBy
  pub runs : AreRuns kinds 0 n first acts
  pub names : NoCollision (IsHashedOf 0 (world_of first n) (all_lines acts))
  pub one : KeepOneLog kinds 0 n first acts
  pub registered : IsAnswered (all_said acts) 0 1 outcome.Session
  pub put : IsAnswered (all_said acts) 1 2 outcome.Ok

-- of a group of one
abbrev pub OneAnswers : Type 0
OneAnswers = RunsAnswer lone_kind 1 lone_member

-- of one of three
abbrev pub ThreeAnswer : Type 0
ThreeAnswer = RunsAnswer plain_kind 3 plain_member

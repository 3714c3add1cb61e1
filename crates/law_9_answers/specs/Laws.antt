-- What clients of a group write is what its one log says.
use Rattle.std.specs.Prelude.{ℕ, ◌^◌, ◌<◌, ◌≤◌, ◌≡◌, List, [], ◌∷◌, length, map}
use Rattle.std.specs.List.{AllByRecursion}
use Rattle.cmd_client.specs.Asking as ask
use Rattle.cmd_client.specs.Asking.{Client}
use Rattle.cmd_client.specs.Run as client
use Rattle.cmd_client.specs.Run.{ClientEnds}
use Rattle.vr_base.specs.declared.kind.Kind.{Kind}
use Rattle.vr_rules.specs.Opening.{AreKinds}
use Rattle.vr_client.specs.declared.answer.Answer.{Answer}
use Rattle.vr_edge.specs.Datagrams.{Came}
use Rattle.vr_edge.specs.Told.{AppendsFront}
use Rattle.vr_edge.specs.declared.datagram.Datagram.{Datagram}
use Rattle.vr_header.specs.NoCollision.{NoCollision}
use Rattle.vr_msg.specs.Spelling.{Spells}
use Rattle.vr_msg.specs.declared.frame.Frame.TheVariants as frame
use Rattle.vr_msg.specs.declared.output.Committed.{Committed}
use Rattle.vr_msg.specs.declared.output.Output.TheVariants as output
use Rattle.vr_msg.specs.declared.reply.ReplyFields.{ReplyFields}
use Rattle.vr_msg.specs.declared.request.RequestFields.{RequestFields}
use Rattle.vr_node.specs.declared.node.Node.{Node}
use Rattle.vr_serve.specs.Runs.{Did}
use Rattle.vr_base.specs.declared.status.Status.{Status}
use Rattle.cmd_trial.specs.Run as trial
use Rattle.cmd_trial.specs.Run.{TrialEnds}
use Rattle.cmd_trial.specs.Told.{Trial}
use Rattle.vr_world.specs.Group.{Asked}
use Rattle.vr_world.specs.Lying.{Lying}
use Rattle.vr_world.specs.World.{Host}
use Rattle.law_6_one_log.specs.Schedules.{IsHashedOf}
use Rattle.law_7_members.specs.Files.{ActBy, Handles, act_by, all_lines}
use Rattle.law_7_members.specs.Whole.{AreRuns, KeepOneLog, world_of}
use Rattle.law_9_answers.specs.Clients.{lines_of, heard_client}
use Rattle.law_9_answers.specs.Heard.{Heard, IsNamed, IsOfLog, IsPutOut}
use Rattle.law_9_asked.specs.Asked.{asked_by, header_of}
use Rattle.law_9_answers.specs.Trials.{heard_trial, lines_trial}

-- What a client writes is the lines of what it heard, in order, but perhaps for an end of the last one.
abbrev pub ClientsWriteWhatTheyHear : Type 0
ClientsWriteWhatTheyHear =
    (c : Client) (peers : List (List ℕ)) (o o' : client.Outside) (before now : ask.Faults) (status : Status) (h : ClientEnds c peers o o' before now status) → AppendsFront o.taken o'.taken (lines_of (heard_client c peers o o' before now status h))

-- What a trial writes is the lines of what it heard, beside those of members that start and stop, step by step.
abbrev pub TrialsWriteWhatTheyHear : Type 0
TrialsWriteWhatTheyHear =
    (t : Trial) (o o' : trial.Outside) (before now : trial.Faults) (status : Status) (h : TrialEnds t o o' before now status) → AppendsFront o.taken o'.taken (lines_trial t o o' before now status h)

-- the numbers that a command gives a client
pub record IsNumbered (c : Client) : Type 0 where
  pub version : (1 ≤ c.version) × (c.version ≤ 2)
  pub cluster : c.cluster < 2 ^ 64
  pub id : c.id < 2 ^ 64

-- What is asked of the network, and of names: they don't collide, of requests that reached members, of those whose entries were committed, and of
-- the client's own.
pub record MayBeHeard (c : Client) (xs : List ActBy) (ts : List Heard) : Type 0 where
  pub carried : AllByRecursion (λ (t : Heard). AllByRecursion (IsPutOut xs c.version c.cluster) t.received) ts
  pub names : NoCollision (IsNamed xs (map (λ (t : Heard). t.request) ts))

-- A client asks, a member handles the request, applies its entry and replies, and the client receives just this: then all is so that is asked.
abbrev pub SomeAnswerMay : Type 0
SomeAnswerMay =
    (c : Client) (q : RequestFields) (at : ℕ) (did : Did Node) (line : Committed) (a : ReplyFields) (d : Datagram) (answer : Answer) → did.outputs ≡ output.Commit line ∷ output.Reply a ∷ []
    → asked_by line.entry.header ≡ header_of q → Spells (frame.Reply a) d.bytes
    → MayBeHeard c (act_by at (Handles (Asked q) did) ∷ []) (record { request = q; answer = answer; received = Came d ∷ [] } ∷ [])

-- each answer is the log's
abbrev pub AreOfLog : (kinds : ℕ → Kind) (cluster n : ℕ) (first : ℕ → Host Lying) (xs : List ActBy) → KeepOneLog kinds cluster n first xs → List Heard → Type 0
AreOfLog kinds cluster n first xs k ts = AllByRecursion (IsOfLog cluster n xs k.log.safe.log k.log.matched.run) ts

-- Of members that keep this one log, whatever answers clients heard are of it: those of runs of `client`, and those of trials.
pub record AnswerByOneLog (kinds : ℕ → Kind) (cluster n : ℕ) (first : ℕ → Host Lying) (xs : List ActBy) (one : KeepOneLog kinds cluster n first xs) : Type 0 where
  pub clients : (c : Client) (peers : List (List ℕ)) (o o' : client.Outside) (before now : ask.Faults) (status : Status) (h : ClientEnds c peers o o' before now status)
      → IsNumbered c → MayBeHeard c xs (heard_client c peers o o' before now status h) → AreOfLog kinds cluster n first xs one (heard_client c peers o o' before now status h)
  pub trials : (t : Trial) (o o' : trial.Outside) (before now : trial.Faults) (status : Status) (h : TrialEnds t o o' before now status)
      → IsNumbered t.client → MayBeHeard t.client xs (heard_trial t o o' before now status h) → AreOfLog kinds cluster n first xs one (heard_trial t o o' before now status h)

-- whichever log members keep
abbrev pub OneLogAnswers : Type 0
OneLogAnswers =
    (kinds : ℕ → Kind) (cluster n : ℕ) (first : ℕ → Host Lying) (xs : List ActBy) → AreKinds kinds n → cluster < 2 ^ 64 → 1 ≤ n → n ≤ 6 → (one : KeepOneLog kinds cluster n first xs) → AnswerByOneLog kinds cluster n first xs one

-- so do whole runs of the members' programs, interleaved, as they keep one log
abbrev pub RunsAnswerByOneLog : Type 0
RunsAnswerByOneLog =
    (kinds : ℕ → Kind) (cluster n : ℕ) (first : ℕ → Host Lying) (xs : List ActBy) → AreKinds kinds n → cluster < 2 ^ 64 → 1 ≤ n → n ≤ 6 → length xs < 2 ^ 46 → AreRuns kinds cluster n first xs → NoCollision (IsHashedOf cluster (world_of first n) (all_lines xs))
    → (one : KeepOneLog kinds cluster n first xs) × AnswerByOneLog kinds cluster n first xs one

-- The order of the log is the order of time.
use Rattle.std.specs.Prelude.{ℕ, ◌^◌, ◌<◌, ◌≤◌, ◌≡◌, List, [], ◌∷◌, ◌++◌, Contains, None, length, map, take}
use Rattle.std.specs.List.{AllByRecursion}
use Rattle.vr_base.specs.declared.kind.Kind.{Kind}
use Rattle.vr_header.specs.Made.{Whole}
use Rattle.vr_header.specs.NoCollision.{NoCollision}
use Rattle.vr_client.specs.declared.answer.Answer.TheVariants as answer
use Rattle.vr_edge.specs.Datagrams.{Arrival}
use Rattle.vr_msg.specs.declared.event.Event.{Event}
use Rattle.vr_msg.specs.declared.output.Output.TheVariants as output
use Rattle.vr_msg.specs.declared.reply.Answered.{Answered}
use Rattle.vr_msg.specs.declared.reply.ReplyFields.{ReplyFields}
use Rattle.vr_msg.specs.declared.reply.ReplyKind.TheVariants as reply
use Rattle.vr_msg.specs.declared.request.RequestFields.{RequestFields}
use Rattle.vr_node.specs.declared.node.Node.{Node}
use Rattle.vr_serve.specs.Runs.{Did}
use Rattle.vr_world.specs.Group.{Asked, Message}
use Rattle.vr_world.specs.Lying.{Lying}
use Rattle.vr_rules.specs.Opening.{AreKinds}
use Rattle.vr_world.specs.World.{Host}
use Rattle.law_6_one_log.specs.Schedules.{IsHashedOf}
use Rattle.law_7_members.specs.Files.{ActBy, Breaks, Handles, act_by, all_lines}
use Rattle.law_7_members.specs.Whole.{AreRuns, KeepOneLog, world_of}
use Rattle.law_9_answers.specs.Laws.{AnswerByOneLog}
use Rattle.law_9_answers.specs.History.{AskFew, Asks, Befalls, HasHeard, HasOneSessionEach, HaveOwnNumbers, Hears, IsCarried, IsLinearizable, IsOrdered, KeepsSessions, Lasts, Moment, acts_in}
use Rattle.law_9_answers.specs.Order.{AsksComeFirst, request_in}
use Rattle.law_9_answers.specs.Programs.{AreFew, AreInterleaved, HaveNames, HearInOrder, IsAloneAmong, IsBrought, Program}

-- Members keep one log; what clients hear is of it; and what each reply rests on of it was asked before that was put out.
pub record KeepOrder (kinds : ℕ → Kind) (cluster n : ℕ) (first : ℕ → Host Lying) (xs : List ActBy) : Type 0 where
  pub one : KeepOneLog kinds cluster n first xs
  pub answers : AnswerByOneLog kinds cluster n first xs one
  pub order : AsksComeFirst one.log.safe.log xs

-- so do whole runs of the members' programs, interleaved
abbrev pub RunsKeepOrder : Type 0
RunsKeepOrder =
    (kinds : ℕ → Kind) (cluster n : ℕ) (first : ℕ → Host Lying) (xs : List ActBy) → AreKinds kinds n → cluster < 2 ^ 64 → 1 ≤ n → n ≤ 6 → length xs < 2 ^ 46 → AreRuns kinds cluster n first xs → NoCollision (IsHashedOf cluster (world_of first n) (all_lines xs))
    → KeepOrder kinds cluster n first xs

-- So what clients of such runs ask and hear, over a network that forges neither requests nor outcomes, has the order of the log; and it is
-- linearizable, where each client has a number of its own, and none begins a second session.
pub record AreLinearizable (kinds : ℕ → Kind) (cluster n : ℕ) (first : ℕ → Host Lying) (h : List Moment) : Type 0 where
  pub one : KeepOneLog kinds cluster n first (acts_in h)
  pub ordered : IsOrdered one.log.safe.log h
  pub linearizable : HaveOwnNumbers h → HasOneSessionEach one.log.safe.log → IsLinearizable one.log.safe.log h

abbrev pub HistoriesAreLinearizable : Type 0
HistoriesAreLinearizable =
    (kinds : ℕ → Kind) (cluster n : ℕ) (first : ℕ → Host Lying) (h : List Moment) → AreKinds kinds n → cluster < 2 ^ 64 → 1 ≤ n → n ≤ 6 → length (acts_in h) < 2 ^ 46 → AreRuns kinds cluster n first (acts_in h)
    → NoCollision (IsHashedOf cluster (world_of first n) (all_lines (acts_in h))) → IsCarried h → AreLinearizable kinds cluster n first h

-- and so are runs of `client` and `trial`, to their end or cut, among those of the members: of the network it is asked what it brings, and of names
-- that they don't collide
abbrev pub ProgramsAreLinearizable : Type 0
ProgramsAreLinearizable =
    (kinds : ℕ → Kind) (cluster n : ℕ) (first : ℕ → Host Lying) (ps : List Program) (h : List Moment) → AreKinds kinds n → cluster < 2 ^ 64 → 1 ≤ n → n ≤ 6 → length (acts_in h) < 2 ^ 46 → AreRuns kinds cluster n first (acts_in h)
    → NoCollision (IsHashedOf cluster (world_of first n) (all_lines (acts_in h))) → AreInterleaved ps h → IsBrought h → HaveNames h
    → (one : KeepOneLog kinds cluster n first (acts_in h)) × HearInOrder kinds cluster n first ps h one

-- ---- what was heard lasts

-- so it is with each outcome that a client heard
pub record HeardLasts (kinds : ℕ → Kind) (cluster n : ℕ) (first : ℕ → Host Lying) (h : List Moment) : Type 0 where
  pub one : KeepOneLog kinds cluster n first (acts_in h)
  pub lasts : (q : RequestFields) (a : Answered) → HasHeard h q a → Lasts one.log.safe.log h q a

abbrev pub HeardOutcomesLast : Type 0
HeardOutcomesLast =
    (kinds : ℕ → Kind) (cluster n : ℕ) (first : ℕ → Host Lying) (h : List Moment) → AreKinds kinds n → cluster < 2 ^ 64 → 1 ≤ n → n ≤ 6 → length (acts_in h) < 2 ^ 46 → AreRuns kinds cluster n first (acts_in h)
    → NoCollision (IsHashedOf cluster (world_of first n) (all_lines (acts_in h))) → IsCarried h → HeardLasts kinds cluster n first h

-- ---- few clients

-- So many first entries of the log that each outcome that is heard is of one of them: there no session is ever given up, so no number begins a second
-- one.
pub record SessionsStay (log : List Whole) (h : List Moment) : Type 0 where
  pub upto : ℕ
  pub all : (q : RequestFields) (a : Answered) → HasHeard h q a → a.op ≤ upto
  pub sessions : KeepsSessions (take upto log)
  pub single : HasOneSessionEach (take upto log)

-- So it is where there is a session for each client number that ever asked. So where each client has a number of its own, it is linearizable, with
-- these entries for its order.
pub record FewAreLinearizable (kinds : ℕ → Kind) (cluster n : ℕ) (first : ℕ → Host Lying) (h : List Moment) : Type 0 where
  pub one : KeepOneLog kinds cluster n first (acts_in h)
  pub kept : SessionsStay one.log.safe.log h
  pub linearizable : HaveOwnNumbers h → IsLinearizable (take kept.upto one.log.safe.log) h

abbrev pub FewClientsAreLinearizable : Type 0
FewClientsAreLinearizable =
    (kinds : ℕ → Kind) (cluster n : ℕ) (first : ℕ → Host Lying) (h : List Moment) → AreKinds kinds n → cluster < 2 ^ 64 → 1 ≤ n → n ≤ 6 → length (acts_in h) < 2 ^ 46 → AreRuns kinds cluster n first (acts_in h)
    → NoCollision (IsHashedOf cluster (world_of first n) (all_lines (acts_in h))) → IsCarried h → AskFew h → FewAreLinearizable kinds cluster n first h

-- so it is with runs of `client` and `trial`, to their end or cut, each of which has a number of its own, while there is a session for each
abbrev pub FewProgramsAreLinearizable : Type 0
FewProgramsAreLinearizable =
    (kinds : ℕ → Kind) (cluster n : ℕ) (first : ℕ → Host Lying) (ps : List Program) (h : List Moment) → AreKinds kinds n → cluster < 2 ^ 64 → 1 ≤ n → n ≤ 6 → length (acts_in h) < 2 ^ 46 → AreRuns kinds cluster n first (acts_in h)
    → NoCollision (IsHashedOf cluster (world_of first n) (all_lines (acts_in h))) → AreInterleaved ps h → IsBrought h → HaveNames h
    → ((i : ℕ) → IsAloneAmong ps i) → AreFew ps
    → (one : KeepOneLog kinds cluster n first (acts_in h)) × (kept : SessionsStay one.log.safe.log h) × HearInOrder kinds cluster n first ps h one × IsLinearizable (take kept.upto one.log.safe.log) h

-- ---- what is asked of the network can be met

-- these acts bring no request of a client: messages, time, stops, starts, faults
abbrev pub AskNothing : List ActBy → Type 0
AskNothing xs = AllByRecursion (λ (x : ActBy). request_in x.act ≡ None) xs

-- Two clients ask. The one's request is handled by a member that is ended in the midst of it, and never answered. The other's is handled by a member
-- that then, after whatever befalls the group meanwhile, also a change of view, puts out a reply, and the client hears that.
abbrev pub SomeHistoryMay : Type 0
SomeHistoryMay =
    (q p : RequestFields) (first second third number made code : ℕ) (event : Event) (handled answered : Did Node) (during later : List ActBy) (r : ReplyFields) (a : Answered) (received : List Arrival)
    → AskNothing during → AskNothing later → Contains answered.outputs (output.Reply r) → r.client ≡ p.client → r.request ≡ p.request → r.kind ≡ reply.Outcome a
    → IsCarried
    (Asks 0 q ∷ Befalls (act_by first (Breaks (Asked q) event made code)) ∷ map Befalls during
    ++ (Asks 1 p ∷ Befalls (act_by second (Handles (Asked p) handled)) ∷ map Befalls later
    ++ (Befalls (act_by third (Handles (Message number) answered)) ∷ Hears 1 (record { request = p; answer = answer.Outcome a; received = received }) ∷ [])))

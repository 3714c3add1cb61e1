-- Runs of the programs that ask, `client` and `trial`, to their end or cut, among what befalls members, in the order of time.
use Rattle.std.proofs.Common.{inl, inr}
use Rattle.std.specs.Prelude.{ℕ, ◌+◌, ◌≤◌, ◌≡◌, ◌==◌, ◌⊎◌, List, [], ◌∷◌, ◌++◌, Contains, length, map, slice_get, Some, if◌then◌else◌}
use Rattle.std.specs.List.{AllByRecursion}
use Rattle.std.specs.Option.{option_map_or}
use Rattle.cmd_client.specs.Asking as ask
use Rattle.cmd_client.specs.Asking.{Client, EndsWith, Stand, request_of}
use Rattle.cmd_client.specs.Run as client
use Rattle.cmd_client.specs.Run.{ClientEnds, EndsAt, EndsLines, EndsRun, Reading, StopsAt, reading_of, standing}
use Rattle.vr_base.specs.Versions.{session_limit}
use Rattle.vr_base.specs.declared.kind.Kind.{Kind}
use Rattle.vr_client.specs.declared.answer.Answer.TheVariants as answer
use Rattle.vr_header.specs.NoCollision.{NoCollision}
use Rattle.vr_header.specs.declared.operation.Operation.{Operation}
use Rattle.vr_header.specs.declared.operation.Operation.TheVariants.{Register}
use Rattle.vr_msg.specs.declared.reply.Answered.{Answered}
use Rattle.vr_msg.specs.declared.request.RequestFields.{RequestFields}
use Rattle.vr_base.specs.declared.status.Status.{Status}
use Rattle.vr_base.specs.declared.status.Status.TheVariants.{LinkFault, NoAnswer, NoMemory}
use Rattle.cmd_trial.specs.Run as trial
use Rattle.cmd_trial.specs.Run.{Ends, Fails, FailsIn, Place, TrialEnds, begins, of_client}
use Rattle.cmd_trial.specs.Script.{number_of, script}
use Rattle.cmd_trial.specs.Told.{Trial, operation_of}
use Rattle.cmd_trial.specs.declared.step.Step.{Step}
use Rattle.cmd_trial.specs.declared.step.Step.TheVariants.{Ask}
use Rattle.vr_world.specs.Lying.{Lying}
use Rattle.vr_world.specs.World.{Host}
use Rattle.law_7_members.specs.Files.{ActBy}
use Rattle.law_7_members.specs.Whole.{KeepOneLog}
use Rattle.law_9_answers.specs.Clients.{heard_client}
use Rattle.law_9_answers.specs.Heard as heard
use Rattle.law_9_answers.specs.Heard.{Heard, IsNamed, IsOfLog}
use Rattle.law_9_answers.specs.Laws.{IsNumbered}
use Rattle.law_9_answers.specs.Trials.{heard_trial}
use Rattle.law_9_answers.specs.History.{Asks, Befalls, HasAsked, HasOneSessionEach, Hears, IsExecutedAs, IsLinearizable, IsOrdered, Moment, acts_in}
use Rattle.law_9_answers.specs.Order.{request_in}

-- ---- what was asked and not answered: the ask with which a run ended

abbrev pub left_last : (c : Client) (number : ℕ) (operation : Operation) (s s' : Stand) (before now : ask.Faults) (status : Status) → EndsWith c number operation s s' before now status → List RequestFields
left_last c k o s s' b n NoAnswer h = request_of c k o ∷ []
left_last c k o s s' b n LinkFault h = request_of c k o ∷ []
left_last c k o s s' b n NoMemory (inl (inl h)) = request_of c k o ∷ []
left_last c k o s s' b n NoMemory (inl (inr h)) = []
left_last c k o s s' b n NoMemory (inr h) = []
left_last c k o s s' b n _ h = []

abbrev pub left_at : (c : Client) (number : ℕ) (r : Reading) (s : Stand) (r' : Reading) (s' : Stand) (before now : ask.Faults) (status : Status) → ((s' ≡ s) × StopsAt c.version number r r' status) ⊎ EndsAt c number r s r' s' before now status → List RequestFields
left_at c k r s r' s' b n status (inl h) = []
left_at c k r s r' s' b n status (inr h) = left_last c k h.operation s s' b n status h.ends

abbrev pub left_lines : (c : Client) (r : Reading) (s : Stand) (r' : Reading) (s' : Stand) (before now : ask.Faults) (status : Status) → EndsLines c r s r' s' before now status → List RequestFields
left_lines c r s r' s' b n status h = left_at c (length h.exchanges + 1) h.reads h.stands r' s' b n status h.ends

abbrev pub left_run : (c : Client) (r : Reading) (s : Stand) (r' : Reading) (s' : Stand) (before now : ask.Faults) (status : Status) → EndsRun c r s r' s' before now status → List RequestFields
left_run c r s r' s' b n status (inl h) = left_last c 0 Register s s' b n status h.1
left_run c r s r' s' b n status (inr h) = left_lines c r h.1 r' s' b n status h.3

abbrev pub left_client : (c : Client) (peers : List (List ℕ)) (o o' : client.Outside) (before now : ask.Faults) (status : Status) → ClientEnds c peers o o' before now status → List RequestFields
left_client c peers o o' b n status (inl h) = []
left_client c peers o o' b n status (inr (t, inl h)) = []
left_client c peers o o' b n status (inr (t, inr h)) = left_run c (reading_of [] o) (standing 0 o) (reading_of h.rest o') (standing h.port o') b n status h.ends

abbrev pub left_end : (t : Trial) (step : Step) (p p' : Place) (before now : trial.Faults) (status : Status) → Fails t step p p' before now status → List RequestFields
left_end t (Ask question) p p' b n status h = left_last t.client (number_of question) (operation_of question) p.client p'.client (of_client b) (of_client n) status h.0
left_end t _ p p' b n status h = []

abbrev pub left_till : (t : Trial) (steps : List Step) (p p' : Place) (before now : trial.Faults) (status : Status) → FailsIn t steps p p' before now status → List RequestFields
left_till t [] p p' b n status h = []
left_till t (step ∷ steps) p p' b n status (inl h) = left_end t step p p' b n status h
left_till t (step ∷ steps) p p' b n status (inr h) = left_till t steps h.0 p' b n status h.2

abbrev pub left_by : (t : Trial) (steps : List Step) (p : Place) (o : trial.Outside) (before now : trial.Faults) (status : Status) → Ends t steps p o before now status → List RequestFields
left_by t steps p o b n status (inl h) = []
left_by t steps p o b n status (inr h) = left_till t steps p h.last b n status h.fails

abbrev pub left_trial : (t : Trial) (o o' : trial.Outside) (before now : trial.Faults) (status : Status) → TrialEnds t o o' before now status → List RequestFields
left_trial t o o' b n status (inl h) = []
left_trial t o o' b n status (inr h) = left_by t (script t.client.n) (begins t o) o' b n status h

-- ---- programs

-- a whole run of `client`, or of `trial`, as its clause says of it
pub data Program : Type 0 where
  ClientRuns : (c : Client) (peers : List (List ℕ)) (o o' : client.Outside) (before now : ask.Faults) (status : Status) → ClientEnds c peers o o' before now status → Program
  TrialRuns : (t : Trial) (o o' : trial.Outside) (before now : trial.Faults) (status : Status) → TrialEnds t o o' before now status → Program

abbrev pub client_of : Program → Client
client_of (ClientRuns c peers o o' b n status h) = c
client_of (TrialRuns t o o' b n status h) = t.client

-- what it heard, ask by ask, and the request that it ended with, where it ended without an answer
abbrev pub hears_of : Program → List Heard
hears_of (ClientRuns c peers o o' b n status h) = heard_client c peers o o' b n status h
hears_of (TrialRuns t o o' b n status h) = heard_trial t o o' b n status h

abbrev pub leaves_of : Program → List RequestFields
leaves_of (ClientRuns c peers o o' b n status h) = left_client c peers o o' b n status h
leaves_of (TrialRuns t o o' b n status h) = left_trial t o o' b n status h

-- ---- among what befalls members

-- its moments, in order
abbrev pub moments : ℕ → List Heard → List RequestFields → List Moment
moments i [] left = map (Asks i) left
moments i (t ∷ ts) left = Asks i t.request ∷ Hears i t ∷ moments i ts left

abbrev pub moments_at : List Program → ℕ → List Moment
moments_at ps i = option_map_or (λ p. moments i (hears_of p) (leaves_of p)) (slice_get ps i) []

-- those of one client, of all that a history has
abbrev pub own : ℕ → List Moment → List Moment
own i [] = []
own i (Asks by q ∷ h) = if by == i then Asks by q ∷ own i h else own i h
own i (Hears by t ∷ h) = if by == i then Hears by t ∷ own i h else own i h
own i (Befalls x ∷ h) = own i h

abbrev pub asked_in : List Moment → List RequestFields
asked_in [] = []
asked_in (Asks by q ∷ h) = q ∷ asked_in h
asked_in (Hears by t ∷ h) = asked_in h
asked_in (Befalls x ∷ h) = asked_in h

-- these are the first moments of those, or all of them
pub record IsFront (ms all : List Moment) : Type 0 where
  pub rest : List Moment
  pub is : ms ++ rest ≡ all

-- Each client of the history is one of these programs, from its start on: to its end, or to where it was cut, so that nothing more of it happens.
pub record AreInterleaved (ps : List Program) (h : List Moment) : Type 0 where
  pub each : (i : ℕ) → IsFront (own i h) (moments_at ps i)
  pub numbered : (i : ℕ) (p : Program) → slice_get ps i ≡ Some p → IsNumbered (client_of p)

-- Of the network: it brings no request to a member that nobody asked, and no reply to a client that no member put out. Whatever isn't a reply may
-- be forged, and all may be lost, come again and again, and in any order.
pub record IsBrought (h : List Moment) : Type 0 where
  pub asked : (before after : List Moment) (x : ActBy) (q : RequestFields) → h ≡ before ++ (Befalls x ∷ after) → request_in x.act ≡ Some q → HasAsked before q
  pub received : (before after : List Moment) (by : ℕ) (t : Heard) → h ≡ before ++ (Hears by t ∷ after) → AllByRecursion (heard.IsPutOut (acts_in before) t.request.version t.request.cluster) t.received

-- names don't collide: of requests that reached members, of those whose entries were committed, and of those that clients asked
abbrev pub HaveNames : List Moment → Type 0
HaveNames h = NoCollision (IsNamed (acts_in h) (asked_in h))

-- no other of these programs has its client's number
abbrev pub IsAloneAmong : List Program → ℕ → Type 0
IsAloneAmong ps i = (j : ℕ) (p q : Program) → slice_get ps i ≡ Some p → slice_get ps j ≡ Some q → (client_of q).id ≡ (client_of p).id → j ≡ i

-- there is a session for each of these programs: 32 at most, or 64 if all ask in version 2
abbrev pub AreFew : List Program → Type 0
AreFew ps = (i : ℕ) (p : Program) → slice_get ps i ≡ Some p → length ps ≤ session_limit (client_of p).version

-- ---- what they hear is the log's, and in its order

pub record HearInOrder (kinds : ℕ → Kind) (cluster n : ℕ) (first : ℕ → Host Lying) (ps : List Program) (h : List Moment) (one : KeepOneLog kinds cluster n first (acts_in h)) : Type 0 where
  pub ordered : IsOrdered one.log.safe.log h
  -- each answer, also that a session is evicted, or that a number is old or too high
  pub answers : (i : ℕ) (t : Heard) → Contains h (Hears i t) → IsOfLog cluster n (acts_in h) one.log.safe.log one.log.matched.run t
  -- where a program's client number is its own, each outcome that it hears is of the operation that it asked
  pub own : (i : ℕ) → IsAloneAmong ps i → (t : Heard) (a : Answered) → Contains h (Hears i t) → t.answer ≡ answer.Outcome a → IsExecutedAs one.log.safe.log t.request a
  -- and where each has its own, and none begins a second session, it is linearizable
  pub linearizable : ((i : ℕ) → IsAloneAmong ps i) → HasOneSessionEach one.log.safe.log → IsLinearizable one.log.safe.log h

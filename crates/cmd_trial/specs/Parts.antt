-- What each part of a trial does: its course, and the sink, link and spawner that it was handed, before and after it.
use Rattle.std.specs.Prelude.{ℕ, ◌+◌, ◌≡◌, ◌≤◌, Bool, false, List, [], ◌∷◌, replicate, vec_len, Option, None, IfErr, OnOk, Result, is_ok}
use Rattle.std.specs.Io.KnownBytes.{Appends}
use Rattle.cmd_client.specs.Asking as ask
use Rattle.cmd_client.specs.Asking.{CountsLinks, CountsWrites, client_of}
use Rattle.vr_base.specs.Causes.{Rose}
use Rattle.vr_edge.specs.Attaching.{attach_of}
use Rattle.vr_edge.specs.Failing.{LinkFailure}
use Rattle.vr_edge.specs.Told.{Grows}
use Rattle.vr_edge.specs.declared.link.Link as of_link
use Rattle.vr_edge.specs.declared.sink.Sink as of_sink
use Rattle.vr_spawn.specs.declared.spawner.Spawner as of_spawner
use Rattle.vr_base.specs.Counts.{links_after, writes_after}
use Rattle.vr_base.specs.declared.status.Status.{Status}
use Rattle.vr_base.specs.declared.status.Status.TheVariants.{LinkFault, SpawnFault}
use Rattle.cmd_trial.specs.Run.{BreaksOff, CantCall, Counts, CountsSpawns, Does, DoesAll, Ends, Fails, FailsIn, Faults, IsCut, IsTold, Members, Outside, Place, Spawns, Starts, Stops, StopsAll, TrialEnds, counts, faults, members, outside, place, running_at, spawns, start_call, started, stopped, stops_of}
use Rattle.cmd_trial.specs.Script.{AreNext, IsNext, number_after, number_of}
use Rattle.cmd_trial.specs.Told.{Trial, operation_of, start_words, trial_of}
use Rattle.cmd_trial.specs.declared.course.Course.{Course}
use Rattle.cmd_trial.specs.declared.plan.Plan.{Plan}
use Rattle.cmd_trial.specs.declared.step.Question.{Question}
use Rattle.cmd_trial.specs.declared.step.Step.{Step}

-- ---- what objects tell

-- the members on a course, by what its spawner tells
abbrev pub members_of : {P : Type 0} → of_spawner.Ghosts P → Course → P → Members
members_of p c spawner = members c.running (p.calls spawner)

-- where a course stands among its objects
abbrev pub place_of : {K L P : Type 0} → of_sink.Ghosts K → of_link.Ghosts L → of_spawner.Ghosts P → Course → K → L → P → Place
place_of k l p c sink link spawner = place c (l.sent link) (l.received link) (k.taken sink) (p.calls spawner) (l.attached link)

-- what its objects tell
abbrev pub outside_of : {K L P : Type 0} → of_sink.Ghosts K → of_link.Ghosts L → of_spawner.Ghosts P → K → L → P → Outside
outside_of k l p sink link spawner = outside (l.sent link) (l.received link) (k.taken sink) (p.calls spawner) (l.attached link)

-- how often its objects have failed
abbrev pub faults_of : {K L P : Type 0} → of_sink.Ghosts K → of_link.Ghosts L → of_spawner.Ghosts P → K → L → P → Faults
faults_of k l p sink link spawner = faults (l.faults link) (k.faults sink) (p.faults spawner)

-- how often a sink and a spawner have failed
abbrev pub counts_of : {K P : Type 0} → of_sink.Ghosts K → of_spawner.Ghosts P → K → P → Counts
counts_of k p sink spawner = counts (k.faults sink) (p.faults spawner)

-- the calls of a spawner, and how often one has failed
abbrev pub spawns_of : {P : Type 0} → of_spawner.Ghosts P → P → Spawns
spawns_of p spawner = spawns (p.calls spawner) (p.faults spawner)

-- where a client stands
abbrev pub stand_of : {K L : Type 0} → of_sink.Ghosts K → of_link.Ghosts L → Course → K → L → ask.Stand
stand_of k l c sink link = ask.stand c.core (l.sent link) (l.received link) (k.taken sink)

-- the faults that an ask may tell
abbrev pub ask_faults : {K L : Type 0} → of_sink.Ghosts K → of_link.Ghosts L → K → L → ask.Faults
ask_faults k l sink link = ask.faults (l.faults link) (k.faults sink)

-- ---- one member

-- a line was written, or a front of it
pub record WritesLine {K : Type 0} (k : of_sink.Ghosts K) (line : List ℕ) (sink sink' : K) (result : Result (Unit {0}) Status) : Type 0 where
  pub written : OnOk result (Appends (k.taken sink) (k.taken sink') line)
  pub cut : IfErr result (IsCut line (k.taken sink) (k.taken sink') (k.faults sink) (k.faults sink'))
  pub counts : CountsWrites (k.faults sink) (k.faults sink') result

-- a member runs, or its start failed or wasn't tried
pub record StartsOne {P : Type 0} (p : of_spawner.Ghosts P) (t : Trial) (member : ℕ) (is_fresh : Bool) (c c' : Course) (spawner spawner' : P) (result : Result (Unit {0}) Status) : Type 0 where
  pub starts : OnOk result (Starts (start_words t member is_fresh) member (members_of p c spawner) (members_of p c' spawner'))
  pub fails : IfErr result (CantCall (start_call (start_words t member is_fresh) None ∷ []) (members_of p c spawner) (members_of p c' spawner') (p.faults spawner) (p.faults spawner'))
  pub core : c'.core ≡ c.core
  pub counts : CountsSpawns (p.faults spawner) (p.faults spawner') result

-- it runs no more, or its stop failed
pub record StopsOne {P : Type 0} (p : of_spawner.Ghosts P) (member : ℕ) (c c' : Course) (spawner spawner' : P) (result : Result (Unit {0}) Status) : Type 0 where
  pub stops : OnOk result (Stops member (members_of p c spawner) (members_of p c' spawner'))
  pub fails : IfErr result (CantCall (stops_of (running_at c.running member) false) (members_of p c spawner) (members_of p c' spawner') (p.faults spawner) (p.faults spawner'))
  pub core : c'.core ≡ c.core
  pub counts : CountsSpawns (p.faults spawner) (p.faults spawner') result

-- each of these that runs was stopped once, whatever its spawner answered
pub record StopsEach {P : Type 0} (p : of_spawner.Ghosts P) (running : List (Option ℕ)) (spawner spawner' : P) : Type 0 where
  pub stops : StopsAll running (spawns_of p spawner) (spawns_of p spawner')
  pub later : p.faults spawner ≤ p.faults spawner'

-- ---- a step

-- a member was started, and a line says so
pub record Begins {K P : Type 0} (k : of_sink.Ghosts K) (p : of_spawner.Ghosts P) (t : Trial) (member : ℕ) (is_fresh : Bool) (c c' : Course) (sink sink' : K) (spawner spawner' : P) (result : Result (Unit {0}) Status) : Type 0 where
  pub tells : OnOk result (IsTold (Starts (start_words t member is_fresh) member) (started member) (members_of p c spawner) (members_of p c' spawner') (k.taken sink) (k.taken sink'))
  pub fails : IfErr result (BreaksOff (Starts (start_words t member is_fresh) member) (start_call (start_words t member is_fresh) None ∷ []) (started member)
      (members_of p c spawner) (members_of p c' spawner') (k.taken sink) (k.taken sink') (counts_of k p sink spawner) (counts_of k p sink' spawner'))
  pub core : c'.core ≡ c.core
  pub writes : CountsWrites (k.faults sink) (k.faults sink') result
  pub spawns : CountsSpawns (p.faults spawner) (p.faults spawner') result

-- it was stopped, and a line says so
pub record Halts {K P : Type 0} (k : of_sink.Ghosts K) (p : of_spawner.Ghosts P) (member : ℕ) (c c' : Course) (sink sink' : K) (spawner spawner' : P) (result : Result (Unit {0}) Status) : Type 0 where
  pub tells : OnOk result (IsTold (Stops member) (stopped member) (members_of p c spawner) (members_of p c' spawner') (k.taken sink) (k.taken sink'))
  pub fails : IfErr result (BreaksOff (Stops member) (stops_of (running_at c.running member) false) (stopped member)
      (members_of p c spawner) (members_of p c' spawner') (k.taken sink) (k.taken sink') (counts_of k p sink spawner) (counts_of k p sink' spawner'))
  pub core : c'.core ≡ c.core
  pub writes : CountsWrites (k.faults sink) (k.faults sink') result
  pub spawns : CountsSpawns (p.faults spawner) (p.faults spawner') result

-- the client's link was attached, or that failed
pub record Attaches {L : Type 0} (l : of_link.Ghosts L) (t : Trial) (c c' : Course) (link link' : L) (result : Result (Unit {0}) Status) : Type 0 where
  pub faults : OnOk result (l.faults link' ≡ l.faults link)
  pub attached : Grows (l.attached link) (l.attached link') (attach_of [] t.peers (is_ok result) ∷ [])
  pub fails : IfErr result (λ status. (status ≡ LinkFault) × Rose (l.faults link) (l.faults link'))
  pub course : c' ≡ c
  pub sent : l.sent link' ≡ l.sent link
  pub received : l.received link' ≡ l.received link
  pub later : l.faults link ≤ l.faults link'
  pub links : CountsLinks (l.faults link) (l.faults link') result

-- the client asked, and wrote the answer; members and attaches stay
pub record Asks {K L : Type 0} (k : of_sink.Ghosts K) (l : of_link.Ghosts L) (turns : ℕ) (question : Question) (c c' : Course) (sink sink' : K) (link link' : L) (result : Result (Unit {0}) Status) : Type 0 where
  pub exchanged : ask.Exchanges (client_of c.core turns) (number_of question) (operation_of question) (stand_of k l c sink link) (stand_of k l c' sink' link')
      (ask_faults k l sink link) (ask_faults k l sink' link') result
  pub number : OnOk result (c'.core.number ≡ c.core.number + 1)
  pub client : client_of c'.core turns ≡ client_of c.core turns
  pub running : c'.running ≡ c.running
  pub attached : l.attached link' ≡ l.attached link
  pub later : l.faults link ≤ l.faults link'
  pub links : CountsLinks (l.faults link) (l.faults link') result
  pub writes : CountsWrites (k.faults sink) (k.faults sink') result

-- Each fault of an object is told, and no other answer leaves one.
pub record CountsFaults (before now : Faults) (result : Result (Unit {0}) Status) : Type 0 where
  pub links : CountsLinks before.link now.link result
  pub writes : CountsWrites before.counts.write now.counts.write result
  pub spawns : CountsSpawns before.counts.spawn now.counts.spawn result

-- the course is this trial's, and has come to this step
pub record MayTake (t : Trial) (step : Step) (c : Course) : Type 0 where
  pub client : client_of c.core t.client.turns ≡ t.client
  pub next : IsNext c.core.number step

-- a step was taken, or it ended the trial
pub record Takes {K L P : Type 0} (k : of_sink.Ghosts K) (l : of_link.Ghosts L) (p : of_spawner.Ghosts P) (t : Trial) (step : Step) (c c' : Course) (sink sink' : K) (link link' : L) (spawner spawner' : P)
    (result : Result (Unit {0}) Status) : Type 0 where
  pub does : OnOk result (Does t step (place_of k l p c sink link spawner) (place_of k l p c' sink' link' spawner'))
  pub fails : IfErr result (Fails t step (place_of k l p c sink link spawner) (place_of k l p c' sink' link' spawner') (faults_of k l p sink link spawner) (faults_of k l p sink' link' spawner'))
  pub client : client_of c'.core t.client.turns ≡ client_of c.core t.client.turns
  pub number : OnOk result (c'.core.number ≡ number_after c.core.number step)
  pub later : l.faults link ≤ l.faults link'
  pub counts : CountsFaults (faults_of k l p sink link spawner) (faults_of k l p sink' link' spawner') result

-- ---- the whole trial

-- a course begins: no member runs, and its client asks the first one first
pub record IsFirst (plan : Plan) (c : Course) : Type 0 where
  pub client : client_of c.core plan.turns ≡ (trial_of plan).client
  pub port : c.core.port ≡ 0
  pub number : c.core.number ≡ 0
  pub running : c.running ≡ replicate (vec_len plan.peers) None

-- the course is this trial's, and has come to these steps
pub record MayTakeAll (t : Trial) (steps : List Step) (c : Course) : Type 0 where
  pub client : client_of c.core t.client.turns ≡ t.client
  pub next : AreNext c.core.number steps

-- steps were taken one after another, or one ended the trial
pub record TakesAll {K L P : Type 0} (k : of_sink.Ghosts K) (l : of_link.Ghosts L) (p : of_spawner.Ghosts P) (t : Trial) (steps : List Step) (c c' : Course) (sink sink' : K) (link link' : L) (spawner spawner' : P)
    (result : Result (Unit {0}) Status) : Type 0 where
  pub does : OnOk result (DoesAll t steps (place_of k l p c sink link spawner) (place_of k l p c' sink' link' spawner'))
  pub fails : IfErr result (FailsIn t steps (place_of k l p c sink link spawner) (place_of k l p c' sink' link' spawner') (faults_of k l p sink link spawner) (faults_of k l p sink' link' spawner'))
  pub counts : CountsFaults (faults_of k l p sink link spawner) (faults_of k l p sink' link' spawner') result

-- steps were taken to an end; where one ended the trial, the members that run were stopped
pub record EndsCourse {K L P : Type 0} (k : of_sink.Ghosts K) (l : of_link.Ghosts L) (p : of_spawner.Ghosts P) (t : Trial) (steps : List Step) (c : Course) (sink sink' : K) (link link' : L) (spawner spawner' : P)
    (status : Status) : Type 0 where
  pub ends : Ends t steps (place_of k l p c sink link spawner) (outside_of k l p sink' link' spawner') (faults_of k l p sink link spawner) (faults_of k l p sink' link' spawner') status
  pub links : l.faults link' ≡ links_after status (l.faults link)
  pub write : k.faults sink' ≡ writes_after status (k.faults sink)

-- A whole trial. A fault has its cause in the object that was handed in, and a write or a call of the link that failed is told: no other answer leaves one.
-- The spawner's count at each end stands in `ends`, since after a step that ended the trial stops may fail.
pub record Tried {K L P : Type 0} (k : of_sink.Ghosts K) (l : of_link.Ghosts L) (p : of_spawner.Ghosts P) (t : Trial) (sink sink' : K) (net net' : L) (spawner spawner' : P) (status : Status) : Type 0 where
  pub ends : TrialEnds t (outside_of k l p sink net spawner) (outside_of k l p sink' net' spawner') (faults_of k l p sink net spawner) (faults_of k l p sink' net' spawner') status
  pub write : k.faults sink' ≡ writes_after status (k.faults sink)
  pub links : l.faults net' ≡ links_after status (l.faults net)
  pub link : status ≡ LinkFault → LinkFailure (l.faults net) (l.faults net') (l.attached net) (l.attached net') (l.received net) (l.received net')
  pub spawn : status ≡ SpawnFault → Rose (p.faults spawner) (p.faults spawner')

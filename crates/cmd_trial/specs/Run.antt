-- The run of a trial.
use Rattle.std.specs.Prelude.{ℕ, ◌≡◌, ◌⊎◌, Bool, true, false, if◌then◌else◌, List, [], ◌∷◌, replicate, slice_get, slice_set, Option, Some, None, option_and_then, Result, Ok, Err, codes}
use Rattle.std.specs.Io.KnownBytes.{Appends}
use Rattle.cmd_client.specs.Asking as ask
use Rattle.cmd_client.specs.Asking.{EndsWith, IsAnswered, Stand}
use Rattle.vr_base.specs.Causes.{Rose, one_more}
use Rattle.vr_client.specs.declared.answer.Answer.TheVariants as answer
use Rattle.vr_edge.specs.Attaching.{attach_of}
use Rattle.vr_edge.specs.Datagrams.{Arrival}
use Rattle.vr_edge.specs.Told.{AppendsFront, Grows}
use Rattle.vr_edge.specs.declared.attach.Attach.{Attach as Attached}
use Rattle.vr_edge.specs.declared.datagram.Datagram.{Datagram}
use Rattle.vr_msg.specs.declared.reply.Answered.{Answered}
use Rattle.vr_spawn.specs.declared.spawner.SpawnCall.{SpawnCall}
use Rattle.vr_spawn.specs.declared.spawner.SpawnCall.TheVariants as call
use Rattle.vr_base.specs.declared.status.Status.{Status}
use Rattle.vr_base.specs.declared.status.Status.TheVariants.{Done, LinkFault, NoMemory, SpawnFault, WriteFault}
use Rattle.cmd_trial.specs.Script.{number_of, script}
use Rattle.cmd_trial.specs.Told.{Trial, member_line, operation_of, start_words}
use Rattle.cmd_trial.specs.declared.course.Course.{Course}
use Rattle.cmd_trial.specs.declared.step.Step.{Step}
use Rattle.cmd_trial.specs.declared.step.Step.TheVariants.{Start, Restart, Attach, Ask, Stop}

-- the members: for each, the number that the spawner gave it, while it runs; and what the spawner tells
pub record Members : Type 0 where
  pub running : List (Option ℕ)
  pub calls : Option (List SpawnCall)

abbrev pub members : List (Option ℕ) → Option (List SpawnCall) → Members
members running calls = record { running = running; calls = calls }

-- where a trial stands: its client, with what link and sink tell, the members, and the attaches of the link
pub record Place : Type 0 where
  pub client : Stand
  pub members : Members
  pub attached : Option (List Attached)

abbrev pub place : Course → Option (List (Option Datagram)) → Option (List Arrival) → Option (List ℕ) → Option (List SpawnCall) → Option (List Attached) → Place
place c sent got taken calls attached = record { client = ask.stand c.core sent got taken; members = members c.running calls; attached = attached }

-- counts of faults of the sink and of the spawner, and with them that of the link
pub record Counts : Type 0 where
  pub write : ℕ
  pub spawn : ℕ

abbrev pub counts : ℕ → ℕ → Counts
counts write spawn = record { write = write; spawn = spawn }

pub record Faults : Type 0 where
  pub link : ℕ
  pub counts : Counts

abbrev pub faults : ℕ → ℕ → ℕ → Faults
faults link write spawn = record { link = link; counts = counts write spawn }

abbrev pub of_client : Faults → ask.Faults
of_client f = ask.faults f.link f.counts.write

-- the count of the spawner's faults where a step ends a trial: each call that failed is told, and no other answer leaves one
abbrev pub spawns_after : Status → ℕ → ℕ
spawns_after SpawnFault count = one_more count
spawns_after _ count = count

-- the same after a step, which goes on or ends there
abbrev pub CountsSpawns : {T : Type 0} → ℕ → ℕ → Result T Status → Type 0
CountsSpawns before now (Ok x) = now ≡ before
CountsSpawns before now (Err status) = now ≡ spawns_after status before

-- ---- members

abbrev pub start_call : List (List ℕ) → Option ℕ → SpawnCall
start_call words id = call.Start (record { words = words; id = id })

abbrev pub stop_call : ℕ → Bool → SpawnCall
stop_call id is_done = call.Stop (record { id = id; is_done = is_done })

-- the number of a member that runs
abbrev pub running_at : List (Option ℕ) → ℕ → Option ℕ
running_at running member = option_and_then (λ id. id) (slice_get running member)

-- the calls that stop a member: none where it doesn't run
abbrev pub stops_of : Option ℕ → Bool → List SpawnCall
stops_of None is_done = []
stops_of (Some id) is_done = stop_call id is_done ∷ []

-- a member was started with these words, and runs from then on
pub record Starts (words : List (List ℕ)) (member : ℕ) (m m' : Members) : Type 0 where
  pub id : ℕ
  pub called : Grows m.calls m'.calls (start_call words (Some id) ∷ [])
  pub runs : m'.running ≡ slice_set m.running member (Some id)

-- it was stopped, and runs no more
pub record Stops (member : ℕ) (m m' : Members) : Type 0 where
  pub called : Grows m.calls m'.calls (stops_of (running_at m.running member) true)
  pub runs : m'.running ≡ slice_set m.running member None

-- the spawner failed at these calls
pub record IsRefused (tried : List SpawnCall) (m m' : Members) (before now : ℕ) (status : Status) : Type 0 where
  pub fault : status ≡ SpawnFault
  pub cause : Rose before now
  pub called : Grows m.calls m'.calls tried
  pub running : m'.running ≡ m.running

-- it wasn't called, or it failed
abbrev pub CantCall : List SpawnCall → Members → Members → ℕ → ℕ → Status → Type 0
CantCall calls m m' before now status =
    ((status ≡ NoMemory) × (m' ≡ m)) ⊎ IsRefused calls m m' before now status

-- what the spawner tells, and the count of its faults
pub record Spawns : Type 0 where
  pub calls : Option (List SpawnCall)
  pub faults : ℕ

abbrev pub spawns : Option (List SpawnCall) → ℕ → Spawns
spawns calls faults = record { calls = calls; faults = faults }

-- a stop, which adds one to the count exactly where it failed
pub record HasStop (id : ℕ) (old new : Spawns) : Type 0 where
  pub is_done : Bool
  pub called : Grows old.calls new.calls (stop_call id is_done ∷ [])
  pub counted : new.faults ≡ (if is_done then old.faults else one_more old.faults)

-- All members that run are stopped, the least number first; a stop that fails changes nothing but the count.
abbrev pub StopsAll : List (Option ℕ) → Spawns → Spawns → Type 0
StopsAll [] old new = new ≡ old
StopsAll (None ∷ running) old new = StopsAll running old new
StopsAll (Some id ∷ running) old new = (mid : Spawns) × HasStop id old mid × StopsAll running mid new

-- ---- lines

-- a front of a line was written
pub record IsCut (line : List ℕ) (old new : Option (List ℕ)) (before now : ℕ) (status : Status) : Type 0 where
  pub front : AppendsFront old new line
  pub cause : (status ≡ NoMemory) ⊎ ((status ≡ WriteFault) × Rose before now)

-- the members changed, and a line says so
pub record IsTold (Changes : Members → Members → Type 0) (line : List ℕ) (m m' : Members) (taken taken' : Option (List ℕ)) : Type 0 where
  pub changes : Changes m m'
  pub written : Appends taken taken' line

-- they didn't, or the line was cut
abbrev pub BreaksOff : (Members → Members → Type 0) → List SpawnCall → List ℕ → Members → Members → Option (List ℕ) → Option (List ℕ) → Counts → Counts → Status → Type 0
BreaksOff Changes calls line m m' taken taken' before now status =
    (CantCall calls m m' before.spawn now.spawn status × (taken' ≡ taken))
    ⊎ (Changes m m' × IsCut line taken taken' before.write now.write status)

-- ---- steps

abbrev pub started : ℕ → List ℕ
started member = member_line (codes "started") member

abbrev pub stopped : ℕ → List ℕ
stopped member = member_line (codes "stopped") member

-- nothing is asked, and the link isn't attached
pub record AsksNothing (p p' : Place) : Type 0 where
  pub client : p'.client ≡ record p.client { taken = p'.client.taken }
  pub attached : p'.attached ≡ p.attached

-- the link is attached, once: without an own address, and with those of all members as its peers
pub record TakesLink (t : Trial) (is_done : Bool) (p p' : Place) : Type 0 where
  pub attached : Grows p.attached p'.attached (attach_of [] t.peers is_done ∷ [])
  pub same : p' ≡ record p { attached = p'.attached }

-- nothing but an ask
pub record OnlyAsks (p p' : Place) : Type 0 where
  pub members : p'.members ≡ p.members
  pub attached : p'.attached ≡ p.attached

-- a start went well
abbrev pub HasStarted : Trial → ℕ → Bool → Place → Place → Type 0
HasStarted t member is_fresh p p' =
    IsTold (Starts (start_words t member is_fresh) member) (started member) p.members p'.members p.client.taken p'.client.taken
    × AsksNothing p p'

-- a step went well; an answer to another request is none to this one
abbrev pub Does : Trial → Step → Place → Place → Type 0
Does t (Start member) p p' = HasStarted t member true p p'
Does t (Restart member) p p' = HasStarted t member false p p'
Does t Attach p p' = TakesLink t true p p'
Does t (Ask question) p p' =
    ((a : Answered) × IsAnswered t.client (number_of question) (operation_of question) p.client p'.client (answer.Outcome a))
    × OnlyAsks p p'
Does t (Stop member) p p' =
    IsTold (Stops member) (stopped member) p.members p'.members p.client.taken p'.client.taken × AsksNothing p p'

-- a start ended the trial
abbrev pub CantStart : Trial → ℕ → Bool → Place → Place → Faults → Faults → Status → Type 0
CantStart t member is_fresh p p' before now status =
    BreaksOff (Starts (start_words t member is_fresh) member) (start_call (start_words t member is_fresh) None ∷ []) (started member)
    p.members p'.members p.client.taken p'.client.taken before.counts now.counts status
    × AsksNothing p p'

-- a step ended it
abbrev pub Fails : Trial → Step → Place → Place → Faults → Faults → Status → Type 0
Fails t (Start member) p p' before now status = CantStart t member true p p' before now status
Fails t (Restart member) p p' before now status = CantStart t member false p p' before now status
Fails t Attach p p' before now status = (status ≡ LinkFault) × Rose before.link now.link × TakesLink t false p p'
Fails t (Ask question) p p' before now status =
    EndsWith t.client (number_of question) (operation_of question) p.client p'.client (of_client before) (of_client now) status
    × OnlyAsks p p'
Fails t (Stop member) p p' before now status =
    BreaksOff (Stops member) (stops_of (running_at p.members.running member) false) (stopped member)
    p.members p'.members p.client.taken p'.client.taken before.counts now.counts status
    × AsksNothing p p'

-- all of these steps went well
abbrev pub DoesAll : Trial → List Step → Place → Place → Type 0
DoesAll t [] p p' = p' ≡ p
DoesAll t (step ∷ steps) p p' = (q : Place) × Does t step p q × DoesAll t steps q p'

-- one of them ended it
abbrev pub FailsIn : Trial → List Step → Place → Place → Faults → Faults → Status → Type 0
FailsIn t [] p p' before now status = ⊥
FailsIn t (step ∷ steps) p p' before now status =
    Fails t step p p' before now status ⊎ ((q : Place) × Does t step p q × FailsIn t steps q p' before now status)

-- ---- the whole run

-- what link, sink and spawner tell
pub record Outside : Type 0 where
  pub sent : Option (List (Option Datagram))
  pub got : Option (List Arrival)
  pub taken : Option (List ℕ)
  pub calls : Option (List SpawnCall)
  pub attached : Option (List Attached)

abbrev pub outside : Option (List (Option Datagram)) → Option (List Arrival) → Option (List ℕ) → Option (List SpawnCall) → Option (List Attached) → Outside
outside sent got taken calls attached = record { sent = sent; got = got; taken = taken; calls = calls; attached = attached }

-- where a trial begins: no member runs, and the client asks the first one
abbrev pub begins : Trial → Outside → Place
begins t o = record {
  client = record { port = 0; sent = o.sent; got = o.got; taken = o.taken };
  members = members (replicate t.client.n None) o.calls;
  attached = o.attached;
}

-- what is told where it ends
abbrev pub tells : Place → Option (List SpawnCall) → Outside
tells p calls = outside p.client.sent p.client.got p.client.taken calls p.attached

-- all steps went well; before and now count the spawner's faults
pub record IsThrough (t : Trial) (steps : List Step) (p : Place) (o : Outside) (before now : ℕ) (status : Status) : Type 0 where
  pub done : status ≡ Done
  pub spared : now ≡ before
  pub last : Place
  pub does : DoesAll t steps p last
  pub ends : o ≡ tells last last.members.calls

-- a step ended it, and then the members that ran were stopped; the count rose by that step, where the spawner failed in it, and by the stops that failed
pub record IsBroken (t : Trial) (steps : List Step) (p : Place) (o : Outside) (before now : Faults) (status : Status) : Type 0 where
  pub last : Place
  pub fails : FailsIn t steps p last before now status
  pub calls : Option (List SpawnCall)
  pub stops : StopsAll last.members.running (spawns last.members.calls (spawns_after status before.counts.spawn)) (spawns calls now.counts.spawn)
  pub ends : o ≡ tells last calls

-- how a trial of these steps ends
abbrev pub Ends : Trial → List Step → Place → Outside → Faults → Faults → Status → Type 0
Ends t steps p o before now status = IsThrough t steps p o before.counts.spawn now.counts.spawn status ⊎ IsBroken t steps p o before now status

-- how a trial ends; memory may be short before its first step
abbrev pub TrialEnds : Trial → Outside → Outside → Faults → Faults → Status → Type 0
TrialEnds t o o' before now status =
    ((status ≡ NoMemory) × (o' ≡ o) × (now ≡ before)) ⊎ Ends t (script t.client.n) (begins t o) o' before now status

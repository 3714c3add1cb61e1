-- Runs of a member, with all that is put out.
use Rattle.std.specs.Prelude.{ℕ, ◌<◌, List, [], ◌∷◌, ◌++◌, length, Option, map, ◌≡◌, ◌≢◌, ◌⊎◌}
use Rattle.std.specs.Io.KnownBytes.{Appends}
use Rattle.vr_disk.specs.DiskState.{Disk}
use Rattle.vr_disk.specs.declared.fault.Halt.{Halt}
use Rattle.vr_edge.specs.Datagrams.{Arrival}
use Rattle.vr_edge.specs.Told.{AppendsFront, Grows}
use Rattle.vr_edge.specs.declared.datagram.Datagram.{Datagram}
use Rattle.vr_mail.specs.Sends.{Sends}
use Rattle.vr_msg.specs.declared.event.Event.{Event}
use Rattle.vr_msg.specs.declared.output.Output.{Output}
use Rattle.vr_serve.specs.Causes.{stop_of}
use Rattle.vr_serve.specs.Events.{AreTurns, Begins, Come, Gives, LastTurn, Turn, arrival_in, arrivals, happened, last_of, next_in, numbers_in, whole_in}
use Rattle.vr_serve.specs.Outputs.{datagrams_for, heard, numbers_after, text_from}
use Rattle.vr_serve.specs.declared.clients.Client.{Client}
use Rattle.vr_serve.specs.declared.stop.Stop.{Stop}
use Rattle.vr_serve.specs.declared.stop.Stop.TheVariants as stop

-- what a step of a member does
abbrev pub Doing : Type 0 → Type 1
Doing S = S → Option Disk → Event → List Output → S → Option Disk → Type 0

-- what a step of a member that stops leaves
abbrev pub Halting : Type 0 → Type 1
Halting S = S → Option Disk → Event → Halt → S → Option Disk → Type 0

-- one event, what it put out, and the member and its disk after it
pub record Did (S : Type 0) : Type 0 where
  pub come : Come
  pub outputs : List Output
  pub after : S
  pub disk : Option Disk

abbrev pub IsRun : {S : Type 0} → Doing S → S → Option Disk → List (Did S) → S → Option Disk → Type 0
IsRun does from d [] to d' = (to ≡ from) × (d' ≡ d)
IsRun does from d (x ∷ xs) to d' = does from d x.come.event x.outputs x.after x.disk × IsRun does x.after x.disk xs to d'

abbrev pub texts_of : {S : Type 0} → ℕ → List (Did S) → List ℕ
texts_of m [] = []
texts_of m (x ∷ xs) = text_from m x.outputs ++ texts_of (numbers_after m x.outputs) xs

abbrev pub numbers_of : {S : Type 0} → ℕ → List (Did S) → ℕ
numbers_of m [] = m
numbers_of m (x ∷ xs) = numbers_of (numbers_after m x.outputs) xs

abbrev pub sends_of : {S : Type 0} → List Client → List (Did S) → List Datagram
sends_of clients [] = []
sends_of clients (x ∷ xs) = datagrams_for (heard x.come clients) x.outputs ++ sends_of (heard x.come clients) xs

abbrev pub clients_of : {S : Type 0} → List Client → List (Did S) → List Client
clients_of clients [] = clients
clients_of clients (x ∷ xs) = clients_of (heard x.come clients) xs

-- where a run stands: the member and its disk, the number of the next message, the clients heard, and what sink and link tell
pub record At (S : Type 0) : Type 0 where
  pub member : S
  pub disk : Option Disk
  pub number : ℕ
  pub clients : List Client
  pub taken : Option (List ℕ)
  pub sent : Option (List (Option Datagram))

abbrev pub at : {S : Type 0} → S → Option Disk → ℕ → List Client → Option (List ℕ) → Option (List (Option Datagram)) → At S
at member disk number clients taken sent =
    record { member = member; disk = disk; number = number; clients = clients; taken = taken; sent = sent }

-- these events happened, with all their text and all their datagrams
pub record Passed {S : Type 0} (does : Doing S) (a b : At S) (comes : List Come) : Type 0 where
  pub dids : List (Did S)
  pub run : IsRun does a.member a.disk dids b.member b.disk
  pub events : map (λ x. x.come) dids ≡ comes
  pub number : b.number ≡ numbers_of a.number dids
  pub clients : b.clients ≡ clients_of a.clients dids
  pub taken : Appends a.taken b.taken (texts_of a.number dids)
  pub sent : Sends (sends_of a.clients dids) a.sent b.sent

-- a front of these datagrams was sent
abbrev pub SendsFront : List Datagram → Option (List (Option Datagram)) → Option (List (Option Datagram)) → Type 0
SendsFront ds old new = (front : List Datagram) × (rest : List Datagram) × (front ++ rest ≡ ds) × Sends front old new

-- of a text and the datagrams after it a front was put out: no datagram before the whole text
abbrev pub PutsFront : List ℕ → List Datagram → Option (List ℕ) → Option (List ℕ) → Option (List (Option Datagram))
    → Option (List (Option Datagram)) → Type 0
PutsFront text ds t t' u u' = (AppendsFront t t' text × (u' ≡ u)) ⊎ (Appends t t' text × SendsFront ds u u')

-- an early end: why, and what disk, sink and link tell there
pub record End : Type 0 where
  pub why : Stop
  pub disk : Option Disk
  pub taken : Option (List ℕ)
  pub sent : Option (List (Option Datagram))

abbrev pub end_at : Stop → Option Disk → Option (List ℕ) → Option (List (Option Datagram)) → End
end_at why disk taken sent = record { why = why; disk = disk; taken = taken; sent = sent }

-- between two steps, for a receive or for want of memory: the disk is as the last one left it
pub record EndsBetween {S : Type 0} (a : At S) (end : End) : Type 0 where
  pub why : (end.why ≡ stop.Link) ⊎ (end.why ≡ stop.NoMemory)
  pub disk : end.disk ≡ a.disk
  pub taken : end.taken ≡ a.taken
  pub sent : end.sent ≡ a.sent

-- in a step that stopped: the disk is as that leaves it, and nothing of it was put out
pub record EndsInStep {S : Type 0} (halts : Halting S) (a : At S) (come : Come) (end : End) : Type 0 where
  pub halt : Halt
  pub after : S
  pub why : end.why ≡ stop_of halt
  pub disk : halts a.member a.disk come.event halt after end.disk
  pub taken : end.taken ≡ a.taken
  pub sent : end.sent ≡ a.sent

-- after a step that was done: the disk is as that left it, and a front was put out
pub record EndsBehindStep {S : Type 0} (does : Doing S) (a : At S) (come : Come) (end : End) : Type 0 where
  pub outputs : List Output
  pub after : S
  pub why : end.why ≢ stop.Disk
  pub disk : does a.member a.disk come.event outputs after end.disk
  pub front : PutsFront (text_from a.number outputs) (datagrams_for (heard come a.clients) outputs) a.taken end.taken a.sent end.sent

-- an early end where this event, if any, was begun
abbrev pub Begun : {S : Type 0} → Doing S → Halting S → At S → List Come → End → Type 0
Begun does halts a [] end = EndsBetween a end
Begun does halts a (c ∷ cs) end = (cs ≡ []) × (EndsInStep halts a c end ⊎ EndsBehindStep does a c end)

-- an early end after the events that happened wholly: of those that come next one was begun, or none, and the rest didn't happen
pub record Cut {S : Type 0} (does : Doing S) (halts : Halting S) (a : At S) (whole next : List Come) (end : End) : Type 0 where
  pub begun : List Come
  pub rest : List Come
  pub parts : begun ++ rest ≡ next
  pub mid : At S
  pub passed : Passed does a mid whole
  pub front : Begun does halts mid begun end

-- what comes first, before any event: the outputs of an opening
pub record PutsFirst (first : List Output) (t t' : Option (List ℕ)) (u u' : Option (List (Option Datagram))) : Type 0 where
  pub taken : Appends t t' (text_from 0 first)
  pub sent : Sends (datagrams_for [] first) u u'

-- where a run stands after them
abbrev pub begun_at : {S : Type 0} → S → Option Disk → List Output → Option (List ℕ) → Option (List (Option Datagram)) → At S
begun_at member disk first taken sent = at member disk (numbers_after 0 first) [] taken sent

-- a run of a member that ended well: the first outputs, and then the events of so many turns
pub record IsServed {S : Type 0} (does : Doing S) (version cluster count : ℕ) (first : List Output) (member member' : S) (disk disk' : Option Disk)
    (left left' : Option (List ℕ)) (got got' : Option (List Arrival)) (t t' : Option (List ℕ)) (u u' : Option (List (Option Datagram))) : Type 0 where
  pub begins : ℕ  -- the clock's first number
  pub turns : List Turn
  pub counted : length turns ≡ count
  pub clock : Gives left (begins ∷ map (λ x. x.now) turns) left'
  pub received : Grows got got' (arrivals turns)
  pub brought : AreTurns version cluster turns
  pub taken : Option (List ℕ)
  pub sent : Option (List (Option Datagram))
  pub puts : PutsFirst first t taken u sent
  pub number : ℕ
  pub clients : List Client
  pub passed : Passed does (begun_at member disk first taken sent) (at member' disk' number clients t' u') (happened begins turns)

-- a turn that was cut off, where the last tick was then
pub record IsTurnCut {S : Type 0} (does : Doing S) (halts : Halting S) (version cluster tick : ℕ) (a : At S) (left left' : Option (List ℕ))
    (got got' : Option (List Arrival)) (end : End) : Type 0 where
  pub last : LastTurn
  pub clock : Gives left (numbers_in last) left'
  pub received : Grows got got' (arrival_in last ∷ [])
  pub begun : Begins version cluster last
  pub cut : Cut does halts a (whole_in last) (next_in tick last) end

-- so many turns happened wholly from a to b, where the last tick was then, and the last tick after them is `after`
pub record HaveTurns {S : Type 0} (does : Doing S) (version cluster count tick after : ℕ) (a b : At S) (left left' : Option (List ℕ))
    (got got' : Option (List Arrival)) : Type 0 where
  pub turns : List Turn
  pub counted : length turns ≡ count
  pub ticked : after ≡ last_of tick turns
  pub clock : Gives left (map (λ x. x.now) turns) left'
  pub received : Grows got got' (arrivals turns)
  pub brought : AreTurns version cluster turns
  pub passed : Passed does a b (happened tick turns)

-- fewer than so many turns happened wholly from a on, and the one after them was cut off
pub record AreTurnsCut {S : Type 0} (does : Doing S) (halts : Halting S) (version cluster count tick : ℕ) (a : At S) (left left' : Option (List ℕ))
    (got got' : Option (List Arrival)) (end : End) : Type 0 where
  pub turns : List Turn
  pub last : LastTurn
  pub counted : length turns < count
  pub clock : Gives left (map (λ x. x.now) turns ++ numbers_in last) left'
  pub received : Grows got got' (arrivals turns ++ arrival_in last ∷ [])
  pub brought : AreTurns version cluster turns
  pub begun : Begins version cluster last
  pub cut : Cut does halts a (happened tick turns ++ whole_in last) (next_in (last_of tick turns) last) end

-- a run that was cut off in a turn: all turns before it happened wholly, and the clock gave a number for each of them, and one more where it was asked in the last one
pub record IsCutInTurn {S : Type 0} (does : Doing S) (halts : Halting S) (version cluster count : ℕ) (first : List Output) (member : S) (disk : Option Disk)
    (left left' : Option (List ℕ)) (got got' : Option (List Arrival)) (t : Option (List ℕ)) (u : Option (List (Option Datagram))) (end : End) : Type 0 where
  pub begins : ℕ  -- the clock's first number
  pub turns : List Turn
  pub last : LastTurn
  pub counted : length turns < count
  pub clock : Gives left (begins ∷ (map (λ x. x.now) turns ++ numbers_in last)) left'
  pub received : Grows got got' (arrivals turns ++ arrival_in last ∷ [])
  pub brought : AreTurns version cluster turns
  pub begun : Begins version cluster last
  pub taken : Option (List ℕ)
  pub sent : Option (List (Option Datagram))
  pub puts : PutsFirst first t taken u sent
  pub cut : Cut does halts (begun_at member disk first taken sent) (happened begins turns ++ whole_in last) (next_in (last_of begins turns) last) end

-- or before the first turn: a front of the first outputs was put out, the clock not asked, nothing received, and no step done
pub record IsCutBefore (first : List Output) (d : Option Disk) (left left' : Option (List ℕ)) (got got' : Option (List Arrival)) (t : Option (List ℕ))
    (u : Option (List (Option Datagram))) (end : End) : Type 0 where
  pub why : end.why ≢ stop.Disk
  pub disk : end.disk ≡ d
  pub clock : left' ≡ left
  pub received : got' ≡ got
  pub front : PutsFront (text_from 0 first) (datagrams_for [] first) t end.taken u end.sent

-- What happens at a member in turns: at each one receive, and then one look at the clock.
use Rattle.std.specs.Prelude.{ℕ, ◌+◌, List, [], ◌∷◌, ◌++◌, Option, None, Some, ◌≡◌, ◌⊎◌, if◌then◌else◌, nat_lt, nat_le, Bool, ◌||◌, map}
use Rattle.vr_edge.specs.Datagrams.{Arrival, Failed}
use Rattle.vr_edge.specs.Told.{GivesNext}
use Rattle.vr_mail.specs.Letters.{AreBrought, Brings, IsMessage}
use Rattle.vr_mail.specs.declared.receiving.Letter.{Letter}
use Rattle.vr_msg.specs.declared.event.Event.{Event}
use Rattle.vr_msg.specs.declared.event.Event.TheVariants.{Request, Deliver, Tick}
use Rattle.vr_msg.specs.declared.frame.Frame.{Frame}
use Rattle.vr_msg.specs.declared.frame.Frame.TheVariants as frame
use Rattle.vr_serve.specs.declared.serving.TheConstants.{TICK}

-- an event, and the port that it came from, 0 for a tick
pub record Come : Type 0 where
  pub port : ℕ
  pub event : Event

-- a request is asked, and any other message is delivered
abbrev pub event_of : Frame → Event
event_of (frame.Request q) = Request q
event_of (frame.Reply r) = Deliver (frame.Reply r)
event_of (frame.Prepare p) = Deliver (frame.Prepare p)
event_of (frame.PrepareOk p) = Deliver (frame.PrepareOk p)
event_of (frame.Commit c) = Deliver (frame.Commit c)
event_of (frame.StartViewChange s) = Deliver (frame.StartViewChange s)
event_of (frame.DoViewChange d) = Deliver (frame.DoViewChange d)
event_of (frame.StartView v) = Deliver (frame.StartView v)
event_of (frame.GetView g) = Deliver (frame.GetView g)
event_of (frame.GetPrepare g) = Deliver (frame.GetPrepare g)
event_of (frame.GivePrepare g) = Deliver (frame.GivePrepare g)
event_of (frame.GetBlock g) = Deliver (frame.GetBlock g)
event_of (frame.GiveBlock g) = Deliver (frame.GiveBlock g)
event_of (frame.GetSync g) = Deliver (frame.GetSync g)
event_of (frame.SyncView v) = Deliver (frame.SyncView v)

abbrev pub come_of : Letter → Come
come_of letter = record { port = letter.port; event = event_of letter.message }

-- what comes of a receive
abbrev pub comes_of : Option Letter → List Come
comes_of None = []
comes_of (Some letter) = come_of letter ∷ []

-- a tick is due `TICK` after the last one, or more
abbrev pub is_due : ℕ → ℕ → Bool
is_due last now = nat_le (last + TICK) now

abbrev pub due : ℕ → ℕ → List Come
due last now = if is_due last now then record { port = 0; event = Tick } ∷ [] else []

-- the last tick after this look at the clock
abbrev pub last_after : ℕ → ℕ → ℕ
last_after last now = if nat_lt now last || is_due last now then now else last

-- one turn: what was received, what that brought, and the clock's number
pub record Turn : Type 0 where
  pub arrival : Arrival
  pub letter : Option Letter
  pub now : ℕ

abbrev pub turn_of : Arrival → Option Letter → ℕ → Turn
turn_of arrival letter now = record { arrival = arrival; letter = letter; now = now }

abbrev pub events_of : ℕ → Turn → List Come
events_of last turn = comes_of turn.letter ++ due last turn.now

-- the last tick after these turns
abbrev pub last_of : ℕ → List Turn → ℕ
last_of last [] = last
last_of last (turn ∷ turns) = last_of (last_after last turn.now) turns

-- the events of these turns, where the last tick was then
abbrev pub happened : ℕ → List Turn → List Come
happened last [] = []
happened last (turn ∷ turns) = events_of last turn ++ happened (last_after last turn.now) turns

-- a clock with this left gives these numbers, and then has that left
abbrev pub Gives : Option (List ℕ) → List ℕ → Option (List ℕ) → Type 0
Gives old [] new = new ≡ old
Gives old (number ∷ numbers) new = (mid : Option (List ℕ)) × GivesNext old mid number × Gives mid numbers new

abbrev pub arrivals : List Turn → List Arrival
arrivals turns = map (λ t. t.arrival) turns

abbrev pub letters : List Turn → List (Option Letter)
letters turns = map (λ t. t.letter) turns

-- the turns are those of a member of this version and group
abbrev pub AreTurns : ℕ → ℕ → List Turn → Type 0
AreTurns version cluster turns = AreBrought version cluster (arrivals turns) (letters turns)

-- a turn that was cut off: at its receive or at what came of that, before the clock was asked; or, once what came was handled and the clock asked, at its tick
pub data LastTurn : Type 0 where
  AtReceive : Arrival → Option Letter → LastTurn
  AtTick : Turn → LastTurn

abbrev pub arrival_in : LastTurn → Arrival
arrival_in (AtReceive arrival letter) = arrival
arrival_in (AtTick turn) = turn.arrival

-- the numbers that the clock gave in it
abbrev pub numbers_in : LastTurn → List ℕ
numbers_in (AtReceive arrival letter) = []
numbers_in (AtTick turn) = turn.now ∷ []

-- its events that happened wholly
abbrev pub whole_in : LastTurn → List Come
whole_in (AtReceive arrival letter) = []
whole_in (AtTick turn) = comes_of turn.letter

-- and the one, if any, at which it was cut off
abbrev pub next_in : ℕ → LastTurn → List Come
next_in last (AtReceive arrival letter) = comes_of letter
next_in last (AtTick turn) = due last turn.now

-- what it received: nothing comes of a receive that failed, or for whose message memory was short
abbrev pub Begins : ℕ → ℕ → LastTurn → Type 0
Begins version cluster (AtReceive arrival letter) = Brings version cluster arrival letter ⊎ (((arrival ≡ Failed) ⊎ IsMessage version cluster arrival) × (letter ≡ None))
Begins version cluster (AtTick turn) = Brings version cluster turn.arrival turn.letter

-- What happens to the host's group from its beginning to its end.
use Rattle.std.specs.Prelude.{ℕ, ◌+◌, ◌-◌, ◌^◌, ◌≡◌, ◌<◌, ◌≤◌, Bool, List, [], ◌∷◌, ◌++◌, if◌then◌else◌, length, min, nat_le}
use Rattle.vr_header.specs.NoCollision.{NoCollision}
use Rattle.vr_header.specs.declared.operation.Operation.{Operation}
use Rattle.vr_header.specs.declared.operation.Operation.TheVariants.{Register, Put, Get}
use Rattle.vr_msg.specs.declared.request.RequestFields.{RequestFields}
use Rattle.vr_world.specs.Lying.{hazards}
use Rattle.vr_world.specs.World.{Asks, Fuses, Happening, Starts, fresh_world, happen}
use Rattle.law_6_one_log.specs.Laws.{KeepsOneLog}
use Rattle.law_6_one_log.specs.Schedules.{IsHashed}
use Rattle.vr_embed.specs.declared.clock.Clock.{Clock}
use Rattle.vr_embed.specs.Groups.{letters, ticks, told_lines}
use Rattle.vr_embed.specs.Members.{kind}

-- ---- the clock

-- when the milliseconds are over that were counted last
abbrev pub time_after : Clock → ℕ → ℕ
time_after c milliseconds = min (c.time + milliseconds) (2 ^ 64 - 1)

-- a tick is due once so many milliseconds are over
abbrev pub is_due : Clock → ℕ → Bool
is_due c milliseconds = nat_le 100 (time_after c milliseconds - c.ticked)

abbrev pub passed : Clock → ℕ → Clock
passed c milliseconds = record { time = time_after c milliseconds; ticked = if is_due c milliseconds then time_after c milliseconds else c.ticked }

-- ---- the story

-- what client 1 asks
abbrev pub asked : ℕ → Operation → RequestFields
asked number operation = record { version = 2; cluster = 0; client = 1; request = number; operation = operation }

-- it asks the first member
abbrev pub asks : ℕ → Operation → Happening
asks number operation = Asks 0 (asked number operation)

abbrev pub color : List ℕ
color = 99 ∷ 111 ∷ 108 ∷ 111 ∷ 114 ∷ []

abbrev pub green : List ℕ
green = 103 ∷ 114 ∷ 101 ∷ 101 ∷ 110 ∷ []

abbrev pub shape : List ℕ
shape = 115 ∷ 104 ∷ 97 ∷ 112 ∷ 101 ∷ []

abbrev pub round : List ℕ
round = 114 ∷ 111 ∷ 117 ∷ 110 ∷ 100 ∷ []

-- how far letters were delivered after each thing that happened; after the first put from `kept` on: at most one letter is lost
pub record Ends : Type 0 where
  pub session : ℕ
  pub kept : ℕ
  pub put : ℕ
  pub tick : ℕ
  pub cut : ℕ
  pub found : ℕ
  pub second : ℕ
  pub read : ℕ
  pub last : ℕ
  pub least : session ≤ kept
  pub lost : kept ≤ session + 1

-- a session, a put of which a letter is lost, a tick; a put in the midst of which the second member's power fails, at the third call of its
-- disk; that member is found again; a tick, a get, a tick
abbrev pub to_session : Ends → List Happening
to_session e = asks 0 Register ∷ letters 0 e.session

abbrev pub to_put : Ends → List Happening
to_put e = to_session e ++ (asks 1 (Put color green) ∷ letters e.kept e.put)

abbrev pub to_tick : Ends → List Happening
to_tick e = to_put e ++ (ticks ++ letters e.put e.tick)

abbrev pub to_cut : Ends → List Happening
to_cut e = to_tick e ++ (Fuses 1 2 0 ∷ asks 2 (Put shape round) ∷ letters e.tick e.cut)

abbrev pub to_found : Ends → List Happening
to_found e = to_cut e ++ (Starts 1 ∷ letters e.cut e.found)

abbrev pub to_second : Ends → List Happening
to_second e = to_found e ++ (ticks ++ letters e.found e.second)

abbrev pub to_read : Ends → List Happening
to_read e = to_second e ++ (asks 3 (Get shape) ∷ letters e.second e.read)

abbrev pub story : Ends → List Happening
story e = to_read e ++ (ticks ++ letters e.read e.last)

-- letters were delivered from one number up to another, a thousand at most; if fewer were, these happenings left none to deliver
pub record IsAll (xs : List Happening) (from to : ℕ) : Type 0 where
  pub least : from ≤ to
  pub most : to ≤ from + 1000
  pub all : to < from + 1000 → length (happen hazards (fresh_world hazards kind 3) xs).world.sent ≤ to

-- so each time
pub record AreAll (e : Ends) : Type 0 where
  pub session : IsAll (to_session e) 0 e.session
  pub put : IsAll (to_put e) e.kept e.put
  pub tick : IsAll (to_tick e) e.put e.tick
  pub cut : IsAll (to_cut e) e.tick e.cut
  pub found : IsAll (to_found e) e.cut e.found
  pub second : IsAll (to_second e) e.found e.second
  pub read : IsAll (to_read e) e.second e.read
  pub last : IsAll (story e) e.read e.last

-- The text is what a group of three members puts out to which just this happens. And it keeps one log, where names don't collide.
pub record IsTold (text : List ℕ) : Type 0 where
  pub ends : Ends
  pub all : AreAll ends
  pub told : text ≡ told_lines (happen hazards (fresh_world hazards kind 3) (story ends)).outputs
  pub one_log : NoCollision (IsHashed (fresh_world hazards kind 3) (story ends)) → KeepsOneLog kind 3 (happen hazards (fresh_world hazards kind 3) (story ends))

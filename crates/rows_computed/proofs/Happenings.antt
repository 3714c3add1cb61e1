-- The lines of the schedules, and what they say that happens.
use Rattle.std.specs.Prelude.{ℕ, List, [], ◌∷◌, codes}
use Rattle.vr_header.specs.declared.operation.Operation.{Operation}
use Rattle.vr_header.specs.declared.operation.Operation.TheVariants.{Register, Put}
use Rattle.vr_msg.specs.declared.request.RequestFields.{RequestFields}
use Rattle.vr_lines.specs.declared.line.Line.{Line}
use Rattle.vr_lines.specs.declared.line.Line.TheVariants as line
use Rattle.vr_lie.specs.declared.fault.Fault.TheVariants.{Damage}
use Rattle.vr_world.specs.World.{Happening, AsksInVersion, Arrives, Ticks, Stops, Starts, Migrates, Fuses, Lies}

-- client 7 asks, with a number of its own
abbrev asked : ℕ → Operation → RequestFields
asked request operation = record { version = 1; cluster = 0; client = 7; request = request; operation = operation }

-- and client 8
abbrev pub registers_later : RequestFields
registers_later = record { version = 1; cluster = 0; client = 8; request = 0; operation = Register }

abbrev pub registers : RequestFields
registers = asked 0 Register

abbrev pub puts : RequestFields
puts = asked 1 (Put (codes "a") (codes "b"))

abbrev pub plain_lines : List Line
plain_lines = line.Request 0 registers ∷ line.Deliver 0 ∷ line.Deliver 2 ∷ line.Request 0 puts ∷ line.Deliver 3 ∷ line.Deliver 5 ∷ []

abbrev pub plain : List Happening
plain = AsksInVersion 0 registers ∷ Arrives 0 ∷ Arrives 2 ∷ AsksInVersion 0 puts ∷ Arrives 3 ∷ Arrives 5 ∷ []

abbrev pub acknowledged_lines : List Line
acknowledged_lines =
    line.Request 0 registers ∷ line.Deliver 0 ∷ line.Stop 1 ∷ line.Damage 1 81 ∷ line.Damage 1 148 ∷ line.Start 1 ∷ line.Stop 0 ∷ line.Tick 1 ∷ line.Tick 1 ∷ line.Tick 1 ∷ line.Tick 1 ∷ line.Tick 1
    ∷ line.Deliver 4 ∷ line.Deliver 7 ∷ line.Start 0 ∷ line.Deliver 3 ∷ line.Deliver 10 ∷ line.Tick 1 ∷ []

abbrev pub acknowledged : List Happening
acknowledged =
    AsksInVersion 0 registers ∷ Arrives 0 ∷ Stops 1 ∷ Lies 1 (Damage 81) ∷ Lies 1 (Damage 148) ∷ Starts 1 ∷ Stops 0 ∷ Ticks 1 ∷ Ticks 1 ∷ Ticks 1 ∷ Ticks 1 ∷ Ticks 1
    ∷ Arrives 4 ∷ Arrives 7 ∷ Starts 0 ∷ Arrives 3 ∷ Arrives 10 ∷ Ticks 1 ∷ []

abbrev pub torn_lines : List Line
torn_lines =
    line.Request 0 registers ∷ line.Fuse 1 3 26 ∷ line.Deliver 0 ∷ line.Start 1 ∷ line.Tick 1 ∷ line.Tick 1 ∷ line.Tick 1 ∷ line.Tick 1 ∷ line.Tick 1 ∷ line.Deliver 3 ∷ line.Deliver 6 ∷ []

abbrev pub torn_prepare : List Happening
torn_prepare = AsksInVersion 0 registers ∷ Fuses 1 2 26 ∷ Arrives 0 ∷ Starts 1 ∷ Ticks 1 ∷ Ticks 1 ∷ Ticks 1 ∷ Ticks 1 ∷ Ticks 1 ∷ Arrives 3 ∷ Arrives 6 ∷ []

abbrev pub dropped_lines : List Line
dropped_lines =
    line.Request 0 registers ∷ line.Deliver 0 ∷ line.Deliver 1 ∷ line.Deliver 2 ∷ line.Request 0 puts ∷ line.Stop 0 ∷ line.Tick 1 ∷ line.Tick 1 ∷ line.Tick 1 ∷ line.Tick 1 ∷ line.Tick 1
    ∷ line.Deliver 7 ∷ line.Deliver 10 ∷ line.Deliver 12 ∷ line.Deliver 15 ∷ line.Request 1 registers_later ∷ line.Deliver 17 ∷ line.Deliver 18 ∷ []

abbrev pub dropped : List Happening
dropped =
    AsksInVersion 0 registers ∷ Arrives 0 ∷ Arrives 1 ∷ Arrives 2 ∷ AsksInVersion 0 puts ∷ Stops 0 ∷ Ticks 1 ∷ Ticks 1 ∷ Ticks 1 ∷ Ticks 1 ∷ Ticks 1
    ∷ Arrives 7 ∷ Arrives 10 ∷ Arrives 12 ∷ Arrives 15 ∷ AsksInVersion 1 registers_later ∷ Arrives 17 ∷ Arrives 18 ∷ []

-- in a group of one, on a file of version 2
abbrev asked_in_2 : ℕ → Operation → RequestFields
asked_in_2 request operation = record { version = 2; cluster = 0; client = 7; request = request; operation = operation }

abbrev pub registers_in_2 : RequestFields
registers_in_2 = asked_in_2 0 Register

abbrev pub puts_in_2 : RequestFields
puts_in_2 = asked_in_2 1 (Put (codes "a") (codes "b"))

abbrev pub alone_lines : List Line
alone_lines = line.Request 0 registers_in_2 ∷ line.Request 0 puts_in_2 ∷ []

abbrev pub one_alone : List Happening
one_alone = AsksInVersion 0 registers_in_2 ∷ AsksInVersion 0 puts_in_2 ∷ []

abbrev pub moved_lines : List Line
moved_lines = line.Request 0 registers ∷ line.Deliver 0 ∷ line.Stop 1 ∷ line.Migrate 1 ∷ []

abbrev pub moved : List Happening
moved = AsksInVersion 0 registers ∷ Arrives 0 ∷ Stops 1 ∷ Migrates 1 ∷ []

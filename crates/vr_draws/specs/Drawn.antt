-- The lines that are drawn.
use Rattle.std.specs.Prelude.{ℕ, ◌+◌, ◌-◌, ◌%◌, ◌==◌, min, nat_lt, List, ◌++◌, codes, slice_index, if◌then◌else◌}
use Rattle.std.specs.Fmt.{decimal}
use Rattle.vr_header.specs.declared.operation.Operation.{Operation}
use Rattle.vr_header.specs.declared.operation.Operation.TheVariants as operation
use Rattle.vr_lines.specs.Versions.{line_sectors}
use Rattle.vr_lines.specs.declared.line.Line.{Line}
use Rattle.vr_lines.specs.declared.line.Line.TheVariants as line
use Rattle.vr_draws.specs.Draws.{Drawn, after_draws, draw}

-- the lines that are drawn are of this version
abbrev pub drawn_version : ℕ
drawn_version = 1

-- how many replicas a group has
abbrev pub drawn_size : ℕ → Drawn ℕ
drawn_size seed = record { value = 2 + draw seed 1 % 5; number = after_draws seed 1 }

abbrev pub key : ℕ → List ℕ
key d = codes "k" ++ decimal (d % 8)

abbrev pub value : ℕ → List ℕ
value d = codes "v" ++ decimal (d % 1000)

-- put, get or delete, by the first draw; a key by the second, a value by the third
unfoldable pub drawn_operation : ℕ → Drawn Operation
drawn_operation x =
    if draw x 1 % 3 == 0 then record { value = operation.Put (key (draw x 2)) (value (draw x 3)); number = after_draws x 3 }
    else (if draw x 1 % 3 == 1 then record { value = operation.Get (key (draw x 2)); number = after_draws x 2 }
    else record { value = operation.Delete (key (draw x 2)); number = after_draws x 2 })

-- what a client asks whose next request has this number: a session, where it has none
unfoldable pub drawn_asking : ℕ → ℕ → Drawn Operation
drawn_asking number x = if number == 0 then record { value = operation.Register; number = x } else drawn_operation x

abbrev pub request : ℕ → ℕ → ℕ → Drawn Operation → Drawn Line
request replica client number asked = record {
  value = line.Request replica (record { version = drawn_version; cluster = 0; client = client; request = number; operation = asked.value });
  number = asked.number;
}

-- a request to one of n replicas, by one of four clients, whose next requests have these numbers
unfoldable pub drawn_request : ℕ → List ℕ → ℕ → Drawn Line
drawn_request n next x =
    let client = draw x 2 % 4 in
    let number = slice_index next client in
    request (draw x 1 % n) (1 + client) number (drawn_asking number (after_draws x 2))

-- the delivery of one of the last 16 messages of so many
unfoldable pub drawn_delivery : ℕ → ℕ → Drawn Line
drawn_delivery count x =
    if count == 0 then record { value = line.Deliver 0; number = x }
    else record { value = line.Deliver (count - 1 - draw x 1 % min count 16); number = after_draws x 1 }

-- a replica, by one draw
abbrev pub at_replica : ℕ → ℕ → (ℕ → Line) → Drawn Line
at_replica n x make = record { value = make (draw x 1 % n); number = after_draws x 1 }

-- a replica and a sector of its disk that lines speak of, by two draws
abbrev pub at_sector : ℕ → ℕ → (ℕ → ℕ → Line) → Drawn Line
at_sector n x make = record { value = make (draw x 1 % n) (draw x 2 % line_sectors drawn_version); number = after_draws x 2 }

-- A line by its kind, of 64, for a group that has so many replicas and messages, and whose clients' next requests have these numbers.
unfoldable pub drawn_kind : ℕ → ℕ → List ℕ → ℕ → ℕ → Drawn Line
drawn_kind n messages next kind x =
    if nat_lt kind 10 then drawn_request n next x
    else (if nat_lt kind 42 then drawn_delivery messages x
    else (if nat_lt kind 56 then at_replica n x line.Tick
    else (if nat_lt kind 57 then at_replica n x line.Stop
    else (if nat_lt kind 61 then at_replica n x line.Start
    else (if nat_lt kind 62 then at_sector n x line.Damage
    else (if nat_lt kind 63 then at_sector n x line.Stale
    else at_sector n x line.Unread))))))

-- the next line: the first draw gives its kind
unfoldable pub drawn_line : ℕ → ℕ → List ℕ → ℕ → Drawn Line
drawn_line n messages next x = drawn_kind n messages next (draw x 1 % 64) (after_draws x 1)

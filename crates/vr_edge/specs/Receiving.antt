-- What comes over a link in memory.
use Rattle.std.specs.Prelude.{ℕ, ◌-◌, ◌^◌, List, [], ◌∷◌, ◌++◌, Option, Some, None, if◌then◌else◌, option_and_then, slice_get, take, nat_le, zero, suc}
use Rattle.vr_edge.specs.Counts.{is_listed}
use Rattle.vr_edge.specs.Datagrams.{Arrival, Failed, Nothing, Came}
use Rattle.vr_edge.specs.Sending.{datagram_at}
use Rattle.vr_edge.specs.declared.link.TheConstants.{RECEIVE_ROOM}
use Rattle.vr_edge.specs.declared.datagram.Datagram.{Datagram}
use Rattle.vr_edge.specs.declared.script.LinkScript.{LinkScript}

-- the datagram that waits at this receive
abbrev pub waiting_at : LinkScript → ℕ → Option Datagram
waiting_at script call = option_and_then (λ arrival. arrival) (slice_get script.arrivals.items call)

-- of a datagram as much as a buffer takes
abbrev pub arrived : Option Datagram → Arrival
arrived None = Nothing
arrived (Some d) = Came (datagram_at d.port (take RECEIVE_ROOM d.bytes))

-- what this receive gives
unfoldable pub arrival_at : LinkScript → ℕ → Arrival
arrival_at script call =
    if is_listed script.failing_receives.items call then Failed else arrived (waiting_at script call)

-- what all receives before this one gave
unfoldable pub arrivals_before : LinkScript → ℕ → List Arrival
arrivals_before script zero = []
arrivals_before script (suc call) = arrivals_before script call ++ arrival_at script call ∷ []

-- told where fewer than 2^64 - 1 came
unfoldable pub received_told : LinkScript → ℕ → Option (List Arrival)
received_told script calls =
    if nat_le (2 ^ 64 - 1) calls then None else Some (arrivals_before script calls)

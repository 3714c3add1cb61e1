-- What a link tells of its calls.
use Rattle.std.specs.Prelude.{ℕ, List, Option, Some, None, Result, Ok, Err}
use Rattle.vr_edge.specs.declared.datagram.Datagram.{Datagram}
use Rattle.vr_edge.specs.declared.link.Received.{Received}
use Rattle.vr_edge.specs.declared.link.Received.TheVariants.{Quiet, Part}
use Rattle.vr_edge.specs.declared.link.Received.TheVariants.{Datagram as From}

-- what one receive gave: a part of a datagram is as nothing
pub data Arrival : Type 0 where
  Failed : Arrival
  Nothing : Arrival
  Came : Datagram → Arrival

-- the entry of one send
abbrev pub sent_by : {E : Type 0} → ℕ → List ℕ → Result (Unit {0}) E → Option Datagram
sent_by to bytes (Ok _) = Some (record { port = to; bytes = bytes })
sent_by to bytes (Err _) = None

-- the entry of one receive, whose buffer then held these bytes
abbrev pub received_by : {E : Type 0} → Result Received E → List ℕ → Arrival
received_by (Ok (From port)) bytes = Came (record { port = port; bytes = bytes })
received_by (Ok Quiet) bytes = Nothing
received_by (Ok Part) bytes = Nothing
received_by (Err _) bytes = Failed

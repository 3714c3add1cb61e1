-- What streams tell of their calls.
use Rattle.std.specs.Prelude.{ℕ, ◌+◌, ◌<◌, ◌≤◌, ⊤, List, Some, None, Result, Ok, Err, take}
use Rattle.vr_edge.specs.declared.streams.Polled.{Polled}
use Rattle.vr_edge.specs.declared.streams.Polled.TheVariants as polled
use Rattle.vr_edge.specs.declared.streams.StreamCall.{StreamCall}
use Rattle.vr_edge.specs.declared.streams.StreamCall.TheVariants as call
use Rattle.vr_edge.specs.declared.streams.TheConstants.{STREAM_ROOM}
use Rattle.vr_edge.specs.declared.streams.Write.{Write}

-- the port of one of so many peers, or of one of 64 others
abbrev pub IsPort : ℕ → ℕ → Type 0
IsPort peers port = port < peers + 64

-- at a port some bytes came, and no more than there is room for; or its stream ended
abbrev pub IsPolled : ℕ → Polled → Type 0
IsPolled peers (polled.Bytes port count) = IsPort peers port × (1 ≤ count) × (count ≤ STREAM_ROOM)
IsPolled peers (polled.Ended port) = IsPort peers port
IsPolled peers polled.Quiet = ⊤

-- the entry of one poll, whose buffer then held these bytes
abbrev pub polled_by : {E : Type 0} → Result Polled E → List ℕ → StreamCall
polled_by (Ok (polled.Bytes port count)) bytes = call.Came (record { port = port; bytes = take count bytes })
polled_by (Ok (polled.Ended port)) bytes = call.Ended port
polled_by (Ok polled.Quiet) bytes = call.Quiet
polled_by (Err e) bytes = call.Failed

-- the entry of one write
abbrev pub written_by : {E : Type 0} → ℕ → List ℕ → Result ℕ E → Write
written_by port bytes (Ok count) = record { port = port; bytes = bytes; taken = Some count }
written_by port bytes (Err e) = record { port = port; bytes = bytes; taken = None }

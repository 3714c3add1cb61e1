-- What the calls of streams in memory do.
use Rattle.std.specs.Prelude.{ℕ, ◌+◌, ◌-◌, nat_le, ◌==◌, ◌||◌, if◌then◌else◌, Bool, true, false, List, [], ◌∷◌, length, take, slice_get, slice_set, unwrap_or, Result, Ok, Err}
use Rattle.vr_edge.specs.Counts.{is_listed}
use Rattle.vr_edge.specs.declared.stream_script.Coming.{Coming}
use Rattle.vr_edge.specs.declared.stream_script.Coming.TheVariants as coming
use Rattle.vr_edge.specs.declared.stream_script.StreamScript.{StreamScript}
use Rattle.vr_edge.specs.declared.streams.StreamCall.{StreamCall}
use Rattle.vr_edge.specs.declared.streams.StreamCall.TheVariants as call
use Rattle.vr_edge.specs.declared.streams.StreamFailed.{StreamFailed}
use Rattle.vr_edge.specs.declared.streams.TheConstants.{STREAM_ROOM}

-- what comes at this port is left out: its connection was closed, or with so many peers there is no such port
abbrev pub is_left_out : ℕ → List Bool → ℕ → Bool
is_left_out peers left port = nat_le (peers + 64) port || unwrap_or (slice_get left port) true

-- what a poll gives of what it finds
abbrev pub gives : ℕ → List Bool → Coming → StreamCall
gives peers left coming.Nothing = call.Quiet
gives peers left coming.Fault = call.Failed
gives peers left (coming.Piece p) =
    if is_left_out peers left p.port || length p.bytes == 0 then call.Quiet
    else call.Came (record { port = p.port; bytes = take STREAM_ROOM p.bytes })
gives peers left (coming.End port) = if is_left_out peers left port then call.Quiet else call.Ended port

-- what the poll with this number finds
abbrev pub found_at : StreamScript → ℕ → Coming
found_at script number = unwrap_or (slice_get script.comes.items number) coming.Nothing

-- what it gives of it
abbrev pub gives_at : ℕ → List Bool → StreamScript → ℕ → StreamCall
gives_at peers left script number = gives peers left (found_at script number)

-- what waits for a poll that gives this
abbrev pub waits : StreamCall → List StreamCall
waits (call.Came p) = call.Came p ∷ []
waits (call.Ended port) = call.Ended port ∷ []
waits _ = []

-- the ports that are left out once this was found: an end begins another connection
abbrev pub left_behind : List Bool → Coming → List Bool
left_behind left (coming.End port) = slice_set left port false
left_behind left _ = left

-- how much the write with this number takes of so many bytes
abbrev pub write_takes : StreamScript → ℕ → ℕ → Result ℕ StreamFailed
write_takes script number count =
    if is_listed script.failing_writes.items number then Err (record {})
    else (if is_listed script.short_writes.items number then Ok (count - 1) else Ok count)

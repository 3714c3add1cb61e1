-- What the next call of an object in memory does.
use Rattle.std.specs.Prelude.{ℕ, ◌-◌, min, Bool, if◌then◌else◌, Result, Ok, Err, length, vec_len, ◌==◌, ◌||◌}
use Rattle.vr_base.specs.Causes.{one_more}
use Rattle.vr_edge.specs.Counts.{is_listed}
use Rattle.vr_edge.specs.declared.mem_sink.MemSink.{MemSink}
use Rattle.vr_edge.specs.declared.mem_source.MemSource.{MemSource}
use Rattle.vr_edge.specs.declared.sink.WriteFailed.{WriteFailed}
use Rattle.vr_edge.specs.declared.source.ReadFailed.{ReadFailed}

-- the next read fails
abbrev pub source_fails : MemSource → Bool
source_fails source = is_listed source.failing.items source.calls

-- the most bytes of the read of this number, into a buffer of this length
abbrev pub source_most : MemSource → ℕ → ℕ → ℕ
source_most source call room = if source.in_pieces then min room (one_more call) else room

-- the next read, into a buffer of this length
abbrev pub source_gives : MemSource → ℕ → Result ℕ ReadFailed
source_gives source room =
    if source_fails source then Err (record {}) else Ok (min (source_most source source.calls room) (length source.bytes.items - source.at))

-- how many bytes the sink still takes
abbrev pub room_left : MemSink → ℕ
room_left sink = sink.room - vec_len sink.bytes

-- the next write fails
abbrev pub sink_fails : MemSink → Bool
sink_fails sink = room_left sink == 0 || is_listed sink.failing.items sink.calls

-- the next write, of so many bytes
abbrev pub sink_takes : MemSink → ℕ → Result ℕ WriteFailed
sink_takes sink count = if sink_fails sink then Err (record {}) else Ok (min count (room_left sink))

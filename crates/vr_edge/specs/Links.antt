-- When a link in memory sends.
use Rattle.std.specs.Prelude.{ℕ, Bool, ◌&&◌, not, vec_len}
use Rattle.vr_edge.specs.Counts.{is_listed}
use Rattle.vr_edge.specs.Sending.{has_room}
use Rattle.vr_edge.specs.declared.mem_link.MemLink.{MemLink}

-- the next send, of a datagram of this length, goes out
abbrev pub sends_well : MemLink → ℕ → Bool
sends_well link len = has_room link.outbox len && not (is_listed link.script.failing_sends.items (vec_len link.outbox.marks))

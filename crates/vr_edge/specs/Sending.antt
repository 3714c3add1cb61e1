-- What a link in memory was given to send.
use Rattle.std.specs.Prelude.{ℕ, ◌-◌, ◌^◌, List, ◌++◌, Bool, Option, Some, None, if◌then◌else◌, ◌==◌, ◌&&◌, map, take, drop, replicate, vec_len, nat_lt, nat_le, slice_get, option_and_then}
use Rattle.std.specs.Option.{option_map}
use Rattle.vr_edge.specs.declared.datagram.Datagram.{Datagram}
use Rattle.vr_edge.specs.declared.outbox.Mark.{Mark}
use Rattle.vr_edge.specs.declared.outbox.Outbox.{Outbox}

abbrev pub datagram_at : ℕ → List ℕ → Datagram
datagram_at port bytes = record { port = port; bytes = bytes }

-- the datagram of a mark
unfoldable pub marked : List ℕ → Option Mark → Option Datagram
marked bytes mark = option_map (λ m. datagram_at m.port (take (m.end - m.start) (drop m.start bytes))) mark

-- one entry for each send, where fewer than 2^64 - 1 came when no room was left
unfoldable pub entries : List ℕ → List (Option Mark) → ℕ → Option (List (Option Datagram))
entries bytes marks past =
    if nat_le (2 ^ 64 - 1) past then None else Some (map (marked bytes) marks ++ replicate past None)

-- what the outbox tells of the sends
abbrev pub outbox_told : Outbox → Option (List (Option Datagram))
outbox_told o = entries o.bytes.items o.marks.items o.past

-- there is room for a datagram of this length, and there was for each before
abbrev pub has_room : Outbox → ℕ → Bool
has_room o len = o.past == 0 && nat_lt (vec_len o.marks) o.room.datagrams && nat_le len (o.room.bytes - vec_len o.bytes)

-- the datagram of an entry
abbrev pub entry_at : List (Option Datagram) → ℕ → Option Datagram
entry_at sent at = option_and_then (λ entry. entry) (slice_get sent at)

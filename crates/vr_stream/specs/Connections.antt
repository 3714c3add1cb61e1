-- The connections at a port, and the messages that are given of each.
use Rattle.std.specs.Prelude.{ℕ, ◌≡◌, ◌==◌, if◌then◌else◌, Bool, true, false, List, [], ◌∷◌, ◌++◌, slice_get, replicate, Option, Some, None}
use Rattle.vr_edge.specs.declared.streams.StreamCall.TheVariants as call
use Rattle.vr_base.specs.Bytes.{IsBytes}
use Rattle.vr_stream.specs.Cutting.{AreMessages, messages, rest_of}
use Rattle.vr_stream.specs.Framing.{Call, Framing, Gave, Happen, Occurrence, Settled}
use Rattle.vr_stream.specs.Lines.{fresh_line}
use Rattle.vr_stream.specs.declared.line.Incoming.{Incoming}

-- the bytes of a connection, the messages that were given of it, and whether it is over: the next bytes at its port are another one's
pub record Connection : Type 0 where
  pub bytes : List ℕ
  pub given : List (List ℕ)
  pub over : Bool

abbrev pub first_connection : Connection
first_connection = record { bytes = []; given = []; over = false }

abbrev pub with_bytes : List ℕ → Connection → Connection
with_bytes bytes c = if c.over then record { bytes = bytes; given = []; over = false } else record { bytes = c.bytes ++ bytes; given = c.given; over = false }

abbrev pub closed : Connection → Connection
closed c = record c { over = true }

abbrev pub with_message : List ℕ → Connection → Connection
with_message message c = record c { given = c.given ++ message ∷ [] }

-- the connection at a port once this happened
abbrev pub then_at : ℕ → Connection → Occurrence → Connection
then_at port c (Call (call.Came piece)) = if piece.port == port then with_bytes piece.bytes c else c
then_at port c (Call (call.Ended at)) = if at == port then closed c else c
then_at port c (Call (call.Closed at)) = if at == port then closed c else c
then_at port c (Call call.Quiet) = c
then_at port c (Call call.Failed) = c
then_at port c (Gave at message) = if at == port then with_message message c else c
then_at port c Settled = c

abbrev pub connection : ℕ → Connection → List Occurrence → Connection
connection port c [] = c
connection port c (h ∷ hs) = connection port (then_at port c h) hs

-- so many ports at which nothing has come
abbrev pub first_framing : ℕ → Framing
first_framing count = record { lines = replicate count fresh_line; ready = None }

-- the messages given of a connection, and after them those that stand ready, are those of its bytes
pub record IsCut (port : ℕ) (ready : Option ℕ) (line : Incoming) (c : Connection) : Type 0 where
  pub all : (messages : List (List ℕ)) (rest : List ℕ) → AreMessages messages rest line.deframer → AreMessages (c.given ++ messages) rest c.bytes
  pub still : (ready ≡ Some port → ⊥) → AreMessages c.given line.deframer c.bytes

-- so it is at each port, whatever happened
abbrev pub ConnectionsAreCut : Type 0
ConnectionsAreCut =
    (count : ℕ) (hs : List Occurrence) (f : Framing) → Happen (first_framing count) hs f
    → (port : ℕ) (line : Incoming) → slice_get f.lines port ≡ Some line → IsCut port f.ready line (connection port first_connection hs)

-- the messages that are found in bytes, and what is left of them, are theirs
abbrev pub MessagesAreCut : Type 0
MessagesAreCut = (bytes : List ℕ) → IsBytes bytes → AreMessages (messages bytes) (rest_of bytes) bytes

-- A link over streams: what it has of each stream, and what happens to it.
use Rattle.std.specs.Prelude.{ℕ, ◌≡◌, ◌<◌, ◌⊎◌, true, false, List, [], ◌∷◌, ◌++◌, length, slice_get, slice_set, Option, Some, None}
use Rattle.vr_edge.specs.declared.streams.Piece.{Piece}
use Rattle.vr_edge.specs.declared.streams.StreamCall.{StreamCall}
use Rattle.vr_edge.specs.declared.streams.StreamCall.TheVariants as call
use Rattle.vr_codec.specs.declared.fault.MsgFault.{MsgFault}
use Rattle.vr_stream.specs.Cutting.{IsBroken, IsMessage, IsShort}
use Rattle.vr_stream.specs.Lines.{kept}
use Rattle.vr_stream.specs.declared.line.Incoming.{Incoming}

-- the streams by their ports, and the port at which messages may stand ready
pub record Framing : Type 0 where
  pub lines : List Incoming
  pub ready : Option ℕ

-- what happens to a link over streams
pub data Occurrence : Type 0 where
  -- a call of its streams
  Call : StreamCall → Occurrence
  -- it gives a message of the stream at this port
  Gave : ℕ → List ℕ → Occurrence
  -- it finds that no message stands ready any more
  Settled : Occurrence

abbrev pub with_line : ℕ → Incoming → Framing → Framing
with_line port line f = record f { lines = slice_set f.lines port line }

-- the connection at a port is over
abbrev pub over_at : ℕ → Option Incoming → Framing → Framing
over_at port None f = f
over_at port (Some line) f = with_line port (record line { over = true }) f

abbrev pub ended : ℕ → Framing → Framing
ended port f = over_at port (slice_get f.lines port) f

-- bytes come at a port: nothing stands ready then, and they are taken where there is room for them
abbrev pub Comes : Piece → Framing → Option Incoming → Framing → Type 0
Comes piece f None g = g ≡ f
Comes piece f (Some line) g =
    length (kept line) < 20480
    → g ≡ record { lines = slice_set f.lines piece.port (record { deframer = kept line ++ piece.bytes; over = false }); ready = Some piece.port }

-- a message is given, of those that stand ready
pub record Gives (port : ℕ) (given : List ℕ) (f g : Framing) : Type 0 where
  pub ready : f.ready ≡ Some port
  pub message : IsMessage given
  pub line : Incoming
  pub rest : List ℕ
  pub stood : slice_get f.lines port ≡ Some line
  pub front : line.deframer ≡ given ++ rest
  pub gone : g ≡ with_line port (record line { deframer = rest }) f

-- no message stands at the front of what is left at a port; damage has ended the connection
abbrev pub IsSettled : Incoming → Type 0
IsSettled line = IsShort line.deframer ⊎ ((line.over ≡ true) × (fault : MsgFault) × IsBroken line.deframer fault)

pub record Settles (f g : Framing) : Type 0 where
  pub settled : (port : ℕ) (line : Incoming) → f.ready ≡ Some port → slice_get f.lines port ≡ Some line → IsSettled line
  pub gone : g ≡ record f { ready = None }

abbrev pub Happens : Framing → Occurrence → Framing → Type 0
Happens f (Call (call.Came piece)) g = (f.ready ≡ None) × Comes piece f (slice_get f.lines piece.port) g
Happens f (Call (call.Ended port)) g = (f.ready ≡ None) × (g ≡ ended port f)
Happens f (Call (call.Closed port)) g = g ≡ ended port f
Happens f (Call call.Failed) g = (f.ready ≡ None) × (g ≡ f)
Happens f (Call call.Quiet) g = (f.ready ≡ None) × (g ≡ f)
Happens f (Gave port message) g = Gives port message f g
Happens f Settled g = Settles f g

-- one thing after another
abbrev pub Happen : Framing → List Occurrence → Framing → Type 0
Happen f [] g = g ≡ f
Happen f (h ∷ hs) g = (mid : Framing) × Happens f h mid × Happen mid hs g

-- the calls among what happened
abbrev pub calls_in : List Occurrence → List StreamCall
calls_in [] = []
calls_in (Call c ∷ hs) = c ∷ calls_in hs
calls_in (Gave port message ∷ hs) = calls_in hs
calls_in (Settled ∷ hs) = calls_in hs

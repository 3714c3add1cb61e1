-- What a link over streams has received, by what its streams tell.
use Rattle.std.specs.Prelude.{ℕ, ◌-◌, ◌≡◌, ◌==◌, ◌<◌, nat_lt, if◌then◌else◌, Bool, true, false, List, [], ◌∷◌, ◌++◌, length, map, take, slice_get, Option, Some, None}
use Rattle.std.specs.Option.{option_map}
use Rattle.vr_edge.specs.Datagrams.{Arrival, Failed, Nothing, Came}
use Rattle.vr_edge.specs.Sending.{datagram_at}
use Rattle.vr_edge.specs.Told.{IsNothing}
use Rattle.vr_edge.specs.declared.streams.StreamCall.{StreamCall}
use Rattle.vr_edge.specs.declared.streams.StreamCall.TheVariants as call
use Rattle.vr_stream.specs.Cutting.{messages, rest_of}
use Rattle.vr_stream.specs.Framing.{Framing}
use Rattle.vr_stream.specs.Lines.{fresh_line, kept}
use Rattle.vr_stream.specs.declared.line.Incoming.{Incoming}

-- what is left of the stream at each port once no message stands ready, and what all receives give until then
pub record Heard : Type 0 where
  pub left : ℕ → Incoming
  pub arrivals : List Arrival

abbrev pub came_at : ℕ → List ℕ → Arrival
came_at port message = Came (datagram_at port message)

-- bytes give the messages that they end, and nothing where they end none
abbrev pub arrivals_of : ℕ → List (List ℕ) → List Arrival
arrivals_of port [] = Nothing ∷ []
arrivals_of port (m ∷ ms) = came_at port m ∷ map (came_at port) ms

abbrev pub with_arrivals : List Arrival → Heard → Heard
with_arrivals more h = record h { arrivals = h.arrivals ++ more }

abbrev pub with_left : ℕ → Incoming → Heard → Heard
with_left at line h = record h { left = λ port. if at == port then line else h.left port }

-- bytes come at a port, with what was left there before them
abbrev pub cut_at : ℕ → List ℕ → Heard → Heard
cut_at at bytes h = with_arrivals (arrivals_of at (messages bytes)) (with_left at (record { deframer = rest_of bytes; over = false }) h)

-- the connection at a port is over
abbrev pub over_at_port : ℕ → Heard → Heard
over_at_port at h = with_left at (record { deframer = (h.left at).deframer; over = true }) h

-- after one more call of streams at so many ports
abbrev pub then_heard : ℕ → Heard → StreamCall → Heard
then_heard ports h (call.Came piece) =
    if nat_lt piece.port ports then cut_at piece.port (kept (h.left piece.port) ++ piece.bytes) h else with_arrivals (Nothing ∷ []) h
then_heard ports h (call.Ended port) = with_arrivals (Nothing ∷ []) (over_at_port port h)
then_heard ports h (call.Closed port) = over_at_port port h
then_heard ports h call.Quiet = with_arrivals (Nothing ∷ []) h
then_heard ports h call.Failed = with_arrivals (Failed ∷ []) h

abbrev pub heard_from : ℕ → Heard → List StreamCall → Heard
heard_from ports h [] = h
heard_from ports h (c ∷ cs) = heard_from ports (then_heard ports h c) cs

abbrev pub heard : ℕ → List StreamCall → Heard
heard ports cs = heard_from ports (record { left = λ port. fresh_line; arrivals = [] }) cs

-- the messages that stand ready
abbrev pub standing_at : ℕ → Option Incoming → List Arrival
standing_at port None = []
standing_at port (Some line) = map (came_at port) (messages line.deframer)

abbrev pub standing_in : List Incoming → Option ℕ → List Arrival
standing_in lines None = []
standing_in lines (Some port) = standing_at port (slice_get lines port)

abbrev pub standing : Framing → List Arrival
standing f = standing_in f.lines f.ready

-- all arrivals but those that stand ready
abbrev pub given : List Arrival → List Arrival → List Arrival
given all ready = take (length all - length ready) all

-- what all these calls come to, where they are told
abbrev pub arrivals_told : ℕ → Option (List StreamCall) → Option (List Arrival)
arrivals_told ports calls = option_map (λ cs. (heard ports cs).arrivals) calls

-- what the receives of a link have given, where its streams tell their calls up to the last poll
abbrev pub received_told : Framing → Option (List StreamCall) → Option (List Arrival)
received_told f calls = option_map (λ all. given all (standing f)) (arrivals_told (length f.lines) calls)

abbrev pub is_ready : Option ℕ → ℕ → Bool
is_ready None port = false
is_ready (Some at) port = at == port

-- what is left of a stream once what stands ready of it is given
abbrev pub settled : Bool → Incoming → Incoming
settled true line = record { deframer = rest_of line.deframer; over = line.over }
settled false line = line

-- these are all arrivals: those that were given, and after them those that stand ready
abbrev pub Fits : Framing → List Arrival → Type 0
Fits f all = given all (standing f) ++ standing f ≡ all

-- the link has what these calls left: at each port of a line, and of the arrivals
pub record Agrees (f : Framing) (h : Heard) : Type 0 where
  pub left : (port : ℕ) (line : Incoming) → slice_get f.lines port ≡ Some line → h.left port ≡ settled (is_ready f.ready port) line
  pub room : (port : ℕ) (line : Incoming) → slice_get f.lines port ≡ Some line → is_ready f.ready port ≡ false → length (kept line) < 20480
  pub fits : Fits f h.arrivals

abbrev pub AgreesTold : Framing → Option (List StreamCall) → Type 0
AgreesTold f calls = (cs : List StreamCall) → calls ≡ Some cs → Agrees f (heard (length f.lines) cs)

-- the link agrees with what its streams tell; by the calls after the last poll nothing came
pub record IsTold (f : Framing) (calls last : Option (List StreamCall)) : Type 0 where
  pub agrees : AgreesTold f calls
  pub behind : (cs : List StreamCall) → calls ≡ Some cs → arrivals_told (length f.lines) last ≡ arrivals_told (length f.lines) calls
  pub fits : (all : List Arrival) → arrivals_told (length f.lines) last ≡ Some all → Fits f all

-- nothing was asked of the streams
abbrev pub IsUnasked : Option (List StreamCall) → Option (List StreamCall) → Type 0
IsUnasked calls last = IsNothing calls × (last ≡ calls)

-- a link tells its receives where nothing was asked of its streams before
abbrev pub told_if : Bool → Framing → Option (List StreamCall) → Option (List Arrival)
told_if false f last = None
told_if true f last = received_told f last

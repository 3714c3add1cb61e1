-- What a receive of a link over streams does.
use Rattle.std.specs.Prelude.{ℕ, ◌≡◌, ◌⊎◌, List, [], ◌∷◌, Option, Some, None, Result, Ok, Err}
use Rattle.vr_edge.specs.Told.{Grows}
use Rattle.vr_edge.specs.declared.link.Received.{Received}
use Rattle.vr_edge.specs.declared.link.Received.TheVariants as received
use Rattle.vr_edge.specs.declared.streams.StreamCall.{StreamCall}
use Rattle.vr_edge.specs.declared.streams.StreamCall.TheVariants as call
use Rattle.vr_stream.specs.Framers.{HasNoPlace, IsDamaged}
use Rattle.vr_stream.specs.Framing.{Call, Framing, Gave, Happen, Occurrence, Happens, Settled, calls_in}

-- a message that stands ready is given; else nothing stands ready then, and where damage stands its connection is closed
abbrev pub GivesBy : Framing → List Occurrence → Framing → List ℕ → Option ℕ → Type 0
GivesBy f hs g to (Some port) = hs ≡ Gave port to ∷ []
GivesBy f hs g to None =
    (g.ready ≡ None) × ((hs ≡ Settled ∷ []) ⊎ ((port : ℕ) × IsDamaged port f × (hs ≡ Call (call.Closed port) ∷ Settled ∷ [])))

-- what stands ready is given, if something does: from one framing and what the streams tell to another, the bytes that are given, and their port
pub record IsGiven (f : Framing) (old : Option (List StreamCall)) (g : Framing) (new : Option (List StreamCall)) (to : List ℕ) (port : Option ℕ) : Type 0 where
  pub happened : List Occurrence
  pub happen : Happen f happened g
  pub told : Grows old new (calls_in happened)
  pub by : GivesBy f happened g to port

-- what a poll gave is taken: bytes that have no place close their port
abbrev pub HearsBy : Framing → StreamCall → Framing → List Occurrence → Framing → List ℕ → Received → Type 0
HearsBy f (call.Came piece) mid hs g to (received.Datagram port) = GivesBy mid hs g to (Some port)
HearsBy f (call.Came piece) mid hs g to received.Part =
    GivesBy mid hs g to None ⊎ (HasNoPlace piece.port f × (hs ≡ Call (call.Closed piece.port) ∷ []))
HearsBy f (call.Ended port) mid hs g to received.Part = hs ≡ []
HearsBy f call.Quiet mid hs g to received.Quiet = hs ≡ []
HearsBy f _ mid hs g to _ = ⊥

pub record IsHeard (f : Framing) (c : StreamCall) (old : Option (List StreamCall)) (g : Framing) (new : Option (List StreamCall)) (to : List ℕ) (result : Received)
    : Type 0 where
  pub mid : Framing
  pub call : Happens f (Call c) mid
  pub happened : List Occurrence
  pub happen : Happen mid happened g
  pub told : Grows old new (calls_in happened)
  pub by : HearsBy f c mid happened g to result

-- one poll, and what comes of it
abbrev pub PollsBy : {E : Type 0} → Framing → StreamCall → Option (List StreamCall) → Framing → Option (List StreamCall) → List ℕ → Result Received E → Type 0
PollsBy f c polled g new to (Ok result) = IsHeard f c polled g new to result
PollsBy f c polled g new to (Err e) = (c ≡ call.Failed) × (g ≡ f) × (new ≡ polled)

-- one poll, after what stood ready; `last` is what the streams tell right after it
pub record Polls {E : Type 0} (f : Framing) (old : Option (List StreamCall)) (g : Framing) (new last : Option (List StreamCall)) (to : List ℕ) (result : Result Received E)
    : Type 0 where
  pub mid : Framing
  pub settled : Option (List StreamCall)
  pub held : List ℕ
  pub nothing : IsGiven f old mid settled held None
  pub call : StreamCall
  pub told : Grows settled last (call ∷ [])
  pub by : PollsBy mid call last g new to result

-- a message that stands ready is given, and the streams are left alone; else there is one poll. `last` is what the streams tell up to their last poll
abbrev pub IsReceived : {E : Type 0} → Framing → Option (List StreamCall) → Option (List StreamCall) → Framing → Option (List StreamCall) → Option (List StreamCall)
    → List ℕ → Result Received E → Type 0
IsReceived f old last g new last' to result =
    ((port : ℕ) × (result ≡ Ok (received.Datagram port)) × IsGiven f old g new to (Some port) × (last' ≡ last)) ⊎ Polls f old g new last' to result

-- What a link over streams has sent.
use Rattle.std.specs.Prelude.{ℕ, ◌≡◌, ◌⊎◌, true, false, ◌==◌, if◌then◌else◌, List, [], ◌∷◌, length, map, Option, Some, None}
use Rattle.std.specs.Option.{option_map}
use Rattle.vr_edge.specs.Sending.{datagram_at}
use Rattle.vr_edge.specs.Told.{Grows}
use Rattle.vr_edge.specs.declared.streams.StreamCall.{StreamCall}
use Rattle.vr_edge.specs.declared.streams.StreamCall.TheVariants as call
use Rattle.vr_edge.specs.declared.datagram.Datagram.{Datagram}
use Rattle.vr_edge.specs.declared.streams.Write.{Write}
use Rattle.vr_stream.specs.Framing.{Framing, ended}

-- bytes went out where a stream took them whole
abbrev pub went : ℕ → List ℕ → Option ℕ → Option Datagram
went port bytes None = None
went port bytes (Some taken) = if taken == length bytes then Some (datagram_at port bytes) else None

abbrev pub sent_by_write : Write → Option Datagram
sent_by_write w = went w.port w.bytes w.taken

-- what a write leaves: a stream that took less than the whole is closed, and nothing else is touched
abbrev pub Leaves : ℕ → List ℕ → Framing → Option (List StreamCall) → Framing → Option (List StreamCall) → Option ℕ → Type 0
Leaves to bytes f old g new None = (g ≡ f) × (new ≡ old)
Leaves to bytes f old g new (Some taken) =
    (((taken == length bytes) ≡ true) × (g ≡ f) × (new ≡ old))
    ⊎ (((taken == length bytes) ≡ false) × (g ≡ ended to f) × Grows old new (call.Closed to ∷ []))

-- one write of the whole bytes to the port
pub record Sends (to : ℕ) (bytes : List ℕ) (f : Framing) (old : Option (List StreamCall)) (written : Option (List Write)) (g : Framing) (new : Option (List StreamCall))
    (written' : Option (List Write)) : Type 0 where
  pub taken : Option ℕ
  pub wrote : Grows written written' (record { port = to; bytes = bytes; taken = taken } ∷ [])
  pub leaves : Leaves to bytes f old g new taken

-- one entry for each write
abbrev pub sent_told : Option (List Write) → Option (List (Option Datagram))
sent_told written = option_map (map sent_by_write) written

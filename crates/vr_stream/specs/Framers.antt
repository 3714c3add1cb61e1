-- What the streams at all ports do.
use Rattle.std.specs.Prelude.{ℕ, ◌≡◌, ◌≤◌, ◌⊎◌, Bool, false, List, length, slice_get, Some, None}
use Rattle.vr_codec.specs.declared.fault.MsgFault.{MsgFault}
use Rattle.vr_stream.specs.Cutting.{IsBroken}
use Rattle.vr_stream.specs.Framing.{Comes, Framing, Gives, Settles}
use Rattle.vr_stream.specs.Lines.{kept}
use Rattle.vr_stream.specs.declared.framer.Framer.{Framer}
use Rattle.vr_stream.specs.declared.framer.Given.{Given}
use Rattle.vr_stream.specs.declared.framer.Given.TheVariants as given
use Rattle.vr_stream.specs.declared.line.Incoming.{Incoming}

abbrev pub framing : Framer → Framing
framing f = record { lines = f.lines.items; ready = f.ready }

-- no stream takes bytes at this port: there is none, or it has no room
abbrev pub HasNoPlace : ℕ → Framing → Type 0
HasNoPlace port f = (slice_get f.lines port ≡ None) ⊎ ((line : Incoming) × (slice_get f.lines port ≡ Some line) × (20480 ≤ length (kept line)))

-- bytes that came are taken where there is a place for them
pub record TakesAt (port : ℕ) (bytes : List ℕ) (f g : Framing) (taken : Bool) : Type 0 where
  pub comes : Comes (record { port = port; bytes = bytes }) f (slice_get f.lines port) g
  pub refused : taken ≡ false → HasNoPlace port f

-- what stands at a port is no message, and its connection isn't over
pub record IsDamaged (port : ℕ) (f : Framing) : Type 0 where
  pub ready : f.ready ≡ Some port
  pub line : Incoming
  pub stands : slice_get f.lines port ≡ Some line
  pub goes_on : line.over ≡ false
  pub fault : MsgFault
  pub broken : IsBroken line.deframer fault

-- what stood ready
abbrev pub Stands : Framing → Framing → List ℕ → Given → Type 0
Stands f g to (given.Message port) = Gives port to f g
Stands f g to given.Nothing = Settles f g
Stands f g to (given.Damage port) = IsDamaged port f × (g ≡ record f { ready = None })

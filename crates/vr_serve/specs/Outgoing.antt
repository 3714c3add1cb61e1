-- What goes out of an output.
use Rattle.std.specs.Prelude.{List, [], ◌∷◌, Option, None, Some}
use Rattle.vr_edge.specs.Sending.{datagram_at}
use Rattle.vr_edge.specs.declared.datagram.Datagram.{Datagram}
use Rattle.vr_msg.specs.Spelling.{spelling}
use Rattle.vr_serve.specs.declared.output.Outgoing.{Outgoing}

abbrev pub datagram_of : Option Outgoing → List Datagram
datagram_of None = []
datagram_of (Some out) = datagram_at out.port (spelling out.message) ∷ []

-- What outputs come to: lines of text, and datagrams.
use Rattle.std.specs.Prelude.{ℕ, List, [], ◌∷◌, ◌++◌, ◌==◌, take, find, Option, None, Some}
use Rattle.std.specs.List.{position, remove}
use Rattle.std.specs.Option.{option_map, option_map_or}
use Rattle.vr_base.specs.Causes.{one_more}
use Rattle.vr_edge.specs.Sending.{datagram_at}
use Rattle.vr_edge.specs.declared.datagram.Datagram.{Datagram}
use Rattle.vr_msg.specs.Spelling.{spelling}
use Rattle.vr_msg.specs.declared.event.Event.{Event}
use Rattle.vr_msg.specs.declared.event.Event.TheVariants.{Request, Deliver, Tick}
use Rattle.vr_msg.specs.declared.frame.Frame.TheVariants as frame
use Rattle.vr_msg.specs.declared.output.Output.{Output}
use Rattle.vr_msg.specs.declared.output.Output.TheVariants.{Send, Reply}
use Rattle.vr_msg.specs.declared.reply.ReplyFields.{ReplyFields}
use Rattle.vr_text.specs.Text.{line_text}
use Rattle.vr_serve.specs.Events.{Come}
use Rattle.vr_serve.specs.declared.clients.Client.{Client}

-- the clients without one; where it isn't among them, without the 64th
abbrev pub others : ℕ → List Client → List Client
others id clients = option_map_or (λ at. remove clients at) (position (λ c. c.id == id) clients) (take 63 clients)

-- the last 64 clients heard, the latest first, each with the port of its latest request
abbrev pub heard_with : ℕ → Event → List Client → List Client
heard_with port (Request q) clients = record { id = q.client; port = port } ∷ others q.client clients
heard_with port (Deliver m) clients = clients
heard_with port Tick clients = clients

abbrev pub heard : Come → List Client → List Client
heard come clients = heard_with come.port come.event clients

abbrev pub port_of : ℕ → List Client → Option ℕ
port_of id clients = option_map (λ c. c.port) (find (λ c. c.id == id) clients)

-- the number of the next message after an output
abbrev pub number_after : ℕ → Output → ℕ
number_after m (Send s) = one_more m
number_after m _ = m

abbrev pub numbers_after : ℕ → List Output → ℕ
numbers_after m [] = m
numbers_after m (o ∷ os) = numbers_after (number_after m o) os

-- the lines of outputs, whose messages are numbered from m on
abbrev pub text_from : ℕ → List Output → List ℕ
text_from m [] = []
text_from m (o ∷ os) = line_text m o ++ text_from (number_after m o) os

-- a reply goes to the port of its client, if it was among the last ones heard
abbrev pub reply_to : Option ℕ → ReplyFields → List Datagram
reply_to None r = []
reply_to (Some port) r = datagram_at port (spelling (frame.Reply r)) ∷ []

abbrev pub reply_for : List Client → ReplyFields → List Datagram
reply_for clients r = reply_to (port_of r.client clients) r

-- a message goes to the port of its member
abbrev pub datagram_for : List Client → Output → List Datagram
datagram_for clients (Send s) = datagram_at s.to (spelling s.message) ∷ []
datagram_for clients (Reply r) = reply_for clients r
datagram_for clients _ = []

abbrev pub datagrams_for : List Client → List Output → List Datagram
datagrams_for clients [] = []
datagrams_for clients (o ∷ os) = datagram_for clients o ++ datagrams_for clients os

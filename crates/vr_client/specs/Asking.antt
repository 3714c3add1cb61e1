-- The run of a client's ask: to which ports the request goes, and when it ends.
use Rattle.std.specs.Prelude.{ℕ, ◌+◌, ◌%◌, ◌==◌, ◌&&◌, ◌≡◌, ◌≤◌, ◌<◌, ⊤, nat_lt, Bool, if◌then◌else◌, List, [], ◌∷◌, ◌++◌, length, map, Option, Some, None, Result, Ok, Err}
use Rattle.vr_base.specs.Causes.{one_more}
use Rattle.vr_base.specs.declared.sum.Sum.{Sum}
use Rattle.vr_edge.specs.Datagrams.{Arrival, Failed}
use Rattle.vr_edge.specs.Sending.{datagram_at}
use Rattle.vr_edge.specs.Told.{Grows}
use Rattle.vr_edge.specs.declared.datagram.Datagram.{Datagram}
use Rattle.vr_header.specs.Names.{header_name, request_header}
use Rattle.vr_header.specs.declared.operation.Operation.{Operation}
use Rattle.vr_mail.specs.Letters.{AreBrought, Brings, IsMessage}
use Rattle.vr_mail.specs.Sends.{Sends}
use Rattle.vr_mail.specs.declared.receiving.Letter.{Letter}
use Rattle.vr_msg.specs.Spelling.{spelling}
use Rattle.vr_msg.specs.declared.frame.Frame.TheVariants as frame
use Rattle.vr_msg.specs.declared.request.RequestFields.{RequestFields}
use Rattle.vr_client.specs.Heeding.{heed}
use Rattle.vr_client.specs.declared.answer.Answer.{Answer}
use Rattle.vr_client.specs.declared.answer.AskFault.{AskFault}
use Rattle.vr_client.specs.declared.answer.AskFault.TheVariants as fault
use Rattle.vr_client.specs.declared.asking.TheConstants.{PATIENCE}
use Rattle.vr_client.specs.declared.answer.Heed.{Heed}
use Rattle.vr_client.specs.declared.answer.Heed.TheVariants.{Ignored, Moved, Answered}
use Rattle.vr_client.specs.declared.client.ClientCore.{ClientCore}

-- one ask: of a version, in a group of n, the name and the bytes of the request, and so many turns
pub record Ask : Type 0 where
  pub version : ℕ
  pub cluster : ℕ
  pub n : ℕ
  pub name : Sum
  pub bytes : List ℕ
  pub turns : ℕ

-- the ask of a request
abbrev pub ask_of : ℕ → RequestFields → ℕ → Ask
ask_of n q turns = record {
  version = q.version;
  cluster = q.cluster;
  n = n;
  name = header_name (request_header q.version q.cluster q.client q.request q.operation);
  bytes = spelling (frame.Request q);
  turns = turns;
}

-- the next request of a client
abbrev pub request_in : ClientCore → Operation → RequestFields
request_in c operation = record { version = c.version; cluster = c.cluster; client = c.id; request = c.number; operation = operation }

-- the ask of the request that a client has made
abbrev pub ask_in : ClientCore → Sum → ℕ → Ask
ask_in c name turns = record { version = c.version; cluster = c.cluster; n = c.n; name = name; bytes = c.bytes.items; turns = turns }

-- all but the port, and the room for what comes, is as it was
pub record Keeps (old new : ClientCore) : Type 0 where
  pub version : new.version ≡ old.version
  pub cluster : new.cluster ≡ old.cluster
  pub id : new.id ≡ old.id
  pub n : new.n ≡ old.n
  pub number : new.number ≡ old.number
  pub bytes : new.bytes.items ≡ old.bytes.items

-- what is heeded moves the client to another port, or leaves it where it is
abbrev pub moved : Heed → ℕ → ℕ
moved Ignored port = port
moved (Moved to) port = to
moved (Answered a) port = port

-- and there it asks at once
abbrev pub moved_to : Heed → List ℕ
moved_to Ignored = []
moved_to (Moved to) = to ∷ []
moved_to (Answered a) = []

-- after each `PATIENCE` turns, if turns are left, it goes on to the next port
abbrev pub is_due : ℕ → ℕ → Bool
is_due turns done = ((done + 1) % PATIENCE == 0) && nat_lt (done + 1) turns

abbrev pub go_on_port : ℕ → ℕ → ℕ → ℕ → ℕ
go_on_port n turns done port = if is_due turns done then (port + 1) % n else port

abbrev pub go_on_to : ℕ → ℕ → ℕ → ℕ → List ℕ
go_on_to n turns done port = if is_due turns done then (port + 1) % n ∷ [] else []

-- the port after a turn without an answer, after so many turns
abbrev pub port_after : Ask → ℕ → ℕ → Option Letter → ℕ
port_after a done port letter = go_on_port a.n a.turns done (moved (heed a.n a.name letter) port)

-- the ports to which the request goes in it
abbrev pub ports_in : Ask → ℕ → ℕ → Option Letter → List ℕ
ports_in a done port letter =
    moved_to (heed a.n a.name letter) ++ go_on_to a.n a.turns done (moved (heed a.n a.name letter) port)

-- the same of turns one after another
abbrev pub port_at : Ask → ℕ → ℕ → List (Option Letter) → ℕ
port_at a done port [] = port
port_at a done port (l ∷ ls) = port_at a (done + 1) (port_after a done port l) ls

abbrev pub ports_of : Ask → ℕ → ℕ → List (Option Letter) → List ℕ
ports_of a done port [] = []
ports_of a done port (l ∷ ls) = ports_in a done port l ++ ports_of a (done + 1) (port_after a done port l) ls

-- it is no answer
abbrev pub IsSilent : Heed → Type 0
IsSilent Ignored = ⊤
IsSilent (Moved to) = ⊤
IsSilent (Answered a) = ⊥

abbrev pub AreSilent : Ask → List (Option Letter) → Type 0
AreSilent a [] = ⊤
AreSilent a (l ∷ ls) = IsSilent (heed a.n a.name l) × AreSilent a ls

-- the bytes of a request, to these ports
abbrev pub requests : List ℕ → List ℕ → List Datagram
requests bytes ports = map (λ port. datagram_at port bytes) ports

-- a receive that failed, or for whose message, of this version and group, memory was short
abbrev pub FailsAt : ℕ → ℕ → Arrival → AskFault → Type 0
FailsAt version cluster arrival fault.NoAnswer = ⊥
FailsAt version cluster arrival fault.Link = arrival ≡ Failed
FailsAt version cluster arrival fault.NoMemory = IsMessage version cluster arrival

abbrev pub Fails : ℕ → ℕ → Option (List Arrival) → Option (List Arrival) → AskFault → Type 0
Fails version cluster got got' f = (arrival : Arrival) × Grows got got' (arrival ∷ []) × FailsAt version cluster arrival f

-- one receive, and what is heeded of it
abbrev pub Hears : ℕ → ℕ → ℕ → Sum → Option (List Arrival) → Option (List Arrival) → Heed → Type 0
Hears version cluster n name got got' heard =
    (arrival : Arrival) × (letter : Option Letter) × Grows got got' (arrival ∷ []) × Brings version cluster arrival letter
    × (heard ≡ heed n name letter)

-- a turn, after so many others: it may bring the answer
abbrev pub TurnedBy : Ask → ℕ → ℕ → ℕ → Option (List (Option Datagram)) → Option (List (Option Datagram)) → Option Letter → Option Answer → Type 0
TurnedBy a done port port' sent sent' letter None =
    IsSilent (heed a.n a.name letter) × (port' ≡ port_after a done port letter)
    × Sends (requests a.bytes (ports_in a done port letter)) sent sent'
TurnedBy a done port port' sent sent' letter (Some answer) =
    (heed a.n a.name letter ≡ Answered answer) × (port' ≡ port) × Sends [] sent sent'

abbrev pub Turned : Ask → ℕ → ℕ → ℕ → Option (List (Option Datagram)) → Option (List (Option Datagram)) → Option (List Arrival)
    → Option (List Arrival) → Option Answer → Type 0
Turned a done port port' sent sent' got got' answer =
    (arrival : Arrival) × (letter : Option Letter) × Grows got got' (arrival ∷ []) × Brings a.version a.cluster arrival letter
    × TurnedBy a done port port' sent sent' letter answer

-- How an ask ends after turns without an answer, and what it receives last: the answer comes; all turns have passed; or a
-- receive failed.
abbrev pub EndsBy : Ask → List (Option Letter) → List Arrival → Result Answer AskFault → Type 0
EndsBy a ls last (Ok answer) =
    (arrival : Arrival) × (letter : Option Letter) × (last ≡ arrival ∷ []) × Brings a.version a.cluster arrival letter
    × (heed a.n a.name letter ≡ Answered answer) × (length ls < a.turns)
EndsBy a ls last (Err fault.NoAnswer) = (last ≡ []) × (length ls ≡ a.turns)
EndsBy a ls last (Err fault.Link) = (last ≡ Failed ∷ []) × (length ls < a.turns)
EndsBy a ls last (Err fault.NoMemory) = (arrival : Arrival) × (last ≡ arrival ∷ []) × IsMessage a.version a.cluster arrival × (length ls < a.turns)

-- the run of an ask at a link that may tell: the port at which the client is before and after, and what the link tells. The
-- request goes to the first port, and then as each turn without an answer says.
pub record IsAsked (a : Ask) (port port' : ℕ) (sent sent' : Option (List (Option Datagram))) (got got' : Option (List Arrival))
    (result : Result Answer AskFault) : Type 0 where
  pub arrivals : List Arrival
  pub letters : List (Option Letter)
  pub last : List Arrival
  pub brought : AreBrought a.version a.cluster arrivals letters
  pub silent : AreSilent a letters
  pub ends : EndsBy a letters last result
  pub received : Grows got got' (arrivals ++ last)
  pub at : port' ≡ port_at a 0 port letters
  pub asked : Sends (requests a.bytes (port ∷ ports_of a 0 port letters)) sent sent'

-- memory was short for the request itself: nothing was asked
pub record IsUnasked (port port' : ℕ) (sent sent' : Option (List (Option Datagram))) (got got' : Option (List Arrival))
    (result : Result Answer AskFault) : Type 0 where
  pub memory : result ≡ Err fault.NoMemory
  pub at : port' ≡ port
  pub unsent : sent' ≡ sent
  pub unheard : got' ≡ got

-- the count of the link's faults after an ask: one more where a receive failed
abbrev pub faults_after : {T : Type 0} → Result T AskFault → ℕ → ℕ
faults_after (Err fault.Link) count = one_more count
faults_after _ count = count

-- a receive that failed is told: no other answer leaves one in the link's count, which doesn't fall
pub record AskCause {T : Type 0} (before now : ℕ) (result : Result T AskFault) : Type 0 where
  pub later : before ≤ now
  pub counted : now ≡ faults_after result before

-- One ask of a client, and what it writes of the answer.
use Rattle.std.specs.Prelude.{ℕ, ◌≡◌, ◌⊎◌, ⊤, List, Option, Result, Ok, Err}
use Rattle.std.specs.Io.KnownBytes.{Appends}
use Rattle.cmd_client.specs.Text.{answer_text}
use Rattle.vr_base.specs.Causes.{Rose}
use Rattle.vr_client.specs.Asking.{IsAsked, ask_of}
use Rattle.vr_client.specs.declared.answer.Answer.{Answer}
use Rattle.vr_client.specs.declared.answer.Answer.TheVariants as answer
use Rattle.vr_client.specs.declared.answer.AskFault.{AskFault}
use Rattle.vr_client.specs.declared.answer.AskFault.TheVariants as fault
use Rattle.vr_client.specs.declared.client.ClientCore.{ClientCore}
use Rattle.vr_edge.specs.Datagrams.{Arrival}
use Rattle.vr_edge.specs.Told.{AppendsFront}
use Rattle.vr_edge.specs.declared.datagram.Datagram.{Datagram}
use Rattle.vr_header.specs.declared.operation.Operation.{Operation}
use Rattle.vr_msg.specs.declared.reply.Answered.{Answered}
use Rattle.vr_msg.specs.declared.request.RequestFields.{RequestFields}
use Rattle.vr_base.specs.Counts.{links_after, writes_after}
use Rattle.vr_base.specs.declared.status.Status.{Status}
use Rattle.vr_base.specs.declared.status.Status.TheVariants.{SessionLost, WriteFault, LinkFault, NoMemory, NoAnswer}

-- a client: the version of its frames, its group and its number, the size of the group, and the turns of each ask
pub record Client : Type 0 where
  pub version : ℕ
  pub cluster : ℕ
  pub id : ℕ
  pub n : ℕ
  pub turns : ℕ

abbrev pub client_of : ClientCore → ℕ → Client
client_of core turns = record { version = core.version; cluster = core.cluster; id = core.id; n = core.n; turns = turns }

-- where it stands: the port that it asks, and what link and sink tell
pub record Stand : Type 0 where
  pub port : ℕ
  pub sent : Option (List (Option Datagram))
  pub got : Option (List Arrival)
  pub taken : Option (List ℕ)

abbrev pub stand : ClientCore → Option (List (Option Datagram)) → Option (List Arrival) → Option (List ℕ) → Stand
stand core sent got taken = record { port = core.port; sent = sent; got = got; taken = taken }

abbrev pub request_of : Client → ℕ → Operation → RequestFields
request_of c number operation = record { version = c.version; cluster = c.cluster; client = c.id; request = number; operation = operation }

-- the operation was asked with this number, and this was its answer
abbrev pub Answers : Client → ℕ → Operation → Stand → Stand → Answer → Type 0
Answers c number operation s s' a =
    IsAsked (ask_of c.n (request_of c number operation) c.turns) s.port s'.port s.sent s'.sent s.got s'.got (Ok a)

-- its answer was written, too
pub record IsAnswered (c : Client) (number : ℕ) (operation : Operation) (s s' : Stand) (a : Answer) : Type 0 where
  pub asked : Answers c number operation s s' a
  pub written : Appends s.taken s'.taken (answer_text a)

-- of its answer a front was written
pub record IsCutOff (c : Client) (number : ℕ) (operation : Operation) (s s' : Stand) : Type 0 where
  pub answer : Answer
  pub asked : Answers c number operation s s' answer
  pub front : AppendsFront s.taken s'.taken (answer_text answer)

-- it has no answer, and nothing was written
pub record HasNone (c : Client) (number : ℕ) (operation : Operation) (s s' : Stand) (f : AskFault) : Type 0 where
  pub asked : IsAsked (ask_of c.n (request_of c number operation) c.turns) s.port s'.port s.sent s'.sent s.got s'.got (Err f)
  pub unwritten : s'.taken ≡ s.taken

-- memory was short for the request itself: nothing was asked or written
pub record IsUntried (s s' : Stand) : Type 0 where
  pub port : s'.port ≡ s.port
  pub sent : s'.sent ≡ s.sent
  pub got : s'.got ≡ s.got
  pub taken : s'.taken ≡ s.taken

-- the group knows the session no more
abbrev pub IsLost : Answer → Type 0
IsLost (answer.Outcome a) = ⊥
IsLost answer.Old = ⊤
IsLost answer.Gap = ⊤
IsLost answer.Evicted = ⊤

-- counts of faults of the link and the sink
pub record Faults : Type 0 where
  pub link : ℕ
  pub write : ℕ

abbrev pub faults : ℕ → ℕ → Faults
faults link write = record { link = link; write = write }

-- the count of the sink's faults after a part of a run, which goes on or ends there
abbrev pub CountsWrites : {T : Type 0} → ℕ → ℕ → Result T Status → Type 0
CountsWrites before now (Ok x) = now ≡ before
CountsWrites before now (Err status) = now ≡ writes_after status before

-- that of the link's
abbrev pub CountsLinks : {T : Type 0} → ℕ → ℕ → Result T Status → Type 0
CountsLinks before now (Ok x) = now ≡ before
CountsLinks before now (Err status) = now ≡ links_after status before

-- how a client ends with an ask
abbrev pub EndsWith : Client → ℕ → Operation → Stand → Stand → Faults → Faults → Status → Type 0
EndsWith c number operation s s' before now NoAnswer = HasNone c number operation s s' fault.NoAnswer
EndsWith c number operation s s' before now LinkFault = Rose before.link now.link × HasNone c number operation s s' fault.Link
EndsWith c number operation s s' before now WriteFault = Rose before.write now.write × IsCutOff c number operation s s'
EndsWith c number operation s s' before now SessionLost = (a : Answer) × IsLost a × IsAnswered c number operation s s' a
EndsWith c number operation s s' before now NoMemory =
    (HasNone c number operation s s' fault.NoMemory ⊎ IsUntried s s') ⊎ IsCutOff c number operation s s'
EndsWith c number operation s s' before now _ = ⊥

-- the status of an ask without an answer
abbrev pub status_of : AskFault → Status
status_of fault.NoAnswer = NoAnswer
status_of fault.Link = LinkFault
status_of fault.NoMemory = NoMemory

-- What became of an answer that came: it was written whole, and the session is kept or lost; or a front of it was written.
abbrev pub PutsAnswer : Answer → Option (List ℕ) → Option (List ℕ) → ℕ → ℕ → Result (Unit {0}) Status → Type 0
PutsAnswer a t t' before now (Ok x) = ((kept : Answered) × (a ≡ answer.Outcome kept)) × Appends t t' (answer_text a)
PutsAnswer a t t' before now (Err SessionLost) = IsLost a × Appends t t' (answer_text a)
PutsAnswer a t t' before now (Err WriteFault) = Rose before now × AppendsFront t t' (answer_text a)
PutsAnswer a t t' before now (Err NoMemory) = AppendsFront t t' (answer_text a)
PutsAnswer a t t' before now (Err _) = ⊥

-- the line of an answer was written, or a front of it
abbrev pub WritesAnswer : Answer → Option (List ℕ) → Option (List ℕ) → ℕ → ℕ → Result (Unit {0}) Status → Type 0
WritesAnswer a t t' before now (Ok x) = Appends t t' (answer_text a)
WritesAnswer a t t' before now (Err WriteFault) = Rose before now × AppendsFront t t' (answer_text a)
WritesAnswer a t t' before now (Err NoMemory) = AppendsFront t t' (answer_text a)
WritesAnswer a t t' before now (Err _) = ⊥

-- whether the group still knows the session
abbrev pub KeepsSession : Answer → Result (Unit {0}) Status → Type 0
KeepsSession a (Ok x) = (kept : Answered) × (a ≡ answer.Outcome kept)
KeepsSession a (Err status) = (status ≡ SessionLost) × IsLost a

-- an exchange: its answer was an outcome and was written, or the client ends
abbrev pub Exchanges : Client → ℕ → Operation → Stand → Stand → Faults → Faults → Result (Unit {0}) Status → Type 0
Exchanges c number operation s s' before now (Ok x) = (a : Answered) × IsAnswered c number operation s s' (answer.Outcome a)
Exchanges c number operation s s' before now (Err status) = EndsWith c number operation s s' before now status

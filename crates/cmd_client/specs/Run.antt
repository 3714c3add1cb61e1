-- The run of a client over the lines of a source.
use Rattle.std.specs.Prelude.{ℕ, ◌≡◌, ◌≤◌, ◌<◌, ◌⊎◌, ◌+◌, ⊤, Bool, true, false, List, [], ◌∷◌, length, Option, Some, None, Result, Ok, Err}
use Rattle.cmd_client.specs.Asking.{Client, EndsWith, Faults, IsAnswered, Stand}
use Rattle.cmd_client.specs.Text.{longest, operation_of}
use Rattle.vr_base.specs.Causes.{Rose}
use Rattle.vr_client.specs.declared.answer.Answer.TheVariants as answer
use Rattle.vr_edge.specs.Attaching.{attach_of}
use Rattle.vr_edge.specs.Datagrams.{Arrival}
use Rattle.vr_edge.specs.Told.{Grows}
use Rattle.vr_edge.specs.declared.attach.Attach.{Attach}
use Rattle.vr_edge.specs.declared.datagram.Datagram.{Datagram}
use Rattle.vr_header.specs.declared.operation.Operation.{Operation}
use Rattle.vr_header.specs.declared.operation.Operation.TheVariants.{Register}
use Rattle.vr_msg.specs.declared.reply.Answered.{Answered}
use Rattle.vr_lines.specs.Coming.{Breaks, EndComes, LineComes, TooLongComes}
use Rattle.vr_lines.specs.Held.{Held}
use Rattle.vr_base.specs.Counts.{reads_after}
use Rattle.vr_base.specs.declared.status.Status.{Status}
use Rattle.vr_base.specs.declared.status.Status.TheVariants.{Done, Refused, ReadFault, LinkFault, NoMemory}

-- what a source has: bytes that were read and not handed out, and what is left after them
pub record Reading : Type 0 where
  pub rest : List ℕ
  pub left : Option (List ℕ)

abbrev pub reading : Held → Option (List ℕ) → Reading
reading lines left = record { rest = lines.bytes; left = left }

-- a line that isn't too long for this version was read
abbrev pub ReadsLine : ℕ → Reading → Reading → List ℕ → Type 0
ReadsLine version r r' line = LineComes (longest version) r.rest r.left r'.rest r'.left line

-- a line of the source, its operation, and its outcome
pub record Exchange : Type 0 where
  pub line : List ℕ
  pub operation : Operation
  pub answered : Answered

-- it was read, asked with this number, answered, and the answer was written
pub record IsExchanged (c : Client) (number : ℕ) (r : Reading) (s : Stand) (x : Exchange) (r' : Reading) (s' : Stand) : Type 0 where
  pub read : ReadsLine c.version r r' x.line
  pub meant : operation_of c.version x.line ≡ Some x.operation
  pub answered : IsAnswered c number x.operation s s' (answer.Outcome x.answered)

-- these one after the other, with numbers from this one on
abbrev pub AreExchanged : Client → ℕ → Reading → Stand → List Exchange → Reading → Stand → Type 0
AreExchanged c number r s [] r' s' = (r' ≡ r) × (s' ≡ s)
AreExchanged c number r s (x ∷ xs) r' s' =
    (r'' : Reading) × (s'' : Stand) × IsExchanged c number r s x r'' s'' × AreExchanged c (number + 1) r'' s'' xs r' s'

-- the most lines of a source
abbrev pub limit : ℕ
limit = 1000000

-- the line with this number is none of a client's of this version, or one too many
abbrev pub IsNone : ℕ → ℕ → Reading → Reading → Type 0
IsNone version number r r' =
    TooLongComes (longest version) r.rest r.left r'.rest r'.left
    ⊎ ((line : List ℕ) × ReadsLine version r r' line × ((operation_of version line ≡ None) ⊎ (limit < number)))

-- how it ends at the line with this number, which it doesn't ask; before and now count the failed reads
abbrev pub StopsAt : ℕ → ℕ → Reading → Reading → Status → Type 0
StopsAt version number r r' Done = EndComes r.rest r.left r'.rest r'.left
StopsAt version number r r' (Refused k) = (k ≡ number) × IsNone version number r r'
StopsAt version number r r' ReadFault = Breaks r.rest r.left r'.rest r'.left
StopsAt version number r r' NoMemory = (line : List ℕ) × ReadsLine version r r' line
StopsAt version number r r' _ = ⊥

-- how it ends while it asks the line with this number
pub record EndsAt (c : Client) (number : ℕ) (r : Reading) (s : Stand) (r' : Reading) (s' : Stand) (before now : Faults) (status : Status) : Type 0 where
  pub line : List ℕ
  pub operation : Operation
  pub read : ReadsLine c.version r r' line
  pub meant : operation_of c.version line ≡ Some operation
  pub ends : EndsWith c number operation s s' before now status

-- the lines of a source, to an end
pub record EndsLines (c : Client) (r : Reading) (s : Stand) (r' : Reading) (s' : Stand) (before now : Faults) (status : Status) : Type 0 where
  pub exchanges : List Exchange
  pub few : length exchanges ≤ limit
  pub reads : Reading
  pub stands : Stand
  pub done : AreExchanged c 1 r s exchanges reads stands
  pub ends : ((s' ≡ stands) × StopsAt c.version (length exchanges + 1) reads r' status) ⊎ EndsAt c (length exchanges + 1) reads stands r' s' before now status

-- it registers, and then asks the lines of its source
abbrev pub EndsRun : Client → Reading → Stand → Reading → Stand → Faults → Faults → Status → Type 0
EndsRun c r s r' s' before now status =
    ((r' ≡ r) × EndsWith c 0 Register s s' before now status)
    ⊎ ((a : Answered) × (s'' : Stand) × IsAnswered c 0 Register s s'' (answer.Outcome a) × EndsLines c r s'' r' s' before now status)

-- what is outside of a client: what link, sink and source tell
pub record Outside : Type 0 where
  pub sent : Option (List (Option Datagram))
  pub got : Option (List Arrival)
  pub taken : Option (List ℕ)
  pub left : Option (List ℕ)
  pub attached : Option (List Attach)

abbrev pub outside : Option (List (Option Datagram)) → Option (List Arrival) → Option (List ℕ) → Option (List ℕ) → Option (List Attach) → Outside
outside sent got taken left attached = record { sent = sent; got = got; taken = taken; left = left; attached = attached }

abbrev pub standing : ℕ → Outside → Stand
standing port o = record { port = port; sent = o.sent; got = o.got; taken = o.taken }

abbrev pub reading_of : List ℕ → Outside → Reading
reading_of rest o = record { rest = rest; left = o.left }

-- the link was attached, once: without an own address, and with those of all members as its peers
abbrev pub TakesLink : List (List ℕ) → Bool → Outside → Outside → Type 0
TakesLink peers is_done o o' = Grows o.attached o'.attached (attach_of [] peers is_done ∷ [])

-- it couldn't be attached
pub record Unlinked (peers : List (List ℕ)) (o o' : Outside) (before now : Faults) (status : Status) : Type 0 where
  pub is : status ≡ LinkFault
  pub rose : Rose before.link now.link
  pub attached : TakesLink peers false o o'
  pub same : o' ≡ record o { attached = o'.attached }

-- memory was short for the client itself: nothing was asked
pub record Unmade (o o' : Outside) (before now : Faults) (status : Status) : Type 0 where
  pub is : status ≡ NoMemory
  pub spared : now.link ≡ before.link
  pub same : o' ≡ record o { attached = o'.attached }

-- its run, from its first ask at port 0, with nothing read
pub record Ran (c : Client) (o o' : Outside) (before now : Faults) (status : Status) : Type 0 where
  pub rest : List ℕ
  pub port : ℕ
  pub ends : EndsRun c (reading_of [] o) (standing 0 o) (reading_of rest o') (standing port o') before now status

-- how a client ends whose link is attached
abbrev pub EndsAttached : Client → Outside → Outside → Faults → Faults → Status → Type 0
EndsAttached c o o' before now status = Unmade o o' before now status ⊎ Ran c o o' before now status

-- how a client ends of a group with these addresses: first its link, then its asks
abbrev pub ClientEnds : Client → List (List ℕ) → Outside → Outside → Faults → Faults → Status → Type 0
ClientEnds c peers o o' before now status =
    Unlinked peers o o' before now status ⊎ (TakesLink peers true o o' × EndsAttached c o o' before now status)

abbrev pub client_with : ℕ → ℕ → ℕ → ℕ → ℕ → Client
client_with version cluster id n turns = record { version = version; cluster = cluster; id = id; n = n; turns = turns }

-- what a read line that isn't asked makes of the run
abbrev pub Judges : ℕ → ℕ → List ℕ → Result Operation Status → Type 0
Judges version number line (Ok operation) = (operation_of version line ≡ Some operation) × (number ≤ limit)
Judges version number line (Err (Refused k)) = (k ≡ number) × ((operation_of version line ≡ None) ⊎ (limit < number))
Judges version number line (Err NoMemory) = ⊤
Judges version number line (Err _) = ⊥

-- the line with this number was read, or the run ends there
abbrev pub Hears : ℕ → ℕ → Reading → Reading → Result Operation Status → Type 0
Hears version number r r' (Ok operation) = ((line : List ℕ) × ReadsLine version r r' line × (operation_of version line ≡ Some operation)) × (number ≤ limit)
Hears version number r r' (Err status) = StopsAt version number r r' status

-- the count of the source's faults after a line
abbrev pub CountsLine : {T : Type 0} → ℕ → ℕ → Result T Status → Type 0
CountsLine before now (Ok x) = now ≡ before
CountsLine before now (Err status) = now ≡ reads_after status before

-- the line with this number was read, asked and answered, or the run ends there
abbrev pub Takes : Client → ℕ → Reading → Stand → Reading → Stand → Faults → Faults → Result (Unit {0}) Status → Type 0
Takes c number r s r' s' before now (Ok x) = ((x : Exchange) × IsExchanged c number r s x r' s') × (number ≤ limit)
Takes c number r s r' s' before now (Err status) = ((s' ≡ s) × StopsAt c.version number r r' status) ⊎ EndsAt c number r s r' s' before now status

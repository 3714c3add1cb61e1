-- What the functions of a run leave: of the client, its lines, source, link and sink.
use Rattle.std.specs.Prelude.{ℕ, ◌+◌, ◌≡◌, ◌≤◌, List, OnOk, Result}
use Rattle.cmd_client.specs.Asking.{Client, CountsLinks, CountsWrites, Exchanges, Faults, PutsAnswer, Stand, WritesAnswer, client_of, faults, stand}
use Rattle.cmd_client.specs.Run.{ClientEnds, CountsLine, EndsAttached, EndsLines, EndsRun, Hears, Outside, Reading, Takes, outside, reading}
use Rattle.vr_client.specs.declared.answer.Answer.{Answer}
use Rattle.vr_client.specs.declared.client.ClientCore.{ClientCore}
use Rattle.vr_edge.specs.Failing.{LinkFailure}
use Rattle.vr_edge.specs.declared.link.Link as of_link
use Rattle.vr_edge.specs.declared.sink.Sink as of_sink
use Rattle.vr_edge.specs.declared.source.Source as of_source
use Rattle.vr_header.specs.declared.operation.Operation.{Operation}
use Rattle.vr_lines.specs.Held.{Held}
use Rattle.vr_base.specs.Counts.{links_after, reads_after, writes_after}
use Rattle.vr_base.specs.declared.status.Status.{Status}
use Rattle.vr_base.specs.declared.status.Status.TheVariants.{LinkFault}

-- ---- what the objects tell

-- where the client stands
abbrev pub stands : {K L : Type 0} → of_sink.Ghosts K → of_link.Ghosts L → ClientCore → L → K → Stand
stands k l c link sink = stand c (l.sent link) (l.received link) (k.taken sink)

-- what is left to be read
abbrev pub reads : {S : Type 0} → of_source.Ghosts S → Held → S → Reading
reads s lines source = reading lines (s.left source)

-- the counts of the faults of link and sink
abbrev pub fault_counts : {K L : Type 0} → of_sink.Ghosts K → of_link.Ghosts L → L → K → Faults
fault_counts k l link sink = faults (l.faults link) (k.faults sink)

-- what is outside of a client
abbrev pub tells : {S K L : Type 0} → of_source.Ghosts S → of_sink.Ghosts K → of_link.Ghosts L → S → L → K → Outside
tells s k l source link sink = outside (l.sent link) (l.received link) (k.taken sink) (s.left source) (l.attached link)

-- ---- one answer

-- The sink took the line of an answer, or a front of it.
pub record WritesLine {K : Type 0} (k : of_sink.Ghosts K) (answer : Answer) (to to' : K) (result : Result (Unit {0}) Status) : Type 0 where
  pub written : WritesAnswer answer (k.taken to) (k.taken to') (k.faults to) (k.faults to') result
  pub counts : CountsWrites (k.faults to) (k.faults to') result

-- It did so, and its session is kept or lost.
pub record PutsLine {K : Type 0} (k : of_sink.Ghosts K) (answer : Answer) (to to' : K) (result : Result (Unit {0}) Status) : Type 0 where
  pub put : PutsAnswer answer (k.taken to) (k.taken to') (k.faults to) (k.faults to') result
  pub counts : CountsWrites (k.faults to) (k.faults to') result

-- The operation was asked for with the client's next number, and its answer written; or the client ends.
pub record Exchanged {K L : Type 0} (k : of_sink.Ghosts K) (l : of_link.Ghosts L) (operation : Operation) (turns : ℕ) (c c' : ClientCore)
    (via via' : L) (to to' : K) (result : Result (Unit {0}) Status) : Type 0 where
  pub exchanged : Exchanges (client_of c turns) c.number operation (stands k l c via to) (stands k l c' via' to')
      (fault_counts k l via to) (fault_counts k l via' to') result
  pub number : c'.number ≡ c.number + 1
  pub client : client_of c' turns ≡ client_of c turns
  pub link : l.faults via ≤ l.faults via'
  pub links : CountsLinks (l.faults via) (l.faults via') result
  pub sink : CountsWrites (k.faults to) (k.faults to') result
  pub attached : l.attached via' ≡ l.attached via

-- ---- the lines of a source

-- The line with this number was read, or the client ends there.
pub record HearsLine {S : Type 0} (s : of_source.Ghosts S) (version number : ℕ) (lines lines' : Held) (from from' : S)
    (result : Result Operation Status) : Type 0 where
  pub heard : Hears version number (reads s lines from) (reads s lines' from') result
  pub counts : CountsLine (s.faults from) (s.faults from') result

-- It was read, asked and answered, or the client ends there.
pub record TakesLine {S K L : Type 0} (s : of_source.Ghosts S) (k : of_sink.Ghosts K) (l : of_link.Ghosts L) (n turns : ℕ) (c c' : ClientCore)
    (lines lines' : Held) (from from' : S) (via via' : L) (to to' : K) (result : Result (Unit {0}) Status) : Type 0 where
  pub taken : Takes (client_of c turns) n (reads s lines from) (stands k l c via to) (reads s lines' from') (stands k l c' via' to')
      (fault_counts k l via to) (fault_counts k l via' to') result
  pub number : OnOk result (c'.number ≡ n + 1)
  pub client : OnOk result (client_of c' turns ≡ client_of c turns)
  pub counts : CountsLine (s.faults from) (s.faults from') result
  pub link : l.faults via ≤ l.faults via'
  pub links : CountsLinks (l.faults via) (l.faults via') result
  pub sink : CountsWrites (k.faults to) (k.faults to') result
  pub attached : l.attached via' ≡ l.attached via

-- ---- the run

-- The count of each object is that which the end leaves of it, and the link is attached as it was.
pub record CountsEnd {S K L : Type 0} (s : of_source.Ghosts S) (k : of_sink.Ghosts K) (l : of_link.Ghosts L) (from from' : S) (via via' : L)
    (to to' : K) (status : Status) : Type 0 where
  pub counts : s.faults from' ≡ reads_after status (s.faults from)
  pub link : l.faults via ≤ l.faults via'
  pub links : l.faults via' ≡ links_after status (l.faults via)
  pub sink : k.faults to' ≡ writes_after status (k.faults to)
  pub attached : l.attached via' ≡ l.attached via

-- A client that has registered asked the lines of its source, to this end.
pub record AsksLines {S K L : Type 0} (s : of_source.Ghosts S) (k : of_sink.Ghosts K) (l : of_link.Ghosts L) (turns : ℕ) (c c' : ClientCore)
    (lines lines' : Held) (from from' : S) (via via' : L) (to to' : K) (status : Status) : Type 0 where
  pub ends : EndsLines (client_of c turns) (reads s lines from) (stands k l c via to) (reads s lines' from') (stands k l c' via' to')
      (fault_counts k l via to) (fault_counts k l via' to') status
  pub counted : CountsEnd s k l from from' via via' to to' status

-- It registered first.
pub record AsksAll {S K L : Type 0} (s : of_source.Ghosts S) (k : of_sink.Ghosts K) (l : of_link.Ghosts L) (turns : ℕ) (c c' : ClientCore)
    (lines lines' : Held) (from from' : S) (via via' : L) (to to' : K) (status : Status) : Type 0 where
  pub ends : EndsRun (client_of c turns) (reads s lines from) (stands k l c via to) (reads s lines' from') (stands k l c' via' to')
      (fault_counts k l via to) (fault_counts k l via' to') status
  pub counted : CountsEnd s k l from from' via via' to to' status

-- The client was made over an attached link and asked all, or it wasn't made.
pub record AsksMade {S K L : Type 0} (s : of_source.Ghosts S) (k : of_sink.Ghosts K) (l : of_link.Ghosts L) (client : Client) (from from' : S)
    (via via' : L) (to to' : K) (status : Status) : Type 0 where
  pub ends : EndsAttached client (tells s k l from via to) (tells s k l from' via' to') (fault_counts k l via to) (fault_counts k l via' to') status
  pub counted : CountsEnd s k l from from' via via' to to' status

-- The whole run of a client of a group with these addresses. A fault has its cause in the object that was handed in, and a call of the link, a read or a
-- write that failed is told: no other answer leaves one.
pub record Runs {S K L : Type 0} (s : of_source.Ghosts S) (k : of_sink.Ghosts K) (l : of_link.Ghosts L) (client : Client) (peers : List (List ℕ))
    (from from' : S) (to to' : K) (via via' : L) (status : Status) : Type 0 where
  pub ends : ClientEnds client peers (tells s k l from via to) (tells s k l from' via' to') (fault_counts k l via to) (fault_counts k l via' to') status
  pub read : s.faults from' ≡ reads_after status (s.faults from)
  pub write : k.faults to' ≡ writes_after status (k.faults to)
  pub links : l.faults via' ≡ links_after status (l.faults via)
  pub link : status ≡ LinkFault → LinkFailure (l.faults via) (l.faults via') (l.attached via) (l.attached via') (l.received via) (l.received via')

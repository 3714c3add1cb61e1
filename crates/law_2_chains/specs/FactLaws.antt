-- The facts, as laws.
use Rattle.law_1_machine.specs.Group.{Group}
use Rattle.law_1_machine.specs.Headers.{Headers}
use Rattle.law_1_machine.specs.History.{History}
use Rattle.law_1_machine.specs.Invariant.{Invariant}
use Rattle.law_1_machine.specs.Machine.{Reached, Step}
use Rattle.law_1_machine.specs.Quorums.{Quorums}
use Rattle.law_2_chains.specs.Facts.{CommitNumbersAreBacked, DisksMoveOn, KeepsVouched, NotCutThere, OneLogAView, TrueStatements, ViewChangesMeet}

-- of each move from a state that a run reaches
abbrev pub DisksAlwaysMoveOn : Type 0 → Type 0
DisksAlwaysMoveOn H = (q : Quorums) (hs : Headers H) (s s' : Group H) → Reached q hs s → Step q hs s s' → DisksMoveOn q hs s s'

-- of each state, with any history for which the invariant holds
abbrev pub EachViewHasOneLog : Type 0 → Type 0
EachViewHasOneLog H = (q : Quorums) (hs : Headers H) (g : History H) (s : Group H) → Invariant q hs g s → OneLogAView q hs g s

abbrev pub VouchedIsKept : Type 0 → Type 0
VouchedIsKept H = (q : Quorums) (hs : Headers H) (g : History H) (s : Group H) → Invariant q hs g s → KeepsVouched q hs g s

abbrev pub StatementsStayTrue : Type 0 → Type 0
StatementsStayTrue H = (q : Quorums) (hs : Headers H) (g : History H) (s : Group H) → Invariant q hs g s → TrueStatements q hs g s

abbrev pub QuorumsMeet : Type 0 → Type 0
QuorumsMeet H = (q : Quorums) (hs : Headers H) → NotCutThere q hs × ViewChangesMeet

abbrev pub EachCommitNumberIsBacked : Type 0 → Type 0
EachCommitNumberIsBacked H = (q : Quorums) (hs : Headers H) (s : Group H) → Reached q hs s → CommitNumbersAreBacked q hs s

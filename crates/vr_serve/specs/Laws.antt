-- The laws of turns.
use Rattle.std.specs.Prelude.{ℕ, List, [], ◌∷◌, ◌++◌, Option, map, ◌≡◌}
use Rattle.vr_disk.specs.DiskState.{Disk}
use Rattle.vr_edge.specs.Datagrams.{Arrival}
use Rattle.vr_edge.specs.Told.{Grows}
use Rattle.vr_edge.specs.declared.datagram.Datagram.{Datagram}
use Rattle.vr_mail.specs.Letters.{AreStilled}
use Rattle.vr_msg.specs.declared.output.Output.{Output}
use Rattle.vr_serve.specs.Events.{AreTurns, Turn, arrival_in, arrivals, happened}
use Rattle.vr_serve.specs.Runs.{Doing, End, Halting, IsCutInTurn, IsServed}

-- turns with these receives
abbrev pub with_arrivals : List Turn → List Arrival → List Turn
with_arrivals [] others = []
with_arrivals (t ∷ ts) [] = []
with_arrivals (t ∷ ts) (a ∷ others) = record t { arrival = a } ∷ with_arrivals ts others

-- the same events come of turns in which nothing comes in the place of datagrams that are refused
pub record HaveSame (version cluster begins : ℕ) (turns stilled : List Turn) : Type 0 where
  pub brought : AreTurns version cluster stilled
  pub events : happened begins stilled ≡ happened begins turns
  pub numbers : map (λ t. t.now) stilled ≡ map (λ t. t.now) turns

abbrev pub RefusedChangeNothing : Type 0
RefusedChangeNothing =
    (version cluster begins : ℕ) (turns : List Turn) (others : List Arrival) → AreTurns version cluster turns → AreStilled version cluster (arrivals turns) others
    → HaveSame version cluster begins turns (with_arrivals turns others)

-- what a run did, by the same clock, and with the same bytes and the same datagrams put out, a run does as well that receives nothing in their place
abbrev pub ServesTheSame : {S : Type 0} → Doing S → Type 0
ServesTheSame {S} does =
    (version cluster count : ℕ) (first : List Output) (member member' : S) (disk disk' : Option Disk) (left left' : Option (List ℕ)) (got got' : Option (List Arrival))
    (t t' : Option (List ℕ)) (u u' : Option (List (Option Datagram))) (run : IsServed does version cluster count first member member' disk disk' left left' got got' t t' u u')
    (others : List Arrival) (heard heard' : Option (List Arrival)) → AreStilled version cluster (arrivals run.turns) others → Grows heard heard' others
    → IsServed does version cluster count first member member' disk disk' left left' heard heard' t t' u u'

-- the same of a run that is cut off, with the same end
abbrev pub CutsTheSame : {S : Type 0} → Doing S → Halting S → Type 0
CutsTheSame {S} does halts =
    (version cluster count : ℕ) (first : List Output) (member : S) (disk : Option Disk) (left left' : Option (List ℕ)) (got got' : Option (List Arrival))
    (t : Option (List ℕ)) (u : Option (List (Option Datagram))) (end : End) (run : IsCutInTurn does halts version cluster count first member disk left left' got got' t u end)
    (others : List Arrival) (heard heard' : Option (List Arrival)) → AreStilled version cluster (arrivals run.turns ++ arrival_in run.last ∷ []) others → Grows heard heard' others
    → IsCutInTurn does halts version cluster count first member disk left left' heard heard' t u end

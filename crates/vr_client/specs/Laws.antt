-- The law of asks.
use Rattle.std.specs.Prelude.{ℕ, List, ◌++◌, Option, Result}
use Rattle.vr_edge.specs.Datagrams.{Arrival}
use Rattle.vr_edge.specs.Told.{Grows}
use Rattle.vr_edge.specs.declared.datagram.Datagram.{Datagram}
use Rattle.vr_mail.specs.Letters.{AreStilled}
use Rattle.vr_client.specs.Asking.{Ask, IsAsked}
use Rattle.vr_client.specs.declared.answer.Answer.{Answer}
use Rattle.vr_client.specs.declared.answer.AskFault.{AskFault}

-- an ask stays the same where nothing comes in the place of datagrams that are refused
abbrev pub RefusedChangeNothing : Type 0
RefusedChangeNothing =
    (a : Ask) (port port' : ℕ) (u u' : Option (List (Option Datagram))) (got got' g g' : Option (List Arrival)) (result : Result Answer AskFault)
    (ask : IsAsked a port port' u u' got got' result) (stilled : List Arrival) → AreStilled a.version a.cluster ask.arrivals stilled
    → Grows g g' (stilled ++ ask.last) → IsAsked a port port' u u' g g' result

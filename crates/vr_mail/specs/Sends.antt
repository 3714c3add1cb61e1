-- Sends of datagrams, each of which goes out or fails.
use Rattle.std.specs.Prelude.{List, [], ◌∷◌, Option, Some, None, ⊤, ◌≡◌}
use Rattle.vr_edge.specs.Told.{Grows}
use Rattle.vr_edge.specs.declared.datagram.Datagram.{Datagram}

-- the datagram went out, or its send failed
abbrev pub IsOf : Datagram → Option Datagram → Type 0
IsOf d None = ⊤
IsOf d (Some e) = e ≡ d

-- the same of each of them, in order
abbrev pub AreOf : List Datagram → List (Option Datagram) → Type 0
AreOf [] [] = ⊤
AreOf [] (o ∷ os) = ⊥
AreOf (d ∷ ds) [] = ⊥
AreOf (d ∷ ds) (o ∷ os) = IsOf d o × AreOf ds os

-- these datagrams were given to a link, which may tell its sends
abbrev pub Sends : List Datagram → Option (List (Option Datagram)) → Option (List (Option Datagram)) → Type 0
Sends ds old new = (os : List (Option Datagram)) × AreOf ds os × Grows old new os

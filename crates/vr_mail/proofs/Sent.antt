-- Sends one after another.
use Rattle.std.proofs.Common.{◌≡◌, ℕ, List, [], ◌∷◌, ◌++◌, Option, Result, Ok, Err, ap}
use Rattle.vr_edge.specs.Told.{Grows}
use Rattle.vr_edge.specs.Datagrams.{sent_by}
use Rattle.vr_edge.specs.Sending.{datagram_at}
use Rattle.vr_edge.specs.declared.datagram.Datagram.{Datagram}
use Rattle.vr_mail.specs.Sends.{AreOf, IsOf, Sends}
use Rattle.vr_mail.proofs.Growing.{grows_nil, grows_trans}

are_of_append : (ds es : List Datagram) (os ps : List (Option Datagram)) → AreOf ds os → AreOf es ps → AreOf (ds ++ es) (os ++ ps)
are_of_append [] es [] ps a b = b
are_of_append [] es (o ∷ os) ps a b = absurd a
are_of_append (d ∷ ds) es [] ps a b = absurd a
are_of_append (d ∷ ds) es (o ∷ os) ps a b = (a.0, are_of_append ds es os ps a.1 b)

pub sends_nil : (a : Option (List (Option Datagram))) → Sends [] a a
sends_nil a = ([], tt, grows_nil a)

pub sends_trans : (a b c : Option (List (Option Datagram))) (ds es : List Datagram) → Sends ds a b → Sends es b c → Sends (ds ++ es) a c
sends_trans a b c ds es x y = (x.0 ++ y.0, are_of_append ds es x.0 y.0 x.1 y.1, grows_trans a b c x.0 y.0 x.2 y.2)

is_of_sent : {E : Type 0} (port : ℕ) (bytes held : List ℕ) (r : Result (Unit {0}) E) → held ≡ bytes → IsOf (datagram_at port bytes) (sent_by port held r)
is_of_sent port bytes held (Ok u) same = ap (λ (b : List ℕ). datagram_at port b) same
is_of_sent port bytes held (Err e) same = tt

-- one send
pub sends_one : {E : Type 0} (a b : Option (List (Option Datagram))) (port : ℕ) (bytes held : List ℕ) (r : Result (Unit {0}) E)
    → held ≡ bytes → Grows a b (sent_by port held r ∷ []) → Sends (datagram_at port bytes ∷ []) a b
sends_one a b port bytes held r same grown = (sent_by port held r ∷ [], (is_of_sent port bytes held r same, tt), grown)

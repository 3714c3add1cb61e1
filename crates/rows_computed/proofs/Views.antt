-- Worked rows of view changes.
use Rattle.std.proofs.Common.{ℕ, ◌≡◌, List, [], ◌∷◌, ◌++◌, codes, drop, Some, refl}
use Rattle.vr_header.specs.declared.operation.Operation.TheVariants.{Register, Put}
use Rattle.vr_lie.specs.declared.fault.Fault.TheVariants.{Damage}
use Rattle.vr_text.specs.Text.{letters_of}
use Rattle.vr_world.specs.World.{Happening, Arrives, Ticks, Stops, Starts, Lies}
use Rattle.rows_computed.proofs.Plain.{asks, replayed, seen}

abbrev five_ticks : ℕ → List Happening
five_ticks r = Ticks r ∷ Ticks r ∷ Ticks r ∷ Ticks r ∷ Ticks r ∷ []

-- An operation that only the stopped primary has is dropped by a nack quorum.
abbrev dropping : List Happening
dropping =
    asks 0 7 0 Register ∷ Arrives 0 ∷ Arrives 1 ∷ Arrives 2 ∷ asks 0 7 1 (Put (codes "a") (codes "b")) ∷ Stops 0 ∷ []
    ++ five_ticks 1 ++ Arrives 7 ∷ Arrives 10 ∷ Arrives 12 ∷ Arrives 15 ∷ asks 1 8 0 Register ∷ Arrives 17 ∷ Arrives 18 ∷ []

drops : replayed 3 dropping
    ≡ codes "send 0 0 1 prepare view 0 op 1 made 0 commit 0"
    ∷ codes "send 1 0 2 prepare view 0 op 1 made 0 commit 0"
    ∷ codes "send 2 1 0 prepare_ok view 0 op 1 made 0"
    ∷ codes "send 3 2 0 prepare_ok view 0 op 1 made 0"
    ∷ codes "commit 0 op 1 view 0 client 7 request 0 register"
    ∷ codes "reply 0 client 7 request 0 op 1 session"
    ∷ codes "send 4 0 1 prepare view 0 op 2 made 0 commit 1"
    ∷ codes "send 5 0 2 prepare view 0 op 2 made 0 commit 1"
    ∷ codes "send 6 1 0 start_view_change view 1"
    ∷ codes "send 7 1 2 start_view_change view 1"
    ∷ codes "send 8 2 0 start_view_change view 1"
    ∷ codes "send 9 2 1 start_view_change view 1"
    ∷ codes "send 10 2 1 do_view_change view 1 log 0 commit 0 head 1 parts h"
    ∷ codes "choose 1 view 1 log 0 commit 0 head 1 own h"
    ∷ codes "send 11 1 0 start_view view 1 op 1 commit 0"
    ∷ codes "send 12 1 2 start_view view 1 op 1 commit 0"
    ∷ codes "send 13 1 0 prepare view 1 op 1 made 0 commit 0"
    ∷ codes "send 14 1 2 prepare view 1 op 1 made 0 commit 0"
    ∷ codes "send 15 2 1 prepare_ok view 1 op 1 made 0"
    ∷ codes "commit 1 op 1 view 0 client 7 request 0 register"
    ∷ codes "reply 1 client 7 request 0 op 1 session"
    ∷ codes "send 16 1 0 prepare view 1 op 2 made 1 commit 1"
    ∷ codes "send 17 1 2 prepare view 1 op 2 made 1 commit 1"
    ∷ codes "send 18 2 1 prepare_ok view 1 op 2 made 1"
    ∷ codes "commit 2 op 1 view 0 client 7 request 0 register"
    ∷ codes "commit 1 op 2 view 1 client 8 request 0 register"
    ∷ codes "reply 1 client 8 request 0 op 2 session"
    ∷ []
unfolding replayed
drops = refl

-- The stopped primary comes back, and never leads its old view. Its own op 2 is replaced, and is wanted: it applies op 1 alone.
abbrev recovering : List Happening
recovering = dropping ++ Starts 0 ∷ asks 0 9 0 Register ∷ Arrives 19 ∷ Arrives 21 ∷ []

recovers : drop 27 (replayed 3 recovering)
    ≡ codes "start 0 view 1 log_view 0 commit 0"
    ∷ codes "send 19 0 1 start_view_change view 1"
    ∷ codes "send 20 0 2 start_view_change view 1"
    ∷ codes "reply 0 client 9 request 0 redirect 1"
    ∷ codes "send 21 1 0 start_view view 1 op 2 commit 2"
    ∷ codes "commit 0 op 1 view 0 client 7 request 0 register"
    ∷ []
unfolding replayed
recovers = refl

replaced : seen (λ r. letters_of r.parts) 0 3 recovering ≡ Some (codes "hw")
unfolding seen
replaced = refl

-- An acknowledged entry whose header sector and prepare are both damaged isn't denied: the choice waits for a replica that has it.
abbrev waiting : List Happening
waiting =
    asks 0 7 0 Register ∷ Arrives 0 ∷ Stops 1 ∷ Lies 1 (Damage 81) ∷ Lies 1 (Damage 148) ∷ Starts 1 ∷ Stops 0 ∷ []
    ++ five_ticks 1 ++ Arrives 4 ∷ Arrives 7 ∷ Starts 0 ∷ Arrives 3 ∷ Arrives 10 ∷ Ticks 1 ∷ []

waits : replayed 3 waiting
    ≡ codes "send 0 0 1 prepare view 0 op 1 made 0 commit 0"
    ∷ codes "send 1 0 2 prepare view 0 op 1 made 0 commit 0"
    ∷ codes "send 2 1 0 prepare_ok view 0 op 1 made 0"
    ∷ codes "done"
    ∷ codes "done"
    ∷ codes "start 1 view 0 log_view 0 commit 0"
    ∷ codes "send 3 1 0 start_view_change view 1"
    ∷ codes "send 4 1 2 start_view_change view 1"
    ∷ codes "send 5 2 0 start_view_change view 1"
    ∷ codes "send 6 2 1 start_view_change view 1"
    ∷ codes "send 7 2 1 do_view_change view 1 log 0 commit 0 head 0 parts -"
    ∷ codes "wait 1 view 1 op 1"
    ∷ codes "start 0 view 1 log_view 0 commit 0"
    ∷ codes "send 8 0 1 start_view_change view 1"
    ∷ codes "send 9 0 2 start_view_change view 1"
    ∷ codes "send 10 0 1 do_view_change view 1 log 0 commit 0 head 1 parts h"
    ∷ codes "choose 1 view 1 log 0 commit 0 head 1 own u"
    ∷ codes "send 11 1 0 start_view view 1 op 1 commit 0"
    ∷ codes "send 12 1 2 start_view view 1 op 1 commit 0"
    ∷ codes "send 13 1 0 commit view 1 op 1 commit 0"
    ∷ codes "send 14 1 2 commit view 1 op 1 commit 0"
    ∷ codes "send 15 1 2 get_prepare op 1 made 0"
    ∷ []
unfolding replayed
waits = refl

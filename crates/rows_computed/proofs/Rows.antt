-- Worked rows: what happens to a group, and the lines that it puts out.
use Rattle.std.proofs.Common.{ℕ, ◌+◌, ◌≡◌, List, [], ◌∷◌, ◌++◌, map, codes, drop, refl}
use Rattle.std.specs.List.{range_with_len}
use Rattle.vr_header.specs.declared.operation.Operation.TheVariants.{Register, Put, Get}
use Rattle.vr_world.specs.World.{Happening, Arrives, Ticks}
use Rattle.rows_computed.proofs.Plain.{asks, replayed}

-- a register and a put
abbrev plain : List Happening
plain = asks 0 7 0 Register ∷ Arrives 0 ∷ Arrives 2 ∷ asks 0 7 1 (Put (codes "a") (codes "b")) ∷ Arrives 3 ∷ Arrives 5 ∷ []

plain_path : replayed 3 plain
    ≡ codes "send 0 0 1 prepare view 0 op 1 made 0 commit 0"
    ∷ codes "send 1 0 2 prepare view 0 op 1 made 0 commit 0"
    ∷ codes "send 2 1 0 prepare_ok view 0 op 1 made 0"
    ∷ codes "commit 0 op 1 view 0 client 7 request 0 register"
    ∷ codes "reply 0 client 7 request 0 op 1 session"
    ∷ codes "send 3 0 1 prepare view 0 op 2 made 0 commit 1"
    ∷ codes "send 4 0 2 prepare view 0 op 2 made 0 commit 1"
    ∷ codes "send 5 1 0 prepare_ok view 0 op 2 made 0"
    ∷ codes "commit 1 op 1 view 0 client 7 request 0 register"
    ∷ codes "commit 0 op 2 view 0 client 7 request 1 put a b"
    ∷ codes "reply 0 client 7 request 1 op 2 ok"
    ∷ []
unfolding replayed
plain_path = refl

-- the lines of what happens beyond the plain path
abbrev after_plain : List Happening → List (List ℕ)
after_plain xs = drop 11 (replayed 3 (plain ++ xs))

-- a message that comes again is answered again, and counts once
repeats : replayed 2 (asks 0 7 0 Register ∷ Arrives 0 ∷ Arrives 6 ∷ Arrives 2 ∷ Arrives 1 ∷ [])
    ≡ codes "send 0 0 1 prepare view 0 op 1 made 0 commit 0"
    ∷ codes "send 1 1 0 prepare_ok view 0 op 1 made 0"
    ∷ codes "send 2 1 0 prepare_ok view 0 op 1 made 0"
    ∷ codes "commit 0 op 1 view 0 client 7 request 0 register"
    ∷ codes "reply 0 client 7 request 0 op 1 session"
    ∷ []
unfolding replayed
repeats = refl

-- a repeat gets the stored outcome and its op; an old number, a gap, a client without a session
sessions : after_plain (asks 0 7 1 (Put (codes "a") (codes "b")) ∷ asks 0 7 0 Register ∷ asks 0 7 3 (Get (codes "a")) ∷ asks 0 8 1 (Get (codes "a")) ∷ [])
    ≡ codes "reply 0 client 7 request 1 op 2 ok"
    ∷ codes "reply 0 client 7 request 0 old"
    ∷ codes "reply 0 client 7 request 3 gap"
    ∷ codes "reply 0 client 8 request 1 evicted"
    ∷ []
unfolding replayed
sessions = refl

-- A replica that missed two prepares asks for the log, and then for the entry that it lacks. Clients 8 and 9 register, and an old
-- start_view comes again.
abbrev lagging : List Happening
lagging =
    Arrives 4 ∷ Arrives 6 ∷ Arrives 7 ∷ Ticks 2 ∷ Arrives 8 ∷ Arrives 9 ∷ asks 0 8 0 Register ∷ asks 0 9 0 Register ∷ Arrives 11 ∷ Arrives 7 ∷ Arrives 13 ∷ []

lags : after_plain lagging
    ≡ codes "send 6 2 0 get_view view 0"
    ∷ codes "send 7 0 2 start_view view 0 op 2 commit 2"
    ∷ codes "send 8 2 0 get_prepare op 1 made 0"
    ∷ codes "send 9 0 2 give_prepare op 1 made 0"
    ∷ codes "commit 2 op 1 view 0 client 7 request 0 register"
    ∷ codes "send 10 0 1 prepare view 0 op 3 made 0 commit 2"
    ∷ codes "send 11 0 2 prepare view 0 op 3 made 0 commit 2"
    ∷ codes "send 12 0 1 prepare view 0 op 4 made 0 commit 2"
    ∷ codes "send 13 0 2 prepare view 0 op 4 made 0 commit 2"
    ∷ codes "send 14 2 0 prepare_ok view 0 op 3 made 0"
    ∷ codes "send 15 2 0 prepare_ok view 0 op 4 made 0"
    ∷ []
unfolding replayed
lags = refl

-- who doesn't lead says so
redirect : replayed 2 (asks 1 7 0 Register ∷ [])
    ≡ codes "reply 1 client 7 request 0 redirect 0"
    ∷ []
unfolding replayed
redirect = refl

abbrev registers : ℕ → List Happening
registers n = map (λ k. asks 0 (k + 1) 0 Register) (range_with_len 0 n)

-- with eight entries in flight the primary is busy, until one is committed
pipeline : drop 8 (replayed 2 (registers 9 ++ Arrives 0 ∷ Arrives 8 ∷ asks 0 9 0 Register ∷ []))
    ≡ codes "reply 0 client 9 request 0 busy"
    ∷ codes "send 8 1 0 prepare_ok view 0 op 1 made 0"
    ∷ codes "commit 0 op 1 view 0 client 1 request 0 register"
    ∷ codes "reply 0 client 1 request 0 op 1 session"
    ∷ codes "send 9 0 1 prepare view 0 op 9 made 0 commit 1"
    ∷ []
unfolding replayed
pipeline = refl

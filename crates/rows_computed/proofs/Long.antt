-- Two long rows, in which the reading of one rule decides.
use Rattle.std.proofs.Common.{ℕ, ◌+◌, ◌*◌, ◌≡◌, List, [], ◌∷◌, ◌++◌, map, replicate, codes, drop, refl}
use Rattle.std.specs.List.{flat_map, range_with_len}
use Rattle.vr_header.specs.declared.operation.Operation.{Operation}
use Rattle.vr_header.specs.declared.operation.Operation.TheVariants.{Register, Put}
use Rattle.vr_lie.specs.declared.fault.Fault.TheVariants.{Damage}
use Rattle.vr_world.specs.World.{Happening, Arrives, Ticks, Stops, Starts, Lies}
use Rattle.rows_computed.proofs.Plain.{asks, replayed}

abbrev ticks : ℕ → ℕ → List Happening
ticks r n = replicate n (Ticks r)

abbrev put : Operation
put = Put (codes "a") (codes "b")

abbrev arrive : List ℕ → List Happening
arrive xs = map Arrives xs

-- ---- A log is taken over only where it reaches down to the replica's own commit number. Replica 2 leads view 2 alone and makes op
-- 1; replica 0 leads view 3 with replica 1, commits 63 other ops and makes two more that it has alone; view 4 ends the log at 64.
-- Replica 0 leads view 6, and its start_view has the headers of ops 2 to 64: replica 2, whose commit number is 0, must not take it,
-- since its own op 1 is another one. It asks for the checkpoint of that view.

abbrev put_of_view_3 : ℕ → List Happening
put_of_view_3 k = asks 0 7 k put ∷ Arrives (63 + 3 * k) ∷ Arrives (65 + 3 * k) ∷ []

abbrev loose : List Happening
loose =
    ticks 2 15 ++ Arrives 20 ∷ Arrives 24 ∷ asks 2 5 0 Register ∷ [] ++ ticks 0 10 ++ Arrives 56 ∷ Arrives 60 ∷ Arrives 61 ∷ asks 0 7 0 Register ∷ Arrives 63 ∷ Arrives 65 ∷ []
    ++ flat_map put_of_view_3 (range_with_len 1 63) ++ asks 0 7 64 (Put (codes "a") (codes "c")) ∷ [] ++ ticks 1 5 ++ Arrives 258 ∷ Arrives 261 ∷ Arrives 262 ∷ []
    ++ ticks 0 15 ++ Arrives 286 ∷ Arrives 290 ∷ Arrives 292 ∷ []

reaches_commit : drop 484 (replayed 3 loose)
    ≡ codes "send 290 1 0 do_view_change view 6 log 4 commit 63 head 64 parts h"
    ∷ codes "choose 0 view 6 log 4 commit 64 head 64 own -"
    ∷ codes "send 291 0 1 start_view view 6 op 64 commit 64"
    ∷ codes "send 292 0 2 start_view view 6 op 64 commit 64"
    ∷ codes "send 293 2 0 get_sync view 6"
    ∷ []
unfolding replayed
reaches_commit = refl

-- ---- A header that was forgotten stays forgotten where the log is cut. Replica 2 leads view 2, commits 63 ops and makes two more,
-- of which replica 3 has no entry and replica 4 has the first. Replica 3, which knew 65 headers, leads view 3, whose log ends at 64:
-- its start_view has the headers of ops 2 to 64, so replica 1, whose log is empty, doesn't take it, and asks for the checkpoint.

abbrev op_of_view_2 : ℕ → Operation → List Happening
op_of_view_2 k o = asks 2 7 k o ∷ arrive (map (λ i. 60 + 6 * k + i) (range_with_len 0 4))

abbrev put_of_view_2 : ℕ → List Happening
put_of_view_2 k = op_of_view_2 k put

abbrev cut : List Happening
cut =
    ticks 3 15 ++ arrive (42 ∷ 43 ∷ 46 ∷ 47 ∷ 51 ∷ 52 ∷ 53 ∷ 56 ∷ 57 ∷ []) ++ op_of_view_2 0 Register ++ flat_map put_of_view_2 (range_with_len 1 62)
    ++ Lies 3 (Damage 143) ∷ Lies 3 (Damage 396) ∷ Stops 3 ∷ Starts 3 ∷ []
    ++ ticks 2 11 ++ arrive (438 ∷ 446 ∷ 450 ∷ 454 ∷ 458 ∷ 462 ∷ 466 ∷ 470 ∷ 474 ∷ 478 ∷ []) ++ asks 2 8 0 Register ∷ asks 2 9 0 Register ∷ []
    ++ ticks 2 1 ++ Arrives 501 ∷ [] ++ ticks 2 1 ++ arrive (500 ∷ 504 ∷ 506 ∷ 509 ∷ 513 ∷ 514 ∷ 519 ∷ 517 ∷ 521 ∷ []) ++ ticks 3 5
    ++ arrive (527 ∷ 531 ∷ 534 ∷ 538 ∷ 540 ∷ 544 ∷ 543 ∷ 546 ∷ []) ++ ticks 1 1

forgotten_for_good : drop 828 (replayed 5 cut)
    ≡ codes "send 543 4 3 do_view_change view 3 log 2 commit 63 head 65 parts hw"
    ∷ codes "send 544 1 3 do_view_change view 3 log 0 commit 0 head 0 parts -"
    ∷ codes "choose 3 view 3 log 2 commit 63 head 64 own ww"
    ∷ codes "send 545 3 0 start_view view 3 op 64 commit 63"
    ∷ codes "send 546 3 1 start_view view 3 op 64 commit 63"
    ∷ codes "send 547 3 2 start_view view 3 op 64 commit 63"
    ∷ codes "send 548 3 4 start_view view 3 op 64 commit 63"
    ∷ codes "send 549 1 3 get_sync view 3"
    ∷ codes "send 550 1 0 start_view_change view 3"
    ∷ codes "send 551 1 2 start_view_change view 3"
    ∷ codes "send 552 1 3 start_view_change view 3"
    ∷ codes "send 553 1 4 start_view_change view 3"
    ∷ codes "send 554 1 3 do_view_change view 3 log 0 commit 0 head 0 parts -"
    ∷ []
unfolding replayed
forgotten_for_good = refl

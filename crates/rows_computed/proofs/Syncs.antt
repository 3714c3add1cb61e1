-- Worked rows of jumps to a later checkpoint, and of visits of the disk.
use Rattle.std.proofs.Common.{ℕ, ◌+◌, ◌*◌, ◌≡◌, List, [], ◌∷◌, ◌++◌, map, replicate, codes, drop, Some, None, refl}
use Rattle.std.specs.Prelude.{slice_index_or}
use Rattle.std.specs.List.{flat_map, range_with_len}
use Rattle.std.specs.Option.{option_map_or}
use Rattle.vr_header.specs.declared.operation.Operation.TheVariants.{Register}
use Rattle.vr_lie.specs.declared.fault.Fault.TheVariants.{Damage}
use Rattle.vr_text.specs.Text.{letter}
use Rattle.vr_rules.specs.Replica.{Replica, part_at, run_start}
use Rattle.vr_world.specs.World.{Happening, Arrives, Ticks, Lies}
use Rattle.rows_computed.proofs.Plain.{Plain, asks, replayed, seen, stored_there}
use Rattle.rows_computed.proofs.Windows.{numbers, past_window, put, puts_of_two}

-- ---- A replica past its window takes over the log with the checkpoint of its view, has the block of that given, and then the entry above
-- it. The same sync_view again changes nothing.

abbrev jumping : List Happening
jumping = past_window ++ Arrives 197 ∷ Arrives 198 ∷ []

jumps : drop 391 (replayed 3 (jumping ++ Ticks 2 ∷ Arrives 199 ∷ Arrives 200 ∷ Ticks 2 ∷ Arrives 201 ∷ Arrives 202 ∷ Arrives 198 ∷ []))
    ≡ codes "send 197 2 0 get_sync view 0"
    ∷ codes "send 198 0 2 sync_view view 0 op 65 commit 65 checkpoint 64"
    ∷ codes "send 199 2 0 get_block 0"
    ∷ codes "send 200 0 2 give_block 0"
    ∷ codes "send 201 2 1 get_prepare op 65 made 0"
    ∷ codes "send 202 1 2 give_prepare op 65 made 0"
    ∷ codes "commit 2 op 65 view 0 client 7 request 64 put a b"
    ∷ []
unfolding replayed
jumps = refl

-- commit number, applied op, checkpoint, root's address, the ends of the lists of Parts and ackers, and what is saved
jumped_to : seen numbers 2 3 jumping ≡ Some (65 ∷ 64 ∷ 64 ∷ 0 ∷ 129 ∷ 129 ∷ 65 ∷ 64 ∷ 65 ∷ [])
unfolding seen
jumped_to = refl

-- ---- What nothing confirms isn't kept in a jump. Eight ops are committed; replica 2 leads view 2 and makes ops 9 to 11 alone; replica 0
-- leads view 3, commits 64 other ops and makes three alone, and after view 4, which ends the log at 72, leads view 6. What it gives replica
-- 2 begins with op 12.

abbrev arrive : List ℕ → List Happening
arrive xs = map Arrives xs

abbrev op_of_all : ℕ → List Happening
op_of_all k = asks 0 7 k put ∷ arrive ((4 * k) ∷ (4 * k + 1) ∷ (4 * k + 2) ∷ [])

abbrev op_of_two : ℕ → List Happening
op_of_two k = asks 0 7 k put ∷ arrive ((3 * k + 77) ∷ (3 * k + 79) ∷ [])

abbrev out_of_reach : List Happening
out_of_reach =
    asks 0 7 0 Register ∷ arrive (0 ∷ 1 ∷ 2 ∷ []) ++ flat_map op_of_all (range_with_len 1 7) ++ Ticks 0 ∷ arrive (32 ∷ 33 ∷ [])
    ++ replicate 15 (Ticks 2) ++ arrive (54 ∷ 58 ∷ []) ++ asks 2 5 0 Register ∷ asks 2 6 0 Register ∷ asks 2 8 0 Register ∷ []
    ++ replicate 10 (Ticks 0) ++ arrive (94 ∷ 98 ∷ 99 ∷ []) ++ flat_map op_of_two (range_with_len 8 64) ++ Ticks 0 ∷ Arrives 293 ∷ asks 0 1 0 Register ∷ asks 0 2 0 Register ∷ asks 0 3 0 Register ∷ []
    ++ replicate 5 (Ticks 1) ++ arrive (302 ∷ 305 ∷ 306 ∷ []) ++ replicate 15 (Ticks 0) ++ arrive (328 ∷ 332 ∷ 334 ∷ 335 ∷ 336 ∷ [])

-- the letters of the Parts of its own ops 9 to 11, of the first and the last up to the checkpoint, of those above it up to the log's end, and
-- of the next
abbrev parts_there : Replica → List ℕ
parts_there r = map (λ k. letter (part_at r k)) (8 ∷ 9 ∷ 10 ∷ 11 ∷ 12 ∷ 64 ∷ 65 ∷ 72 ∷ 73 ∷ [])

unconfirmed : seen parts_there 2 3 out_of_reach ≡ Some (codes "nnnnllwwn")
unfolding seen
unconfirmed = refl

-- so the log of view 8, which replica 2 leads, begins with op 12 too
abbrev later_view : List Happening
later_view = out_of_reach ++ replicate 15 (Ticks 2) ++ arrive (370 ∷ 374 ∷ [])

begins_later : drop 603 (replayed 3 later_view)
    ≡ codes "choose 2 view 8 log 6 commit 72 head 72 own -"
    ∷ codes "send 375 2 0 start_view view 8 op 72 commit 72"
    ∷ codes "send 376 2 1 start_view view 8 op 72 commit 72"
    ∷ []
unfolding replayed
begins_later = refl

begins_with : seen (λ r. run_start r) 2 3 later_view ≡ Some 11
unfolding seen
begins_with = refl

-- ---- Visits: a tick looks at one place of the disk. The second one finds the slot of op 1.

abbrev one_entry : List Happening
one_entry = asks 0 7 0 Register ∷ Arrives 0 ∷ Arrives 6 ∷ Arrives 2 ∷ Arrives 1 ∷ []

-- an entry that doesn't read is lost, and asked for
finds_lost : drop 5 (replayed 2 (one_entry ++ Lies 1 (Damage 148) ∷ Ticks 1 ∷ Ticks 1 ∷ Arrives 3 ∷ Arrives 4 ∷ []))
    ≡ codes "done"
    ∷ codes "send 3 1 0 get_prepare op 1 made 0"
    ∷ codes "send 4 0 1 give_prepare op 1 made 0"
    ∷ codes "send 5 1 0 prepare_ok view 0 op 1 made 0"
    ∷ []
unfolding replayed
finds_lost = refl

-- a header sector that doesn't read is written again
abbrev has_header : Plain → ℕ
has_header f = option_map_or (λ x. 1) (slice_index_or f.headers 1 None) 0

bad_header : stored_there has_header 1 2 (one_entry ++ Lies 1 (Damage 81) ∷ Ticks 1 ∷ []) ≡ Some 0
unfolding stored_there
bad_header = refl

mends_header : stored_there has_header 1 2 (one_entry ++ Lies 1 (Damage 81) ∷ Ticks 1 ∷ Ticks 1 ∷ []) ≡ Some 1
unfolding stored_there
mends_header = refl

-- A block that has gone bad is asked for, and written again: place 65 is the checkpoint's root, which the 66th tick finds.
mends_block : drop 231 (replayed 2 (puts_of_two 32 ++ Lies 0 (Damage 912) ∷ [] ++ replicate 66 (Ticks 0) ++ Arrives 132 ∷ Arrives 133 ∷ Ticks 0 ∷ []))
    ≡ codes "send 132 0 1 get_block 64"
    ∷ codes "send 133 1 0 give_block 64"
    ∷ codes "send 134 0 1 commit view 0 op 33 commit 33"
    ∷ []
unfolding replayed
mends_block = refl

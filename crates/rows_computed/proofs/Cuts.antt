-- Worked rows of stops. A fuse lets so many calls through: the sixth is cut after five.
use Rattle.std.proofs.Common.{ℕ, ◌≡◌, List, [], ◌∷◌, ◌++◌, map, replicate, codes, refl}
use Rattle.vr_header.specs.declared.operation.Operation.TheVariants.{Register}
use Rattle.vr_world.specs.World.{Happening, Arrives, Fuses, Ticks, Stops, Starts}
use Rattle.rows_computed.proofs.Plain.{asks, replayed}

-- Between the two writes of an entry, at the header's write or at its sync: the opening takes the prepare and writes the header.
abbrev between : ℕ → List (List ℕ)
between calls = replayed 2 (asks 0 7 0 Register ∷ Fuses 1 calls 0 ∷ Arrives 0 ∷ Starts 1 ∷ Arrives 0 ∷ [])

takes_prepare : map between (5 ∷ 6 ∷ []) ≡ replicate 2 (
    codes "send 0 0 1 prepare view 0 op 1 made 0 commit 0"
    ∷ codes "halt 1"
    ∷ codes "start 1 view 0 log_view 0 commit 0"
    ∷ codes "send 1 1 0 prepare_ok view 0 op 1 made 0"
    ∷ [])
unfolding replayed
takes_prepare = refl

-- A torn prepare was never acknowledged: its op is denied, and dropped.
torn : replayed 3 (asks 0 7 0 Register ∷ Fuses 1 2 26 ∷ Arrives 0 ∷ Starts 1 ∷ [] ++ replicate 5 (Ticks 1) ++ Arrives 3 ∷ Arrives 6 ∷ [])
    ≡ codes "send 0 0 1 prepare view 0 op 1 made 0 commit 0"
    ∷ codes "send 1 0 2 prepare view 0 op 1 made 0 commit 0"
    ∷ codes "halt 1"
    ∷ codes "start 1 view 0 log_view 0 commit 0"
    ∷ codes "send 2 1 0 start_view_change view 1"
    ∷ codes "send 3 1 2 start_view_change view 1"
    ∷ codes "send 4 2 0 start_view_change view 1"
    ∷ codes "send 5 2 1 start_view_change view 1"
    ∷ codes "send 6 2 1 do_view_change view 1 log 0 commit 0 head 0 parts -"
    ∷ codes "choose 1 view 1 log 0 commit 0 head 0 own -"
    ∷ codes "send 7 1 0 start_view view 1 op 0 commit 0"
    ∷ codes "send 8 1 2 start_view view 1 op 0 commit 0"
    ∷ []
unfolding replayed
torn = refl

-- In the superblock: before two copies are written the old value stands, and then the new one.
abbrev in_superblock : ℕ → ℕ → List (List ℕ)
in_superblock calls code = replayed 3 (Fuses 1 calls code ∷ [] ++ replicate 5 (Ticks 1) ++ Starts 1 ∷ [])

abbrev old_view : List (List ℕ)
old_view = codes "halt 1" ∷ codes "start 1 view 0 log_view 0 commit 0" ∷ []

abbrev new_view : List (List ℕ)
new_view =
    codes "halt 1" ∷ codes "start 1 view 1 log_view 0 commit 0" ∷ codes "send 0 1 0 start_view_change view 1" ∷ codes "send 1 1 2 start_view_change view 1" ∷ []

saves_view : in_superblock 9 0 ∷ in_superblock 21 0 ∷ in_superblock 41 1743392200 ∷ in_superblock 42 0 ∷ in_superblock 63 0 ∷ []
    ≡ old_view ∷ old_view ∷ new_view ∷ new_view ∷ new_view ∷ []
unfolding replayed
saves_view = refl

-- A fuse goes on over steps, stops and starts, until it fires: two entries are fourteen calls, and the third has seven. A new one
-- takes its place. An opening that is cut puts out nothing but that.
abbrev three : List Happening
three =
    asks 0 7 0 Register ∷ asks 0 8 0 Register ∷ asks 0 9 0 Register ∷ Arrives 0 ∷ Stops 1 ∷ Starts 1 ∷ Arrives 1 ∷ Arrives 2 ∷ []

abbrev asked : List (List ℕ)
asked =
    codes "send 0 0 1 prepare view 0 op 1 made 0 commit 0"
    ∷ codes "send 1 0 1 prepare view 0 op 2 made 0 commit 0"
    ∷ codes "send 2 0 1 prepare view 0 op 3 made 0 commit 0"
    ∷ codes "send 3 1 0 prepare_ok view 0 op 1 made 0"
    ∷ codes "start 1 view 0 log_view 0 commit 0"
    ∷ codes "send 4 1 0 prepare_ok view 0 op 2 made 0"
    ∷ []

abbrev fused : ℕ → List (List ℕ)
fused calls = replayed 2 (Fuses 1 0 0 ∷ Fuses 1 calls 0 ∷ three)

goes_on : map fused (14 ∷ 20 ∷ 21 ∷ []) ≡ (asked ++ codes "halt 1" ∷ []) ∷ (asked ++ codes "halt 1" ∷ []) ∷ (asked ++ codes "send 5 1 0 prepare_ok view 0 op 3 made 0" ∷ []) ∷ []
unfolding replayed
goes_on = refl

opening_cut : replayed 2 (Stops 0 ∷ Fuses 0 50 0 ∷ Starts 0 ∷ Starts 0 ∷ [])
    ≡ codes "halt 0"
    ∷ codes "start 0 view 1 log_view 0 commit 0"
    ∷ codes "send 0 0 1 start_view_change view 1"
    ∷ []
unfolding replayed
opening_cut = refl

-- The regions of a data file lie one after the other and fill it; a settled sector by each digit.
use Rattle.std.proofs.Common.{◌≡◌, ◌∷◌, [], List, ℕ, refl, Some}
use Rattle.vr_disk.specs.Regions.{copy_place, header_place, prepare_place, prepare_sectors, block_place, sectors}
use Rattle.vr_disk.specs.DiskState.{Cell, Face, Call, Write, Sync, cut}

regions : copy_place 0 0 ∷ copy_place 4 0 ∷ header_place 64 ∷ prepare_place 1 64 ∷ block_place 127 ∷ prepare_place 2 64 ∷ block_place 384 ∷ []
    ≡ 0 ∷ header_place 0 ∷ prepare_place 1 0 ∷ block_place 0 ∷ 1416 ∷ block_place 128 ∷ sectors ∷ []
regions = refl

-- those of version 2 after the grid of version 1
behind : prepare_place 2 0 ∷ prepare_place 1 7 ∷ prepare_sectors 1 ∷ prepare_sectors 2 ∷ [] ≡ 1424 ∷ 172 ∷ 4 ∷ 8 ∷ []
behind = refl

abbrev holds : ℕ → Cell
holds b = record { truth = b ∷ []; reads = Some (b ∷ []); before = 0 ∷ [] }

-- a disk of three sectors, each of one byte
abbrev three : Face
three = record { cells = holds 1 ∷ holds 2 ∷ holds 3 ∷ []; waiting = [] }

abbrev calls : List Call
calls = Write 0 (10 ∷ []) ∷ Write 2 (30 ∷ []) ∷ Write 0 (11 ∷ []) ∷ Sync ∷ Write 1 (20 ∷ []) ∷ []

-- at the third write, of the first sector again: the first sector new, the last one old
third_new_old : cut 2 1 three calls ≡ record { cells = record { truth = 11 ∷ []; reads = Some (11 ∷ []); before = 10 ∷ [] } ∷ holds 2 ∷ holds 3 ∷ []; waiting = [] }
unfolding cut
third_new_old = refl

-- the first sector old, the last one damaged: the digits 0 and 2
third_old_damaged : cut 2 6 three calls ≡ record { cells = holds 1 ∷ holds 2 ∷ record { truth = 225 ∷ []; reads = Some (225 ∷ []); before = 3 ∷ [] } ∷ []; waiting = [] }
unfolding cut
third_old_damaged = refl

-- at the sync itself, all old
sync_cut : cut 3 0 three calls ≡ three
unfolding cut
sync_cut = refl

-- after the sync only the last write is at stake
synced_before : cut 4 0 three calls
    ≡ record { cells = record { truth = 11 ∷ []; reads = Some (11 ∷ []); before = 10 ∷ [] } ∷ holds 2 ∷ record { truth = 30 ∷ []; reads = Some (30 ∷ []); before = 3 ∷ [] } ∷ []; waiting = [] }
unfolding cut
synced_before = refl

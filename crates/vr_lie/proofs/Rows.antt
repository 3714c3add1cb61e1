-- Worked rows: which slot a sector belongs to, and what faults leave of two sectors.
use Rattle.std.proofs.Common.{◌≡◌, refl, ℕ, List, [], ◌∷◌, Option, Some, None}
use Rattle.std.specs.Prelude.{map}
use Rattle.vr_disk.specs.DiskState.{Cell, Face}
use Rattle.vr_mem.specs.Lies.{lied}
use Rattle.vr_lie.specs.declared.fault.Fault.{Fault}
use Rattle.vr_lie.specs.declared.fault.Fault.TheVariants.{Damage, Stale, Unread, Misdirect}
use Rattle.vr_lie.specs.Faults.{faulted}
use Rattle.vr_lie.specs.Table.{slot_at}

slots_row : map (slot_at 1) (79 ∷ 80 ∷ 81 ∷ 143 ∷ 144 ∷ 147 ∷ 148 ∷ 399 ∷ 400 ∷ []) ≡ None ∷ Some 0 ∷ Some 1 ∷ Some 63 ∷ Some 0 ∷ Some 0 ∷ Some 1 ∷ Some 63 ∷ None ∷ []
unfolding slot_at
slots_row = refl

later_slots_row : map (slot_at 2) (79 ∷ 80 ∷ 143 ∷ 144 ∷ 399 ∷ 1423 ∷ 1424 ∷ 1431 ∷ 1432 ∷ 1935 ∷ 1936 ∷ []) ≡ None ∷ Some 0 ∷ Some 63 ∷ None ∷ None ∷ None ∷ Some 0 ∷ Some 0 ∷ Some 1 ∷ Some 63 ∷ None ∷ []
unfolding slot_at
later_slots_row = refl

two : Face
two = record {
  cells = record { truth = 7 ∷ []; reads = Some (7 ∷ []); before = 3 ∷ [] } ∷ record { truth = 9 ∷ []; reads = None; before = 4 ∷ [] } ∷ [];
  waiting = [];
}

all_read : Face → List (Option (List ℕ))
all_read f = map (λ (c : Cell). c.reads) f.cells

faults_row : map (λ (x : Fault). all_read (faulted two x)) (Damage 0 ∷ Stale 0 ∷ Unread 0 ∷ Misdirect 0 1 ∷ Misdirect 1 0 ∷ [])
    ≡ (Some (248 ∷ []) ∷ None ∷ []) ∷ (Some (3 ∷ []) ∷ None ∷ []) ∷ (None ∷ None ∷ []) ∷ (Some (3 ∷ []) ∷ Some (7 ∷ []) ∷ []) ∷ (Some (9 ∷ []) ∷ Some (4 ∷ []) ∷ []) ∷ []
unfolding lied two all_read
faults_row = refl

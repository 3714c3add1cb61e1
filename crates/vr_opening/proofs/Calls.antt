-- Calls that are made one after the other.
use Rattle.std.proofs.Common.{arith, ℕ, suc, ◌≡◌, ◌<◌, ◌≤◌, ◌+◌, ◌-◌, ◌*◌, refl, List, [], ◌∷◌, Option, true, false, cond, eqb}
use Rattle.vr_disk.specs.DiskState.{Call, Write, Disk, Runs}
use Rattle.vr_disk.specs.declared.regions.TheConstants.{SLOTS}
use Rattle.vr_disk.specs.Regions.{prepare_place, prepare_sectors, sectors}
use Rattle.vr_disk.proofs.Running.{Runs_then, Runs_stopped, runs_nothing}
use Rattle.vr_rules.specs.Formatting.{zero_prepares, zero_sector, reserved_headers}
use Rattle.vr_opening.specs.Calls.{prepares_end, zero_call, reserved_call, calls_from, Making}

calls_past : (c : ℕ → Call) (i end : ℕ) → end ≤ i → calls_from c i end ≡ []
unfolding calls_from
calls_past c i end l = let none : end - i ≡ 0 = omega arith in rw none refl

calls_step : (c : ℕ → Call) (i end : ℕ) → i < end → calls_from c i end ≡ c i ∷ calls_from c (i + 1) end
unfolding calls_from
calls_step c i end l = let more : end - i ≡ suc (end - (i + 1)) = omega arith in rw more refl

making_goes : (c : ℕ → Call) (i end : ℕ) (cs : List Call) (d d' d'' : Option Disk) → i < end → Making cs (calls_from c i end) d d' → Runs (c i ∷ []) d' d'' true → Making cs (calls_from c (i + 1) end) d d''
making_goes c i end cs d d' d'' l m one = record {
  goes = λ e ok h. m.goes e ok (rw (calls_step c i end l) (Runs_then (c i ∷ []) (calls_from c (i + 1) end) d' d'' e ok one h));
}

making_stops : (c : ℕ → Call) (i end : ℕ) (cs : List Call) (d d' d'' : Option Disk) → i < end → Making cs (calls_from c i end) d d' → Runs (c i ∷ []) d' d'' false → Runs cs d d'' false
making_stops c i end cs d d' d'' l m one = m.goes d'' false (rw (calls_step c i end l) (Runs_stopped (c i ∷ []) (calls_from c (i + 1) end) d' d'' one))

making_ends : (c : ℕ → Call) (i end : ℕ) (cs : List Call) (d d' : Option Disk) → end ≤ i → Making cs (calls_from c i end) d d' → Runs cs d d' true
making_ends c i end cs d d' l m = m.goes d' true (rw (calls_past c i end l) (runs_nothing d'))

-- ---- zeros

-- the prepares of a file of any version are sectors
pub prepares_within : (v : ℕ) → prepares_end v ≤ sectors
prepares_within v = elim (eqb v 2) as (λ t. cond t (1424 + 8 * 0) (144 + 4 * 0) + SLOTS * cond t 8 4 ≤ sectors) [ true ↦ omega arith | false ↦ omega arith ]

pub zeros_begin : (v : ℕ) (d : Option Disk) → Making (zero_prepares v) (calls_from zero_call (prepare_place v 0) (prepares_end v)) d d
unfolding calls_from
zeros_begin v d = let count : prepares_end v - prepare_place v 0 ≡ SLOTS * prepare_sectors v = omega arith in record { goes = λ e ok h. rw count at h }

pub zeros_go : (end i : ℕ) (b : List ℕ) (cs : List Call) (d d' d'' : Option Disk) → i < end → b ≡ zero_sector → Making cs (calls_from zero_call i end) d d' → Runs (Write i b ∷ []) d' d'' true → Making cs (calls_from zero_call (i + 1) end) d d''
zeros_go end i b cs d d' d'' l e m one = making_goes zero_call i end cs d d' d'' l m (rw e at one)

pub zeros_stop : (end i : ℕ) (b : List ℕ) (cs : List Call) (d d' d'' : Option Disk) → i < end → b ≡ zero_sector → Making cs (calls_from zero_call i end) d d' → Runs (Write i b ∷ []) d' d'' false → Runs cs d d'' false
zeros_stop end i b cs d d' d'' l e m one = making_stops zero_call i end cs d d' d'' l m (rw e at one)

pub zeros_end : (end i : ℕ) (cs : List Call) (d d' : Option Disk) → end ≤ i → Making cs (calls_from zero_call i end) d d' → Runs cs d d' true
zeros_end end i cs d d' l m = making_ends zero_call i end cs d d' l m

-- ---- headers

pub headers_begin : (v cluster : ℕ) (d : Option Disk) → Making (reserved_headers v cluster) (calls_from (reserved_call v cluster) 0 SLOTS) d d
unfolding calls_from
headers_begin v cluster d = record { goes = λ e ok h. h }

pub headers_go : (v cluster i : ℕ) (cs : List Call) (d d' d'' : Option Disk) → i < SLOTS → Making cs (calls_from (reserved_call v cluster) i SLOTS) d d' → Runs (reserved_call v cluster i ∷ []) d' d'' true → Making cs (calls_from (reserved_call v cluster) (i + 1) SLOTS) d d''
headers_go v cluster i cs d d' d'' l m one = making_goes (reserved_call v cluster) i SLOTS cs d d' d'' l m one

pub headers_stop : (v cluster i : ℕ) (cs : List Call) (d d' d'' : Option Disk) → i < SLOTS → Making cs (calls_from (reserved_call v cluster) i SLOTS) d d' → Runs (reserved_call v cluster i ∷ []) d' d'' false → Runs cs d d'' false
headers_stop v cluster i cs d d' d'' l m one = making_stops (reserved_call v cluster) i SLOTS cs d d' d'' l m one

pub headers_end : (v cluster i : ℕ) (cs : List Call) (d d' : Option Disk) → SLOTS ≤ i → Making cs (calls_from (reserved_call v cluster) i SLOTS) d d' → Runs cs d d' true
headers_end v cluster i cs d d' l m = making_ends (reserved_call v cluster) i SLOTS cs d d' l m

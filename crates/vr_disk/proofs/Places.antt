-- The regions of a data file lie apart, whatever its version.
use Rattle.std.proofs.Common.{ℕ, ◌+◌, ◌*◌, ◌-◌, ◌≤◌, ◌<◌, ◌⊎◌, inl, inr, true, false, cond, eqb, arith}
use Rattle.std.proofs.lemmas.Bool.{cases_lt, lt-ltb, le-ltb}
use Rattle.vr_disk.specs.Regions.{block_place, header_place, prepare_place, prepare_sectors, sectors}

-- a prepare has four sectors or eight, after all headers
pub counted : (v : ℕ) → (4 ≤ prepare_sectors v) × (prepare_sectors v ≤ 8)
counted v = elim (eqb v 2) as (λ t. (4 ≤ cond t 8 4) × (cond t 8 4 ≤ 8)) [ true ↦ (omega arith, omega arith) | false ↦ (omega arith, omega arith) ]

pub behind_header : (v slot : ℕ) → header_place slot < prepare_place v slot
behind_header v slot = elim (eqb v 2) as (λ t. header_place slot < cond t (1424 + 8 * slot) (144 + 4 * slot)) [ true ↦ omega arith | false ↦ omega arith ]

pub behind_headers : (v slot : ℕ) → 144 ≤ prepare_place v slot
behind_headers v slot = elim (eqb v 2) as (λ t. 144 ≤ cond t (1424 + 8 * slot) (144 + 4 * slot)) [ true ↦ omega arith | false ↦ omega arith ]

pub inside : (v slot : ℕ) → slot < 64 → prepare_place v slot + prepare_sectors v ≤ sectors
inside v slot l =
    elim (eqb v 2) as (λ t. cond t (1424 + 8 * slot) (144 + 4 * slot) + cond t 8 4 ≤ sectors) [ true ↦ omega arith | false ↦ omega arith ]

-- a later slot lies after
pub in_order : (v s slot : ℕ) → s < slot → prepare_place v s + prepare_sectors v ≤ prepare_place v slot
in_order v s slot l =
    elim (eqb v 2) as (λ t. cond t (1424 + 8 * s) (144 + 4 * s) + cond t 8 4 ≤ cond t (1424 + 8 * slot) (144 + 4 * slot)) [ true ↦ omega arith | false ↦ omega arith ]

-- the prepares of version 1 are no sectors of version 2's
pub versions_apart : (s slot : ℕ) → s < 64 → prepare_place 1 s + prepare_sectors 1 ≤ prepare_place 2 slot
versions_apart s slot l = omega arith

-- no block of the grid is a part of a prepare, of either version
pub grid_apart : (v slot address : ℕ) → slot < 64
    → (prepare_place v slot + prepare_sectors v ≤ block_place address) ⊎ (block_place address + 8 ≤ prepare_place v slot)
grid_apart v slot address l =
    elim (cases_lt address 128) [
      | inl low ↦ rw (lt-ltb address 128 low)
          (elim (eqb v 2) as (λ t. (cond t (1424 + 8 * slot) (144 + 4 * slot) + cond t 8 4 ≤ 400 + 8 * address) ⊎ (400 + 8 * address + 8 ≤ cond t (1424 + 8 * slot) (144 + 4 * slot))) [ true ↦ inr (omega arith) | false ↦ inl (omega arith) ])
      | inr high ↦ rw (le-ltb address 128 high)
          (inl (elim (eqb v 2) as (λ t. cond t (1424 + 8 * slot) (144 + 4 * slot) + cond t 8 4 ≤ 1936 + 8 * (address - 128)) [ true ↦ omega arith | false ↦ omega arith ]))
    ]

-- A region of a file and the sectors of an effect are the same or lie apart.
use Rattle.std.proofs.Common.{ℕ, ◌+◌, ◌*◌, ◌≤◌, ◌<◌, ◌≡◌, inl, inr, arith, refl, ap, sym, true}
use Rattle.std.specs.Prelude.{nat_lt}
use Rattle.std.proofs.lemmas.Bool.{cases_eq, cases_lt, lt-ltb, le-ltb}
use Rattle.vr_disk.specs.Regions.{block_place, header_place, prepare_place, prepare_sectors, sectors}
use Rattle.vr_disk.proofs.Places.{behind_headers, grid_apart, in_order, inside}
use Rattle.vr_rules.proofs.FitDisks.{grid_behind}
use Rattle.law_damage.specs.Alike.{Region, Copy, Header, Prepare, Block, IsRegion, count, place}

-- so many sectors from one on are those of a region, or lie before or after it
pub data Fits (v low n : ℕ) (r : Region) : Type 0 where
  own : place v r ≡ low → count v r ≡ n → Fits v low n r
  before : low + n ≤ place v r → Fits v low n r
  behind : place v r + count v r ≤ low → Fits v low n r

pub copies_fit : (v c : ℕ) (r : Region) → c < 4 → IsRegion r → Fits v (20 * c) 20 r
copies_fit v c (Copy d) l m =
    elim (cases_lt c d) [
      | inl less ↦ before (omega arith)
      | inr more ↦ elim (cases_eq c d) [ inl e ↦ own (omega arith) refl | inr n ↦ behind (omega arith) ]
    ]
copies_fit v c (Header s) l m = before (omega arith)
copies_fit v c (Prepare s) l m = let b = behind_headers v s in before (omega (arith, b))
copies_fit v c (Block a) l m = let b = grid_behind a in before (omega (arith, b))

pub headers_fit : (v s : ℕ) (r : Region) → s < 64 → IsRegion r → Fits v (header_place s) 1 r
headers_fit v s (Copy d) l m = behind (omega arith)
headers_fit v s (Header t) l m =
    elim (cases_lt s t) [
      | inl less ↦ before (omega arith)
      | inr more ↦ elim (cases_eq s t) [ inl e ↦ own (omega arith) refl | inr n ↦ behind (omega arith) ]
    ]
headers_fit v s (Prepare t) l m = let b = behind_headers v t in before (omega (arith, b))
headers_fit v s (Block a) l m = let b = grid_behind a in before (omega (arith, b))

pub prepares_fit : (v s : ℕ) (r : Region) → s < 64 → IsRegion r → Fits v (prepare_place v s) (prepare_sectors v) r
prepares_fit v s (Copy d) l m = let b = behind_headers v s in behind (omega (arith, b))
prepares_fit v s (Header t) l m = let b = behind_headers v s in behind (omega (arith, b))
prepares_fit v s (Prepare t) l m =
    elim (cases_lt s t) [
      | inl less ↦ before (in_order v s t less)
      | inr more ↦ elim (cases_eq s t) [ inl e ↦ own (ap (λ x. prepare_place v x) (sym e)) refl | inr n ↦ behind (in_order v t s (omega arith)) ]
    ]
prepares_fit v s (Block a) l m = elim (grid_apart v s a l) [ inl x ↦ before x | inr x ↦ behind x ]

blocks_in_order : (a b : ℕ) → a < b → block_place a + 8 ≤ block_place b
blocks_in_order a b l =
    elim (cases_lt b 128) [
      | inl low ↦ let x : nat_lt a 128 ≡ true = lt-ltb a 128 (omega arith) in rw (x, lt-ltb b 128 low) (omega arith)
      | inr high ↦
          elim (cases_lt a 128) [
            | inl low ↦ rw (lt-ltb a 128 low, le-ltb b 128 high) (omega arith)
            | inr up ↦ rw (le-ltb a 128 up, le-ltb b 128 high) (omega arith)
          ]
    ]

pub blocks_fit : (v a : ℕ) (r : Region) → IsRegion r → Fits v (block_place a) 8 r
blocks_fit v a (Copy d) m = let b = grid_behind a in behind (omega (arith, b))
blocks_fit v a (Header t) m = let b = grid_behind a in behind (omega (arith, b))
blocks_fit v a (Prepare t) m = elim (grid_apart v t a m) [ inl x ↦ behind x | inr x ↦ before x ]
blocks_fit v a (Block b) m =
    elim (cases_lt a b) [
      | inl less ↦ before (blocks_in_order a b less)
      | inr more ↦ elim (cases_eq a b) [ inl e ↦ own (ap (λ x. block_place x) (sym e)) refl | inr n ↦ behind (blocks_in_order b a (omega arith)) ]
    ]

-- all regions are of the disk
pub region_inside : (v : ℕ) (r : Region) → IsRegion r → place v r + count v r ≤ sectors
region_inside v (Copy c) m = omega arith
region_inside v (Header s) m = omega arith
region_inside v (Prepare s) m = inside v s m
region_inside v (Block a) m =
    elim (cases_lt a 128) [
      | inl low ↦ rw (lt-ltb a 128 low) (omega arith)
      | inr high ↦ rw (le-ltb a 128 high) (omega arith)
    ]

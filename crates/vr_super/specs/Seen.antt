-- A copy that was read, as its bytes where it is good.
use Rattle.std.specs.Prelude.{◌≡◌, ℕ, true, if◌then◌else◌, List, ◌∷◌, ◌++◌, length, take, Option, Some, None, IfSome, is_some}
use Rattle.vr_disk.specs.DiskState.{Disk}
use Rattle.vr_super.specs.declared.reading.Reading.{Reading}
use Rattle.vr_super.specs.Copies.{value_of}
use Rattle.vr_super.specs.Opens.{good_copy}

abbrev pub seen : Reading → Option (List ℕ)
seen r = if r.good then Some r.bytes else None

-- what is said to be good is good, and what was read whole was judged
pub record IsHonest (r : Reading) : Type 0 where
  pub good : r.good ≡ true → is_some (value_of r.bytes) ≡ true
  pub judged : r.whole ≡ true → r.good ≡ is_some (value_of r.bytes)

-- a copy was read in its place, after those before it
pub record IsRead (copy : ℕ) (t : Option Disk) (old new : List Reading) : Type 0 where
  pub reading : Reading
  pub others : List Reading
  pub size : length new ≡ length old
  pub place : new ≡ take copy old ++ reading ∷ others
  pub honest : IsHonest reading
  pub value : IfSome t (λ d. seen reading ≡ good_copy d.face copy)

-- What is asked of a schedule: its lines, that names don't collide, and that it isn't too long.
use Rattle.std.specs.Prelude.{ℕ, zero, suc, ◌+◌, ◌^◌, ◌<◌, ◌≡◌, ◌⊎◌, List, [], ◌∷◌, length, Contains, slice_get, Some}
use Rattle.std.specs.List.{AllByRecursion}
use Rattle.vr_header.specs.declared.header.Header.{Header}
use Rattle.vr_header.specs.Names.{root_header}
use Rattle.vr_header.specs.NoCollision.{NoCollision}
use Rattle.vr_header.specs.Spelling.{named_bytes}
use Rattle.vr_msg.specs.declared.output.Sent.{Sent}
use Rattle.vr_rules.specs.Steps.{Effect}
use Rattle.vr_world.specs.Group.{Played}
use Rattle.vr_world.specs.Lying.{Lying, hazards}
use Rattle.vr_world.specs.Safe as safe
use Rattle.vr_world.specs.Safe.{IsRead, IsWritten}
use Rattle.vr_world.specs.World.{World, Host, Happening, happens}
use Rattle.law_4_disks.specs.Stocks.{IsGiven}
use Rattle.law_4_disks.specs.Worlds.{IsHashedAt, IsLine, begun_in, read_in}
use Rattle.law_5_seals.specs.Seals.{HasSectors, IsSealed}
use Rattle.law_6_one_log.specs.Bridged.{IsSealedBlock}

-- ---- a world none of whose sectors is forged, for the group of this number

-- of the sectors of each disk, and of each block that was sent
pub record IsSealedWorld (cluster : ℕ) (w : World Lying) (made : List Header) : Type 0 where
  pub disks : (i : ℕ) (m : Host Lying) → slice_get w.members i ≡ Some m → HasSectors (IsSealed cluster made) m.disk.face
  pub sent : (number : ℕ) (s : Sent) → slice_get w.sent number ≡ Some s → IsGiven (IsSealedBlock cluster made) s.message

-- ---- what is asked of a schedule

-- fewer moves than this leave each log below the ops whose headers sessions could spell
abbrev pub room : ℕ → ℕ
room zero = 2 ^ 60
room (suc cluster) = 2 ^ 47

-- what a line's work hashes: of what its disk reads as, and of the effects that are begun
abbrev pub IsUsedAt : World Lying → Happening → List ℕ → Type 0
IsUsedAt w x bytes = ((d : Lying) × Contains (read_in w x) d × IsRead d bytes) ⊎ ((e : Effect) × Contains (begun_in w x) e × IsWritten e bytes)

-- names don't collide, of what was read, held and written in any line, and of the root of the group's log
abbrev pub IsHashedOf : ℕ → World Lying → List Happening → List ℕ → Type 0
IsHashedOf cluster w [] bytes = bytes ≡ named_bytes (root_header cluster)
IsHashedOf cluster w (x ∷ xs) bytes = (IsHashedAt w x bytes ⊎ IsUsedAt w x bytes) ⊎ IsHashedOf cluster (happens hazards w x).world xs bytes

-- of the group that a schedule begins
abbrev pub IsHashed : World Lying → List Happening → List ℕ → Type 0
IsHashed = IsHashedOf 0

-- of a schedule
pub record MayAll (w : World Lying) (xs : List Happening) : Type 0 where
  pub lines : AllByRecursion IsLine xs
  pub names : NoCollision (IsHashed w xs)

-- of one line, after a run that led to its world
pub record MayHappen (cluster : ℕ) (past : List Played) (w : World Lying) (x : Happening) : Type 0 where
  pub line : IsLine x
  pub names : NoCollision (λ bytes. safe.IsHashed past (root_header cluster) bytes ⊎ (IsHashedAt w x bytes ⊎ IsUsedAt w x bytes))
  pub few : length past < room cluster

-- and of lines after such a run
pub record MayFollow (cluster : ℕ) (past : List Played) (w : World Lying) (xs : List Happening) : Type 0 where
  pub lines : AllByRecursion IsLine xs
  pub names : NoCollision (λ bytes. safe.IsHashed past (root_header cluster) bytes ⊎ IsHashedOf cluster w xs bytes)
  pub few : length past + length xs < room cluster

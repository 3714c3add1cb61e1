-- The migration of a file on a disk that lies within its premise: whole, and cut at any of its calls by any code.
use Rattle.std.specs.Prelude.{ℕ, ◌+◌, ◌<◌, ◌≤◌, ◌≡◌, ◌⊎◌, [], length, Some}
use Rattle.vr_disk.specs.DiskState.{Face, IsFace}
use Rattle.vr_header.specs.NoCollision.{NoCollision}
use Rattle.vr_super.specs.Calls.{mend_calls}
use Rattle.vr_super.specs.Copies.{SuperValue}
use Rattle.vr_super.specs.Laws.{AllRead}
use Rattle.vr_super.specs.Opens.{opens}
use Rattle.vr_rings.specs.Held.{Stands}
use Rattle.vr_lie.specs.Faults.{held_at}
use Rattle.vr_world.specs.Lying.{Lying, after_calls, cut_calls, settled}
use Rattle.vr_rules.specs.Migrating.{migrated, migration_calls, slot_calls}
use Rattle.law_4_disks.specs.Beside.{IsCalm}
use Rattle.law_4_disks.specs.Naming.{IsHashedMigrating, mended_on}

-- a file of version 1 with this value: nothing waits, and the premise of each slot stands
pub record MayMigrate (v : SuperValue) (d : Lying) : Type 0 where
  pub calm : IsCalm v.fields.mode d
  pub opens : opens d.face ≡ Some v
  pub version : d.version ≡ v.fields.version
  pub first : v.fields.version ≡ 1

-- The file of this value, each slot of which holds what it held on another disk. Nothing waits; the premise of each slot stands at its place in a file
-- of the value's version, and it still stands at its place in one of version 1.
pub record HoldsAs (d : Lying) (v : SuperValue) (x : Lying) : Type 0 where
  pub calm : IsCalm v.fields.mode x
  pub opens : opens x.face ≡ Some v
  pub version : x.version ≡ v.fields.version
  pub held : (slot : ℕ) → slot < 64 → held_at x.held slot ≡ held_at d.held slot
  pub old : (slot : ℕ) → slot < 64 → Stands 1 v.fields.mode x.face slot (held_at d.held slot)

-- so many calls come before the first that saves the new value
abbrev pub before_saving : SuperValue → Lying → ℕ
before_saving v d = length (mend_calls v d.face) + length (slot_calls (mended_on v d).face)

-- In the end it is the file of the new value. Cut at any call, by any code, it is that of the old one, or, from the saving on, that of the new one: as
-- long as no two of the texts that were read, held and written where it was cut have one name.
pub record KeepsSlots (v : SuperValue) (d : Lying) : Type 0 where
  pub done : HoldsAs d (migrated v) (settled (after_calls d (migration_calls v d.face)))
  pub stopped : (j code : ℕ) → j < length (migration_calls v d.face) → NoCollision (IsHashedMigrating v d j code)
      → HoldsAs d v (settled (cut_calls j code d (migration_calls v d.face))) ⊎ ((before_saving v d ≤ j) × HoldsAs d (migrated v) (settled (cut_calls j code d (migration_calls v d.face))))

abbrev pub MigrationsKeepSlots : Type 0
MigrationsKeepSlots = (v : SuperValue) (d : Lying) → MayMigrate v d → KeepsSlots v d

-- 512 sectors of prepares and a sync, and then the new value, in 84 calls; before them what mends the old one, which is nothing where all four copies
-- read as it
pub record AreCounted (v : SuperValue) (f : Face) : Type 0 where
  pub all : length (migration_calls v f) ≡ length (mend_calls v f) + 597
  pub mended : AllRead f v → length (migration_calls v f) ≡ 597

abbrev pub MigrationsAreCounted : Type 0
MigrationsAreCounted = (v : SuperValue) (f : Face) → IsFace f → f.waiting ≡ [] → opens f ≡ Some v → v.fields.version ≡ 1 → AreCounted v f

-- What tells prepares and copies apart: names that don't collide, of what was read, held and written where a script was cut.
use Rattle.vr_rules.specs.Migrating.{migrated, slot_calls}
use Rattle.vr_super.specs.Calls.{mend_calls}
use Rattle.std.specs.Prelude.{ℕ, suc, ◌-◌, ◌≤◌, ◌<◌, ◌≡◌, ◌⊎◌, Bool, List, [], ◌∷◌, Some, drop, length, take, ◌+◌}
use Rattle.vr_disk.specs.DiskState as disk
use Rattle.vr_disk.specs.DiskState.{Face, IsFace}
use Rattle.vr_header.specs.Bodies.{operation_bytes}
use Rattle.vr_header.specs.Made.{Whole}
use Rattle.vr_header.specs.NoCollision.{NoCollision}
use Rattle.vr_super.specs.Copies.{SuperValue, named_bytes}
use Rattle.vr_super.specs.Laws.{TellsApart}
use Rattle.vr_super.specs.Opens.{copy_reading}
use Rattle.vr_rings.specs.Laws.{TellsPrepare}
use Rattle.vr_rings.specs.Slots.{IsWhole, prepare_bytes, whole_in}
use Rattle.vr_lie.specs.declared.fault.Fault.{Fault}
use Rattle.vr_lie.specs.Faults.{faulted, held_at}
use Rattle.vr_rules.specs.Steps.{Effect, Mend, Save, Write}
use Rattle.vr_rules.specs.Sectors.{calls_by}
use Rattle.vr_world.specs.Lying.{Lying, lying, after_calls}
use Rattle.law_4_disks.specs.Beside.{IsInPlay}

-- the bytes of the operation of an entry that reads on this face, of a file of a version
abbrev pub IsReadOperation : ℕ → Face → List ℕ → Type 0
IsReadOperation v g bytes = (slot : ℕ) × (x : Whole) × (slot < 64) × (whole_in v g slot ≡ Some x) × (bytes ≡ operation_bytes x.operation)

-- of an entry that a slot holds
abbrev pub IsHeldOperation : Lying → List ℕ → Type 0
IsHeldOperation d bytes = (slot : ℕ) × (x : Whole) × (slot < 64) × IsWhole x × (held_at d.held slot ≡ Some (prepare_bytes x)) × (bytes ≡ operation_bytes x.operation)

-- the text of a copy that reads on this face, after its name
abbrev pub IsCopyText : Face → List ℕ → Type 0
IsCopyText g text = (copy : ℕ) × (bytes : List ℕ) × (copy < 4) × (copy_reading g copy ≡ Some bytes) × (text ≡ drop 16 bytes)

-- ---- what they tell

abbrev pub IsNear : ℕ → Face → Whole → List ℕ → Type 0
IsNear v g e bytes = IsReadOperation v g bytes ⊎ (bytes ≡ operation_bytes e.operation)

abbrev pub NamesTell : Type 0
NamesTell = (v : ℕ) (g : Face) (slot : ℕ) (e : Whole) → IsFace g → slot < 64 → IsWhole e → NoCollision (IsNear v g e) → TellsPrepare v g slot (prepare_bytes e)

-- two entries of one header are one
abbrev pub EntriesTell : Type 0
EntriesTell = (w e : Whole) → IsWhole w → IsWhole e → NoCollision (λ b. (b ≡ operation_bytes w.operation) ⊎ (b ≡ operation_bytes e.operation)) → w.header ≡ e.header → w ≡ e

abbrev pub ValuesTell : Type 0
ValuesTell = (g : Face) (v : SuperValue) → NoCollision (λ b. IsCopyText g b ⊎ (b ≡ named_bytes v)) → TellsApart g v

-- ---- what was hashed where a script was cut

-- the faces that an effect comes through where it is cut, by a code, at the call that comes after so many others: after each call
-- up to that one, and as the cut leaves it
pub data IsMet (e : Effect) (d : Lying) (j code : ℕ) : Face → Type 0 where
  after : (k : ℕ) → k < suc j → IsMet e d j code (disk.after_all d.face (take (suc k) (calls_by d.version e d.face)))
  left : IsMet e d j code (disk.cut j code d.face (calls_by d.version e d.face))

-- what of these reads, what the slots held, and what the effect wrote
pub data IsHashedBy (e : Effect) (d : Lying) (j code : ℕ) (bytes : List ℕ) : Type 0 where
  reads : (g : Face) → IsMet e d j code g → IsReadOperation d.version g bytes → IsHashedBy e d j code bytes
  copies : (g : Face) → IsMet e d j code g → IsCopyText g bytes → IsHashedBy e d j code bytes
  held : IsHeldOperation d bytes → IsHashedBy e d j code bytes
  writes : (again : Bool) (x : Whole) → e ≡ Write again x → bytes ≡ operation_bytes x.operation → IsHashedBy e d j code bytes
  saves : (v : SuperValue) → IsInPlay e v → bytes ≡ named_bytes v → IsHashedBy e d j code bytes

-- of a script: by the effect in which the call comes
abbrev pub IsHashedIn : List Effect → Lying → ℕ → ℕ → List ℕ → Type 0
IsHashedIn [] d j code bytes = ⊥
IsHashedIn (e ∷ es) d j code bytes =
    ((j < length (calls_by d.version e d.face)) × IsHashedBy e d j code bytes) ⊎ ((length (calls_by d.version e d.face) ≤ j) × IsHashedIn es (lying.after d e) (j - length (calls_by d.version e d.face)) code bytes)

-- a disk with a file of this value, once it is mended, and once its prepares are written at their new places
abbrev pub mended_on : SuperValue → Lying → Lying
mended_on v d = after_calls d (mend_calls v d.face)

abbrev pub moved_on : SuperValue → Lying → Lying
moved_on v d = after_calls (mended_on v d) (slot_calls (mended_on v d).face)

-- of a migration of a file with this value: by its mending, or by the saving of the new value, on the disk that was mended and moved. No name is
-- in play while prepares are written at their new places.
abbrev pub IsHashedMigrating : SuperValue → Lying → ℕ → ℕ → List ℕ → Type 0
IsHashedMigrating v d j code bytes =
    ((j < length (mend_calls v d.face)) × IsHashedBy (Mend v) d j code bytes)
    ⊎ ((length (mend_calls v d.face) + length (slot_calls (mended_on v d).face) ≤ j)
    × IsHashedBy (Save v (migrated v)) (moved_on v d) (j - (length (mend_calls v d.face) + length (slot_calls (mended_on v d).face))) code bytes)

-- and by a fault: what then reads, and what the slots held
abbrev pub IsHashedAfter : Lying → Fault → List ℕ → Type 0
IsHashedAfter d fault bytes = IsReadOperation d.version (faulted d.face fault) bytes ⊎ IsHeldOperation d bytes

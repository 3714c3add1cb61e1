-- What a reading requires and leaves: the disk, the room and the answer.
use Rattle.std.specs.Prelude.{ℕ, ◌*◌, ◌≡◌, ◌≤◌, ◌↔◌, Bool, false, true, if◌then◌else◌, IsTrue, List, length, take, Option, None, Some, IfSome, Result, Err, IfOk, OnErr, is_ok}
use Rattle.std.specs.Option.{option_map}
use Rattle.std.specs.Result.{result_ok}
use Rattle.vr_base.specs.Bytes.{IsBytes}
use Rattle.vr_base.specs.declared.memory.NoMemory.{NoMemory}
use Rattle.vr_disk.specs.DiskState.{Face, reads}
use Rattle.vr_disk.specs.Regions.{prepare_place, prepare_sectors}
use Rattle.vr_disk.specs.declared.disk.SectorDisk as of_disk
use Rattle.vr_disk.specs.declared.fault.Faulty.{Faulty}
use Rattle.vr_header.specs.declared.header.Header.{Header}
use Rattle.vr_header.specs.Made.{Whole}
use Rattle.vr_rings.specs.Slots.{IsWhole, entry_for, header_in, is_blank, prepare_bytes, prepare_reading, size_at, whole_in, whole_of}
use Rattle.vr_rings.specs.declared.fault.NotWhole.{NotWhole}
use Rattle.vr_rings.specs.declared.fault.NotWhole.TheVariants.{Blank}

-- ---- bytes

-- the entry of this header, and the zeros of its prepare
pub record BeginsWith (h : Header) (buffer : List ℕ) : Type 0 where
  pub entry : Whole
  pub header : entry.header ≡ h
  pub bytes : take 4096 buffer ≡ prepare_bytes entry
  pub whole : IsWhole entry

-- what the slot's prepare reads as
abbrev pub Found : ℕ → Face → ℕ → List ℕ → Type 0
Found version f slot buffer = prepare_reading version f slot ≡ Some (take 4096 buffer)

-- the first sector of the slot's prepare reads as these bytes
abbrev pub Begins : ℕ → Face → ℕ → List ℕ → Type 0
Begins version f slot bytes = reads f (prepare_place version slot) ≡ Some bytes

-- the slot's prepare is neither a whole entry nor zeros
pub record IsNothing (version : ℕ) (f : Face) (slot : ℕ) : Type 0 where
  pub whole : whole_in version f slot ≡ None
  pub blank : is_blank version f slot ≡ false

-- room for the sectors of a prepare
abbrev pub HasRoom : ℕ → List ℕ → Type 0
HasRoom version bytes = length bytes ≡ 512 * prepare_sectors version

-- ---- calls: a reading leaves what the disk tells (`told`), and no write or sync of it fails (`faults`)

-- The disk was at most asked for names: it tells what it told, and no call of it failed.
pub record AsksNames {D : Type 0} (d : of_disk.Ghosts D) (disk disk' : D) : Type 0 where
  pub told : d.told disk' ≡ d.told disk
  pub faults : d.faults disk' ≡ d.faults disk
  pub reads : d.read_faults disk' ≡ d.read_faults disk

-- The first sector of the slot's prepare reads as these bytes, and tells that the entry ends in it.
pub record BeginsShort {D : Type 0} (d : of_disk.Ghosts D) (version slot : ℕ) (disk : D) (bytes : List ℕ) : Type 0 where
  pub first : IfSome (d.told disk) (λ t. Begins version t.face slot bytes)
  pub short : size_at bytes ≤ 512

-- The header that the slot's header sector reads as.
pub record ReadsHeader {D : Type 0} (d : of_disk.Ghosts D) (slot : ℕ) (disk disk' : D) (result : Option Header) : Type 0 where
  pub told : d.told disk' ≡ d.told disk
  pub faults : d.faults disk' ≡ d.faults disk
  pub value : IfSome (d.told disk) (λ t. result ≡ header_in t.face slot)

-- What the slot's prepare reads as: these are all its bytes, of which so many stand in the room. The answer is whether all its sectors were read.
pub record ReadsBytes {D : Type 0} (d : of_disk.Ghosts D) (version slot room : ℕ) (disk disk' : D) (to' all : List ℕ) (result : Bool) : Type 0 where
  pub told : d.told disk' ≡ d.told disk
  pub faults : d.faults disk' ≡ d.faults disk
  pub size : length to' ≡ room
  pub value : IfSome (d.told disk) (λ t. prepare_reading version t.face slot ≡ (if result then Some all else None))

-- The header of the whole entry that the slot's prepare reads as, with these bytes.
pub record Fetches {D : Type 0} (d : of_disk.Ghosts D) (version slot : ℕ) (disk disk' : D) (all : List ℕ) (result : Result Header NotWhole) : Type 0 where
  pub told : d.told disk' ≡ d.told disk
  pub faults : d.faults disk' ≡ d.faults disk
  pub each : IfOk result (λ _. IsBytes all)
  pub whole : IfOk result (λ h. option_map (λ e. e.header) (whole_of all) ≡ Some h)
  pub value : IfSome (d.told disk) (λ t. result_ok result ≡ option_map (λ e. e.header) (whole_in version t.face slot))
  pub blank : IfSome (d.told disk) (λ t. (result ≡ Err Blank) ↔ (is_blank version t.face slot ≡ true))
  pub bytes : IfSome (d.told disk) (λ t. IfOk result (λ h. prepare_reading version t.face slot ≡ Some all))

-- The header of the whole entry that the slot's prepare reads as, and the buffer begins with that entry, which was checked, whatever the disk
-- gave. Else the buffer is as it was.
pub record ReadsWhole {D : Type 0} (d : of_disk.Ghosts D) (version slot : ℕ) (disk disk' : D) (to to' : List ℕ) (result : Result Header NotWhole) : Type 0 where
  pub told : d.told disk' ≡ d.told disk
  pub faults : d.faults disk' ≡ d.faults disk
  pub value : IfSome (d.told disk) (λ t. result_ok result ≡ option_map (λ e. e.header) (whole_in version t.face slot))
  pub blank : IfSome (d.told disk) (λ t. (result ≡ Err Blank) ↔ (is_blank version t.face slot ≡ true))
  pub whole : IfOk result (λ h. BeginsWith h to')
  pub bytes : IfSome (d.told disk) (λ t. IfOk result (λ h. Found version t.face slot to'))
  pub kept : OnErr result (to' ≡ to)

-- The entry of this header, with which the buffer then begins: Ok exactly where the slot's prepare reads as it.
pub record ReadsPrepare {D : Type 0} (d : of_disk.Ghosts D) (version slot : ℕ) (h : Header) (disk disk' : D) (to to' : List ℕ) (result : Result (Unit {0}) Faulty) : Type 0 where
  pub told : d.told disk' ≡ d.told disk
  pub faults : d.faults disk' ≡ d.faults disk
  pub value : IfSome (d.told disk) (λ t. IsTrue (is_ok result) ↔ (option_map (λ e. e.header) (whole_in version t.face slot) ≡ Some h))
  pub whole : IfOk result (λ _. BeginsWith h to')
  pub bytes : IfSome (d.told disk) (λ t. IfOk result (λ _. Found version t.face slot to'))
  pub kept : OnErr result (to' ≡ to)

-- The entry of this header, where its slot has it: it was checked, whatever the disk gave.
pub record FindsEntry {D : Type 0} (d : of_disk.Ghosts D) (version : ℕ) (h : Header) (disk disk' : D) (result : Result (Option Whole) NoMemory) : Type 0 where
  pub told : d.told disk' ≡ d.told disk
  pub faults : d.faults disk' ≡ d.faults disk
  pub value : IfSome (d.told disk) (λ t. IfOk result (λ e. e ≡ entry_for version t.face h))
  pub whole : IfOk result (λ e. IfSome e (λ e. (e.header ≡ h) × IsWhole e))

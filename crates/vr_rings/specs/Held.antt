-- What a slot holds, and the premise on its readings. An entry is given by its prepare's bytes.
use Rattle.std.specs.Prelude.{ℕ, zero, suc, ◌+◌, ◌-◌, ◌*◌, ◌≡◌, ◌≢◌, Bool, true, ◌&&◌, ◌||◌, ◌==◌, nat_eq, nat_le, nat_lt, if◌then◌else◌, List, [], ◌∷◌, ◌++◌, take, replicate, Option, None, Some, is_some}
use Rattle.std.specs.Cmp.Lexicographic.{pointwise}
use Rattle.vr_base.specs.Bytes.{is_zeros, piece}
use Rattle.vr_base.specs.declared.mode.Mode.{Mode}
use Rattle.vr_base.specs.declared.mode.Mode.TheVariants.{Strict, Careful}
use Rattle.vr_disk.specs.DiskState.{Call, Write, Sync, Face, after, cut_at, digit_at}
use Rattle.vr_disk.specs.Regions.{header_place, prepare_place, prepare_sectors}
use Rattle.vr_disk.specs.Sectors.{has}
use Rattle.vr_rings.specs.Slots.{header_of, header_reading, prepare_reading, whole_of}

abbrev pub is_header_sector : List ℕ → Bool
is_header_sector bytes = is_some (header_of bytes)

abbrev pub is_prepare : List ℕ → Bool
is_prepare bytes = is_some (whole_of bytes)

-- the header sector of the entry with this prepare
unfoldable pub header_sector : List ℕ → List ℕ
header_sector prepare = take 128 prepare ++ replicate 384 0

-- the entry of a header sector and a prepare: both are its own
unfoldable pub entry_of_both : Option (List ℕ) → Option (List ℕ) → Option (List ℕ)
entry_of_both header None = None
entry_of_both header (Some prepare) = if has (header_sector prepare) header && is_prepare prepare then Some prepare else None

-- the entry that a slot reads as
abbrev pub entry_read : ℕ → Face → ℕ → Option (List ℕ)
entry_read version f slot = entry_of_both (header_reading f slot) (prepare_reading version f slot)

-- ---- what a slot holds

-- from the moment at which a slot reads as an entry it holds that entry
abbrev pub found : Option (List ℕ) → Option (List ℕ) → Option (List ℕ)
found (Some prepare) held = Some prepare
found None held = held

abbrev pub looked : ℕ → Face → ℕ → Option (List ℕ) → Option (List ℕ)
looked version f slot held = found (entry_read version f slot) held

-- one of the sectors of a slot's prepare
abbrev pub is_part : ℕ → ℕ → ℕ → Bool
is_part version slot i = nat_le (prepare_place version slot) i && nat_lt i (prepare_place version slot + prepare_sectors version)

-- it holds the entry until one of its sectors is written with other bytes than the entry's, or one of its prepare while the
-- header sector doesn't read as the entry's
unfoldable pub keeps : ℕ → Face → ℕ → ℕ → List ℕ → List ℕ → Bool
keeps version f slot i bytes prepare =
    if i == header_place slot then pointwise nat_eq bytes (header_sector prepare)
    else (if is_part version slot i then has (header_sector prepare) (header_reading f slot) && pointwise nat_eq bytes (piece (512 * (i - prepare_place version slot)) 512 prepare)
    else true)

abbrev pub kept : ℕ → Face → ℕ → ℕ → List ℕ → Option (List ℕ) → Option (List ℕ)
kept version f slot i bytes None = None
kept version f slot i bytes (Some prepare) = if keeps version f slot i bytes prepare then Some prepare else None

-- after a call
unfoldable pub held_after : ℕ → Face → Call → ℕ → Option (List ℕ) → Option (List ℕ)
held_after version f (Write i bytes) slot held = looked version (after f (Write i bytes)) slot (kept version f slot i bytes held)
held_after version f Sync slot held = held

-- after calls
unfoldable pub held_after_all : ℕ → Face → List Call → ℕ → Option (List ℕ) → Option (List ℕ)
held_after_all version f [] slot held = held
held_after_all version f (c ∷ cs) slot held = held_after_all version (after f c) cs slot (held_after version f c slot held)

-- the write that is cut counts as a write unless it leaves its sector as it was
abbrev pub held_begun : ℕ → ℕ → Face → Call → ℕ → Option (List ℕ) → Option (List ℕ)
held_begun version code f (Write i bytes) slot held = if digit_at code i (after f (Write i bytes)).waiting == 0 then held else held_after version f (Write i bytes) slot held
held_begun version code f Sync slot held = held

-- after a stop at a call
unfoldable pub held_cut_at : ℕ → ℕ → Face → Call → ℕ → Option (List ℕ) → Option (List ℕ)
held_cut_at version code f c slot held = looked version (cut_at code f c) slot (held_begun version code f c slot held)

-- after a stop at the call that comes after j others; past the last call nothing is cut
unfoldable pub held_cut : ℕ → ℕ → ℕ → Face → List Call → ℕ → Option (List ℕ) → Option (List ℕ)
held_cut version j code f [] slot held = held
held_cut version zero code f (c ∷ cs) slot held = held_cut_at version code f c slot held
held_cut version (suc j) code f (c ∷ cs) slot held = held_cut version j code (after f c) cs slot (held_after version f c slot held)

-- ---- the premise

-- What the prepare of a slot that holds an entry may read as, while its header sector reads as a valid header of something else: in a strict file as
-- the entry alone; in a careful one as no other entry, and not as zeros.
abbrev pub MayRead : Mode → List ℕ → Option (List ℕ) → Type 0
MayRead Strict prepare read = read ≡ Some prepare
MayRead Careful prepare read = (other : List ℕ) → read ≡ Some other → (is_prepare other || is_zeros other) ≡ true → other ≡ prepare

-- The premise of a slot, of which all laws of storage speak: where a slot holds an entry, and its header sector reads as a valid header of
-- something else, its prepare reads as it may. In an operator's words: once an entry was stored, its header sector may come back as an older one
-- only while its prepare is unharmed (strict), or only if its prepare doesn't come back as an older entry or as zeros at the same time (careful).
pub record Holds (version : ℕ) (mode : Mode) (f : Face) (slot : ℕ) (held : Option (List ℕ)) : Type 0 where
  pub prepare : (prepare header : List ℕ) → held ≡ Some prepare → header_reading f slot ≡ Some header → is_header_sector header ≡ true → header ≢ header_sector prepare → MayRead mode prepare (prepare_reading version f slot)

-- and what a slot reads as it holds; what it holds is whole
pub record Stands (version : ℕ) (mode : Mode) (f : Face) (slot : ℕ) (held : Option (List ℕ)) : Type 0 where
  pub seen : (prepare : List ℕ) → entry_read version f slot ≡ Some prepare → held ≡ Some prepare
  pub holds : Holds version mode f slot held
  pub whole : (prepare : List ℕ) → held ≡ Some prepare → is_prepare prepare ≡ true

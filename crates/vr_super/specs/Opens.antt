-- The value that a disk opens as.
use Rattle.std.specs.Prelude.{ℕ, ◌+◌, ◌*◌, Bool, true, ◌&&◌, nat_le, nat_lt, if◌then◌else◌, List, [], ◌∷◌, Option, None, Some, is_some, count_by}
use Rattle.std.specs.Option.{option_and_then, option_map, option_map_or}
use Rattle.std.specs.Int.{w32, w64}
use Rattle.vr_base.specs.Bytes.{number}
use Rattle.vr_base.specs.declared.kind.Kind.{Kind}
use Rattle.vr_base.specs.declared.mode.Mode.{Mode}
use Rattle.vr_base.specs.declared.mode.Mode.TheVariants.{Strict}
use Rattle.vr_disk.specs.Sectors.{has, together}
use Rattle.vr_super.specs.declared.fields.Fields.{Fields}
use Rattle.vr_super.specs.declared.opening.Found.{Found}
use Rattle.vr_disk.specs.DiskState.{Face}
use Rattle.vr_super.specs.Copies.{SuperValue, mode_at, value_of, version_at}

unfoldable pub copy_reading : Face → ℕ → Option (List ℕ)
copy_reading f copy = together (20 * copy) 20 f

abbrev pub if_alike : Face → Option (List ℕ) → Option (List ℕ)
if_alike f None = None
if_alike f (Some bytes) =
    if has bytes (copy_reading f 1) && (has bytes (copy_reading f 2) && has bytes (copy_reading f 3)) then Some bytes else None

-- the bytes that all four copies read as, None where they differ or one can't be read
unfoldable pub alike : Face → Option (List ℕ)
alike f = if_alike f (copy_reading f 0)

abbrev pub if_good : Option (List ℕ) → Option (List ℕ)
if_good None = None
if_good (Some bytes) = if is_some (value_of bytes) then Some bytes else None

-- the bytes of a good copy, None where the copy is bad
unfoldable pub good_copy : Face → ℕ → Option (List ℕ)
good_copy f copy = if_good (copy_reading f copy)

-- four copies that are the same
abbrev pub four : Option (List ℕ) → List (Option (List ℕ))
four copy = copy ∷ copy ∷ copy ∷ copy ∷ []

abbrev pub good_copies : Face → List (Option (List ℕ))
good_copies f = good_copy f 0 ∷ good_copy f 1 ∷ good_copy f 2 ∷ good_copy f 3 ∷ []

-- two good copies have these bytes
abbrev pub agreed : List (Option (List ℕ)) → List ℕ → Bool
agreed copies bytes = nat_le 2 (count_by (has bytes) copies)

-- a greater sequence than that of the best so far
abbrev pub is_later : List ℕ → Option (List ℕ) → Bool
is_later bytes None = true
is_later bytes (Some best) = nat_lt (number w64 16 best) (number w64 16 bytes)

abbrev pub better : (List ℕ → Bool) → Option (List ℕ) → Option (List ℕ) → Option (List ℕ)
better test best None = best
better test best (Some bytes) = if test bytes && is_later bytes best then Some bytes else best

-- of the copies that pass the test, the one of the greatest sequence; of several such the first
unfoldable pub best_of : (List ℕ → Bool) → Option (List ℕ) → List (Option (List ℕ)) → Option (List ℕ)
best_of test best [] = best
best_of test best (c ∷ cs) = best_of test (better test best c) cs

-- the bytes of the greatest sequence on which two good copies agree; of two such, those of copy 0
unfoldable pub opened : List (Option (List ℕ)) → Option (List ℕ)
opened copies = best_of (agreed copies) None copies

-- the value that a disk opens as, None where no two good copies agree
unfoldable pub opens : Face → Option SuperValue
opens f = option_and_then value_of (opened (good_copies f))

-- the kind of the file that a value stands in
abbrev pub file_kind : Fields → Kind
file_kind fields = record { mode = fields.mode; version = fields.version }

-- how the slots of a file are judged: as the value says that it opens as; strictly where it opens as none
abbrev pub mode_in : Face → Mode
mode_in f = option_map_or (λ v. v.fields.mode) (opens f) Strict

-- the first of the copies that has these bytes
unfoldable pub place_of : List ℕ → List (Option (List ℕ)) → ℕ
place_of bytes [] = 0
place_of bytes (c ∷ cs) = if has bytes c then 0 else 1 + place_of bytes cs

abbrev pub found_as : List (Option (List ℕ)) → List ℕ → Found
found_as copies bytes = record { copy = place_of bytes copies; sequence = number w64 16 bytes; view = number w32 32 bytes; version = version_at bytes; mode = mode_at bytes }

-- the least copy of the value that opens, with its sequence, view, version and mode
unfoldable pub found_of : List (Option (List ℕ)) → Option Found
found_of copies = option_map (found_as copies) (opened copies)

-- A file of version 1 becomes one of version 2.
use Rattle.std.specs.Prelude.{◌+◌, ◌-◌, ◌==◌, ◌^◌, min, List, [], ◌++◌, if◌then◌else◌}
use Rattle.vr_disk.specs.DiskState.{Call, Face, after_all}
use Rattle.vr_super.specs.Calls.{mend_calls, write_calls}
use Rattle.vr_super.specs.Copies.{SuperValue}
use Rattle.vr_rings.specs.Moving.{move_calls, relocated}

-- the value that is saved in the end: all but the version and the sequence number stays
abbrev pub migrated : SuperValue → SuperValue
migrated v = record v { fields = record v.fields { version = 2; sequence = min (v.fields.sequence + 1) (2 ^ 64 - 1) } }

-- the calls that write each slot's prepare at its new place
abbrev pub slot_calls : Face → List Call
slot_calls f = move_calls (relocated f)

-- a file with this value is mended, its prepares are written at their new places, and then the value is saved; where it is of version 2 already,
-- it is mended alone
abbrev pub migration_calls : SuperValue → Face → List Call
migration_calls v f =
    let g = after_all f (mend_calls v f) in
    mend_calls v f ++ (if v.fields.version == 2 then [] else slot_calls g ++ write_calls v (migrated v) (after_all g (slot_calls g)))

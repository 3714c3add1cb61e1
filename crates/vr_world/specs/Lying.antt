-- The disk of a world: sectors that may lie, within the premise that what slots hold is never denied.
use Rattle.vr_rules.specs.Migrating.{migration_calls}
use Rattle.std.specs.Prelude.{ℕ, Bool, true, false, not, ◌&&◌, ◌||◌, nat_eq, List, [], length, map, replicate, Option, Some, None, is_some, if◌then◌else◌}
use Rattle.std.specs.List.{list_all, range_with_len}
use Rattle.std.specs.Option.{option_map_or}
use Rattle.std.specs.Cmp.Lexicographic.{pointwise}
use Rattle.vr_base.specs.Bytes.{name_of}
use Rattle.vr_base.specs.declared.mode.Mode.{Mode}
use Rattle.vr_ckpt.specs.Blocks.{named}
use Rattle.vr_ckpt.specs.Saves.{saved_checkpoint}
use Rattle.vr_disk.specs.DiskState as disk
use Rattle.vr_disk.specs.DiskState.{Call, Cell, Face}
use Rattle.vr_disk.specs.Regions.{sectors as disk_sectors}
use Rattle.vr_super.specs.Opens.{good_copies, mode_in, opened, opens}
use Rattle.vr_rings.specs.Held.{held_after_all, held_cut, looked}
use Rattle.vr_lie.specs.declared.fault.Fault.{Fault}
use Rattle.vr_lie.specs.Faults.{faulted, held_at}
use Rattle.vr_lie.specs.Table.{holds}
use Rattle.vr_rules.specs.Steps.{Setting}
use Rattle.vr_rules.specs.Formatting.{format_calls, zero_sector}
use Rattle.vr_rules.specs.Sectors.{calls_by, script_calls, sectors_by}
use Rattle.vr_world.specs.World.{Hazards}

-- sectors, the entry that each slot holds, by the bytes of its prepare, and the version of the file, by which the slots have their sectors
pub record Lying : Type 0 where
  pub face : Face
  pub held : List (Option (List ℕ))
  pub version : ℕ

abbrev pub each_slot : (ℕ → Option (List ℕ)) → List (Option (List ℕ))
each_slot f = map f (range_with_len 0 64)

-- ---- calls

abbrev pub after_calls : Lying → List Call → Lying
after_calls d cs = record {
  face = disk.after_all d.face cs;
  held = each_slot (λ slot. held_after_all d.version d.face cs slot (held_at d.held slot));
  version = d.version;
}

abbrev pub cut_calls : ℕ → ℕ → Lying → List Call → Lying
cut_calls j code d cs = record {
  face = disk.cut j code d.face cs;
  held = each_slot (λ slot. held_cut d.version j code d.face cs slot (held_at d.held slot));
  version = d.version;
}

-- ---- migrations

-- as a file of another version: what a slot reads as there it holds
abbrev pub in_edition : ℕ → Lying → Lying
in_edition v d = record { face = d.face; held = each_slot (λ slot. looked v d.face slot (held_at d.held slot)); version = v }

-- of the version of the value that it opens as; where it opens as none, of its own
abbrev pub settled : Lying → Lying
settled d = in_edition (option_map_or (λ v. v.fields.version) (opens d.face) d.version) d

-- ---- faults

abbrev pub same_value : Option (List ℕ) → Option (List ℕ) → Bool
same_value None None = true
same_value None (Some b) = false
same_value (Some a) None = false
same_value (Some a) (Some b) = pointwise nat_eq a b

-- where the premise held of a slot's entry, it still holds
abbrev pub still_holds : ℕ → Mode → Face → Face → ℕ → Option (List ℕ) → Bool
still_holds v mode f g slot held = option_map_or (λ prepare. not (holds v mode f slot prepare) || holds v mode g slot prepare) held true

-- the superblock opens as before, and the premise of each slot stands for what it held
unfoldable pub keeps_premise : Lying → Face → Bool
keeps_premise d g =
    same_value (opened (good_copies d.face)) (opened (good_copies g))
    && list_all (λ slot. still_holds d.version (mode_in d.face) d.face g slot (held_at d.held slot)) (range_with_len 0 64)

abbrev pub lied_to : Lying → Face → Lying
lied_to d g = record { face = g; held = each_slot (λ slot. looked d.version g slot (held_at d.held slot)); version = d.version }

unfoldable pub unless_kept_out : Lying → Fault → Option Lying
unless_kept_out d fault = if keeps_premise d (faulted d.face fault) then Some (lied_to d (faulted d.face fault)) else None

-- ---- a disk before anything was written to it

abbrev pub zero_cell : Cell
zero_cell = record { truth = zero_sector; reads = Some zero_sector; before = zero_sector }

abbrev pub zero_face : Face
zero_face = record { cells = replicate disk_sectors zero_cell; waiting = [] }

-- for a file of this version
abbrev pub blank_lying : ℕ → Lying
blank_lying v = record { face = zero_face; held = each_slot (λ slot. None); version = v }

-- ---- the disk of a world, which is read and written as its version has it

abbrev pub lying : Setting Lying
lying = record {
  hash = name_of;
  opens = λ d. (sectors_by d.version).opens d.face;
  header = λ d. (sectors_by d.version).header d.face;
  entry = λ d. (sectors_by d.version).entry d.face;
  is_blank = λ d. (sectors_by d.version).is_blank d.face;
  block = λ d. (sectors_by d.version).block d.face;
  is_block = λ name bytes. is_some (named name bytes);
  loaded = λ d. (sectors_by d.version).loaded d.face;
  save_state = saved_checkpoint;
  after = λ d e. after_calls d (calls_by d.version e d.face);
}

abbrev pub hazards : Hazards Lying
hazards = record {
  setting = lying;
  formatted = λ kind cluster n index. after_calls (blank_lying kind.version) (format_calls kind cluster n index);
  count = λ d script. length (script_calls d.version script d.face);
  cut = λ j code d script. cut_calls j code d (script_calls d.version script d.face);
  migration = λ v d. length (migration_calls v d.face);
  migrated = λ v d. settled (after_calls d (migration_calls v d.face));
  migration_cut = λ j code v d. settled (cut_calls j code d (migration_calls v d.face));
  faulted = unless_kept_out;
}

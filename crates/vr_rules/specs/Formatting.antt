-- The calls that make the data file of a new member.
use Rattle.std.specs.Prelude.{ℕ, ◌*◌, List, [], ◌∷◌, ◌++◌, map, replicate}
use Rattle.std.specs.List.{range_with_len}
use Rattle.vr_base.specs.Bytes.{name_of}
use Rattle.vr_base.specs.declared.kind.Kind.{Kind}
use Rattle.vr_disk.specs.DiskState.{Call, Write, Sync}
use Rattle.vr_disk.specs.Regions.{header_place, prepare_place, prepare_sectors}
use Rattle.vr_header.specs.declared.command.Command.TheVariants as command
use Rattle.vr_header.specs.declared.header.Header.{Header}
use Rattle.vr_header.specs.Names.{no_name}
use Rattle.vr_super.specs.Calls.{save_from}
use Rattle.vr_super.specs.Copies.{copy_bytes}
use Rattle.vr_rings.specs.Slots.{sector_of}
use Rattle.vr_rules.specs.Opening.{first_value}

abbrev pub zero_sector : List ℕ
zero_sector = replicate 512 0

-- the header of a slot that has no entry yet, in a file of a version
abbrev pub reserved_header : ℕ → ℕ → ℕ → Header
reserved_header v cluster slot = record {
  body = record { 0 = name_of [] };
  parent = no_name;
  request_name = no_name;
  cluster = cluster;
  client = 0;
  request = 0;
  view = 0;
  op = slot;
  commit = 0;
  size = 128;
  command = command.Reserved;
  replica = 0;
  version = v;
  kind = 0;
  aux = 0;
}

abbrev pub zero_prepares : ℕ → List Call
zero_prepares v = map (λ i. Write i zero_sector) (range_with_len (prepare_place v 0) (64 * prepare_sectors v))

abbrev pub reserved_headers : ℕ → ℕ → List Call
reserved_headers v cluster = map (λ slot. Write (header_place slot) (sector_of (reserved_header v cluster slot))) (range_with_len 0 64)

-- zeros to the prepares, reserved headers, one sync, and the four copies of the first value
unfoldable pub format_calls : Kind → ℕ → ℕ → ℕ → List Call
format_calls kind cluster n index =
    zero_prepares kind.version ++ reserved_headers kind.version cluster ++ Sync ∷ save_from 0 4 (copy_bytes (first_value kind cluster n index))

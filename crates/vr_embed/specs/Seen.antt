-- What a shelf tells.
use Rattle.std.specs.Vec.{vec_capacity}
use Rattle.std.specs.Option.{option_map}
use Rattle.std.specs.Prelude.{◌≡◌, ◌≤◌, Bool, true, ℕ, List, [], map, Option, Some, None, if◌then◌else◌}
use Rattle.vr_disk.specs.DiskState.{Cell, CallVerdict, Cuts, Face, Fails, Fate, Goes, IsFace, Waiting}
use Rattle.vr_disk.specs.Regions.{sectors}
use Rattle.vr_mem.specs.Seen.{once}
use Rattle.vr_embed.specs.declared.power.Power.{Power}
use Rattle.vr_embed.specs.declared.power.Judged.{Judged}
use Rattle.vr_embed.specs.declared.power.Judged.TheVariants as judged
use Rattle.vr_embed.specs.declared.sectors.Sectors.{Sectors}
use Rattle.vr_embed.specs.declared.sectors.Slot.{Slot}
use Rattle.vr_embed.specs.declared.sectors.Unsynced.{Unsynced}

-- honest: a sector reads as what it should hold
abbrev pub cell_of : Slot → Cell
cell_of s = record { truth = s.truth.bytes; reads = Some s.truth.bytes; before = s.before.bytes }

abbrev pub waiting_of : Unsynced → Waiting
waiting_of w = record { index = w.index; was = cell_of w.was }

abbrev pub face_of : Sectors → Face
face_of s = record { cells = map cell_of s.slots.items; waiting = map waiting_of s.unsynced.items }

-- all sectors, and room for each to wait
pub record AreSectors (s : Sectors) : Type 0 where
  pub face : IsFace (face_of s)
  pub once : once (face_of s).waiting ≡ true
  pub room : sectors ≤ vec_capacity s.unsynced

-- A loss of power is a fuse whose code takes back each sector that waits. No other call fails.
abbrev pub fate_of : Power → Fate
fate_of p = record { fuse = option_map (λ calls. record { calls = calls; code = 0 }) p.left; made = p.calls; failing = []; dead = p.failed }

abbrev pub verdict_of : Judged → CallVerdict
verdict_of judged.Goes = Goes
verdict_of judged.Fails = Fails
verdict_of judged.Cuts = Cuts 0

-- the name, once there is one
abbrev pub name_of : Bool → List ℕ → Option (List ℕ)
name_of is_attached name = if is_attached then Some name else None

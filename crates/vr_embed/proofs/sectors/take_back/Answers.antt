use Rattle.std.proofs.Common.{◌<◌, ◌∙◌, arith, length, length-set, sym, []}
use Rattle.vr_disk.specs.declared.sector.Sector.{Sector}
use Rattle.vr_embed.specs.declared.sectors.Slot.{Slot}
use Rattle.vr_embed.specs.declared.sectors.Unsynced.{Unsynced}
use Rattle.vr_embed.proofs.Shelves.{take_step}
use Rattle.vr_embed.proofs.sectors.take_back.Goals as goal

abbrev no_sector : Sector
no_sector = record { bytes = [] }

abbrev no_slot : Slot
no_slot = record { truth = no_sector; before = no_sector }

abbrev none : Unsynced
none = record { index = 0; was = no_slot }

pub loop-w-preserved : goal.loop-w-preserved
loop-w-preserved c =
    let ws = c.args.unsynced.now in
    let l : c.loop-w.w-index < length ws = omega arith in
    record {
      same = sym (take_step ws c.loop-w.w-index none c.loop-w.slots l) ∙ c.loop-w.invariant.same;
      len = length-set _ _ _ ∙ c.loop-w.invariant.len;
    }

use Rattle.std.proofs.Common.{rules}
use Rattle.vr_rings.proofs.Entries.{found_entry, found_none}
use Rattle.vr_rings.proofs.finding.find_entry.Goals as goal

pub returns-in-Err : goal.returns-in-Err
returns-in-Err g c =
    record {
      told = search rules;
      faults = search rules;
      value = found_none c.args.version c.args.header.now _ _ _ _ c.slot_of.ensures.value c.read_prepare.ensures.value c.in-Err.is;
      whole = search rules;
    }

pub returns-in_ok-entry_in-in-Ok : goal.returns-in_ok-entry_in-in-Ok
returns-in_ok-entry_in-in-Ok g c =
    record {
      told = search rules;
      faults = search rules;
      value = found_entry c.args.version c.args.header.now _ _ _ _ _ c.slot_of.ensures.value c.read_prepare.ensures.bytes c.in-Ok.is c.in_ok-entry_in-in-Ok.ensures.value c.in_ok-entry_in-in-Ok.ensures.whole.0;
      whole = search rules;
    }

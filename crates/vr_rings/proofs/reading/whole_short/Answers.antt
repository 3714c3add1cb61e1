use Rattle.std.proofs.Common.{◌≡◌, ◌≤◌, arith, length, rules}
use Rattle.vr_rings.specs.Slots.{in_front}
use Rattle.vr_rings.proofs.Fronts.{front_set, length_in_front}
use Rattle.vr_rings.proofs.Spelling.{begins, found_front}
use Rattle.vr_rings.proofs.reading.whole_short.Goals as goal

pub returns : goal.returns
returns g c =
    let b = c.args.first.now.bytes in
    let size : length b ≡ 512 = search rules in
    let few : length b ≤ 4096 = omega (arith, size) in
    record {
      told = search rules;
      faults = search rules;
      value = search rules;
      blank = search rules;
      whole = begins c.in_ok-header.header (in_front b) c.set_front.new.self c.in_ok-header.ensures.each (length_in_front b few) (front_set b c.set_front.new.self few c.set_front.ensures) c.in_ok-header.ensures.whole;
      bytes = found_front c.args.version (g.D.SectorDisk.told c.args.disk.now) c.args.slot (in_front b) c.set_front.new.self (front_set b c.set_front.new.self few c.set_front.ensures) c.in_ok-header.ensures.bytes;
      kept = search rules;
    }

use Rattle.std.proofs.Common.{◌≡◌, ◌≤◌, ◌∙◌, arith, length, rules, sym, subst}
use Rattle.vr_header.specs.declared.header.Header.{Header}
use Rattle.vr_header.specs.Same.{same_header}
use Rattle.vr_header.proofs.SameHeaders.{same_header_is}
use Rattle.vr_rings.specs.Readings.{BeginsWith}
use Rattle.vr_rings.specs.Slots.{in_front}
use Rattle.vr_rings.proofs.Fronts.{front_set, length_in_front}
use Rattle.vr_rings.proofs.Spelling.{begins, found_front, found_is}
use Rattle.vr_rings.proofs.reading.prepare_short.Goals as goal

pub returns-in-Ok : goal.returns-in-Ok
unfolding same_header
returns-in-Ok g c =
    let same = same_header_is c.in-Ok.found c.args.header.now (sym c.eq.ensures ∙ c.if-eq.true) in
    let b = c.args.first.now.bytes in
    let size : length b ≡ 512 = search rules in
    let few : length b ≤ 4096 = omega (arith, size) in
    record {
      told = search rules;
      faults = search rules;
      value = found_is c.args.version (g.D.SectorDisk.told c.args.disk.now) c.args.slot c.in-Ok.found c.args.header.now same c.in-Ok.ensures.value;
      whole = subst (λ (h : Header). BeginsWith h c.set_front.new.self) same (begins c.in-Ok.found (in_front b) c.set_front.new.self c.in-Ok.ensures.each (length_in_front b few) (front_set b c.set_front.new.self few c.set_front.ensures) c.in-Ok.ensures.whole);
      bytes = found_front c.args.version (g.D.SectorDisk.told c.args.disk.now) c.args.slot (in_front b) c.set_front.new.self (front_set b c.set_front.new.self few c.set_front.ensures) c.in-Ok.ensures.bytes;
      kept = search rules;
    }

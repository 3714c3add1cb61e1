use Rattle.std.proofs.Common.{◌*◌, ap, arith, length, sym, ◌∙◌}
use Rattle.vr_rings.specs.Slots.{sector_of}
use Rattle.vr_rings.proofs.Leaving.{new_leaves}
use Rattle.vr_rings.proofs.Fronts.{front_prepare}
use Rattle.vr_rings.proofs.Spelling.{front_again, front_header, is_room, length_front}
use Rattle.vr_rings.proofs.writing.new_over.Goals as goal

pub returns-in_err-put_header-clause-stop : goal.returns-in_err-put_header-clause-stop
returns-in_err-put_header-clause-stop g c = new_leaves c.args.version c.args.entry.now (g.D.SectorDisk.told c.args.disk.now) (g.met.D.SectorDisk.whole c.args.disk.now) c.put_prepare.ensures.whole c.requires.takes

pub returns-in_err-write_prepare-clause-stop : goal.returns-in_err-write_prepare-clause-stop
returns-in_err-write_prepare-clause-stop g c = new_leaves c.args.version c.args.entry.now (g.D.SectorDisk.told c.args.disk.now) (g.met.D.SectorDisk.whole c.args.disk.now) c.put_prepare.ensures.whole c.requires.takes

pub returns-clause-stop : goal.returns-clause-stop
returns-clause-stop g c = new_leaves c.args.version c.args.entry.now (g.D.SectorDisk.told c.args.disk.now) (g.met.D.SectorDisk.whole c.args.disk.now) c.put_prepare.ensures.whole c.requires.takes

pub put_prepare-requires-clause-zeros : goal.put_prepare-requires-clause-zeros
put_prepare-requires-clause-zeros g c = (is_room (512 * c.args.filled) c.args.bytes.now c.requires.zeros).zeros

pub put_prepare-requires-clause-least : goal.put_prepare-requires-clause-least
put_prepare-requires-clause-least g c =
    let n = (is_room (512 * c.args.filled) c.args.bytes.now c.requires.zeros).size in
    let l = c.requires.least in
    omega (arith, n, l)

pub put_prepare-requires-clause-most : goal.put_prepare-requires-clause-most
put_prepare-requires-clause-most g c =
    let n = (is_room (512 * c.args.filled) c.args.bytes.now c.requires.zeros).size in
    let l = c.requires.most in
    omega (arith, n, l)

pub note-requires-clause-bytes : goal.note-requires-clause-bytes
note-requires-clause-bytes g c =
    let n = (is_room (512 * c.args.filled) c.args.bytes.now c.requires.zeros).size in
    let l = c.requires.most in
    front_again (length c.args.bytes.now) c.args.entry.now c.put_prepare.new.to c.put_prepare.ensures.whole (omega (arith, n, l)) c.put_prepare.ensures.bytes

pub note-requires-clause-size : goal.note-requires-clause-size
note-requires-clause-size g c =
    let n = (is_room (512 * c.args.filled) c.args.bytes.now c.requires.zeros).size in
    let l = c.requires.most in
    let m = length_front (length c.args.bytes.now) c.args.entry.now c.put_prepare.new.to c.put_prepare.ensures.whole (omega (arith, n, l)) c.put_prepare.ensures.bytes in
    let s = c.put_prepare.ensures.size in
    omega (arith, m, s)

pub write_prepare-requires-clause-bytes : goal.write_prepare-requires-clause-bytes
write_prepare-requires-clause-bytes g c =
    let n = (is_room (512 * c.args.filled) c.args.bytes.now c.requires.zeros).size in
    let l = c.requires.most in
    front_prepare (length c.args.bytes.now) c.args.entry.now c.put_prepare.new.to c.put_prepare.ensures.whole c.put_prepare.ensures.size (omega (arith, n, l)) c.put_prepare.ensures.bytes

pub write_prepare-requires-clause-size : goal.write_prepare-requires-clause-size
write_prepare-requires-clause-size g c =
    let n = (is_room (512 * c.args.filled) c.args.bytes.now c.requires.zeros).size in
    let l = c.requires.most in
    length_front (length c.args.bytes.now) c.args.entry.now c.put_prepare.new.to c.put_prepare.ensures.whole (omega (arith, n, l)) c.put_prepare.ensures.bytes ∙ n

pub put_header-requires : goal.put_header-requires
put_header-requires g c =
    let n = (is_room (512 * c.args.filled) c.args.bytes.now c.requires.zeros).size in
    let l = c.requires.least in
    let h = c.put_prepare.ensures.whole.entry.header.size.0 in
    c.header_sector.ensures
    ∙ (front_header (length c.args.bytes.now) c.args.entry.now c.put_prepare.new.to c.put_prepare.ensures.whole.header (omega (arith, n, l, h)) c.put_prepare.ensures.bytes ∙ ap sector_of (sym c.header.ensures.value))

use Rattle.std.proofs.Common.{◌≡◌, ◌∙◌, refl, sym, ap, arith, get_or}
use Rattle.std.specs.Prelude.{map}
use Rattle.std.proofs.lemmas.List.{get_or-map, length-map, map-set}
use Rattle.vr_disk.specs.DiskState.{blank}
use Rattle.vr_embed.specs.Seen.{cell_of, waiting_of}
use Rattle.vr_embed.proofs.Shelves.{noted_seen, room_for, written_are}
use Rattle.vr_embed.proofs.sectors.Sectors.write.Goals as goal

pub note-requires : goal.note-requires
note-requires c absent =
    let l = room_for c.args.self.now c.args.index c.requires.whole c.requires.index absent in
    let same = length-map c.args.self.now.unsynced.items waiting_of in
    let room = c.requires.whole.room in omega arith

pub returns-clause-after : goal.returns-clause-after
returns-clause-after c =
    let was = c.index.result.now in
    let now : get_or (map cell_of c.args.self.now.slots.items) c.args.index blank ≡ cell_of was =
    get_or-map cell_of c.args.self.now.slots.items c.args.index was blank (let n = length-map c.args.self.now.slots.items cell_of in let m = c.requires.whole.face.count in let i = c.requires.index in omega arith) ∙ ap cell_of (sym c.index.ensures) in
    rw (now, c.note.ensures.items, noted_seen, c.written.ensures.slot, map-set) refl

pub returns-clause-whole : goal.returns-clause-whole
returns-clause-whole c =
    written_are c.args.self.now _ c.args.index c.args.from.now.bytes c.requires.whole c.requires.index c.written.ensures.content (returns-clause-after c)
    (let r = c.requires.whole.room in let l = c.note.ensures.capacity in omega arith)

use Rattle.std.proofs.Common.{◌∙◌, refl, sym, None}
use Rattle.vr_mem.specs.declared.room.MemWaiting.{MemWaiting}
use Rattle.vr_mem.specs.Seen.{room_of}
use Rattle.vr_mem.proofs.Waiting.{noted_again, noted_first}
use Rattle.vr_mem.proofs.waits.MemWaits.note.Goals as goal

pub returns-then-keep-clause-noted : goal.returns-then-keep-clause-noted
returns-then-keep-clause-noted c rooms now l r b o =
    noted_again c.args.self.now c.keep.new.self c.args.index rooms now (room_of c.args.room.now) (sym c.keep.ensures.found ∙ c.if-keep.true) (c.keep.ensures.keeps.same rooms now l r o)

pub returns-clause-noted : goal.returns-clause-noted
returns-clause-noted c rooms now l r b o =
    let room = c.args.room.now in
    let mid = c.keep.new.self in
    let w : MemWaiting = record { index = c.args.index; kept = None; reads = room.reads; truth_on = room.truth_on; before_on = room.before_on } in
    noted_first c.args.self.now mid (record { notes = c.push_reserved.new.self; kept = mid.kept }) c.args.index w rooms room now (sym c.keep.ensures.found ∙ c.if-keep.false) l (c.keep.ensures.keeps.same rooms now l r o) refl c.push_reserved.ensures.items refl refl refl refl refl b

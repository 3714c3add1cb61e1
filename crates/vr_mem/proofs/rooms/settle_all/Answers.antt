use Rattle.std.proofs.Common.{◌+◌, ◌≤◌, ◌/◌, ◌<◌, ◌≡◌, ap, drop, length, arith, sym, ◌∙◌, get_or, set, None}
use Rattle.std.proofs.lemmas.List.Elements.{All-get_or}
use Rattle.std.specs.Prelude.{map}
use Rattle.vr_disk.specs.DiskState.{settled}
use Rattle.vr_disk.specs.Regions.{sectors}
use Rattle.vr_mem.specs.declared.room.MemReads.TheVariants as reads
use Rattle.vr_mem.specs.declared.room.Shelf.TheVariants as shelf
use Rattle.vr_mem.specs.declared.room.MemWaiting.{MemWaiting}
use Rattle.vr_mem.proofs.Settling.{once_behind, settle_step}
use Rattle.vr_mem.proofs.Places.{length_rooms}
use Rattle.vr_mem.specs.Seen.{place_end, room_at, room_of, rooms_of, waiting_of}
use Rattle.vr_mem.proofs.rooms.settle_all.Goals as goal

abbrev no_waiting : MemWaiting
no_waiting = record { index = 0; kept = None; reads = reads.Truth; truth_on = shelf.One; before_on = shelf.One }

pub settle-requires-clause-at : goal.settle-requires-clause-at
settle-requires-clause-at c = All-get_or (λ (w : MemWaiting). w.index < sectors) c.args.waiting.now c.loop-w.w-index no_waiting (omega arith) c.requires.within

pub settle-requires-clause-kept : goal.settle-requires-clause-kept
settle-requires-clause-kept c = All-get_or (λ (w : MemWaiting). place_end w.kept ≤ length c.args.kept.now) c.args.waiting.now c.loop-w.w-index no_waiting (omega arith) c.requires.kept

pub loop-w-preserved : goal.loop-w-preserved
loop-w-preserved c =
    let ws = c.args.waiting.now in
    let i = c.loop-w.invariant in
    let l : c.loop-w.w-index < length ws = omega arith in
    let xs = rooms_of c.loop-w.rooms in
    let w = get_or ws c.loop-w.w-index no_waiting in
    let x = room_at c.settle.new.self w.index in
    let made : rooms_of c.settle.new.self ≡ set xs w.index x = c.settle.ensures.others in
    let within : w.index < length xs = (let n = length_rooms c.loop-w.rooms i.rooms in let b : w.index < sectors = All-get_or (λ (w : MemWaiting). w.index < sectors) ws c.loop-w.w-index no_waiting l c.requires.within in omega (arith, n, b)) in
    record {
      same = ap (λ ys. settled (c.loop-w.rest / 3) (waiting_of c.args.kept.now ys (drop (c.loop-w.w-index + 1) ws)) (map room_of ys)) made
          ∙ (sym (settle_step c.loop-w.rest c.args.kept.now ws c.loop-w.w-index no_waiting xs x l within i.once c.settle.ensures.settled) ∙ i.same);
      once = once_behind c.args.kept.now ws c.loop-w.w-index no_waiting xs _ l i.once;
      rooms = c.settle.ensures.rooms;
    }

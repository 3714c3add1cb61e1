use Rattle.std.proofs.Common.{◌<◌, ◌∙◌, length, arith, sym, None}
use Rattle.vr_mem.specs.declared.room.MemReads.TheVariants as reads
use Rattle.vr_mem.specs.declared.room.Shelf.TheVariants as shelf
use Rattle.vr_mem.specs.declared.room.MemWaiting.{MemWaiting}
use Rattle.std.proofs.lemmas.Bool.{eq-eqb, ne_eqb}
use Rattle.vr_mem.proofs.Settling.{digit_here, digit_later, digit_past}
use Rattle.vr_mem.proofs.waits.digit.Goals as goal

abbrev no_waiting : MemWaiting
no_waiting = record { index = 0; kept = None; reads = reads.Truth; truth_on = shelf.One; before_on = shelf.One }

pub loop-w-preserved : goal.loop-w-preserved
loop-w-preserved c kept rooms =
    let l : c.loop-w.w-index < length c.args.waiting.now = omega arith in
    sym (digit_later c.loop-w.rest c.args.index kept rooms c.args.waiting.now c.loop-w.w-index no_waiting l (ne_eqb _ _ c.if-w-index.false)) ∙ c.loop-w.invariant kept rooms

pub returns-then-w-index : goal.returns-then-w-index
returns-then-w-index c kept rooms =
    let l : c.loop-w.w-index < length c.args.waiting.now = omega arith in
    sym (digit_here c.loop-w.rest c.args.index kept rooms c.args.waiting.now c.loop-w.w-index no_waiting l (eq-eqb _ _ c.if-w-index.true)) ∙ c.loop-w.invariant kept rooms

pub returns : goal.returns
returns c kept rooms = sym (digit_past c.loop-w.rest c.args.index kept rooms c.args.waiting.now c.loop-w.w-index (omega arith)) ∙ c.loop-w.invariant kept rooms

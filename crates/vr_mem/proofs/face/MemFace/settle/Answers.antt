use Rattle.std.proofs.lemmas.Grind.{common_steps}
use Rattle.std.proofs.Common.{arith}
use Rattle.vr_mem.proofs.Settling.{settled_is, waits_below}
use Rattle.vr_mem.proofs.face.MemFace.settle.Goals as goal

pub settle_all-requires-clause-within : goal.settle_all-requires-clause-within
settle_all-requires-clause-within c = rw c.deref.ensures.value (waits_below _ _ _ _ c.requires.waiting)

pub settle_all-requires-clause-kept : goal.settle_all-requires-clause-kept
settle_all-requires-clause-kept c = rw (c.deref.ensures.value, c.deref-2.ensures.value) c.requires.waits.within

pub settle_all-requires-clause-once : goal.settle_all-requires-clause-once
settle_all-requires-clause-once c = rw (c.deref.ensures.value, c.deref-2.ensures.value) c.requires.once

pub returns-clause-after : goal.returns-clause-after
returns-clause-after c = grind (arith, common_steps)

pub returns-clause-face : goal.returns-clause-face
returns-clause-face c = settled_is _ c.clear.ensures.none c.settle_all.ensures.rooms c.clear.ensures.waits

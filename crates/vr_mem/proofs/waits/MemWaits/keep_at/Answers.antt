use Rattle.std.proofs.Common.{◌∷◌, ◌++◌, ◌∙◌, [], arith, ap, refl, sym}
use Rattle.vr_mem.specs.declared.room.MemKept.{MemKept}
use Rattle.vr_mem.proofs.Waiting.{keeps_now, keeps_there}
use Rattle.vr_mem.proofs.waits.MemWaits.keep_at.Goals as goal

pub returns-then-is_some-clause-keeps : goal.returns-then-is_some-clause-keeps
returns-then-is_some-clause-keeps c = keeps_there c.args.self.now c.args.index c.args.at c.index.result.now c.args.room.now c.requires.waits c.requires.found c.index.ensures (sym c.is_some.ensures ∙ c.if-is_some.true)

pub returns-clause-keeps : goal.returns-clause-keeps
returns-clause-keeps c =
    keeps_now c.args.self.now _ c.args.index c.args.at c.len-place.result c.index.result.now c.index_mut.result.now c.args.room.now c.requires.waits c.requires.found c.index.ensures c.index_mut.ensures.value (sym c.is_some.ensures ∙ c.if-is_some.false)
    (let n = c.len-place.ensures in omega arith) refl (c.push_reserved.ensures.items ∙ ap (λ (k : MemKept). c.args.self.now.kept.items ++ k ∷ []) c.copied.ensures)

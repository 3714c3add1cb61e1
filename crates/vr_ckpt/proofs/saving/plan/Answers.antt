use Rattle.std.proofs.Common.{arith}
use Rattle.std.proofs.lemmas.List.Elements.{All-push}
use Rattle.vr_ckpt.specs.Saves.{IsPlaced}
use Rattle.vr_ckpt.proofs.Planning.{keys_count, saved_is, sessions_count}
use Rattle.vr_ckpt.proofs.saving.plan.Goals as goal

pub root_block-requires-clause-sessions : goal.root_block-requires-clause-sessions
root_block-requires-clause-sessions c = sessions_count c.args.cluster c.args.texts.now c.args.op c.args.old.now c.in_ok-table.table c.in_ok-table.ensures.table

pub root_block-requires-clause-keys : goal.root_block-requires-clause-keys
root_block-requires-clause-keys c = keys_count c.args.cluster c.args.texts.now c.args.op c.args.old.now c.in_ok-table.table c.in_ok-table.ensures.table

pub returns-clause-saved : goal.returns-clause-saved
returns-clause-saved c = saved_is c.args.cluster c.args.texts.now c.args.op c.args.old.now c.in_ok-table.table c.in_ok-root.root c.in_ok-table.ensures.table c.in_ok-root.ensures.value

pub returns-clause-placed : goal.returns-clause-placed
returns-clause-placed c =
    rw c.in_ok-push.ensures.ok (All-push IsPlaced c.plan_table.new.blocks c.in_ok-root.root (c.in_ok-table.ensures.placed (rw c.requires.none (λ i d l. absurd (omega arith)))) c.in_ok-root.ensures.placed)

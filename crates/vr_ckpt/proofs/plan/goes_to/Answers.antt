use Rattle.std.proofs.Common.{◌∙◌, ap, refl, sym}
use Rattle.std.proofs.lemmas.List.Elements.{All-push}
use Rattle.vr_ckpt.specs.Blocks.{block_of}
use Rattle.vr_ckpt.specs.Saves.{IsPlaced}
use Rattle.vr_ckpt.proofs.Planning.{content_is, goes_block, goes_payload, placed_is}
use Rattle.vr_ckpt.proofs.plan.goes_to.Goals as goal

pub returns-clause-payload : goal.returns-clause-payload
returns-clause-payload c =
    goes_payload c.args.run c.args.address c.args.bytes.now c.from_vec.result c.in_ok-block.block (c.in_ok-block.ensures.value ∙ ap block_of (sym (content_is c.args.run c.args.address c.args.bytes.now)))
    (c.from_vec.ensures ∙ c.in_ok-copy.ensures.items)

pub returns-clause-blocks : goal.returns-clause-blocks
returns-clause-blocks c =
    goes_block c.args.run c.args.address c.args.bytes.now c.in_ok-block.block c.args.blocks.now c.push.new.self
    (c.in_ok-block.ensures.value ∙ ap block_of (sym (content_is c.args.run c.args.address c.args.bytes.now))) c.in_ok-push.ensures.ok

pub returns-clause-placed : goal.returns-clause-placed
returns-clause-placed c h =
    rw c.in_ok-push.ensures.ok (All-push IsPlaced c.args.blocks.now c.in_ok-block.block h
    (placed_is c.in_ok-block.block _ c.in_ok-block.ensures.value c.requires.address c.in_ok-block.ensures.size (c.in_ok-block.ensures.whole c.requires.address refl)))

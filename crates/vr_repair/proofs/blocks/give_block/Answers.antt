use Rattle.vr_repair.proofs.Rules.{block_read, block_unread}
use Rattle.vr_repair.proofs.blocks.give_block.Goals as goal

pub returns-in_ok-give_block-in-Some-clause-step :
    goal.returns-in_ok-give_block-in-Some-clause-step
returns-in_ok-give_block-in-Some-clause-step g c = block_read c.args.get.now _ _ _ _ _ c.in_ok-block.ensures.found c.asked_block.ensures _ _ _ c.in-Some.is c.in_ok-give_block-in-Some.ensures

pub returns-in-None-clause-step : goal.returns-in-None-clause-step
returns-in-None-clause-step g c = block_unread c.args.get.now _ _ _ _ _ c.in_ok-block.ensures.found c.asked_block.ensures _ c.in-None.is

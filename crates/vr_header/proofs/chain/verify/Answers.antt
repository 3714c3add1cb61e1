use Rattle.std.proofs.Common.{◌∙◌, sym}
use Rattle.vr_header.proofs.ChainLaws.{chain_more, breaks}
use Rattle.vr_header.proofs.chain.verify.Goals as goal

pub returns-then-ne : goal.returns-then-ne
returns-then-ne c = breaks _ _ _ _ _ c.loop-at.invariant c.loop-at-test.true c.index-headers-at.is (sym c.ne.ensures ∙ c.if-ne.true)

pub loop-at-preserved : goal.loop-at-preserved
loop-at-preserved c = chain_more _ _ _ _ _ _ c.loop-at.invariant c.loop-at-test.true c.index-headers-at.is (sym c.ne.ensures ∙ c.if-ne.false) c.name-before.ensures

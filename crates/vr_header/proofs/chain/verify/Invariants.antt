use Rattle.vr_header.proofs.ChainLaws.{ChainTo}
use Rattle.vr_header.proofs.chain.verify.Given as goal

abbrev pub invariant-loop-at : goal.invariant-loop-at
invariant-loop-at l = ChainTo l.anchor l.headers l.at l.before

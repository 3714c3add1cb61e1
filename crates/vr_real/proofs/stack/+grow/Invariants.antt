use Rattle.vr_real.proofs.stack.+grow.Given as goal

abbrev pub decreases-grow : goal.decreases-grow
decreases-grow l = l.pages

use Rattle.vr_actions.proofs.Acks.{Acking}
use Rattle.vr_actions.proofs.acknowledging.acknowledge_all.Given as goal

abbrev pub invariant-loop-i : goal.invariant-loop-i
invariant-loop-i l = Acking l.commit l.head l.i l.replica l.initial.out l.out

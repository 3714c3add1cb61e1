use Rattle.std.proofs.Common.{◌≡◌, ◌++◌}
use Rattle.vr_volatile.specs.Sends.{sends}
use Rattle.vr_volatile.proofs.replica.Replica.tell_others.Given as goal

abbrev pub invariant-loop-to : goal.invariant-loop-to
invariant-loop-to l = l.out ≡ l.initial.out ++ sends l.self.index l.to l.message

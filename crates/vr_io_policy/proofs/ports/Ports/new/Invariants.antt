use Rattle.std.proofs.Common.{◌≡◌, replicate}
use Rattle.vr_io_policy.specs.Senders.{never}
use Rattle.vr_io_policy.proofs.ports.Ports.new.Given as goal

abbrev pub invariant-loop : goal.invariant-loop
invariant-loop g l = l.others.items ≡ replicate l.counter never

use Rattle.std.proofs.Common.{◌≡◌, ◌+◌}
use Rattle.std.specs.List.{prefix_len}
use Rattle.vr_msg.specs.Choice.{ops}
use Rattle.vr_rules.specs.Replica.{head}
use Rattle.vr_rules.specs.Words.{has_quorum}
use Rattle.vr_volatile.proofs.replica.Replica.agreed.Given as goal

abbrev pub invariant-loop-op : goal.invariant-loop-op
invariant-loop-op l = record {
  at : l.agreed ≡ l.op;
  rest : l.op + prefix_len (has_quorum l.self) (ops l.op (head l.self)) ≡ l.self.commit + prefix_len (has_quorum l.self) (ops l.self.commit (head l.self));
}

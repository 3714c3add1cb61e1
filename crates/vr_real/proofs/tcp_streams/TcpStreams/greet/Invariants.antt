use Rattle.std.proofs.Common.{◌≡◌, vec_len}
use Rattle.vr_real.proofs.tcp_streams.TcpStreams.greet.Given as goal

abbrev pub invariant-loop-at : goal.invariant-loop-at
invariant-loop-at g l = (vec_len l.self.peers ≡ vec_len l.fn.self.peers) × (l.self.faults ≡ l.fn.self.faults) × (l.self.call_faults ≡ l.fn.self.call_faults)

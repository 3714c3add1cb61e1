use Rattle.std.proofs.Common.{◌≡◌, fold}
use Rattle.vr_state.specs.Sessions.{older, oldest}
use Rattle.vr_state.proofs.session_table.oldest.Given as goal

-- with what is left to look at the answer is the same
abbrev pub invariant-loop-client : goal.invariant-loop-client
invariant-loop-client l = fold (λ d e. older d e.0 e.1.op) l.found l.client-iterator ≡ oldest l.table.entries

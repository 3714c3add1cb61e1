use Rattle.std.proofs.Common.{◌≡◌, true, vec_len}
use Rattle.vr_edge.specs.Made.{are_made}
use Rattle.vr_edge.proofs.stock.Stock.new.Given as goal

abbrev pub invariant-loop-at : goal.invariant-loop-at
invariant-loop-at g l = (vec_len l.spare ≡ l._at) × (are_made l.most l.spare.items ≡ true)

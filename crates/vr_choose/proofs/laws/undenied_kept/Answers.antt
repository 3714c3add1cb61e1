use Rattle.std.proofs.Common.{arith, ◌≤◌, ◌+◌}
use Rattle.vr_base.specs.Count.{count}
use Rattle.vr_base.specs.declared.table.Quorums.{Quorums}
use Rattle.vr_msg.specs.Choice.{denies, EndsAt}
use Rattle.vr_choose.specs.Laws.{present}
use Rattle.vr_choose.proofs.Columns.{of_quorums}
use Rattle.vr_choose.proofs.Nacks.{count_present}
use Rattle.vr_choose.proofs.laws.undenied_kept.Goals as goal

pub returns : goal.returns
returns c n table set head undenied =
    let ss = present table n in
    let P : Quorums → Type 0 = λ q. q.replication ≤ count set n → EndsAt q ss head → ⊥ in
    of_quorums n P (λ q are a ends.
    let nack = are.nack in
    let fits = are.replication_fits in
    let denied = ends.denied in
    let most = count_present table set (denies ss (head + 1)) n undenied in
    omega arith)

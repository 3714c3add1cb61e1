use Rattle.std.proofs.Common.{arith, ◌≤◌}
use Rattle.vr_base.proofs.Count.{shared_member}
use Rattle.vr_base.specs.Count.{count}
use Rattle.vr_base.specs.declared.table.Quorums.{Quorums}
use Rattle.vr_choose.specs.Laws.{Meet}
use Rattle.vr_choose.proofs.Columns.{of_quorums}
use Rattle.vr_choose.proofs.laws.quorums_meet.Goals as goal

pub returns : goal.returns
returns c n f g =
    let P : Quorums → Type 0 = λ q. q.replication ≤ count f n → q.view_change ≤ count g n → Meet n f g in
    of_quorums n P (λ q are a b. let overlap = are.overlap in shared_member f g n (omega arith))

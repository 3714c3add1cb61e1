use Rattle.std.proofs.Common.{ℕ, ◌≡◌, ◌<◌, ◌+◌, ◌-◌, ◌≤◌, ◌^◌, true}
use Rattle.vr_msg.specs.Choice.{top_commit, intact, reach}
use Rattle.vr_choose.proofs.walk.first_gap.Given as goal

abbrev pub invariant-loop-k : goal.invariant-loop-k
invariant-loop-k l = record {
  above : top_commit l.statements < l.k;
  whole : (j : ℕ) → top_commit l.statements < j → j < l.k → intact l.statements j ≡ true;
  small : l.k ≤ 2 ^ 63;
}

abbrev pub decreases-loop-k : goal.decreases-loop-k
decreases-loop-k l = reach l.statements + 1 - l.k

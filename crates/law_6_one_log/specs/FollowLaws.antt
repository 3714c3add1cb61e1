-- Every run of a group that was just made is followed by the machine.
use Rattle.std.specs.Prelude.{ℕ, suc, ◌≡◌, List, slice_get, Some}
use Rattle.vr_world.specs.Group.{Played}
use Rattle.law_2_chains.specs.Chains.{Setup}
use Rattle.law_2_chains.specs.Bridge.{Bridges}
use Rattle.law_3_outputs.specs.Followed.{IsFitRun, IsFollowed}

-- a run that is followed, with the machine's group standing for the group before and after each move
pub record FollowsIt (cluster n : ℕ) (run : List Played) : Type 0 where
  pub setup : Setup
  pub followed : IsFollowed cluster n setup run
  pub bridges : (t : ℕ) (p : Played) → slice_get run t ≡ Some p → Bridges setup p.before (followed.group t)
  pub after : (t : ℕ) (p : Played) → slice_get run t ≡ Some p → Bridges setup p.moved.group (followed.group (suc t))

abbrev pub FreshRunsAreFollowed : Type 0
FreshRunsAreFollowed = (cluster n : ℕ) (run : List Played) → IsFitRun cluster n run → FollowsIt cluster n run

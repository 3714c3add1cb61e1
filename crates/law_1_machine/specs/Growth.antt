-- How a history may grow in one move.
-- Views begin, logs get longer, members vouch and their disks move on; nothing that was so is undone.
-- A new vouch is given in a view that the member's disk hasn't left: that is what makes a later view's choice final.
use Rattle.std.specs.Prelude.{ℕ, ◌≤◌, ◌≡◌, true, ◌⊎◌}
use Rattle.law_1_machine.specs.History.{History}

-- h is g after one move or more
pub record Grow {H : Type 0} (g h : History H) : Type 0 where
  pub finished : (w : ℕ) → g.finished w ≡ true → h.finished w ≡ true
  pub base : (w : ℕ) → g.finished w ≡ true → h.base w ≡ g.base w
  pub length : (w : ℕ) → g.length w ≤ h.length w
  pub log : (w k : ℕ) → k ≤ g.length w → h.log w k ≡ g.log w k
  pub vouched : (r u k : ℕ) → g.vouched r u k ≡ true → h.vouched r u k ≡ true
  -- a member vouches only in a view that its disk hasn't left
  pub new : (r u k : ℕ) → h.vouched r u k ≡ true → (g.vouched r u k ≡ true) ⊎ (g.view r ≤ u)
  pub view : (r : ℕ) → g.view r ≤ h.view r
  pub log_view : (r : ℕ) → g.log_view r ≤ h.log_view r
  pub checkpoint : (r : ℕ) → g.checkpoint r ≤ h.checkpoint r

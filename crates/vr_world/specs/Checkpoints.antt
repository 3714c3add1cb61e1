-- The checkpoints of a log: every 32 entries the state that they make is written, over the table of the checkpoint before.
use Rattle.std.specs.Prelude.{ℕ, zero, suc, ◌-◌, ◌<◌, ◌≤◌, ◌≡◌, true, List, length, take, if◌then◌else◌}
use Rattle.vr_header.specs.Made.{Whole}
use Rattle.vr_state.specs.Folds.{state_after}
use Rattle.vr_state.specs.StateTexts.{texts_of}
use Rattle.vr_state.specs.declared.state.State.{State}
use Rattle.vr_ckpt.specs.declared.name.Name.{Name}
use Rattle.vr_ckpt.specs.Places as places
use Rattle.vr_ckpt.specs.Saves.{saved_checkpoint, table_of}
use Rattle.vr_ckpt.specs.declared.table.PayloadTable.{PayloadTable}
use Rattle.vr_rules.specs.Words.{is_checkpoint}

-- the state of the log's first m entries
abbrev pub state_at : List Whole → ℕ → State
state_at log m = state_after (take m log)

-- the table that the checkpoints of the log's first m entries leave
unfoldable pub table_at : ℕ → List Whole → ℕ → PayloadTable
table_at cluster log zero = places.empty
table_at cluster log (suc m) =
    if is_checkpoint (suc m) then table_of cluster (texts_of (state_at log (suc m))) (suc m) (table_at cluster log m)
    else table_at cluster log m

-- before the last of them
abbrev pub table_before : ℕ → List Whole → ℕ → PayloadTable
table_before cluster log c = table_at cluster log (c - 1)

-- the root of the checkpoint of the log's first c entries
abbrev pub root_at : ℕ → List Whole → ℕ → Name
root_at cluster log c = (saved_checkpoint cluster (texts_of (state_at log c)) c (table_before cluster log c)).root

-- a checkpoint of the log, by its op and its root
pub record IsCheckpointOf (cluster : ℕ) (log : List Whole) (c : ℕ) (root : Name) : Type 0 where
  pub some : 0 < c
  pub every : is_checkpoint c ≡ true
  pub reached : c ≤ length log
  pub is : root ≡ root_at cluster log c

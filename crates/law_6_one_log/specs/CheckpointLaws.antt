-- One checkpoint of an op: in every run of a group that was just made.
use Rattle.std.specs.Prelude.{ℕ, ◌<◌, ◌≡◌, List, Contains}
use Rattle.vr_header.specs.Names.{root_header}
use Rattle.vr_header.specs.NoCollision.{NoCollision}
use Rattle.vr_state.specs.declared.texts.Texts.{Texts}
use Rattle.vr_super.specs.Copies.{SuperValue}
use Rattle.vr_ckpt.specs.declared.name.Name.{Name}
use Rattle.vr_ckpt.specs.Saves.{saved_checkpoint, written}
use Rattle.vr_ckpt.specs.declared.table.PayloadTable.{PayloadTable}
use Rattle.vr_world.specs.Group.{Played}
use Rattle.vr_world.specs.Safe.{IsHashed}
use Rattle.vr_rules.specs.Steps.{Effect, Checkpoint, Save}
use Rattle.law_3_outputs.specs.Followed.{IsFitRun}

-- an effect of a move, as far as the move got
pub record IsWrittenIn (run : List Played) (e : Effect) : Type 0 where
  pub move : Played
  pub of_run : Contains run move
  pub of_move : Contains move.moved.script e

abbrev pub root_of_value : SuperValue → Name
root_of_value v = record { address = v.fields.root_address; sum = v.fields.root_name }

-- what is written of an op's checkpoint, and what its root names
pub record AreOne (cluster other op : ℕ) (texts others : Texts) (old older : PayloadTable) : Type 0 where
  -- block for block, each at its address
  pub blocks : written cluster texts op old ≡ written other others op older
  -- the root, and the payloads with their addresses and names
  pub saved : saved_checkpoint cluster texts op old ≡ saved_checkpoint other others op older

-- Whichever replicas write it, and in whichever moves, also in those that were cut and those that write it again: the checkpoint of an op is
-- one; and whatever value is saved with that op as its checkpoint has its root.
pub record HasOneCheckpoint (run : List Played) : Type 0 where
  pub one : (cluster other op : ℕ) (texts others : Texts) (old older : PayloadTable) → IsWrittenIn run (Checkpoint cluster texts op old) → IsWrittenIn run (Checkpoint other others op older)
      → AreOne cluster other op texts others old older
  pub roots : (old older value other : SuperValue) → IsWrittenIn run (Save old value) → IsWrittenIn run (Save older other) → 0 < value.fields.checkpoint → value.fields.checkpoint ≡ other.fields.checkpoint
      → root_of_value value ≡ root_of_value other
  pub named : (cluster : ℕ) (texts : Texts) (table : PayloadTable) (old value : SuperValue) → IsWrittenIn run (Checkpoint cluster texts value.fields.checkpoint table) → IsWrittenIn run (Save old value) → 0 < value.fields.checkpoint
      → root_of_value value ≡ (saved_checkpoint cluster texts value.fields.checkpoint table).root

-- 1 to 6 replicas, whatever is delivered, stopped, cut, started, migrated and read, where what moves read has the forms of the program
abbrev pub CheckpointsAreOne : Type 0
CheckpointsAreOne = (cluster n : ℕ) (run : List Played) → IsFitRun cluster n run → NoCollision (IsHashed run (root_header cluster)) → HasOneCheckpoint run

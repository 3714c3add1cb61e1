-- Logs that another replica gave: those of a view of this replica's group, by their forms.
use Rattle.std.specs.Prelude.{ℕ, ◌+◌, ◌%◌, ◌<◌, ◌≤◌, ◌≡◌, length, slice_get, Some}
use Rattle.vr_header.specs.declared.header.Header.{Header}
use Rattle.vr_header.specs.Spelling.{IsHeader}
use Rattle.vr_msg.specs.declared.frame.SyncView.{SyncView}
use Rattle.vr_msg.specs.Logs.{IsEntryAt}
use Rattle.vr_msg.specs.Numbers.{IsNumber}
use Rattle.vr_rules.specs.Replica.{Replica, version}
use Rattle.vr_rules.specs.Words.{Log, sync_log}

-- the log of a view of this replica's group: its headers are those of entries of the ops above lo
pub record IsLogFor (r : Replica) (l : Log) : Type 0 where
  pub commit : l.commit ≤ l.head
  pub count : l.lo + length l.headers ≡ l.head
  pub each : (i : ℕ) (h : Header) → slice_get l.headers i ≡ Some h → IsHeader h × IsEntryAt (version r) r.cluster l.view (l.lo + 1 + i) h

-- such a log with a checkpoint within it
pub record IsSyncFor (r : Replica) (v : SyncView) : Type 0 where
  pub log : IsLogFor r (sync_log v)
  pub within : (v.body.lo < v.checkpoint) × (v.checkpoint ≤ v.commit)
  pub every : v.checkpoint % 32 ≡ 0
  pub short : length v.body.headers ≤ 64
  pub head : IsNumber v.head

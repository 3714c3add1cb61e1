use Rattle.vr_codec.proofs.Fitting.{log_found, sync_readable}
use Rattle.vr_codec.proofs.read.read_frame.Goals as goal

pub read_start_view-requires-clause-lo : goal.read_start_view-requires-clause-lo
read_start_view-requires-clause-lo c = (log_found _ _ (rw c.in-StartView.is at c.requires.body)).0

pub read_sync_view-requires-clause-lo : goal.read_sync_view-requires-clause-lo
read_sync_view-requires-clause-lo c = (sync_readable _ _ (rw c.in-SyncView.is at c.requires.body)).1

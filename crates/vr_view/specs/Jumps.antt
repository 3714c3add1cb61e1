-- Which checkpoints a replica may take over.
use Rattle.std.specs.Prelude.{◌<◌, ◌≡◌, ◌≤◌, true}
use Rattle.vr_base.specs.Bytes.{name_of}
use Rattle.vr_msg.specs.declared.frame.SyncView.{SyncView}
use Rattle.vr_msg.specs.Forms.{IsSyncView}
use Rattle.vr_rules.specs.Deciding.{may_jump}
use Rattle.vr_rules.specs.Replica.{Replica, last_view}
use Rattle.vr_rules.specs.Given.{IsSyncFor}

-- the form of the message, as one fact
unfoldable pub IsSyncing : SyncView → Type 0
IsSyncing v = IsSyncView v

-- of the replica's group, of a view that may be entered, and passed by the test
pub record Jumpable (v : SyncView) (r : Replica) : Type 0 where
  pub log : IsSyncFor r v
  pub view : v.view ≤ last_view
  pub may : may_jump name_of v r ≡ true
  pub address : v.root_address < 128

unfoldable pub MayJump : SyncView → Replica → Type 0
MayJump v r = Jumpable v r

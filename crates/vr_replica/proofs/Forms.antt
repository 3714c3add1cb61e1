-- What a message's form says of what it carries.
use Rattle.std.proofs.Common.{arith, ◌≡◌, ◌≤◌, subst}
use Rattle.vr_msg.specs.declared.frame.Frame.{Frame}
use Rattle.vr_msg.specs.declared.frame.Frame.TheVariants as frame
use Rattle.vr_msg.specs.declared.frame.Commit.{Commit}
use Rattle.vr_msg.specs.declared.frame.DoViewChange.{DoViewChange}
use Rattle.vr_msg.specs.declared.frame.Prepare.{Prepare}
use Rattle.vr_msg.specs.declared.frame.StartView.{StartView}
use Rattle.vr_msg.specs.declared.frame.StartViewChange.{StartViewChange}
use Rattle.vr_msg.specs.declared.frame.SyncView.{SyncView}
use Rattle.vr_msg.specs.Forms.{IsFrame}
use Rattle.vr_rules.specs.Replica.{last_view}
use Rattle.vr_normal.specs.Messages.{IsPreparing, IsCommitting}
use Rattle.vr_view.specs.Jumps.{IsSyncing}
use Rattle.vr_view.specs.Messages.{IsStating, IsStarting}

pub preparing : (m : Frame) (p : Prepare) → m ≡ frame.Prepare p → IsFrame m → IsPreparing p
unfolding IsPreparing
preparing m p e h = subst IsFrame e h

pub committing : (m : Frame) (c : Commit) → m ≡ frame.Commit c → IsFrame m → IsCommitting c
unfolding IsCommitting
committing m c e h = subst IsFrame e h

pub changing : (m : Frame) (c : StartViewChange) → m ≡ frame.StartViewChange c → IsFrame m → c.view ≤ last_view
changing m c e h = let view : IsFrame (frame.StartViewChange c) = subst IsFrame e h in omega (arith, view)

pub stating : (m : Frame) (d : DoViewChange) → m ≡ frame.DoViewChange d → IsFrame m → IsStating d
unfolding IsStating
stating m d e h = subst IsFrame e h

pub starting : (m : Frame) (v : StartView) → m ≡ frame.StartView v → IsFrame m → IsStarting v
unfolding IsStarting
starting m v e h = subst IsFrame e h

pub syncing : (m : Frame) (v : SyncView) → m ≡ frame.SyncView v → IsFrame m → IsSyncing v
unfolding IsSyncing
syncing m v e h = subst IsFrame e h

pub ruleset forms = (preparing, committing, changing, stating, starting, syncing)

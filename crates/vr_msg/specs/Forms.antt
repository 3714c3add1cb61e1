-- What a message may carry, by its kind.
use Rattle.std.specs.Prelude.{◌≡◌, ◌+◌, ◌%◌, ◌<◌, ◌≤◌, ⊤, length}
use Rattle.vr_header.specs.Made.{IsEntry}
use Rattle.vr_msg.specs.declared.frame.Prepare.{Prepare}
use Rattle.vr_msg.specs.declared.frame.PrepareOk.{PrepareOk}
use Rattle.vr_msg.specs.declared.frame.Commit.{Commit}
use Rattle.vr_msg.specs.declared.frame.DoViewChange.{DoViewChange}
use Rattle.vr_msg.specs.declared.frame.StartView.{StartView}
use Rattle.vr_msg.specs.declared.frame.GetPrepare.{GetPrepare}
use Rattle.vr_msg.specs.declared.frame.GivePrepare.{GivePrepare}
use Rattle.vr_msg.specs.declared.frame.SyncView.{SyncView}
use Rattle.vr_msg.specs.declared.frame.Frame.{Frame}
use Rattle.vr_msg.specs.declared.frame.Frame.TheVariants as frame
use Rattle.vr_msg.specs.Asking.{IsRequest, IsReply}
use Rattle.vr_msg.specs.Logs.{FromOp, IsEntryAt, IsStatement}
use Rattle.vr_msg.specs.Numbers.{IsNumber, IsView}

pub record IsPrepare (p : Prepare) : Type 0 where
  pub view : IsView p.view
  pub commit : IsNumber p.commit
  pub entry : IsEntry p.entry
  pub made : p.entry.header.view ≤ p.view
  pub of_version : p.entry.header.version ≤ p.version

pub record IsPrepareOk (p : PrepareOk) : Type 0 where
  pub view : IsView p.view
  pub op : IsNumber p.op
  pub made : IsView p.made

pub record IsCommit (c : Commit) : Type 0 where
  pub view : IsView c.view
  pub head : IsNumber c.head
  pub commit : IsNumber c.commit

pub record IsDoViewChange (d : DoViewChange) : Type 0 where
  pub view : IsView d.view
  pub log_view : d.statement.log_view < d.view
  pub statement : IsStatement d.version d.cluster d.statement

pub record IsStartView (v : StartView) : Type 0 where
  pub view : IsView v.view
  pub head : IsNumber v.head
  pub commit : v.commit ≤ v.head
  -- the headers of all ops after lo, up to the head
  pub count : v.body.lo + length v.body.headers ≡ v.head
  pub short : length v.body.headers ≤ 64
  pub headers : FromOp (IsEntryAt v.version v.cluster v.view) (v.body.lo + 1) v.body.headers

pub record IsGetPrepare (g : GetPrepare) : Type 0 where
  pub op : IsNumber g.op
  pub made : IsView g.made

pub record IsGivePrepare (g : GivePrepare) : Type 0 where
  pub entry : IsEntry g.entry
  pub of_version : g.entry.header.version ≤ g.version

pub record IsSyncView (v : SyncView) : Type 0 where
  pub view : IsView v.view
  pub head : IsNumber v.head
  -- the checkpoint's own header is among those that stand here, and it is committed
  pub order : (v.body.lo < v.checkpoint) × (v.checkpoint ≤ v.commit) × (v.commit ≤ v.head)
  pub every : v.checkpoint % 32 ≡ 0
  pub address : v.root_address < 128
  -- the headers of all ops after lo, up to the head
  pub count : v.body.lo + length v.body.headers ≡ v.head
  pub short : length v.body.headers ≤ 64
  pub headers : FromOp (IsEntryAt v.version v.cluster v.view) (v.body.lo + 1) v.body.headers

-- what a frame of each kind may carry
abbrev pub IsFrame : Frame → Type 0
IsFrame (frame.Request q) = IsRequest q
IsFrame (frame.Reply r) = IsReply r
IsFrame (frame.Prepare p) = IsPrepare p
IsFrame (frame.PrepareOk p) = IsPrepareOk p
IsFrame (frame.Commit c) = IsCommit c
IsFrame (frame.StartViewChange s) = IsView s.view
IsFrame (frame.DoViewChange d) = IsDoViewChange d
IsFrame (frame.StartView v) = IsStartView v
IsFrame (frame.GetView g) = IsView g.view
IsFrame (frame.GetPrepare g) = IsGetPrepare g
IsFrame (frame.GivePrepare g) = IsGivePrepare g
IsFrame (frame.GetBlock g) = ⊤
IsFrame (frame.GiveBlock g) = length g.block ≡ 4096
IsFrame (frame.GetSync g) = IsView g.view
IsFrame (frame.SyncView v) = IsSyncView v

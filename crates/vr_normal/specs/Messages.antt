-- Messages of the normal case, as they come.
use Rattle.vr_msg.specs.declared.frame.Prepare.{Prepare}
use Rattle.vr_msg.specs.declared.frame.Commit.{Commit}
use Rattle.vr_msg.specs.Forms.{IsPrepare, IsCommit}

-- the forms of messages, as one fact each
unfoldable pub IsPreparing : Prepare → Type 0
IsPreparing p = IsPrepare p

unfoldable pub IsCommitting : Commit → Type 0
IsCommitting c = IsCommit c

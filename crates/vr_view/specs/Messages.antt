-- Messages of view changes, as they come.
use Rattle.vr_msg.specs.declared.frame.DoViewChange.{DoViewChange}
use Rattle.vr_msg.specs.declared.frame.StartView.{StartView}
use Rattle.vr_msg.specs.Forms.{IsDoViewChange, IsStartView}

-- the forms of messages, as one fact each
unfoldable pub IsStating : DoViewChange → Type 0
IsStating d = IsDoViewChange d

unfoldable pub IsStarting : StartView → Type 0
IsStarting v = IsStartView v

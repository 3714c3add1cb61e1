-- As whom a message speaks.
use Rattle.std.specs.Prelude.{ℕ, Option, Some, None}
use Rattle.vr_header.specs.declared.command.Command.{Command}
use Rattle.vr_header.specs.declared.command.Command.TheVariants as command
use Rattle.vr_msg.specs.declared.frame.Frame.{Frame}
use Rattle.vr_msg.specs.declared.frame.Frame.TheVariants as frame

-- the member that sent it, by its number; none of a request, which clients send
abbrev pub speaker : Frame → Option ℕ
speaker (frame.Request q) = None
speaker (frame.Reply r) = Some r.replica
speaker (frame.Prepare p) = Some p.replica
speaker (frame.PrepareOk p) = Some p.replica
speaker (frame.Commit c) = Some c.replica
speaker (frame.StartViewChange s) = Some s.replica
speaker (frame.DoViewChange d) = Some d.replica
speaker (frame.StartView v) = Some v.replica
speaker (frame.GetView g) = Some g.replica
speaker (frame.GetPrepare g) = Some g.replica
speaker (frame.GivePrepare g) = Some g.replica
speaker (frame.GetBlock g) = Some g.replica
speaker (frame.GiveBlock g) = Some g.replica
speaker (frame.GetSync g) = Some g.replica
speaker (frame.SyncView v) = Some v.replica

-- the same by a header's command and number
abbrev pub spoken : Command → ℕ → Option ℕ
spoken command.Request replica = None
spoken _ replica = Some replica

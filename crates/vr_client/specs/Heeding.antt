-- What a client makes of what comes.
use Rattle.std.specs.Prelude.{ℕ, ◌%◌, ◌<◌, ⊤, if◌then◌else◌, Option, Some, None}
use Rattle.vr_base.specs.declared.sum.Sum.{Sum}
use Rattle.vr_mail.specs.declared.receiving.Letter.{Letter}
use Rattle.vr_mail.specs.declared.receiving.ReceiveFault.{ReceiveFault}
use Rattle.vr_mail.specs.declared.receiving.ReceiveFault.TheVariants as received
use Rattle.vr_msg.specs.declared.frame.Frame.{Frame}
use Rattle.vr_msg.specs.declared.frame.Frame.TheVariants as frame
use Rattle.vr_msg.specs.Normal.{same_sum}
use Rattle.vr_msg.specs.declared.reply.ReplyFields.{ReplyFields}
use Rattle.vr_msg.specs.declared.reply.ReplyKind.{ReplyKind}
use Rattle.vr_msg.specs.declared.reply.ReplyKind.TheVariants as reply
use Rattle.vr_client.specs.declared.answer.Answer.TheVariants as answer
use Rattle.vr_client.specs.declared.answer.AskFault.{AskFault}
use Rattle.vr_client.specs.declared.answer.AskFault.TheVariants as fault
use Rattle.vr_client.specs.declared.answer.Heed.{Heed}
use Rattle.vr_client.specs.declared.answer.Heed.TheVariants.{Ignored, Moved, Answered}

abbrev pub fault_of : ReceiveFault → AskFault
fault_of received.Link = fault.Link
fault_of received.NoMemory = fault.NoMemory

-- a redirect says the view, whose primary is asked from then on
abbrev pub heed_kind : ℕ → ℕ → ReplyKind → Heed
heed_kind n view (reply.Outcome a) = Answered (answer.Outcome a)
heed_kind n view reply.Old = Answered answer.Old
heed_kind n view reply.Gap = Answered answer.Gap
heed_kind n view reply.Evicted = Answered answer.Evicted
heed_kind n view reply.Busy = Ignored
heed_kind n view reply.Redirect = Moved (view % n)

-- a reply to a request of another name is ignored
abbrev pub heed_reply : ℕ → Sum → ReplyFields → Heed
heed_reply n name r = if same_sum r.request_name name then heed_kind n r.view r.kind else Ignored

-- whatever isn't a reply is ignored
abbrev pub heed_message : ℕ → Sum → Frame → Heed
heed_message n name (frame.Reply r) = heed_reply n name r
heed_message n name (frame.Request q) = Ignored
heed_message n name (frame.Prepare p) = Ignored
heed_message n name (frame.PrepareOk p) = Ignored
heed_message n name (frame.Commit c) = Ignored
heed_message n name (frame.StartViewChange s) = Ignored
heed_message n name (frame.DoViewChange d) = Ignored
heed_message n name (frame.StartView v) = Ignored
heed_message n name (frame.GetView g) = Ignored
heed_message n name (frame.GetPrepare g) = Ignored
heed_message n name (frame.GivePrepare g) = Ignored
heed_message n name (frame.GetBlock g) = Ignored
heed_message n name (frame.GiveBlock g) = Ignored
heed_message n name (frame.GetSync g) = Ignored
heed_message n name (frame.SyncView v) = Ignored

abbrev pub heed : ℕ → Sum → Option Letter → Heed
heed n name None = Ignored
heed n name (Some letter) = heed_message n name letter.message

-- the port that is moved to is one of n
abbrev pub MovesWithin : ℕ → Heed → Type 0
MovesWithin n Ignored = ⊤
MovesWithin n (Moved to) = to < n
MovesWithin n (Answered a) = ⊤

-- The lines that a replay writes.
use Rattle.std.specs.Prelude.{ℕ, ◌+◌, ◌-◌, List, [], ◌∷◌, ◌++◌, drop, codes}
use Rattle.std.specs.Fmt.{decimal}
use Rattle.vr_header.specs.declared.operation.Operation.{Operation}
use Rattle.vr_header.specs.declared.operation.Operation.TheVariants as operation
use Rattle.vr_header.specs.declared.outcome.Outcome.{Outcome}
use Rattle.vr_header.specs.declared.outcome.Outcome.TheVariants as outcome
use Rattle.vr_header.specs.declared.part.Part.{Part}
use Rattle.vr_header.specs.declared.part.Part.TheVariants.{Here, Lost, Wanted, Unknown, Nothing}
use Rattle.vr_msg.specs.declared.frame.Commit.{Commit}
use Rattle.vr_msg.specs.declared.frame.DoViewChange.{DoViewChange}
use Rattle.vr_msg.specs.declared.frame.GetPrepare.{GetPrepare}
use Rattle.vr_msg.specs.declared.frame.GivePrepare.{GivePrepare}
use Rattle.vr_msg.specs.declared.frame.Prepare.{Prepare}
use Rattle.vr_msg.specs.declared.frame.PrepareOk.{PrepareOk}
use Rattle.vr_msg.specs.declared.frame.StartView.{StartView}
use Rattle.vr_msg.specs.declared.frame.SyncView.{SyncView}
use Rattle.vr_msg.specs.declared.frame.Frame.{Frame}
use Rattle.vr_msg.specs.declared.frame.Frame.TheVariants as frame
use Rattle.vr_msg.specs.declared.output.Chosen.{Chosen}
use Rattle.vr_msg.specs.declared.output.Committed.{Committed}
use Rattle.vr_msg.specs.declared.output.Output.{Output}
use Rattle.vr_msg.specs.declared.output.Output.TheVariants as output
use Rattle.vr_msg.specs.declared.output.Sent.{Sent}
use Rattle.vr_msg.specs.declared.output.Started.{Started}
use Rattle.vr_msg.specs.declared.output.Waiting.{Waiting}
use Rattle.vr_msg.specs.declared.reply.ReplyFields.{ReplyFields}
use Rattle.vr_msg.specs.declared.reply.ReplyKind.{ReplyKind}
use Rattle.vr_msg.specs.declared.reply.ReplyKind.TheVariants as reply
use Rattle.vr_msg.specs.declared.statement.Statement.{Statement}

-- words with a number after them
unfoldable pub numbered : List ℕ → ℕ → List ℕ
numbered words n = words ++ decimal n

-- a message's word, with the view that it is of
unfoldable pub viewed : List ℕ → ℕ → List ℕ
viewed word view = word ++ numbered (codes " view ") view

abbrev pub operation_text : Operation → List ℕ
operation_text operation.Register = codes "register"
operation_text (operation.Put key value) = codes "put " ++ key ++ codes " " ++ value
operation_text (operation.Get key) = codes "get " ++ key
operation_text (operation.Delete key) = codes "del " ++ key

abbrev pub outcome_text : Outcome → List ℕ
outcome_text outcome.Session = codes "session"
outcome_text outcome.Ok = codes "ok"
outcome_text outcome.Full = codes "full"
outcome_text outcome.Absent = codes "absent"
outcome_text (outcome.Value value) = codes "value " ++ value

-- h, l, w, u, n
abbrev pub letter : Part → ℕ
letter (Here h) = 104
letter (Lost h) = 108
letter (Wanted h) = 119
letter Unknown = 117
letter Nothing = 110

-- the letters of a Part and of those after it: none where all are Nothing
abbrev pub before_letters : Part → List ℕ → List ℕ
before_letters Nothing [] = []
before_letters part letters = letter part ∷ letters

-- a letter for each Part up to the last that isn't Nothing
unfoldable pub letters_of : List Part → List ℕ
letters_of [] = []
letters_of (part ∷ parts) = before_letters part (letters_of parts)

abbrev pub or_dash : List ℕ → List ℕ
or_dash [] = codes "-"
or_dash (b ∷ bytes) = b ∷ bytes

abbrev pub parts_text : List Part → List ℕ
parts_text parts = or_dash (letters_of parts)

-- the op of an entry, and the view in which it was made
abbrev pub entry_text : ℕ → ℕ → List ℕ
entry_text op made = numbered (codes "op ") op ++ numbered (codes " made ") made

-- the last op of a log, and its commit number
abbrev pub head_text : ℕ → ℕ → List ℕ
head_text head commit = numbered (codes " op ") head ++ numbered (codes " commit ") commit

-- the view of a log, its commit number, and its last op
abbrev pub log_text : ℕ → ℕ → ℕ → List ℕ
log_text log_view commit head = numbered (codes " log ") log_view ++ numbered (codes " commit ") commit ++ numbered (codes " head ") head

-- a statement's Parts stand from its first op on, and are told from the op after its commit number on
abbrev pub stated : Statement → List Part
stated s = drop (s.commit + 1 - s.body.first) s.body.parts

unfoldable pub statement_text : Statement → List ℕ
statement_text s =
    numbered (codes " log ") s.log_view ++ numbered (codes " commit ") s.commit ++ numbered (codes " head ") s.head
    ++ codes " parts " ++ parts_text (stated s)

unfoldable pub prepare_text : Prepare → List ℕ
prepare_text p =
    viewed (codes "prepare") p.view ++ codes " " ++ entry_text p.entry.header.op p.entry.header.view
    ++ numbered (codes " commit ") p.commit

unfoldable pub prepare_ok_text : PrepareOk → List ℕ
prepare_ok_text p = viewed (codes "prepare_ok") p.view ++ codes " " ++ entry_text p.op p.made

unfoldable pub commit_text : Commit → List ℕ
commit_text c =
    viewed (codes "commit") c.view ++ numbered (codes " op ") c.head ++ numbered (codes " commit ") c.commit

unfoldable pub do_view_change_text : DoViewChange → List ℕ
do_view_change_text d = viewed (codes "do_view_change") d.view ++ statement_text d.statement

unfoldable pub start_view_text : StartView → List ℕ
start_view_text v =
    viewed (codes "start_view") v.view ++ numbered (codes " op ") v.head ++ numbered (codes " commit ") v.commit

unfoldable pub sync_view_text : SyncView → List ℕ
sync_view_text v =
    viewed (codes "sync_view") v.view ++ numbered (codes " op ") v.head ++ numbered (codes " commit ") v.commit
    ++ numbered (codes " checkpoint ") v.checkpoint

unfoldable pub get_prepare_text : GetPrepare → List ℕ
get_prepare_text g = codes "get_prepare " ++ entry_text g.op g.made

unfoldable pub give_prepare_text : GivePrepare → List ℕ
give_prepare_text g = codes "give_prepare " ++ entry_text g.entry.header.op g.entry.header.view

-- a message between replicas; a request or a reply is none, and is told by its name alone
abbrev pub frame_text : Frame → List ℕ
frame_text (frame.Request q) = codes "request"
frame_text (frame.Reply r) = codes "reply"
frame_text (frame.Prepare p) = prepare_text p
frame_text (frame.PrepareOk p) = prepare_ok_text p
frame_text (frame.Commit c) = commit_text c
frame_text (frame.StartViewChange s) = viewed (codes "start_view_change") s.view
frame_text (frame.DoViewChange d) = do_view_change_text d
frame_text (frame.StartView v) = start_view_text v
frame_text (frame.GetView g) = viewed (codes "get_view") g.view
frame_text (frame.GetPrepare g) = get_prepare_text g
frame_text (frame.GivePrepare g) = give_prepare_text g
frame_text (frame.GetBlock g) = numbered (codes "get_block ") g.address
frame_text (frame.GiveBlock g) = numbered (codes "give_block ") g.address
frame_text (frame.GetSync g) = viewed (codes "get_sync") g.view
frame_text (frame.SyncView v) = sync_view_text v

-- the last words of a reply of a replica in this view
abbrev pub kind_text : ℕ → ReplyKind → List ℕ
kind_text view (reply.Outcome a) = numbered (codes "op ") a.op ++ codes " " ++ outcome_text a.outcome
kind_text view reply.Old = codes "old"
kind_text view reply.Gap = codes "gap"
kind_text view reply.Evicted = codes "evicted"
kind_text view reply.Busy = codes "busy"
kind_text view reply.Redirect = numbered (codes "redirect ") view

-- the client, and the number of its request
abbrev pub client_text : ℕ → ℕ → List ℕ
client_text client request = numbered (codes " client ") client ++ numbered (codes " request ") request ++ codes " "

unfoldable pub sent_text : ℕ → Sent → List ℕ
sent_text m s =
    numbered (codes "send ") m ++ numbered (codes " ") s.from ++ numbered (codes " ") s.to ++ codes " " ++ frame_text s.message

unfoldable pub committed_text : Committed → List ℕ
committed_text c =
    numbered (codes "commit ") c.replica ++ numbered (codes " op ") c.entry.header.op
    ++ numbered (codes " view ") c.entry.header.view
    ++ client_text c.entry.header.client c.entry.header.request ++ operation_text c.entry.operation

unfoldable pub reply_text : ReplyFields → List ℕ
reply_text r = numbered (codes "reply ") r.replica ++ client_text r.client r.request ++ kind_text r.view r.kind

unfoldable pub chosen_text : Chosen → List ℕ
chosen_text c =
    numbered (codes "choose ") c.replica ++ numbered (codes " view ") c.view ++ numbered (codes " log ") c.log_view
    ++ numbered (codes " commit ") c.commit ++ numbered (codes " head ") c.head ++ codes " own " ++ parts_text c.own

unfoldable pub waiting_text : Waiting → List ℕ
waiting_text w = numbered (codes "wait ") w.replica ++ numbered (codes " view ") w.view ++ numbered (codes " op ") w.op

unfoldable pub started_text : Started → List ℕ
started_text s =
    numbered (codes "start ") s.replica ++ numbered (codes " view ") s.view ++ numbered (codes " log_view ") s.log_view
    ++ numbered (codes " commit ") s.commit

-- an output; a message has its number before it
abbrev pub output_text : ℕ → Output → List ℕ
output_text m (output.Send s) = sent_text m s
output_text m (output.Commit c) = committed_text c
output_text m (output.Reply r) = reply_text r
output_text m (output.Choose c) = chosen_text c
output_text m (output.Wait w) = waiting_text w
output_text m (output.Start s) = started_text s
output_text m (output.Halted replica) = numbered (codes "halt ") replica
output_text m (output.Migrated replica) = numbered (codes "migrated ") replica
output_text m output.Done = codes "done"
output_text m output.KeptOut = codes "kept out"

-- its line
abbrev pub line_text : ℕ → Output → List ℕ
line_text m o = output_text m o ++ codes "\n"

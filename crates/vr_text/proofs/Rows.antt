-- Worked rows of the texts, computed: an output, and its line.
use Rattle.std.proofs.Common.{◌≡◌, ℕ, List, [], ◌∷◌, codes, refl}
use Rattle.std.specs.Fmt.{digits}
use Rattle.vr_header.specs.declared.header.Header.{Header}
use Rattle.vr_header.specs.declared.operation.Operation.{Operation}
use Rattle.vr_header.specs.declared.operation.Operation.TheVariants.{Register, Put, Get, Delete}
use Rattle.vr_header.specs.declared.outcome.Outcome.{Outcome}
use Rattle.vr_header.specs.declared.outcome.Outcome.TheVariants as outcome
use Rattle.vr_header.specs.declared.part.Part.{Part}
use Rattle.vr_header.specs.declared.part.Part.TheVariants.{Here, Lost, Wanted, Unknown, Nothing}
use Rattle.vr_header.specs.Bodies.{operation_bytes}
use Rattle.vr_header.specs.Made.{Whole, made_by}
use Rattle.vr_header.specs.Names.{no_name, request_by, root_by}
use Rattle.vr_msg.specs.declared.frame.Frame.{Frame}
use Rattle.vr_msg.specs.declared.frame.Frame.TheVariants.{Prepare, PrepareOk, Commit, StartViewChange, DoViewChange, StartView, GetView, GetPrepare, GivePrepare, GetBlock, GiveBlock, GetSync, SyncView}
use Rattle.vr_msg.specs.declared.output.Output.TheVariants as output
use Rattle.vr_msg.specs.declared.reply.ReplyKind.{ReplyKind}
use Rattle.vr_msg.specs.declared.reply.ReplyKind.TheVariants as reply
use Rattle.vr_text.specs.Text.{chosen_text, commit_text, committed_text, do_view_change_text, get_prepare_text, give_prepare_text, letters_of, line_text, numbered, prepare_ok_text, prepare_text, reply_text, sent_text, start_view_text, started_text, statement_text, sync_view_text, viewed, waiting_text}

-- an entry of client 7; no text has a name, so that any will do
abbrev entry : ℕ → ℕ → ℕ → Operation → Whole
entry op made request operation = made_by (λ bytes. []) (request_by (λ bytes. []) 1 0 7 request operation) operation made op no_name

abbrev some_header : Header
some_header = root_by (λ bytes. []) 0

abbrev sends : ℕ → ℕ → ℕ → Frame → List ℕ
sends m from to message = line_text m (output.Send (record { from = from; to = to; message = message }))

abbrev commits : ℕ → ℕ → Operation → List ℕ
commits op request operation = line_text 9 (output.Commit (record { replica = 0; entry = entry op 0 request operation }))

abbrev replies : ℕ → ReplyKind → List ℕ
replies request kind = line_text 9 (output.Reply (record { version = 1; cluster = 0; replica = 0; view = 3; client = 7; request = request; request_name = no_name; kind = kind }))

abbrev answers : ℕ → Outcome → List ℕ
answers op outcome = replies 1 (reply.Outcome (record { op = op; outcome = outcome }))

abbrev chooses : List Part → List ℕ
chooses own = line_text 9 (output.Choose (record { replica = 1; view = 1; log_view = 0; commit = 0; head = 1; own = own }))

abbrev states : ℕ → ℕ → ℕ → List Part → List ℕ
states commit head first parts =
    sends 10 2 1 (DoViewChange (record { version = 1; cluster = 0; replica = 2; view = 1; statement = record { log_view = 0; commit = commit; head = head; body = record { first = first; parts = parts } } }))

normal_messages : (sends 0 0 1 (Prepare (record { version = 1; replica = 0; view = 0; commit = 0; entry = entry 1 0 0 Register })) ≡ codes "send 0 0 1 prepare view 0 op 1 made 0 commit 0\n")
    × (sends 2 1 0 (PrepareOk (record { version = 1; cluster = 0; replica = 1; view = 0; op = 1; name = no_name; made = 0 })) ≡ codes "send 2 1 0 prepare_ok view 0 op 1 made 0\n")
    × (sends 13 1 0 (Commit (record { version = 1; cluster = 0; replica = 1; view = 1; head = 1; commit = 0 })) ≡ codes "send 13 1 0 commit view 1 op 1 commit 0\n")
unfolding sent_text prepare_text prepare_ok_text commit_text numbered viewed digits
normal_messages = (refl, refl, refl)

view_messages : (sends 6 1 0 (StartViewChange (record { version = 1; cluster = 0; replica = 1; view = 1 })) ≡ codes "send 6 1 0 start_view_change view 1\n")
    × (sends 11 1 0 (StartView (record { version = 1; cluster = 0; replica = 1; view = 1; head = 1; commit = 0; body = record { lo = 0; headers = [] } })) ≡ codes "send 11 1 0 start_view view 1 op 1 commit 0\n")
    × (sends 6 2 0 (GetView (record { version = 1; cluster = 0; replica = 2; view = 0 })) ≡ codes "send 6 2 0 get_view view 0\n")
unfolding sent_text start_view_text numbered viewed digits
view_messages = (refl, refl, refl)

sync_messages : (sends 197 2 0 (GetSync (record { version = 1; cluster = 0; replica = 2; view = 0 })) ≡ codes "send 197 2 0 get_sync view 0\n")
    × (sends 198 0 2 (SyncView (record {
      version = 1;
      cluster = 0;
      replica = 0;
      view = 0;
      head = 65;
      commit = 65;
      checkpoint = 64;
      root_address = 0;
      root_name = no_name;
      body = record { lo = 1; headers = [] };
    })) ≡ codes "send 198 0 2 sync_view view 0 op 65 commit 65 checkpoint 64\n")
unfolding sent_text sync_view_text numbered viewed digits
sync_messages = (refl, refl)

repair_messages : (sends 8 2 0 (GetPrepare (record { version = 1; cluster = 0; replica = 2; op = 1; name = no_name; made = 0 })) ≡ codes "send 8 2 0 get_prepare op 1 made 0\n")
    × (sends 9 0 2 (GivePrepare (record { version = 1; replica = 0; entry = entry 1 0 0 Register })) ≡ codes "send 9 0 2 give_prepare op 1 made 0\n")
    × (sends 66 1 0 (GetBlock (record { version = 1; cluster = 0; replica = 1; address = 64; name = no_name })) ≡ codes "send 66 1 0 get_block 64\n")
    × (sends 67 0 1 (GiveBlock (record { version = 1; cluster = 0; replica = 0; address = 64; block = [] })) ≡ codes "send 67 0 1 give_block 64\n")
unfolding sent_text get_prepare_text give_prepare_text numbered viewed digits
repair_messages = (refl, refl, refl, refl)

-- the letters of a statement begin after its commit number, wherever its Parts begin
statements : (states 0 1 1 (Here some_header ∷ []) ≡ codes "send 10 2 1 do_view_change view 1 log 0 commit 0 head 1 parts h\n")
    × (states 0 0 1 [] ≡ codes "send 10 2 1 do_view_change view 1 log 0 commit 0 head 0 parts -\n")
    × (states 1 1 1 (Here some_header ∷ []) ≡ codes "send 10 2 1 do_view_change view 1 log 0 commit 1 head 1 parts -\n")
    × (states 1 3 1 (Here some_header ∷ Lost some_header ∷ Wanted some_header ∷ Unknown ∷ Nothing ∷ Unknown ∷ []) ≡ codes "send 10 2 1 do_view_change view 1 log 0 commit 1 head 3 parts lwunu\n")
unfolding sent_text do_view_change_text statement_text letters_of numbered viewed digits
statements = (refl, refl, refl, refl)

commit_lines : (commits 1 0 Register ≡ codes "commit 0 op 1 view 0 client 7 request 0 register\n")
    × (commits 2 1 (Put (codes "a") (codes "b")) ≡ codes "commit 0 op 2 view 0 client 7 request 1 put a b\n")
    × (commits 3 2 (Get (codes "a")) ≡ codes "commit 0 op 3 view 0 client 7 request 2 get a\n")
    × (commits 4 3 (Delete (codes "a")) ≡ codes "commit 0 op 4 view 0 client 7 request 3 del a\n")
unfolding committed_text operation_bytes numbered digits
commit_lines = (refl, refl, refl, refl)

outcomes : (answers 1 outcome.Session ≡ codes "reply 0 client 7 request 1 op 1 session\n")
    × (answers 2 outcome.Ok ≡ codes "reply 0 client 7 request 1 op 2 ok\n")
    × (answers 3 outcome.Full ≡ codes "reply 0 client 7 request 1 op 3 full\n")
    × (answers 4 outcome.Absent ≡ codes "reply 0 client 7 request 1 op 4 absent\n")
    × (answers 5 (outcome.Value (codes "b")) ≡ codes "reply 0 client 7 request 1 op 5 value b\n")
unfolding reply_text numbered digits
outcomes = (refl, refl, refl, refl, refl)

other_replies : (replies 0 reply.Old ≡ codes "reply 0 client 7 request 0 old\n")
    × (replies 3 reply.Gap ≡ codes "reply 0 client 7 request 3 gap\n")
    × (replies 1 reply.Evicted ≡ codes "reply 0 client 7 request 1 evicted\n")
    × (replies 0 reply.Busy ≡ codes "reply 0 client 7 request 0 busy\n")
    × (replies 0 reply.Redirect ≡ codes "reply 0 client 7 request 0 redirect 3\n")
unfolding reply_text numbered digits
other_replies = (refl, refl, refl, refl, refl)

choices : (chooses (Here some_header ∷ []) ≡ codes "choose 1 view 1 log 0 commit 0 head 1 own h\n")
    × (chooses (Nothing ∷ Nothing ∷ []) ≡ codes "choose 1 view 1 log 0 commit 0 head 1 own -\n")
    × (chooses (Nothing ∷ Unknown ∷ Nothing ∷ []) ≡ codes "choose 1 view 1 log 0 commit 0 head 1 own nu\n")
    × (line_text 9 (output.Wait (record { replica = 1; view = 1; op = 1 })) ≡ codes "wait 1 view 1 op 1\n")
unfolding chosen_text waiting_text letters_of numbered digits
choices = (refl, refl, refl, refl)

stops_and_faults : (line_text 9 (output.Start (record { replica = 1; view = 0; log_view = 0; commit = 32 })) ≡ codes "start 1 view 0 log_view 0 commit 32\n")
    × (line_text 9 (output.Halted 1) ≡ codes "halt 1\n")
    × (line_text 9 output.Done ≡ codes "done\n")
    × (line_text 9 output.KeptOut ≡ codes "kept out\n")
unfolding started_text numbered digits
stops_and_faults = (refl, refl, refl, refl)

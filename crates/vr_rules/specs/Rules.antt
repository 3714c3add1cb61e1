-- The step of a replica: each rule is a word.
use Rattle.std.specs.Prelude.{ℕ, ◌+◌, ◌-◌, Bool, not, ◌==◌, nat_le, nat_lt, List, filter, find, slice_set, Option, Some, None, is_some, if◌then◌else◌}
use Rattle.std.specs.Option.{option_map_or}
use Rattle.vr_base.specs.Replicas.{with_replica}
use Rattle.vr_header.specs.declared.header.Header.{Header}
use Rattle.vr_header.specs.Made.{Whole, made_by}
use Rattle.vr_header.specs.Names.{name_by, request_by}
use Rattle.vr_state.specs.declared.session.SessionAnswer.{SessionAnswer}
use Rattle.vr_state.specs.declared.session.SessionAnswer.TheVariants as answer
use Rattle.vr_msg.specs.declared.event.Event.{Event}
use Rattle.vr_msg.specs.declared.event.Event.TheVariants as event
use Rattle.vr_msg.specs.declared.frame.Frame.{Frame}
use Rattle.vr_msg.specs.declared.frame.Frame.TheVariants as frame
use Rattle.vr_msg.specs.declared.frame.Commit.{Commit}
use Rattle.vr_msg.specs.declared.frame.DoViewChange.{DoViewChange}
use Rattle.vr_msg.specs.declared.frame.GetBlock.{GetBlock}
use Rattle.vr_msg.specs.declared.frame.GetPrepare.{GetPrepare}
use Rattle.vr_msg.specs.declared.frame.GetSync.{GetSync}
use Rattle.vr_msg.specs.declared.frame.GetView.{GetView}
use Rattle.vr_msg.specs.declared.frame.GiveBlock.{GiveBlock}
use Rattle.vr_msg.specs.declared.frame.GivePrepare.{GivePrepare}
use Rattle.vr_msg.specs.declared.frame.Prepare.{Prepare}
use Rattle.vr_msg.specs.declared.frame.PrepareOk.{PrepareOk}
use Rattle.vr_msg.specs.declared.frame.StartView.{StartView}
use Rattle.vr_msg.specs.declared.frame.StartViewChange.{StartViewChange}
use Rattle.vr_msg.specs.declared.frame.SyncView.{SyncView}
use Rattle.vr_msg.specs.declared.reply.ReplyKind.TheVariants as reply
use Rattle.vr_msg.specs.declared.request.RequestFields.{RequestFields}
use Rattle.vr_msg.specs.declared.statement.Statement.{Statement}
use Rattle.vr_msg.specs.Choice.{ops}
use Rattle.vr_ckpt.specs.declared.name.Name.{Name}
use Rattle.vr_rules.specs.Replica.{Replica, is_frozen, part_at, header_at, ackers_at, head, head_header, is_here}
use Rattle.vr_rules.specs.Steps.{PutBlock, Setting, Word, ◌⨾◌, quiet, change, does, says, by, naming, reading, when, each}
use Rattle.vr_rules.specs.Outputs.{send_to, send_to_all, to_primary, prepare, prepare_ok, commit_message, start_view_change, start_view, sync_view, get_sync, get_view, give_prepare, give_block, replies}
use Rattle.vr_rules.specs.declared.asker.Asker.{Asker}
use Rattle.vr_rules.specs.Words.{enter, rested, write, accept, with_entry_at, apply, is_loaded, advance, learn, take, prepare_again, try, speak, resend, ask, load, jump, visit}
use Rattle.vr_rules.specs.Deciding.{Hash, first_of, session_answer, request_table, prepare_table, prepare_ok_table, commit_table, start_view_change_table, do_view_change_table, log_of, start_view_table, get_view_table, get_prepare_table, give_prepare_table, get_block_table, is_wanted, give_block_table, tick_table, get_sync_table, sync_view_table}
use Rattle.vr_rules.specs.declared.rule.Rule.{Rule}
use Rattle.vr_rules.specs.declared.rule.Rule.TheVariants.{Ignored, Redirected, Behind, Answered, Full, Made, PreparedLater, Past, Beyond, Known, Next, Ahead, Other, Counted, CommitLater, CommitHeard, ChangeLater, ChangeHeard, ChangeDone, StatedLate, Stated, Taken, ViewGiven, EntryGiven, EntryTaken, BlockGiven, BlockTaken, BlockMended, TickedPrimary, TickedBackup, TickedChanging, SyncAsked, SyncGiven, Jumped}

-- ---- requests (rules 1 to 6)

abbrev pub asker_by : Hash → RequestFields → Asker
asker_by hash q = record { client = q.client; request = q.request; name = name_by hash (request_by hash q.version q.cluster q.client q.request q.operation) }

-- the next entry, of this request
unfoldable pub next_entry : Hash → RequestFields → Replica → Whole
next_entry hash q r =
    made_by hash (request_by hash q.version q.cluster q.client q.request q.operation) q.operation r.view (head r + 1) (name_by hash (head_header hash r))

unfoldable pub make : {F : Type 0} → Whole → Word F
make e = write e ⨾ says (send_to_all (prepare e)) ⨾ advance

-- what the sessions answer to a request that isn't fresh
abbrev pub stored_reply : {F : Type 0} → Asker → SessionAnswer → Word F
stored_reply a answer.Fresh = quiet
stored_reply a (answer.Repeat outcome op) = says (replies a (reply.Outcome (record { op = op; outcome = outcome })))
stored_reply a answer.Old = says (replies a reply.Old)
stored_reply a answer.Gap = says (replies a reply.Gap)
stored_reply a answer.Evicted = says (replies a reply.Evicted)

abbrev pub obey_request : {F : Type 0} → Hash → RequestFields → Rule → Word F
obey_request hash q Redirected = says (replies (asker_by hash q) reply.Redirect)
obey_request hash q Behind = says (replies (asker_by hash q) reply.Busy)
obey_request hash q Answered = by (λ r. stored_reply (asker_by hash q) (session_answer q r))
obey_request hash q Full = says (replies (asker_by hash q) reply.Busy)
obey_request hash q Made = by (λ r. make (next_entry hash q r))
obey_request hash q _ = quiet

unfoldable pub on_request : {F : Type 0} → RequestFields → Word F
on_request q = naming (λ hash. by (λ r. obey_request hash q (first_of (request_table q r))))

-- ---- prepares (rules 7 to 14)

abbrev pub acknowledge : {F : Type 0} → Hash → Header → Word F
acknowledge hash h = says (to_primary (prepare_ok hash h))

abbrev pub ask_view : {F : Type 0} → ℕ → ℕ → Word F
ask_view view sender = says (λ r. send_to sender (get_view view r) r)

abbrev pub obey_prepare : {F : Type 0} → Hash → Prepare → Rule → Word F
obey_prepare hash p PreparedLater = ask_view p.view p.replica
obey_prepare hash p Past = change rested ⨾ learn p.commit
obey_prepare hash p Beyond = change rested
obey_prepare hash p Known = change rested ⨾ accept p.entry ⨾ acknowledge hash p.entry.header ⨾ learn p.commit
obey_prepare hash p Next = change rested ⨾ write p.entry ⨾ acknowledge hash p.entry.header ⨾ learn p.commit
obey_prepare hash p Ahead = change rested ⨾ ask_view p.view p.replica ⨾ learn p.commit
obey_prepare hash p Other = change rested
obey_prepare hash p _ = quiet

unfoldable pub on_prepare : {F : Type 0} → Prepare → Word F
on_prepare p = naming (λ hash. by (λ r. obey_prepare hash p (first_of (prepare_table hash p r))))

-- ---- prepare_oks (rule 15)

abbrev pub acknowledged : PrepareOk → Replica → Replica
acknowledged a r = record r { ackers = slice_set r.ackers (a.op - r.first) (with_replica (ackers_at r a.op) a.replica) }

abbrev pub obey_prepare_ok : {F : Type 0} → PrepareOk → Rule → Word F
obey_prepare_ok a Counted = change (acknowledged a) ⨾ advance
obey_prepare_ok a _ = quiet

unfoldable pub on_prepare_ok : {F : Type 0} → PrepareOk → Word F
on_prepare_ok a = naming (λ hash. by (λ r. obey_prepare_ok a (first_of (prepare_ok_table hash a r))))

-- ---- commits (rules 16 to 18)

abbrev pub obey_commit : {F : Type 0} → Commit → Rule → Word F
obey_commit c CommitLater = ask_view c.view c.replica
obey_commit c CommitHeard = change rested ⨾ by (λ r. when (nat_lt (head r) c.head) (ask_view c.view c.replica)) ⨾ learn c.commit
obey_commit c _ = quiet

unfoldable pub on_commit : {F : Type 0} → Commit → Word F
on_commit c = by (λ r. obey_commit c (first_of (commit_table c r)))

-- ---- start_view_changes (rules 19 to 22)

abbrev pub heard_of : ℕ → Replica → Replica
heard_of sender r = record r { heard = with_replica r.heard sender }

abbrev pub tell_view : {F : Type 0} → ℕ → Word F
tell_view to = says (λ r. send_to to (start_view r) r)

abbrev pub obey_start_view_change : {F : Type 0} → StartViewChange → Rule → Word F
obey_start_view_change c ChangeLater = enter c.view ⨾ change (heard_of c.replica) ⨾ speak
obey_start_view_change c ChangeHeard = change (heard_of c.replica) ⨾ speak
obey_start_view_change c ChangeDone = tell_view c.replica
obey_start_view_change c _ = quiet

unfoldable pub on_start_view_change : {F : Type 0} → StartViewChange → Word F
on_start_view_change c = by (λ r. obey_start_view_change c (first_of (start_view_change_table c r)))

-- ---- do_view_changes (rules 23 to 25)

abbrev pub with_statement : ℕ → Statement → Replica → Replica
with_statement sender s r = record r { statements = slice_set r.statements sender (Some s) }

abbrev pub obey_do_view_change : {F : Type 0} → DoViewChange → Rule → Word F
obey_do_view_change d StatedLate = tell_view d.replica
obey_do_view_change d Stated = by (λ r. when (nat_lt r.view d.view) (enter d.view)) ⨾ change (with_statement d.replica d.statement) ⨾ try
obey_do_view_change d _ = quiet

unfoldable pub on_do_view_change : {F : Type 0} → DoViewChange → Word F
on_do_view_change d = by (λ r. obey_do_view_change d (first_of (do_view_change_table d r)))

-- ---- start_views (rule 26)

-- an entry that is stored is acknowledged; it isn't read
unfoldable pub acknowledge_stored : {F : Type 0} → Hash → ℕ → Word F
acknowledge_stored hash op = by (λ r. when (is_here (part_at r op)) (option_map_or (acknowledge hash) (header_at r op) quiet))

abbrev pub obey_start_view : {F : Type 0} → Hash → StartView → Rule → Word F
obey_start_view hash v Taken = take (log_of v) ⨾ by (λ r. each (acknowledge_stored hash) (ops r.commit v.head)) ⨾ apply
obey_start_view hash v SyncAsked = says (λ r. send_to v.replica (get_sync v.view r) r)
obey_start_view hash v _ = quiet

unfoldable pub on_start_view : {F : Type 0} → StartView → Word F
on_start_view v = naming (λ hash. by (λ r. obey_start_view hash v (first_of (start_view_table hash v r))))

-- ---- get_views (rule 27)

abbrev pub obey_get_view : {F : Type 0} → GetView → Rule → Word F
obey_get_view g ViewGiven = tell_view g.replica
obey_get_view g _ = quiet

unfoldable pub on_get_view : {F : Type 0} → GetView → Word F
on_get_view g = by (λ r. obey_get_view g (first_of (get_view_table g r)))

-- ---- checkpoints of others (rules 35 to 37; rule 35 stands with the start_views)

abbrev pub obey_get_sync : {F : Type 0} → GetSync → Rule → Word F
obey_get_sync g SyncGiven = says (λ r. send_to g.replica (sync_view r) r)
obey_get_sync g _ = quiet

unfoldable pub on_get_sync : {F : Type 0} → GetSync → Word F
on_get_sync g = by (λ r. obey_get_sync g (first_of (get_sync_table g r)))

abbrev pub obey_sync_view : {F : Type 0} → Hash → SyncView → Rule → Word F
obey_sync_view hash v Jumped = jump v ⨾ by (λ r. each (acknowledge_stored hash) (ops r.commit v.head)) ⨾ apply
obey_sync_view hash v _ = quiet

unfoldable pub on_sync_view : {F : Type 0} → SyncView → Word F
on_sync_view v = naming (λ hash. by (λ r. obey_sync_view hash v (first_of (sync_view_table hash v r))))

-- ---- repair of entries (rules 28, 29)

abbrev pub obey_get_prepare : {F : Type 0} → GetPrepare → Rule → Word F
obey_get_prepare g EntryGiven = with_entry_at g.op (λ e. says (λ r. send_to g.replica (give_prepare e r) r))
obey_get_prepare g _ = quiet

unfoldable pub on_get_prepare : {F : Type 0} → GetPrepare → Word F
on_get_prepare g = naming (λ hash. by (λ r. obey_get_prepare g (first_of (get_prepare_table hash g r))))

abbrev pub obey_give_prepare : {F : Type 0} → GivePrepare → Rule → Word F
obey_give_prepare g EntryTaken = write g.entry ⨾ resend g.entry ⨾ apply
obey_give_prepare g _ = quiet

unfoldable pub on_give_prepare : {F : Type 0} → GivePrepare → Word F
on_give_prepare g = by (λ r. obey_give_prepare g (first_of (give_prepare_table g r)))

-- ---- repair of blocks (rules 30, 31)

abbrev pub asked_block : GetBlock → Name
asked_block g = record { address = g.address; sum = g.name }

abbrev pub block_at : {F : Type 0} → Name → Setting F → F → Option (List ℕ)
block_at name s f = s.block f name

abbrev pub give_read : {F : Type 0} → GetBlock → Option (List ℕ) → Word F
give_read g None = quiet
give_read g (Some block) = says (λ r. send_to g.replica (give_block g.address block r) r)

abbrev pub obey_get_block : {F : Type 0} → GetBlock → Option (List ℕ) → Rule → Word F
obey_get_block g block BlockGiven = give_read g block
obey_get_block g block _ = quiet

unfoldable pub on_get_block : {F : Type 0} → GetBlock → Word F
on_get_block g =
    reading (block_at (asked_block g)) (λ block. by (λ r. obey_get_block g block (first_of (get_block_table (is_some block) g r))))

abbrev pub without : Name → Replica → Replica
without name r = record r { missing = filter (λ m. not (m.address == name.address)) r.missing }

-- a block that was missing; the last one, and the root, lead to the checkpoint being loaded anew
unfoldable pub put_block : {F : Type 0} → Name → List ℕ → Word F
put_block name block = does (λ r. PutBlock name block) ⨾ change (without name) ⨾ by (λ r. when (is_loaded r) load)

abbrev pub put_found : {F : Type 0} → List ℕ → Option Name → Word F
put_found block None = quiet
put_found block (Some name) = put_block name block ⨾ apply

-- a block that has gone bad is written anew; the state has what was in it
abbrev pub not_worn : Name → Replica → Replica
not_worn name r = record r { worn = filter (λ m. not (m.address == name.address)) r.worn }

abbrev pub mend_found : {F : Type 0} → List ℕ → Option Name → Word F
mend_found block None = quiet
mend_found block (Some name) = does (λ r. PutBlock name block) ⨾ change (not_worn name)

abbrev pub test_of : {F : Type 0} → Setting F → F → (Name → List ℕ → Bool)
test_of s f = s.is_block

abbrev pub obey_give_block : {F : Type 0} → (Name → List ℕ → Bool) → GiveBlock → Rule → Word F
obey_give_block is_block g BlockTaken = by (λ r. put_found g.block (find (is_wanted is_block g) r.missing))
obey_give_block is_block g BlockMended = by (λ r. mend_found g.block (find (is_wanted is_block g) r.worn))
obey_give_block is_block g _ = quiet

unfoldable pub on_give_block : {F : Type 0} → GiveBlock → Word F
on_give_block g = reading test_of (λ is_block. by (λ r. obey_give_block is_block g (first_of (give_block_table is_block g r))))

-- ---- ticks (rules 32 to 34)

abbrev pub idler : Replica → Replica
idler r = record r { idle = r.idle + 1 }

abbrev pub next_view : {F : Type 0} → Word F
next_view = by (λ r. enter (r.view + 1))

abbrev pub primary_ticks : {F : Type 0} → Word F
primary_ticks =
    says (send_to_all commit_message) ⨾ by (λ r. when (nat_lt r.commit (head r)) (prepare_again (r.commit + 1))) ⨾ visit ⨾ ask

abbrev pub backup_ticks : {F : Type 0} → Word F
backup_ticks = change idler ⨾ by (λ r. if nat_le 5 r.idle then next_view else visit ⨾ ask)

abbrev pub changing_ticks : {F : Type 0} → Word F
changing_ticks =
    change idler ⨾ by (λ r. if nat_le 10 r.idle then next_view else says (send_to_all start_view_change) ⨾ speak ⨾ visit ⨾ ask)

abbrev pub obey_tick : {F : Type 0} → Rule → Word F
obey_tick TickedPrimary = primary_ticks
obey_tick TickedBackup = backup_ticks
obey_tick TickedChanging = changing_ticks
obey_tick _ = quiet

unfoldable pub on_tick : {F : Type 0} → Word F
on_tick = by (λ r. obey_tick (first_of (tick_table r)))

-- ---- all events

-- replies aren't for replicas
abbrev pub on_message : {F : Type 0} → Frame → Word F
on_message (frame.Request q) = on_request q
on_message (frame.Reply a) = quiet
on_message (frame.Prepare p) = on_prepare p
on_message (frame.PrepareOk a) = on_prepare_ok a
on_message (frame.Commit c) = on_commit c
on_message (frame.StartViewChange c) = on_start_view_change c
on_message (frame.DoViewChange d) = on_do_view_change d
on_message (frame.StartView v) = on_start_view v
on_message (frame.GetView g) = on_get_view g
on_message (frame.GetPrepare g) = on_get_prepare g
on_message (frame.GivePrepare g) = on_give_prepare g
on_message (frame.GetBlock g) = on_get_block g
on_message (frame.GiveBlock g) = on_give_block g
on_message (frame.GetSync g) = on_get_sync g
on_message (frame.SyncView v) = on_sync_view v

abbrev pub on_event : {F : Type 0} → Event → Word F
on_event (event.Request q) = on_request q
on_event (event.Deliver message) = on_message message
on_event event.Tick = on_tick

-- a step: where views or sequence numbers are at their end, every event is ignored
unfoldable pub react : {F : Type 0} → Event → Word F
react event = by (λ r. when (not (is_frozen r)) (on_event event))

-- ---- which rule applies

abbrev pub message_rule : {F : Type 0} → Setting F → F → Replica → Frame → Rule
message_rule s f r (frame.Request q) = first_of (request_table q r)
message_rule s f r (frame.Reply a) = Ignored
message_rule s f r (frame.Prepare p) = first_of (prepare_table s.hash p r)
message_rule s f r (frame.PrepareOk a) = first_of (prepare_ok_table s.hash a r)
message_rule s f r (frame.Commit c) = first_of (commit_table c r)
message_rule s f r (frame.StartViewChange c) = first_of (start_view_change_table c r)
message_rule s f r (frame.DoViewChange d) = first_of (do_view_change_table d r)
message_rule s f r (frame.StartView v) = first_of (start_view_table s.hash v r)
message_rule s f r (frame.GetView g) = first_of (get_view_table g r)
message_rule s f r (frame.GetPrepare g) = first_of (get_prepare_table s.hash g r)
message_rule s f r (frame.GivePrepare g) = first_of (give_prepare_table g r)
message_rule s f r (frame.GetBlock g) = first_of (get_block_table (is_some (s.block f (asked_block g))) g r)
message_rule s f r (frame.GiveBlock g) = first_of (give_block_table s.is_block g r)
message_rule s f r (frame.GetSync g) = first_of (get_sync_table g r)
message_rule s f r (frame.SyncView v) = first_of (sync_view_table s.hash v r)

abbrev pub event_rule : {F : Type 0} → Setting F → F → Replica → Event → Rule
event_rule s f r (event.Request q) = first_of (request_table q r)
event_rule s f r (event.Deliver message) = message_rule s f r message
event_rule s f r event.Tick = first_of (tick_table r)

unfoldable pub rule_for : {F : Type 0} → Setting F → F → Replica → Event → Rule
rule_for s f r e = if is_frozen r then Ignored else event_rule s f r e

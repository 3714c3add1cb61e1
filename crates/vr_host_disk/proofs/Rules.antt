-- A step over a disk that lies is that of its sectors: the rules.
use Rattle.std.proofs.Common.{refl}
use Rattle.std.specs.Prelude.{ℕ, ◌+◌, Bool, List, find, Option, Some, None, is_some}
use Rattle.std.specs.Option.{option_map_or}
use Rattle.vr_header.specs.declared.header.Header.{Header}
use Rattle.vr_header.specs.Made.{Whole}
use Rattle.vr_state.specs.declared.session.SessionAnswer.{SessionAnswer}
use Rattle.vr_state.specs.declared.session.SessionAnswer.TheVariants as answer
use Rattle.vr_msg.specs.declared.event.Event.{Event}
use Rattle.vr_msg.specs.declared.event.Event.TheVariants as event
use Rattle.vr_msg.specs.declared.frame.Frame.{Frame}
use Rattle.vr_msg.specs.declared.frame.Frame.TheVariants as frame
use Rattle.vr_msg.specs.declared.frame.Commit.{Commit}
use Rattle.vr_msg.specs.declared.frame.DoViewChange.{DoViewChange}
use Rattle.vr_msg.specs.declared.frame.GetBlock.{GetBlock}
use Rattle.vr_msg.specs.declared.frame.GetPrepare.{GetPrepare}
use Rattle.vr_msg.specs.declared.frame.GetSync.{GetSync}
use Rattle.vr_msg.specs.declared.frame.GetView.{GetView}
use Rattle.vr_msg.specs.declared.frame.GiveBlock.{GiveBlock}
use Rattle.vr_msg.specs.declared.frame.GivePrepare.{GivePrepare}
use Rattle.vr_msg.specs.declared.frame.Prepare.{Prepare}
use Rattle.vr_msg.specs.declared.frame.PrepareOk.{PrepareOk}
use Rattle.vr_msg.specs.declared.frame.StartView.{StartView}
use Rattle.vr_msg.specs.declared.frame.StartViewChange.{StartViewChange}
use Rattle.vr_msg.specs.declared.frame.SyncView.{SyncView}
use Rattle.vr_msg.specs.declared.request.RequestFields.{RequestFields}
use Rattle.vr_ckpt.specs.declared.name.Name.{Name}
use Rattle.vr_rules.specs.Replica.{header_at}
use Rattle.vr_rules.specs.Steps.{PutBlock, ◌⨾◌, quiet, change, does}
use Rattle.vr_rules.specs.declared.asker.Asker.{Asker}
use Rattle.vr_rules.specs.Words.{ask, rested, visit}
use Rattle.vr_rules.specs.Deciding.{Hash, first_of, session_answer, request_table, prepare_table, prepare_ok_table, commit_table, start_view_change_table, do_view_change_table, log_of, start_view_table, get_view_table, get_prepare_table, give_prepare_table, get_block_table, is_wanted, get_sync_table, give_block_table, sync_view_table, tick_table}
use Rattle.vr_rules.specs.declared.rule.Rule.{Rule}
use Rattle.vr_rules.specs.declared.rule.Rule.TheVariants.{Redirected, Behind, Answered, Full, Made, PreparedLater, Past, Beyond, Known, Next, Ahead, Other, Counted, CommitLater, CommitHeard, ChangeLater, ChangeHeard, ChangeDone, StatedLate, Stated, Taken, ViewGiven, EntryGiven, EntryTaken, BlockGiven, BlockTaken, BlockMended, TickedPrimary, TickedBackup, TickedChanging, SyncAsked, SyncGiven, Jumped}
use Rattle.vr_rules.specs.Rules.{acknowledge, acknowledge_stored, acknowledged, asker_by, give_read, heard_of, idler, make, mend_found, next_entry, next_view, not_worn, obey_commit, obey_do_view_change, obey_get_block, obey_get_prepare, obey_get_sync, obey_get_view, obey_give_block, obey_give_prepare, obey_prepare, obey_prepare_ok, obey_request, obey_start_view, obey_start_view_change, obey_sync_view, obey_tick, on_commit, on_do_view_change, on_event, on_get_block, on_get_prepare, on_get_sync, on_get_view, on_give_block, on_give_prepare, on_message, on_prepare, on_prepare_ok, on_request, on_start_view, on_start_view_change, on_sync_view, on_tick, put_block, put_found, react, stored_reply, with_statement, without}
use Rattle.vr_host_disk.proofs.Words.{Alike, a_accept, a_advance, a_apply, a_ask, a_by, a_change, a_does, a_each, a_enter, a_if, a_jump, a_learn, a_load, a_naming, a_prepare_again, a_quiet, a_reading, a_resend, a_says, a_speak, a_take, a_then, a_try, a_visit, a_when, a_with_at, a_write}

a_make : (e : Whole) → Alike (make e) (make e)
unfolding make
a_make e = a_then (a_write e) (a_then (a_says _) a_advance)

a_reply : (a : Asker) (x : SessionAnswer) → Alike (stored_reply a x) (stored_reply a x)
a_reply a answer.Fresh = a_quiet
a_reply a (answer.Repeat outcome op) = a_says _
a_reply a answer.Old = a_says _
a_reply a answer.Gap = a_says _
a_reply a answer.Evicted = a_says _

a_obey_request : (hash : Hash) (q : RequestFields) (x : Rule) → Alike (obey_request hash q x) (obey_request hash q x)
a_obey_request hash q Redirected = a_says _
a_obey_request hash q Behind = a_says _
a_obey_request hash q Answered = a_by (λ r. a_reply (asker_by hash q) (session_answer q r))
a_obey_request hash q Full = a_says _
a_obey_request hash q Made = a_by (λ r. a_make (next_entry hash q r))
a_obey_request hash q _ = a_quiet

a_request : (q : RequestFields) → Alike (on_request q) (on_request q)
unfolding on_request
a_request q = a_naming (λ hash. a_by (λ r. a_obey_request hash q (first_of (request_table q r))))

a_rested : Alike (change rested) (change rested)
a_rested = a_change rested

a_obey_prepare : (hash : Hash) (p : Prepare) (x : Rule) → Alike (obey_prepare hash p x) (obey_prepare hash p x)
a_obey_prepare hash p PreparedLater = a_says _
a_obey_prepare hash p Past = a_then a_rested (a_learn p.commit)
a_obey_prepare hash p Beyond = a_rested
a_obey_prepare hash p Known = a_then a_rested (a_then (a_accept p.entry) (a_then (a_says _) (a_learn p.commit)))
a_obey_prepare hash p Next = a_then a_rested (a_then (a_write p.entry) (a_then (a_says _) (a_learn p.commit)))
a_obey_prepare hash p Ahead = a_then a_rested (a_then (a_says _) (a_learn p.commit))
a_obey_prepare hash p Other = a_rested
a_obey_prepare hash p _ = a_quiet

a_prepare : (p : Prepare) → Alike (on_prepare p) (on_prepare p)
unfolding on_prepare
a_prepare p = a_naming (λ hash. a_by (λ r. a_obey_prepare hash p (first_of (prepare_table hash p r))))

a_obey_ok : (a : PrepareOk) (x : Rule) → Alike (obey_prepare_ok a x) (obey_prepare_ok a x)
a_obey_ok a Counted = a_then (a_change (acknowledged a)) a_advance
a_obey_ok a _ = a_quiet

a_ok : (a : PrepareOk) → Alike (on_prepare_ok a) (on_prepare_ok a)
unfolding on_prepare_ok
a_ok a = a_naming (λ hash. a_by (λ r. a_obey_ok a (first_of (prepare_ok_table hash a r))))

a_obey_commit : (c : Commit) (x : Rule) → Alike (obey_commit c x) (obey_commit c x)
a_obey_commit c CommitLater = a_says _
a_obey_commit c CommitHeard = a_then a_rested (a_then (a_by (λ r. a_when _ (a_says _))) (a_learn c.commit))
a_obey_commit c _ = a_quiet

a_commit : (c : Commit) → Alike (on_commit c) (on_commit c)
unfolding on_commit
a_commit c = a_by (λ r. a_obey_commit c (first_of (commit_table c r)))

a_heard : (i : ℕ) → Alike (change (heard_of i)) (change (heard_of i))
a_heard i = a_change (heard_of i)

a_obey_change : (c : StartViewChange) (x : Rule) → Alike (obey_start_view_change c x) (obey_start_view_change c x)
a_obey_change c ChangeLater = a_then (a_enter c.view) (a_then (a_heard c.replica) a_speak)
a_obey_change c ChangeHeard = a_then (a_heard c.replica) a_speak
a_obey_change c ChangeDone = a_says _
a_obey_change c _ = a_quiet

a_view_change : (c : StartViewChange) → Alike (on_start_view_change c) (on_start_view_change c)
unfolding on_start_view_change
a_view_change c = a_by (λ r. a_obey_change c (first_of (start_view_change_table c r)))

a_obey_stated : (d : DoViewChange) (x : Rule) → Alike (obey_do_view_change d x) (obey_do_view_change d x)
a_obey_stated d StatedLate = a_says _
a_obey_stated d Stated = a_then (a_by (λ r. a_when _ (a_enter d.view))) (a_then (a_change (with_statement d.replica d.statement)) a_try)
a_obey_stated d _ = a_quiet

a_stated : (d : DoViewChange) → Alike (on_do_view_change d) (on_do_view_change d)
unfolding on_do_view_change
a_stated d = a_by (λ r. a_obey_stated d (first_of (do_view_change_table d r)))

a_option : (hash : Hash) (o : Option Header) → Alike (option_map_or (acknowledge hash) o quiet) (option_map_or (acknowledge hash) o quiet)
a_option hash None = a_quiet
a_option hash (Some h) = a_says _

a_stored : (hash : Hash) (op : ℕ) → Alike (acknowledge_stored hash op) (acknowledge_stored hash op)
unfolding acknowledge_stored
a_stored hash op = a_by (λ r. a_when _ (a_option hash (header_at r op)))

a_obey_view : (hash : Hash) (v : StartView) (x : Rule) → Alike (obey_start_view hash v x) (obey_start_view hash v x)
a_obey_view hash v Taken = a_then (a_take (log_of v)) (a_then (a_by (λ r. a_each _ (a_stored hash))) a_apply)
a_obey_view hash v SyncAsked = a_says _
a_obey_view hash v _ = a_quiet

a_view : (v : StartView) → Alike (on_start_view v) (on_start_view v)
unfolding on_start_view
a_view v = a_naming (λ hash. a_by (λ r. a_obey_view hash v (first_of (start_view_table hash v r))))

a_obey_get_sync : (g : GetSync) (x : Rule) → Alike (obey_get_sync g x) (obey_get_sync g x)
a_obey_get_sync g SyncGiven = a_says _
a_obey_get_sync g _ = a_quiet

a_get_sync : (g : GetSync) → Alike (on_get_sync g) (on_get_sync g)
unfolding on_get_sync
a_get_sync g = a_by (λ r. a_obey_get_sync g (first_of (get_sync_table g r)))

a_obey_sync : (hash : Hash) (v : SyncView) (x : Rule) → Alike (obey_sync_view hash v x) (obey_sync_view hash v x)
a_obey_sync hash v Jumped = a_then (a_jump v) (a_then (a_by (λ r. a_each _ (a_stored hash))) a_apply)
a_obey_sync hash v _ = a_quiet

a_sync : (v : SyncView) → Alike (on_sync_view v) (on_sync_view v)
unfolding on_sync_view
a_sync v = a_naming (λ hash. a_by (λ r. a_obey_sync hash v (first_of (sync_view_table hash v r))))

a_obey_get_view : (g : GetView) (x : Rule) → Alike (obey_get_view g x) (obey_get_view g x)
a_obey_get_view g ViewGiven = a_says _
a_obey_get_view g _ = a_quiet

a_get_view : (g : GetView) → Alike (on_get_view g) (on_get_view g)
unfolding on_get_view
a_get_view g = a_by (λ r. a_obey_get_view g (first_of (get_view_table g r)))

a_obey_get_prepare : (g : GetPrepare) (x : Rule) → Alike (obey_get_prepare g x) (obey_get_prepare g x)
a_obey_get_prepare g EntryGiven = a_with_at g.op (λ e. a_says _)
a_obey_get_prepare g _ = a_quiet

a_get_prepare : (g : GetPrepare) → Alike (on_get_prepare g) (on_get_prepare g)
unfolding on_get_prepare
a_get_prepare g = a_naming (λ hash. a_by (λ r. a_obey_get_prepare g (first_of (get_prepare_table hash g r))))

a_obey_give_prepare : (g : GivePrepare) (x : Rule) → Alike (obey_give_prepare g x) (obey_give_prepare g x)
a_obey_give_prepare g EntryTaken = a_then (a_write g.entry) (a_then (a_resend g.entry) a_apply)
a_obey_give_prepare g _ = a_quiet

a_give_prepare : (g : GivePrepare) → Alike (on_give_prepare g) (on_give_prepare g)
unfolding on_give_prepare
a_give_prepare g = a_by (λ r. a_obey_give_prepare g (first_of (give_prepare_table g r)))

a_give_read : (g : GetBlock) (o : Option (List ℕ)) → Alike (give_read g o) (give_read g o)
a_give_read g None = a_quiet
a_give_read g (Some block) = a_says _

pub a_obey_get_block : (g : GetBlock) (o : Option (List ℕ)) (x : Rule) → Alike (obey_get_block g o x) (obey_get_block g o x)
a_obey_get_block g o BlockGiven = a_give_read g o
a_obey_get_block g o _ = a_quiet

a_get_block : (g : GetBlock) → Alike (on_get_block g) (on_get_block g)
unfolding on_get_block
a_get_block g = a_reading _ _ (λ d. refl) (λ o. a_by (λ r. a_obey_get_block g o (first_of (get_block_table (is_some o) g r))))

pub a_put : (name : Name) (block : List ℕ) → Alike (does (λ r. PutBlock name block)) (does (λ r. PutBlock name block))
a_put name block = a_does (λ r. PutBlock name block)

a_put_block : (name : Name) (block : List ℕ) → Alike (put_block name block) (put_block name block)
unfolding put_block
a_put_block name block = a_then (a_put name block) (a_then (a_change (without name)) (a_by (λ r. a_when _ a_load)))

a_put_found : (block : List ℕ) (o : Option Name) → Alike (put_found block o) (put_found block o)
a_put_found block None = a_quiet
a_put_found block (Some name) = a_then (a_put_block name block) a_apply

a_mend_found : (block : List ℕ) (o : Option Name) → Alike (mend_found block o) (mend_found block o)
a_mend_found block None = a_quiet
a_mend_found block (Some name) = a_then (a_put name block) (a_change (not_worn name))

pub a_obey_give_block : (t : Name → List ℕ → Bool) (g : GiveBlock) (x : Rule) → Alike (obey_give_block t g x) (obey_give_block t g x)
a_obey_give_block t g BlockTaken = a_by (λ r. a_put_found g.block (find (is_wanted t g) r.missing))
a_obey_give_block t g BlockMended = a_by (λ r. a_mend_found g.block (find (is_wanted t g) r.worn))
a_obey_give_block t g _ = a_quiet

a_give_block : (g : GiveBlock) → Alike (on_give_block g) (on_give_block g)
unfolding on_give_block
a_give_block g = a_reading _ _ (λ d. refl) (λ t. a_by (λ r. a_obey_give_block t g (first_of (give_block_table t g r))))

a_next_view : Alike next_view next_view
a_next_view = a_by (λ r. a_enter (r.view + 1))

a_idler : Alike (change idler) (change idler)
a_idler = a_change idler

a_looks : Alike (visit ⨾ ask) (visit ⨾ ask)
a_looks = a_then a_visit a_ask

a_obey_tick : (x : Rule) → Alike (obey_tick x) (obey_tick x)
a_obey_tick TickedPrimary = a_then (a_says _) (a_then (a_by (λ r. a_when _ (a_prepare_again (r.commit + 1)))) a_looks)
a_obey_tick TickedBackup = a_then a_idler (a_by (λ r. a_if _ a_next_view a_looks))
a_obey_tick TickedChanging = a_then a_idler (a_by (λ r. a_if _ a_next_view (a_then (a_says _) (a_then a_speak a_looks))))
a_obey_tick _ = a_quiet

a_tick : Alike on_tick on_tick
unfolding on_tick
a_tick = a_by (λ r. a_obey_tick (first_of (tick_table r)))

a_message : (m : Frame) → Alike (on_message m) (on_message m)
a_message (frame.Request q) = a_request q
a_message (frame.Reply a) = a_quiet
a_message (frame.Prepare p) = a_prepare p
a_message (frame.PrepareOk a) = a_ok a
a_message (frame.Commit c) = a_commit c
a_message (frame.StartViewChange c) = a_view_change c
a_message (frame.DoViewChange d) = a_stated d
a_message (frame.StartView v) = a_view v
a_message (frame.GetView g) = a_get_view g
a_message (frame.GetPrepare g) = a_get_prepare g
a_message (frame.GivePrepare g) = a_give_prepare g
a_message (frame.GetBlock g) = a_get_block g
a_message (frame.GiveBlock g) = a_give_block g
a_message (frame.GetSync g) = a_get_sync g
a_message (frame.SyncView v) = a_sync v

a_event : (e : Event) → Alike (on_event e) (on_event e)
a_event (event.Request q) = a_request q
a_event (event.Deliver m) = a_message m
a_event event.Tick = a_tick

pub a_react : (e : Event) → Alike (react e) (react e)
unfolding react
a_react e = a_by (λ r. a_when _ (a_event e))

-- Each rule chains what it saves.
use Rattle.std.proofs.Common.{refl}
use Rattle.std.specs.Prelude.{ℕ, ◌+◌, Bool, List, find, Option, Some, None, is_some}
use Rattle.std.specs.Option.{option_map_or}
use Rattle.vr_header.specs.declared.header.Header.{Header}
use Rattle.vr_header.specs.Made.{Whole}
use Rattle.vr_state.specs.declared.session.SessionAnswer.{SessionAnswer}
use Rattle.vr_state.specs.declared.session.SessionAnswer.TheVariants as answer
use Rattle.vr_msg.specs.declared.event.Event.{Event}
use Rattle.vr_msg.specs.declared.event.Event.TheVariants as event
use Rattle.vr_msg.specs.declared.frame.Frame.{Frame}
use Rattle.vr_msg.specs.declared.frame.Frame.TheVariants as frame
use Rattle.vr_msg.specs.declared.frame.Commit.{Commit}
use Rattle.vr_msg.specs.declared.frame.DoViewChange.{DoViewChange}
use Rattle.vr_msg.specs.declared.frame.GetBlock.{GetBlock}
use Rattle.vr_msg.specs.declared.frame.GetPrepare.{GetPrepare}
use Rattle.vr_msg.specs.declared.frame.GetSync.{GetSync}
use Rattle.vr_msg.specs.declared.frame.GetView.{GetView}
use Rattle.vr_msg.specs.declared.frame.GiveBlock.{GiveBlock}
use Rattle.vr_msg.specs.declared.frame.GivePrepare.{GivePrepare}
use Rattle.vr_msg.specs.declared.frame.Prepare.{Prepare}
use Rattle.vr_msg.specs.declared.frame.PrepareOk.{PrepareOk}
use Rattle.vr_msg.specs.declared.frame.StartView.{StartView}
use Rattle.vr_msg.specs.declared.frame.StartViewChange.{StartViewChange}
use Rattle.vr_msg.specs.declared.frame.SyncView.{SyncView}
use Rattle.vr_msg.specs.declared.request.RequestFields.{RequestFields}
use Rattle.vr_ckpt.specs.declared.name.Name.{Name}
use Rattle.vr_rules.specs.Replica.{header_at}
use Rattle.vr_rules.specs.Steps.{PutBlock, ◌⨾◌, quiet, change, does}
use Rattle.vr_rules.specs.declared.asker.Asker.{Asker}
use Rattle.vr_rules.specs.Words.{ask, rested, visit}
use Rattle.vr_rules.specs.Deciding.{Hash, first_of, session_answer, request_table, prepare_table, prepare_ok_table, commit_table, start_view_change_table, do_view_change_table, log_of, start_view_table, get_view_table, get_prepare_table, give_prepare_table, get_block_table, is_wanted, give_block_table, tick_table, get_sync_table, sync_view_table}
use Rattle.vr_rules.specs.declared.rule.Rule.{Rule}
use Rattle.vr_rules.specs.declared.rule.Rule.TheVariants.{Redirected, Behind, Answered, Full, Made, PreparedLater, Past, Beyond, Known, Next, Ahead, Other, Counted, CommitLater, CommitHeard, ChangeLater, ChangeHeard, ChangeDone, StatedLate, Stated, Taken, ViewGiven, EntryGiven, EntryTaken, BlockGiven, BlockTaken, BlockMended, TickedPrimary, TickedBackup, TickedChanging, SyncAsked, SyncGiven, Jumped}
use Rattle.vr_rules.specs.Rules.{acknowledge, acknowledge_stored, acknowledged, asker_by, give_read, heard_of, idler, make, mend_found, next_entry, next_view, not_worn, obey_get_sync, obey_sync_view, on_get_sync, on_sync_view, obey_commit, obey_do_view_change, obey_get_block, obey_get_prepare, obey_get_view, obey_give_block, obey_give_prepare, obey_prepare, obey_prepare_ok, obey_request, obey_start_view, obey_start_view_change, obey_tick, on_commit, on_do_view_change, on_event, on_get_block, on_get_prepare, on_get_view, on_give_block, on_give_prepare, on_message, on_prepare, on_prepare_ok, on_request, on_start_view, on_start_view_change, on_tick, put_block, put_found, react, stored_reply, with_statement, without}
use Rattle.law_4_disks.proofs.Chaining.{Chained, c_accept, c_advance, c_apply, c_ask, c_by, c_change, c_each, c_enter, c_if, c_jump, c_learn, c_load, c_naming, c_prepare_again, c_quiet, c_reading, c_resend, c_says, c_speak, c_take, c_then, c_try, c_visit, c_when, c_with_at, c_write}

module _ {F : Type 0} where
  c_make : (e : Whole) → Chained {F = F} (make e)
  unfolding make
  c_make e = c_then _ _ (c_write e) (c_then _ _ (c_says _) c_advance)

  c_reply : (a : Asker) (x : SessionAnswer) → Chained {F = F} (stored_reply a x)
  c_reply a answer.Fresh = c_quiet
  c_reply a (answer.Repeat outcome op) = c_says _
  c_reply a answer.Old = c_says _
  c_reply a answer.Gap = c_says _
  c_reply a answer.Evicted = c_says _

  c_obey_request : (hash : Hash) (q : RequestFields) (x : Rule) → Chained {F = F} (obey_request hash q x)
  c_obey_request hash q Redirected = c_says _
  c_obey_request hash q Behind = c_says _
  c_obey_request hash q Answered = c_by _ (λ r. c_reply (asker_by hash q) (session_answer q r))
  c_obey_request hash q Full = c_says _
  c_obey_request hash q Made = c_by _ (λ r. c_make (next_entry hash q r))
  c_obey_request hash q _ = c_quiet

  c_request : (q : RequestFields) → Chained {F = F} (on_request q)
  unfolding on_request
  c_request q = c_naming _ (λ hash. c_by _ (λ r. c_obey_request hash q (first_of (request_table q r))))

  c_rested : Chained {F = F} (change rested)
  c_rested = c_change rested (λ r. refl)

  c_obey_prepare : (hash : Hash) (p : Prepare) (x : Rule) → Chained {F = F} (obey_prepare hash p x)
  c_obey_prepare hash p PreparedLater = c_says _
  c_obey_prepare hash p Past = c_then _ _ c_rested (c_learn p.commit)
  c_obey_prepare hash p Beyond = c_rested
  c_obey_prepare hash p Known = c_then _ _ c_rested (c_then _ _ (c_accept p.entry) (c_then _ _ (c_says _) (c_learn p.commit)))
  c_obey_prepare hash p Next = c_then _ _ c_rested (c_then _ _ (c_write p.entry) (c_then _ _ (c_says _) (c_learn p.commit)))
  c_obey_prepare hash p Ahead = c_then _ _ c_rested (c_then _ _ (c_says _) (c_learn p.commit))
  c_obey_prepare hash p Other = c_rested
  c_obey_prepare hash p _ = c_quiet

  c_prepare : (p : Prepare) → Chained {F = F} (on_prepare p)
  unfolding on_prepare
  c_prepare p = c_naming _ (λ hash. c_by _ (λ r. c_obey_prepare hash p (first_of (prepare_table hash p r))))

  c_obey_ok : (a : PrepareOk) (x : Rule) → Chained {F = F} (obey_prepare_ok a x)
  c_obey_ok a Counted = c_then _ _ (c_change (acknowledged a) (λ r. refl)) c_advance
  c_obey_ok a _ = c_quiet

  c_ok : (a : PrepareOk) → Chained {F = F} (on_prepare_ok a)
  unfolding on_prepare_ok
  c_ok a = c_naming _ (λ hash. c_by _ (λ r. c_obey_ok a (first_of (prepare_ok_table hash a r))))

  c_obey_commit : (c : Commit) (x : Rule) → Chained {F = F} (obey_commit c x)
  c_obey_commit c CommitLater = c_says _
  c_obey_commit c CommitHeard = c_then _ _ c_rested (c_then _ _ (c_by _ (λ r. c_when _ _ (c_says _))) (c_learn c.commit))
  c_obey_commit c _ = c_quiet

  c_commit : (c : Commit) → Chained {F = F} (on_commit c)
  unfolding on_commit
  c_commit c = c_by _ (λ r. c_obey_commit c (first_of (commit_table c r)))

  c_heard : (i : ℕ) → Chained {F = F} (change (heard_of i))
  c_heard i = c_change (heard_of i) (λ r. refl)

  c_obey_change : (c : StartViewChange) (x : Rule) → Chained {F = F} (obey_start_view_change c x)
  c_obey_change c ChangeLater = c_then _ _ (c_enter c.view) (c_then _ _ (c_heard c.replica) c_speak)
  c_obey_change c ChangeHeard = c_then _ _ (c_heard c.replica) c_speak
  c_obey_change c ChangeDone = c_says _
  c_obey_change c _ = c_quiet

  c_view_change : (c : StartViewChange) → Chained {F = F} (on_start_view_change c)
  unfolding on_start_view_change
  c_view_change c = c_by _ (λ r. c_obey_change c (first_of (start_view_change_table c r)))

  c_obey_stated : (d : DoViewChange) (x : Rule) → Chained {F = F} (obey_do_view_change d x)
  c_obey_stated d StatedLate = c_says _
  c_obey_stated d Stated = c_then _ _ (c_by _ (λ r. c_when _ _ (c_enter d.view))) (c_then _ _ (c_change (with_statement d.replica d.statement) (λ r. refl)) c_try)
  c_obey_stated d _ = c_quiet

  c_stated : (d : DoViewChange) → Chained {F = F} (on_do_view_change d)
  unfolding on_do_view_change
  c_stated d = c_by _ (λ r. c_obey_stated d (first_of (do_view_change_table d r)))

  c_option : (hash : Hash) (o : Option Header) → Chained {F = F} (option_map_or (acknowledge hash) o quiet)
  c_option hash None = c_quiet
  c_option hash (Some h) = c_says _

  c_stored : (hash : Hash) (op : ℕ) → Chained {F = F} (acknowledge_stored hash op)
  unfolding acknowledge_stored
  c_stored hash op = c_by _ (λ r. c_when _ _ (c_option hash (header_at r op)))

  c_obey_view : (hash : Hash) (v : StartView) (x : Rule) → Chained {F = F} (obey_start_view hash v x)
  c_obey_view hash v Taken = c_then _ _ (c_take (log_of v)) (c_then _ _ (c_by _ (λ r. c_each (acknowledge_stored hash) _ (c_stored hash))) c_apply)
  c_obey_view hash v SyncAsked = c_says _
  c_obey_view hash v _ = c_quiet

  c_view : (v : StartView) → Chained {F = F} (on_start_view v)
  unfolding on_start_view
  c_view v = c_naming _ (λ hash. c_by _ (λ r. c_obey_view hash v (first_of (start_view_table hash v r))))

  c_obey_get_sync : (g : GetSync) (x : Rule) → Chained {F = F} (obey_get_sync g x)
  c_obey_get_sync g SyncGiven = c_says _
  c_obey_get_sync g _ = c_quiet

  c_get_sync : (g : GetSync) → Chained {F = F} (on_get_sync g)
  unfolding on_get_sync
  c_get_sync g = c_by _ (λ r. c_obey_get_sync g (first_of (get_sync_table g r)))

  c_obey_sync : (hash : Hash) (v : SyncView) (x : Rule) → Chained {F = F} (obey_sync_view hash v x)
  c_obey_sync hash v Jumped = c_then _ _ (c_jump v) (c_then _ _ (c_by _ (λ r. c_each (acknowledge_stored hash) _ (c_stored hash))) c_apply)
  c_obey_sync hash v _ = c_quiet

  c_sync : (v : SyncView) → Chained {F = F} (on_sync_view v)
  unfolding on_sync_view
  c_sync v = c_naming _ (λ hash. c_by _ (λ r. c_obey_sync hash v (first_of (sync_view_table hash v r))))

  c_obey_get_view : (g : GetView) (x : Rule) → Chained {F = F} (obey_get_view g x)
  c_obey_get_view g ViewGiven = c_says _
  c_obey_get_view g _ = c_quiet

  c_get_view : (g : GetView) → Chained {F = F} (on_get_view g)
  unfolding on_get_view
  c_get_view g = c_by _ (λ r. c_obey_get_view g (first_of (get_view_table g r)))

  c_obey_get_prepare : (g : GetPrepare) (x : Rule) → Chained {F = F} (obey_get_prepare g x)
  c_obey_get_prepare g EntryGiven = c_with_at g.op _ (λ e. c_says _)
  c_obey_get_prepare g _ = c_quiet

  c_get_prepare : (g : GetPrepare) → Chained {F = F} (on_get_prepare g)
  unfolding on_get_prepare
  c_get_prepare g = c_naming _ (λ hash. c_by _ (λ r. c_obey_get_prepare g (first_of (get_prepare_table hash g r))))

  c_obey_give_prepare : (g : GivePrepare) (x : Rule) → Chained {F = F} (obey_give_prepare g x)
  c_obey_give_prepare g EntryTaken = c_then _ _ (c_write g.entry) (c_then _ _ (c_resend g.entry) c_apply)
  c_obey_give_prepare g _ = c_quiet

  c_give_prepare : (g : GivePrepare) → Chained {F = F} (on_give_prepare g)
  unfolding on_give_prepare
  c_give_prepare g = c_by _ (λ r. c_obey_give_prepare g (first_of (give_prepare_table g r)))

  c_give_read : (g : GetBlock) (o : Option (List ℕ)) → Chained {F = F} (give_read g o)
  c_give_read g None = c_quiet
  c_give_read g (Some block) = c_says _

  pub c_obey_get_block : (g : GetBlock) (o : Option (List ℕ)) (x : Rule) → Chained {F = F} (obey_get_block g o x)
  c_obey_get_block g o BlockGiven = c_give_read g o
  c_obey_get_block g o _ = c_quiet

  c_get_block : (g : GetBlock) → Chained {F = F} (on_get_block g)
  unfolding on_get_block
  c_get_block g = c_reading _ _ (λ o. c_by _ (λ r. c_obey_get_block g o (first_of (get_block_table (is_some o) g r))))

  pub c_put : (name : Name) (block : List ℕ) → Chained {F = F} (does (λ r. PutBlock name block))
  unfolding does
  c_put name block = record { each = λ s r f. refl }

  c_put_block : (name : Name) (block : List ℕ) → Chained {F = F} (put_block name block)
  unfolding put_block
  c_put_block name block = c_then _ _ (c_put name block) (c_then _ _ (c_change (without name) (λ r. refl)) (c_by _ (λ r. c_when _ _ c_load)))

  c_put_found : (block : List ℕ) (o : Option Name) → Chained {F = F} (put_found block o)
  c_put_found block None = c_quiet
  c_put_found block (Some name) = c_then _ _ (c_put_block name block) c_apply

  c_mend_found : (block : List ℕ) (o : Option Name) → Chained {F = F} (mend_found block o)
  c_mend_found block None = c_quiet
  c_mend_found block (Some name) = c_then _ _ (c_put name block) (c_change (not_worn name) (λ r. refl))

  pub c_obey_give_block : (t : Name → List ℕ → Bool) (g : GiveBlock) (x : Rule) → Chained {F = F} (obey_give_block t g x)
  c_obey_give_block t g BlockTaken = c_by _ (λ r. c_put_found g.block (find (is_wanted t g) r.missing))
  c_obey_give_block t g BlockMended = c_by _ (λ r. c_mend_found g.block (find (is_wanted t g) r.worn))
  c_obey_give_block t g _ = c_quiet

  c_give_block : (g : GiveBlock) → Chained {F = F} (on_give_block g)
  unfolding on_give_block
  c_give_block g = c_reading _ _ (λ t. c_by _ (λ r. c_obey_give_block t g (first_of (give_block_table t g r))))

  c_next_view : Chained {F = F} next_view
  c_next_view = c_by _ (λ r. c_enter (r.view + 1))

  c_idler : Chained {F = F} (change idler)
  c_idler = c_change idler (λ r. refl)

  c_looks : Chained {F = F} (visit ⨾ ask)
  c_looks = c_then visit ask c_visit c_ask

  c_obey_tick : (x : Rule) → Chained {F = F} (obey_tick x)
  c_obey_tick TickedPrimary = c_then _ _ (c_says _) (c_then _ _ (c_by _ (λ r. c_when _ _ (c_prepare_again (r.commit + 1)))) c_looks)
  c_obey_tick TickedBackup = c_then _ _ c_idler (c_by _ (λ r. c_if _ _ _ c_next_view c_looks))
  c_obey_tick TickedChanging = c_then _ _ c_idler (c_by _ (λ r. c_if _ _ _ c_next_view (c_then _ _ (c_says _) (c_then _ _ c_speak c_looks))))
  c_obey_tick _ = c_quiet

  c_tick : Chained {F = F} on_tick
  unfolding on_tick
  c_tick = c_by _ (λ r. c_obey_tick (first_of (tick_table r)))

  c_message : (m : Frame) → Chained {F = F} (on_message m)
  c_message (frame.Request q) = c_request q
  c_message (frame.Reply a) = c_quiet
  c_message (frame.Prepare p) = c_prepare p
  c_message (frame.PrepareOk a) = c_ok a
  c_message (frame.Commit c) = c_commit c
  c_message (frame.StartViewChange c) = c_view_change c
  c_message (frame.DoViewChange d) = c_stated d
  c_message (frame.StartView v) = c_view v
  c_message (frame.GetView g) = c_get_view g
  c_message (frame.GetPrepare g) = c_get_prepare g
  c_message (frame.GivePrepare g) = c_give_prepare g
  c_message (frame.GetBlock g) = c_get_block g
  c_message (frame.GiveBlock g) = c_give_block g
  c_message (frame.GetSync g) = c_get_sync g
  c_message (frame.SyncView v) = c_sync v

  c_event : (e : Event) → Chained {F = F} (on_event e)
  c_event (event.Request q) = c_request q
  c_event (event.Deliver m) = c_message m
  c_event event.Tick = c_tick

  pub c_react : (e : Event) → Chained {F = F} (react e)
  unfolding react
  c_react e = c_by _ (λ r. c_when _ _ (c_event e))

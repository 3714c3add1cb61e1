-- Each word, and so each rule and each opening, comes to the same on two disks of which it reads the same.
use Rattle.std.proofs.Common.{ℕ, zero, suc, ◌≡◌, refl, sym, ap, ◌∙◌, subst, Bool, true, false, cond, List, [], ◌∷◌, ◌++◌, map, Option, Some, None, ◌+◌, ◌<◌, ◌%◌, arith}
use Rattle.std.specs.Prelude.{nat_lt, not, find, is_some, if◌then◌else◌}
use Rattle.vr_header.specs.declared.header.Header.{Header}
use Rattle.vr_header.specs.declared.part.Part.{Part}
use Rattle.vr_header.specs.declared.part.Part.TheVariants.{Here, Lost, Wanted, Unknown, Nothing}
use Rattle.vr_header.specs.Made.{Whole}
use Rattle.vr_msg.specs.declared.choice.Choice.{Choice}
use Rattle.vr_msg.specs.declared.choice.Choice.TheVariants.{Ends, WaitsAt, TooFew}
use Rattle.vr_msg.specs.declared.frame.Frame.{Frame}
use Rattle.vr_msg.specs.declared.frame.SyncView.{SyncView}
use Rattle.vr_msg.specs.declared.output.Output.{Output}
use Rattle.vr_msg.specs.declared.statement.Statement.{Statement}
use Rattle.vr_super.specs.Copies.{SuperValue}
use Rattle.vr_ckpt.specs.declared.name.Name.{Name}
use Rattle.vr_rules.specs.Replica.{Replica, forgetting, is_here, leads, part_at, with_part, is_primary, last_view, header_at}
use Rattle.vr_rules.specs.Steps.{Effect, Rewrite, Mend, PutBlock, Say, Setting, Step, Word, ◌⨾◌, quiet, change, does, says, by, naming, reading, when, times, each, after_all}
use Rattle.vr_rules.specs.Outputs.{applied_reply, commit_line, send_to_all, start_line, start_view_change, wait_line, to_primary, do_view_change}
use Rattle.vr_rules.specs.Words.{Log, accept, advance, advanced, apply, apply_entry, apply_next, applied, ask, ask_for, ask_peer, begin_view, checkpoint_of, checkpoints, chosen_log, choose_line, decided, enter, entered, entry_of, is_checkpoint, learn, learned, load, loads, lost, make_checkpoint, obey_choice, or_lost, prepare_again, resend, rested, save, speak, stated, stored, take, taken, try, try_log, turned, with_checkpoint, with_entry, with_entry_at, write, jump, jumped, mend_header, visit, visit_block, visit_place, visit_read, visit_slot, with_worn, saves, with_saved, writes, header_read, checkpoint_at}
use Rattle.vr_rules.specs.Opening.{announce, heard_itself, in_next_view, leave_view, resuming}
use Rattle.std.specs.Option.{option_map_or, option_and_then}
use Rattle.vr_state.specs.declared.session.SessionAnswer.{SessionAnswer}
use Rattle.vr_state.specs.declared.session.SessionAnswer.TheVariants as answer
use Rattle.vr_msg.specs.declared.event.Event.{Event}
use Rattle.vr_msg.specs.declared.event.Event.TheVariants as event
use Rattle.vr_msg.specs.declared.frame.Frame.TheVariants as frame
use Rattle.vr_msg.specs.declared.frame.Commit.{Commit}
use Rattle.vr_msg.specs.declared.frame.DoViewChange.{DoViewChange}
use Rattle.vr_msg.specs.declared.frame.GetBlock.{GetBlock}
use Rattle.vr_msg.specs.declared.frame.GetPrepare.{GetPrepare}
use Rattle.vr_msg.specs.declared.frame.GetSync.{GetSync}
use Rattle.vr_msg.specs.declared.frame.GetView.{GetView}
use Rattle.vr_msg.specs.declared.frame.GiveBlock.{GiveBlock}
use Rattle.vr_msg.specs.declared.frame.GivePrepare.{GivePrepare}
use Rattle.vr_msg.specs.declared.frame.Prepare.{Prepare}
use Rattle.vr_msg.specs.declared.frame.PrepareOk.{PrepareOk}
use Rattle.vr_msg.specs.declared.frame.StartView.{StartView}
use Rattle.vr_msg.specs.declared.frame.StartViewChange.{StartViewChange}
use Rattle.vr_msg.specs.declared.request.RequestFields.{RequestFields}
use Rattle.vr_rules.specs.declared.asker.Asker.{Asker}
use Rattle.vr_rules.specs.Deciding.{Hash, first_of, session_answer, request_table, prepare_table, prepare_ok_table, commit_table, start_view_change_table, do_view_change_table, log_of, start_view_table, get_view_table, get_prepare_table, give_prepare_table, get_block_table, is_wanted, give_block_table, tick_table, get_sync_table, sync_view_table}
use Rattle.vr_rules.specs.declared.rule.Rule.{Rule}
use Rattle.vr_rules.specs.declared.rule.Rule.TheVariants.{Redirected, Behind, Answered, Full, Made, PreparedLater, Past, Beyond, Known, Next, Ahead, Other, Counted, CommitLater, CommitHeard, ChangeLater, ChangeHeard, ChangeDone, StatedLate, Stated, Taken, ViewGiven, EntryGiven, EntryTaken, BlockGiven, BlockTaken, BlockMended, TickedPrimary, TickedBackup, TickedChanging, SyncAsked, SyncGiven, Jumped}
use Rattle.vr_rules.specs.Rules.{acknowledge, acknowledge_stored, acknowledged, asker_by, give_read, heard_of, idler, make, mend_found, next_entry, next_view, not_worn, obey_get_sync, obey_sync_view, on_get_sync, on_sync_view, obey_commit, obey_do_view_change, obey_get_block, obey_get_prepare, obey_get_view, obey_give_block, obey_give_prepare, obey_prepare, obey_prepare_ok, obey_request, obey_start_view, obey_start_view_change, obey_tick, on_commit, on_do_view_change, on_event, on_get_block, on_get_prepare, on_get_view, on_give_block, on_give_prepare, on_message, on_prepare, on_prepare_ok, on_request, on_start_view, on_start_view_change, on_tick, put_block, put_found, react, stored_reply, with_statement, without, block_at, asked_block, test_of}
use Rattle.vr_header.specs.Same.{same_header}
use Rattle.vr_msg.specs.Choice.{ops}
use Rattle.vr_recover.specs.declared.readings.Verdict.{Verdict}
use Rattle.vr_recover.specs.declared.readings.Verdict.TheVariants as verdict
use Rattle.vr_rules.specs.Opening as opening
use Rattle.vr_rules.proofs.Halves.{after_both}

-- what a step finds, and leaves
module _ {F : Type 0} (s : Setting F) (R : F → F → Type 0) where
  pub record Sees : Type 0 where
    pub header : (f g : F) → R f g → (slot : ℕ) → slot < 64 → s.header g slot ≡ s.header f slot
    pub entry : (f g : F) → R f g → (slot : ℕ) → slot < 64 → s.entry g slot ≡ s.entry f slot
    pub blank : (f g : F) → R f g → (slot : ℕ) → slot < 64 → s.is_blank g slot ≡ s.is_blank f slot
    pub block : (f g : F) → R f g → (name : Name) → s.block g name ≡ s.block f name
    pub loaded : (f g : F) → R f g → (root : Name) → s.loaded g root ≡ s.loaded f root
    pub after : (f g : F) → R f g → (e : Effect) → R (s.after f e) (s.after g e)

  -- one step comes of both, and leaves disks that are related again
  pub record Same (f g : F) (x y : Step) : Type 0 where
    pub step : y ≡ x
    pub left : R (after_all s f x.script) (after_all s g x.script)

abbrev joined : Step → Step → Step
joined a b = record { replica = b.replica; script = a.script ++ b.script }

module _ {F : Type 0} (s : Setting F) (R : F → F → Type 0) (sees : Sees s R) where
  pub record Respects (w : Word F) : Type 0 where
    pub each : (r : Replica) (f g : F) → R f g → Same s R f g (w s r f) (w s r g)

  -- ---- a script

  left_said : (os : List Output) (f g : F) → R f g → R (after_all s f (map Say os)) (after_all s g (map Say os))
  unfolding after_all
  left_said [] f g a = a
  left_said (o ∷ os) f g a = left_said os (s.after f (Say o)) (s.after g (Say o)) (sees.after f g a (Say o))

  t_then : (a b : Word F) → Respects a → Respects b → Respects (a ⨾ b)
  unfolding ◌⨾◌
  t_then a b x y = record {
    each = λ r f g p.
        let one = a s r f in
        let first = x.each r f g p in
        let d = after_all s f one.script in
        let e = after_all s g one.script in
        let second = y.each one.replica d e first.left in
        record {
          step = ap (λ (z : Step). joined z (b s z.replica (after_all s g z.script))) first.step ∙ ap (joined one) second.step;
          left = subst (λ (z : F). R z (after_all s g (one.script ++ (b s one.replica d).script))) (sym (after_both s f one.script (b s one.replica d).script))
              (subst (λ (z : F). R (after_all s d (b s one.replica d).script) z) (sym (after_both s g one.script (b s one.replica d).script)) second.left);
        };
  }

  t_quiet : Respects quiet
  unfolding quiet after_all
  t_quiet = record { each = λ r f g p. record { step = refl; left = p } }

  t_change : (g : Replica → Replica) → Respects (change g)
  unfolding change after_all
  t_change h = record { each = λ r f g p. record { step = refl; left = p } }

  t_does : (e : Replica → Effect) → Respects (does e)
  unfolding does after_all
  t_does e = record { each = λ r f g p. record { step = refl; left = sees.after f g p (e r) } }

  t_says : (os : Replica → List Output) → Respects (says os)
  unfolding says
  t_says os = record { each = λ r f g p. record { step = refl; left = left_said (os r) f g p } }

  t_by : (w : Replica → Word F) → ((r : Replica) → Respects (w r)) → Respects (by w)
  unfolding by
  t_by w h = record { each = λ r f g p. (h r).each r f g p }

  t_naming : (w : (List ℕ → List ℕ) → Word F) → ((x : List ℕ → List ℕ) → Respects (w x)) → Respects (naming w)
  unfolding naming
  t_naming w h = record { each = λ r f g p. (h s.hash).each r f g p }

  t_reading : {X : Type 0} (q : Setting F → F → X) (w : X → Word F) → ((f g : F) → R f g → q s g ≡ q s f) → ((x : X) → Respects (w x)) → Respects (reading q w)
  unfolding reading
  t_reading {X} q w same h = record {
    each = λ r f g p.
        let x = (h (q s f)).each r f g p in
        record { step = ap (λ (z : X). w z s r g) (same f g p) ∙ x.step; left = x.left };
  }

  t_if : (b : Bool) (v w : Word F) → Respects v → Respects w → Respects (cond b v w)
  t_if true v w x y = x
  t_if false v w x y = y

  t_when : (b : Bool) (w : Word F) → Respects w → Respects (when b w)
  t_when b w x = t_if b w quiet x t_quiet

  t_times : (n : ℕ) (w : Word F) → Respects w → Respects (times n w)
  unfolding times
  t_times zero w x = t_quiet
  t_times (suc n) w x = t_then w (times n w) x (t_times n w x)

  pub t_each : {X : Type 0} (w : X → Word F) (xs : List X) → ((x : X) → Respects (w x)) → Respects (each w xs)
  unfolding each
  t_each w [] h = t_quiet
  t_each w (x ∷ xs) h = t_then (w x) (each w xs) (h x) (t_each w xs h)

  -- ---- what is read

  sees_entry : (h : Header) (f g : F) → R f g → entry_of h s g ≡ entry_of h s f
  sees_entry h f g p = ap (option_and_then (λ (e : Whole). if same_header e.header h then Some e else None)) (sees.entry f g p (h.op % 64) (omega arith))

  sees_header : (op : ℕ) (f g : F) → R f g → header_read op s g ≡ header_read op s f
  sees_header op f g p = sees.header f g p (op % 64) (omega arith)

  sees_block : (name : Name) (f g : F) → R f g → s.block g name ≡ s.block f name
  sees_block name f g p = sees.block f g p name

  sees_loaded : (root : Name) (f g : F) → R f g → s.loaded g root ≡ s.loaded f root
  sees_loaded root f g p = sees.loaded f g p root

  sees_slot : (k : ℕ) (f g : F) → R f g → opening.slot_at k s g ≡ opening.slot_at k s f
  sees_slot k f g p =
      let l : k % 64 < 64 = omega arith in
      rw (sees.header f g p (k % 64) l, sees.entry f g p (k % 64) l, sees.blank f g p (k % 64) l) refl

  -- ---- words

  t_save : Respects save
  unfolding save
  t_save = t_then _ _ (t_does saves) (t_change with_saved)

  t_entered : (view : ℕ) → Respects (change (entered view))
  t_entered view = t_change (entered view)

  t_enter : (view : ℕ) → Respects (enter view)
  unfolding enter
  t_enter view = t_if (nat_lt last_view view) (change rested) (change (entered view) ⨾ save ⨾ says (send_to_all start_view_change)) (t_change rested)
      (t_then (change (entered view)) (save ⨾ says (send_to_all start_view_change)) (t_entered view) (t_then save (says (send_to_all start_view_change)) t_save (t_says (send_to_all start_view_change))))

  t_write : (e : Whole) → Respects (write e)
  unfolding write
  t_write e = t_then _ _ (t_does (writes e)) (t_change (stored e))

  t_accept : (e : Whole) → Respects (accept e)
  unfolding accept
  t_accept e = t_by (λ r. when (not (is_here (part_at r e.header.op))) (write e)) (λ r. t_when (not (is_here (part_at r e.header.op))) (write e) (t_write e))

  t_or_lost : (h : Header) (w : Whole → Word F) (o : Option Whole) → ((e : Whole) → Respects (w e)) → Respects (or_lost h w o)
  t_or_lost h w None x = t_change (lost h)
  t_or_lost h w (Some e) x = x e

  t_with : (w : Whole → Word F) (p : Part) → ((e : Whole) → Respects (w e)) → Respects (with_entry w p)
  t_with w (Here h) x = t_reading (entry_of h) (or_lost h w) (sees_entry h) (λ o. t_or_lost h w o x)
  t_with w (Lost h) x = t_quiet
  t_with w (Wanted h) x = t_quiet
  t_with w Unknown x = t_quiet
  t_with w Nothing x = t_quiet

  t_with_at : (op : ℕ) (w : Whole → Word F) → ((e : Whole) → Respects (w e)) → Respects (with_entry_at op w)
  unfolding with_entry_at
  t_with_at op w x = t_by (λ r. with_entry w (part_at r op)) (λ r. t_with w (part_at r op) x)

  t_checkpoint : Respects (does checkpoints)
  t_checkpoint = t_does checkpoints

  t_make_checkpoint : Respects make_checkpoint
  unfolding make_checkpoint
  t_make_checkpoint = t_by _ (λ r. t_reading (checkpoint_of r) (λ c. does checkpoints ⨾ change (with_checkpoint c) ⨾ save) (λ f g a. refl) (λ c.
      t_then (does checkpoints) (change (with_checkpoint c) ⨾ save) t_checkpoint (t_then (change (with_checkpoint c)) save (t_change (with_checkpoint c)) t_save)))

  t_apply_entry : (e : Whole) → Respects (apply_entry e)
  unfolding apply_entry
  t_apply_entry e = t_then _ _ (t_says (commit_line e)) (t_then _ _ (t_says (applied_reply e)) (t_then _ _ (t_change (applied e)) (t_by _ (λ r. t_when (is_checkpoint r.applied) make_checkpoint t_make_checkpoint))))

  t_apply_next : Respects apply_next
  unfolding apply_next
  t_apply_next = t_by _ (λ r. t_when _ _ (t_with_at _ apply_entry t_apply_entry))

  t_apply : Respects apply
  unfolding apply
  t_apply = t_by _ (λ r. t_times _ apply_next t_apply_next)

  t_advance : Respects advance
  unfolding advance
  t_advance = t_then _ _ (t_change advanced) t_apply

  t_learn : (c : ℕ) → Respects (learn c)
  unfolding learn
  t_learn c = t_then _ _ (t_change (learned c)) t_apply

  t_take : (l : Log) → Respects (take l)
  unfolding take
  t_take l = t_then _ _ (t_change (taken l)) t_save

  t_prepare_again : (op : ℕ) → Respects (prepare_again op)
  unfolding prepare_again
  t_prepare_again op = t_with_at op _ (λ e. t_says _)

  t_begin_view : (ss : List Statement) (l : Log) → Respects (begin_view ss l)
  unfolding begin_view
  t_begin_view ss l = t_then _ _ (t_says (choose_line ss l)) (t_then _ _ (t_take l) (t_then _ _ (t_says _) (t_then _ _ (t_by _ (λ r. t_each prepare_again _ t_prepare_again)) (t_by _ (λ r. t_if _ _ _ t_advance t_apply)))))

  t_try_log : (ss : List Statement) (l : Log) → Respects (try_log ss l)
  unfolding try_log
  t_try_log ss l = t_naming _ (λ hash. t_by _ (λ r. t_if _ _ _ (t_begin_view ss l) (t_says _)))

  t_choice : (ss : List Statement) (c : Choice) → Respects (obey_choice ss c)
  t_choice ss TooFew = t_quiet
  t_choice ss (WaitsAt op) = t_says (wait_line op)
  t_choice ss (Ends headers) = t_by _ (λ r. t_try_log ss (chosen_log r ss headers))

  t_try : Respects try
  unfolding try
  t_try = t_by _ (λ r. t_when _ _ (t_choice (stated r) (decided r)))

  t_speak : Respects speak
  unfolding speak
  t_speak = t_by _ (λ r. t_when _ _ (t_if (is_primary r) try (says (to_primary do_view_change)) t_try (t_says _)))

  t_resend : (e : Whole) → Respects (resend e)
  unfolding resend
  t_resend e = t_naming _ (λ hash. t_by _ (λ r. t_when _ _ (t_if _ _ _ (t_says _) (t_says _))))

  t_ask_peer : (m : Replica → Frame) → Respects (ask_peer m)
  unfolding ask_peer
  t_ask_peer m = t_then _ _ (t_says _) (t_change turned)

  t_ask_for : (ns : List Name) (o : Option Header) (ws : List Name) → Respects (ask_for ns o ws)
  t_ask_for (n ∷ ns) o ws = t_ask_peer _
  t_ask_for [] (Some h) ws = t_naming _ (λ hash. t_ask_peer _)
  t_ask_for [] None (w ∷ ws) = t_ask_peer _
  t_ask_for [] None [] = t_quiet

  t_ask : Respects ask
  unfolding ask
  t_ask = t_by _ (λ r. t_when _ _ (t_ask_for _ _ _))

  -- ---- a visit: the value that is mended is the one that was saved

  t_rewrites : (h : Header) → Respects (does (λ r. Rewrite h))
  t_rewrites h = t_does _

  t_mends : Respects (does (λ r. Mend r.saved))
  t_mends = t_does _

  t_mend_header : (h : Header) (o : Option Header) → Respects (mend_header h o)
  t_mend_header h None = t_rewrites h
  t_mend_header h (Some d) = t_when _ _ (t_rewrites h)

  t_visit_slot : (op : ℕ) → Respects (visit_slot op)
  unfolding visit_slot
  t_visit_slot op = t_with_at op _ (λ e. t_reading (header_read op) _ (sees_header op) (t_mend_header e.header))

  t_visit_read : (name : Name) (o : Option (List ℕ)) → Respects (visit_read name o)
  t_visit_read name None = t_change (with_worn name)
  t_visit_read name (Some block) = t_quiet

  t_visit_block : (o : Option Name) → Respects (visit_block o)
  unfolding visit_block
  t_visit_block None = t_quiet
  t_visit_block (Some name) = t_reading (λ s f. s.block f name) (visit_read name) (sees_block name) (t_visit_read name)

  t_visit_place : (at : ℕ) → Respects (visit_place at)
  unfolding visit_place
  t_visit_place at = t_by _ (λ r. t_if _ _ _ (t_visit_slot _) (t_if _ _ _ t_mends (t_visit_block _)))

  t_visit : Respects visit
  unfolding visit
  t_visit = t_by _ (λ r. t_when _ _ (t_then _ _ (t_visit_place _) (t_change _)))

  t_jump : (v : SyncView) → Respects (jump v)
  unfolding jump
  t_jump v = t_then _ _ (t_change (jumped v)) t_save

  t_load : Respects load
  unfolding load
  t_load = t_by _ (λ r. t_when _ _ (t_reading (checkpoint_at r.root) (λ l. change (loads r.root l)) (sees_loaded r.root) (λ l. t_change (loads r.root l))))

  -- ---- an opening, after the mending

  t_leave : Respects leave_view
  t_leave = t_by _ (λ r. t_when (leads r) _ (t_then _ _ (t_change in_next_view) t_save))

  t_announce : Respects announce
  t_announce = t_by _ (λ r. t_when _ _ (t_then _ _ (t_change heard_itself) (t_by _ (λ r. t_when _ _ (t_says _)))))

  pub t_resuming : Respects resuming
  t_resuming = t_by _ (λ r. t_if _ _ _ (t_says start_line) (t_then _ _ t_leave (t_then _ _ (t_says start_line) (t_then _ _ t_load (t_then _ _ t_apply t_announce)))))

  -- ---- rules

  t_make : (e : Whole) → Respects (make e)
  unfolding make
  t_make e = t_then _ _ (t_write e) (t_then _ _ (t_says _) t_advance)

  t_reply : (a : Asker) (x : SessionAnswer) → Respects (stored_reply a x)
  t_reply a answer.Fresh = t_quiet
  t_reply a (answer.Repeat outcome op) = t_says _
  t_reply a answer.Old = t_says _
  t_reply a answer.Gap = t_says _
  t_reply a answer.Evicted = t_says _

  t_obey_request : (hash : Hash) (q : RequestFields) (x : Rule) → Respects (obey_request hash q x)
  t_obey_request hash q Redirected = t_says _
  t_obey_request hash q Behind = t_says _
  t_obey_request hash q Answered = t_by _ (λ r. t_reply (asker_by hash q) (session_answer q r))
  t_obey_request hash q Full = t_says _
  t_obey_request hash q Made = t_by _ (λ r. t_make (next_entry hash q r))
  t_obey_request hash q _ = t_quiet

  t_request : (q : RequestFields) → Respects (on_request q)
  unfolding on_request
  t_request q = t_naming _ (λ hash. t_by _ (λ r. t_obey_request hash q (first_of (request_table q r))))

  t_rested : Respects (change rested)
  t_rested = t_change rested

  t_obey_prepare : (hash : Hash) (p : Prepare) (x : Rule) → Respects (obey_prepare hash p x)
  t_obey_prepare hash p PreparedLater = t_says _
  t_obey_prepare hash p Past = t_then _ _ t_rested (t_learn p.commit)
  t_obey_prepare hash p Beyond = t_rested
  t_obey_prepare hash p Known = t_then _ _ t_rested (t_then _ _ (t_accept p.entry) (t_then _ _ (t_says _) (t_learn p.commit)))
  t_obey_prepare hash p Next = t_then _ _ t_rested (t_then _ _ (t_write p.entry) (t_then _ _ (t_says _) (t_learn p.commit)))
  t_obey_prepare hash p Ahead = t_then _ _ t_rested (t_then _ _ (t_says _) (t_learn p.commit))
  t_obey_prepare hash p Other = t_rested
  t_obey_prepare hash p _ = t_quiet

  t_prepare : (p : Prepare) → Respects (on_prepare p)
  unfolding on_prepare
  t_prepare p = t_naming _ (λ hash. t_by _ (λ r. t_obey_prepare hash p (first_of (prepare_table hash p r))))

  t_obey_ok : (a : PrepareOk) (x : Rule) → Respects (obey_prepare_ok a x)
  t_obey_ok a Counted = t_then _ _ (t_change (acknowledged a)) t_advance
  t_obey_ok a _ = t_quiet

  t_ok : (a : PrepareOk) → Respects (on_prepare_ok a)
  unfolding on_prepare_ok
  t_ok a = t_naming _ (λ hash. t_by _ (λ r. t_obey_ok a (first_of (prepare_ok_table hash a r))))

  t_obey_commit : (c : Commit) (x : Rule) → Respects (obey_commit c x)
  t_obey_commit c CommitLater = t_says _
  t_obey_commit c CommitHeard = t_then _ _ t_rested (t_then _ _ (t_by _ (λ r. t_when _ _ (t_says _))) (t_learn c.commit))
  t_obey_commit c _ = t_quiet

  t_commit : (c : Commit) → Respects (on_commit c)
  unfolding on_commit
  t_commit c = t_by _ (λ r. t_obey_commit c (first_of (commit_table c r)))

  t_heard : (i : ℕ) → Respects (change (heard_of i))
  t_heard i = t_change (heard_of i)

  t_obey_change : (c : StartViewChange) (x : Rule) → Respects (obey_start_view_change c x)
  t_obey_change c ChangeLater = t_then _ _ (t_enter c.view) (t_then _ _ (t_heard c.replica) t_speak)
  t_obey_change c ChangeHeard = t_then _ _ (t_heard c.replica) t_speak
  t_obey_change c ChangeDone = t_says _
  t_obey_change c _ = t_quiet

  t_view_change : (c : StartViewChange) → Respects (on_start_view_change c)
  unfolding on_start_view_change
  t_view_change c = t_by _ (λ r. t_obey_change c (first_of (start_view_change_table c r)))

  t_obey_stated : (d : DoViewChange) (x : Rule) → Respects (obey_do_view_change d x)
  t_obey_stated d StatedLate = t_says _
  t_obey_stated d Stated = t_then _ _ (t_by _ (λ r. t_when _ _ (t_enter d.view))) (t_then _ _ (t_change (with_statement d.replica d.statement)) t_try)
  t_obey_stated d _ = t_quiet

  t_stated : (d : DoViewChange) → Respects (on_do_view_change d)
  unfolding on_do_view_change
  t_stated d = t_by _ (λ r. t_obey_stated d (first_of (do_view_change_table d r)))

  t_option : (hash : Hash) (o : Option Header) → Respects (option_map_or (acknowledge hash) o quiet)
  t_option hash None = t_quiet
  t_option hash (Some h) = t_says _

  t_stored : (hash : Hash) (op : ℕ) → Respects (acknowledge_stored hash op)
  unfolding acknowledge_stored
  t_stored hash op = t_by _ (λ r. t_when _ _ (t_option hash (header_at r op)))

  t_obey_view : (hash : Hash) (v : StartView) (x : Rule) → Respects (obey_start_view hash v x)
  t_obey_view hash v Taken = t_then _ _ (t_take (log_of v)) (t_then _ _ (t_by _ (λ r. t_each (acknowledge_stored hash) _ (t_stored hash))) t_apply)
  t_obey_view hash v SyncAsked = t_says _
  t_obey_view hash v _ = t_quiet

  t_view : (v : StartView) → Respects (on_start_view v)
  unfolding on_start_view
  t_view v = t_naming _ (λ hash. t_by _ (λ r. t_obey_view hash v (first_of (start_view_table hash v r))))

  t_obey_get_sync : (g : GetSync) (x : Rule) → Respects (obey_get_sync g x)
  t_obey_get_sync g SyncGiven = t_says _
  t_obey_get_sync g _ = t_quiet

  t_get_sync : (g : GetSync) → Respects (on_get_sync g)
  unfolding on_get_sync
  t_get_sync g = t_by _ (λ r. t_obey_get_sync g (first_of (get_sync_table g r)))

  t_obey_sync : (hash : Hash) (v : SyncView) (x : Rule) → Respects (obey_sync_view hash v x)
  t_obey_sync hash v Jumped = t_then _ _ (t_jump v) (t_then _ _ (t_by _ (λ r. t_each (acknowledge_stored hash) _ (t_stored hash))) t_apply)
  t_obey_sync hash v _ = t_quiet

  t_sync : (v : SyncView) → Respects (on_sync_view v)
  unfolding on_sync_view
  t_sync v = t_naming _ (λ hash. t_by _ (λ r. t_obey_sync hash v (first_of (sync_view_table hash v r))))

  t_obey_get_view : (g : GetView) (x : Rule) → Respects (obey_get_view g x)
  t_obey_get_view g ViewGiven = t_says _
  t_obey_get_view g _ = t_quiet

  t_get_view : (g : GetView) → Respects (on_get_view g)
  unfolding on_get_view
  t_get_view g = t_by _ (λ r. t_obey_get_view g (first_of (get_view_table g r)))

  t_obey_get_prepare : (g : GetPrepare) (x : Rule) → Respects (obey_get_prepare g x)
  t_obey_get_prepare g EntryGiven = t_with_at g.op _ (λ e. t_says _)
  t_obey_get_prepare g _ = t_quiet

  t_get_prepare : (g : GetPrepare) → Respects (on_get_prepare g)
  unfolding on_get_prepare
  t_get_prepare g = t_naming _ (λ hash. t_by _ (λ r. t_obey_get_prepare g (first_of (get_prepare_table hash g r))))

  t_obey_give_prepare : (g : GivePrepare) (x : Rule) → Respects (obey_give_prepare g x)
  t_obey_give_prepare g EntryTaken = t_then _ _ (t_write g.entry) (t_then _ _ (t_resend g.entry) t_apply)
  t_obey_give_prepare g _ = t_quiet

  t_give_prepare : (g : GivePrepare) → Respects (on_give_prepare g)
  unfolding on_give_prepare
  t_give_prepare g = t_by _ (λ r. t_obey_give_prepare g (first_of (give_prepare_table g r)))

  t_give_read : (g : GetBlock) (o : Option (List ℕ)) → Respects (give_read g o)
  t_give_read g None = t_quiet
  t_give_read g (Some block) = t_says _

  t_obey_get_block : (g : GetBlock) (o : Option (List ℕ)) (x : Rule) → Respects (obey_get_block g o x)
  t_obey_get_block g o BlockGiven = t_give_read g o
  t_obey_get_block g o _ = t_quiet

  t_get_block : (g : GetBlock) → Respects (on_get_block g)
  unfolding on_get_block
  t_get_block g = t_reading (block_at (asked_block g)) _ (sees_block (asked_block g)) (λ o. t_by _ (λ r. t_obey_get_block g o (first_of (get_block_table (is_some o) g r))))

  t_put : (name : Name) (block : List ℕ) → Respects (does (λ r. PutBlock name block))
  t_put name block = t_does _

  t_put_block : (name : Name) (block : List ℕ) → Respects (put_block name block)
  unfolding put_block
  t_put_block name block = t_then _ _ (t_put name block) (t_then _ _ (t_change (without name)) (t_by _ (λ r. t_when _ _ t_load)))

  t_put_found : (block : List ℕ) (o : Option Name) → Respects (put_found block o)
  t_put_found block None = t_quiet
  t_put_found block (Some name) = t_then _ _ (t_put_block name block) t_apply

  t_mend_found : (block : List ℕ) (o : Option Name) → Respects (mend_found block o)
  t_mend_found block None = t_quiet
  t_mend_found block (Some name) = t_then _ _ (t_put name block) (t_change (not_worn name))

  t_obey_give_block : (t : Name → List ℕ → Bool) (g : GiveBlock) (x : Rule) → Respects (obey_give_block t g x)
  t_obey_give_block t g BlockTaken = t_by _ (λ r. t_put_found g.block (find (is_wanted t g) r.missing))
  t_obey_give_block t g BlockMended = t_by _ (λ r. t_mend_found g.block (find (is_wanted t g) r.worn))
  t_obey_give_block t g _ = t_quiet

  t_give_block : (g : GiveBlock) → Respects (on_give_block g)
  unfolding on_give_block
  t_give_block g = t_reading test_of _ (λ f g a. refl) (λ t. t_by _ (λ r. t_obey_give_block t g (first_of (give_block_table t g r))))

  t_next_view : Respects next_view
  t_next_view = t_by _ (λ r. t_enter (r.view + 1))

  t_idler : Respects (change idler)
  t_idler = t_change idler

  t_looks : Respects (visit ⨾ ask)
  t_looks = t_then visit ask t_visit t_ask

  t_obey_tick : (x : Rule) → Respects (obey_tick x)
  t_obey_tick TickedPrimary = t_then _ _ (t_says _) (t_then _ _ (t_by _ (λ r. t_when _ _ (t_prepare_again (r.commit + 1)))) t_looks)
  t_obey_tick TickedBackup = t_then _ _ t_idler (t_by _ (λ r. t_if _ _ _ t_next_view t_looks))
  t_obey_tick TickedChanging = t_then _ _ t_idler (t_by _ (λ r. t_if _ _ _ t_next_view (t_then _ _ (t_says _) (t_then _ _ t_speak t_looks))))
  t_obey_tick _ = t_quiet

  t_tick : Respects on_tick
  unfolding on_tick
  t_tick = t_by _ (λ r. t_obey_tick (first_of (tick_table r)))

  t_message : (m : Frame) → Respects (on_message m)
  t_message (frame.Request q) = t_request q
  t_message (frame.Reply a) = t_quiet
  t_message (frame.Prepare p) = t_prepare p
  t_message (frame.PrepareOk a) = t_ok a
  t_message (frame.Commit c) = t_commit c
  t_message (frame.StartViewChange c) = t_view_change c
  t_message (frame.DoViewChange d) = t_stated d
  t_message (frame.StartView v) = t_view v
  t_message (frame.GetView g) = t_get_view g
  t_message (frame.GetPrepare g) = t_get_prepare g
  t_message (frame.GivePrepare g) = t_give_prepare g
  t_message (frame.GetBlock g) = t_get_block g
  t_message (frame.GiveBlock g) = t_give_block g
  t_message (frame.GetSync g) = t_get_sync g
  t_message (frame.SyncView v) = t_sync v

  t_event : (e : Event) → Respects (on_event e)
  t_event (event.Request q) = t_request q
  t_event (event.Deliver m) = t_message m
  t_event event.Tick = t_tick

  pub t_react : (e : Event) → Respects (react e)
  unfolding react
  t_react e = t_by _ (λ r. t_when _ _ (t_event e))

  -- ---- an opening

  t_rewrite : (h : Option Header) → Respects (opening.rewrite h)
  t_rewrite None = t_quiet
  t_rewrite (Some h) = t_does _

  t_mend : (x : opening.Slot) (v : Verdict) → Respects (opening.mend_slot x v)
  t_mend x verdict.Rewrite = t_rewrite (opening.entry_header x)
  t_mend x verdict.Here = t_quiet
  t_mend x verdict.Lost = t_quiet
  t_mend x verdict.Wanted = t_quiet
  t_mend x verdict.Nothing = t_quiet
  t_mend x verdict.Unknown = t_quiet

  t_op : (v : SuperValue) (k : ℕ) → Respects (opening.recover_op v k)
  unfolding opening.recover_op
  t_op v k =
      t_reading (opening.slot_at k) (λ x. opening.mend_slot x (opening.slot_verdict v k x) ⨾ change (with_part k (opening.part_by v k x (opening.slot_verdict v k x)))) (sees_slot k)
      (λ x. t_then _ _ (t_mend x (opening.slot_verdict v k x)) (t_change _))

  t_old : (h : Header) → Respects (opening.recover_old h)
  unfolding opening.recover_old
  t_old h = t_reading (entry_of h) (λ e. change (with_part h.op (opening.old_part h e))) (sees_entry h) (λ e. t_change _)

  t_parts : (v : SuperValue) → Respects (opening.recover_parts v)
  unfolding opening.recover_parts
  t_parts v =
      t_then _ _ (t_each opening.recover_old (opening.old_headers v) t_old)
      (t_then _ _ (t_each (opening.recover_op v) (ops v.fields.checkpoint (v.fields.checkpoint + 64)) (t_op v)) (t_then _ _ (t_change (opening.clouded v)) (t_change forgetting)))

  pub t_opening : (v : SuperValue) → Respects (opening.opening v)
  unfolding opening.opening
  t_opening v = t_then _ _ (t_does _) (t_then _ _ (t_parts v) t_resuming)

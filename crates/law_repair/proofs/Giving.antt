-- Which blocks a replica gives: those that read on its disk as it was.
use Rattle.std.proofs.Common.{ℕ, zero, suc, ◌+◌, ◌≡◌, refl, Bool, true, false, cond, not, List, [], ◌∷◌, map, Option, Some, None}
use Rattle.std.specs.Prelude.{find, is_some, nat_lt, ◌==◌}
use Rattle.std.specs.List.{AllByRecursion}
use Rattle.std.specs.Option.{option_map_or}
use Rattle.vr_ckpt.proofs.Done.{all_append}
use Rattle.vr_ckpt.specs.declared.name.Name.{Name}
use Rattle.vr_header.specs.declared.header.Header.{Header}
use Rattle.vr_header.specs.declared.part.Part.{Part}
use Rattle.vr_header.specs.declared.part.Part.TheVariants.{Here, Lost, Wanted, Unknown, Nothing}
use Rattle.vr_header.specs.Made.{Whole}
use Rattle.vr_header.specs.Same.{same_header}
use Rattle.vr_state.specs.declared.session.SessionAnswer.{SessionAnswer}
use Rattle.vr_state.specs.declared.session.SessionAnswer.TheVariants as answer
use Rattle.vr_msg.specs.declared.choice.Choice.{Choice}
use Rattle.vr_msg.specs.declared.choice.Choice.TheVariants.{Ends, WaitsAt, TooFew}
use Rattle.vr_msg.specs.declared.event.Event.{Event}
use Rattle.vr_msg.specs.declared.event.Event.TheVariants as event
use Rattle.vr_msg.specs.declared.frame.Commit.{Commit}
use Rattle.vr_msg.specs.declared.frame.DoViewChange.{DoViewChange}
use Rattle.vr_msg.specs.declared.frame.Frame.{Frame}
use Rattle.vr_msg.specs.declared.frame.Frame.TheVariants as frame
use Rattle.vr_msg.specs.declared.frame.GetBlock.{GetBlock}
use Rattle.vr_msg.specs.declared.frame.GetPrepare.{GetPrepare}
use Rattle.vr_msg.specs.declared.frame.GetSync.{GetSync}
use Rattle.vr_msg.specs.declared.frame.GetView.{GetView}
use Rattle.vr_msg.specs.declared.frame.GiveBlock.{GiveBlock}
use Rattle.vr_msg.specs.declared.frame.GivePrepare.{GivePrepare}
use Rattle.vr_msg.specs.declared.frame.Prepare.{Prepare}
use Rattle.vr_msg.specs.declared.frame.PrepareOk.{PrepareOk}
use Rattle.vr_msg.specs.declared.frame.StartView.{StartView}
use Rattle.vr_msg.specs.declared.frame.StartViewChange.{StartViewChange}
use Rattle.vr_msg.specs.declared.frame.SyncView.{SyncView}
use Rattle.vr_msg.specs.declared.output.Output.{Output}
use Rattle.vr_msg.specs.declared.request.RequestFields.{RequestFields}
use Rattle.vr_msg.specs.declared.statement.Statement.{Statement}
use Rattle.vr_msg.specs.Choice.{ops}
use Rattle.vr_recover.specs.declared.readings.Verdict.{Verdict}
use Rattle.vr_recover.specs.declared.readings.Verdict.TheVariants as verdict
use Rattle.vr_super.specs.Copies.{SuperValue}
use Rattle.vr_state.specs.Folds as applying
use Rattle.vr_rules.specs.Deciding.{Hash, commit_table, do_view_change_table, first_of, get_block_table, get_prepare_table, get_sync_table, get_view_table, give_block_table, give_prepare_table, is_wanted, log_of, prepare_ok_table, prepare_table, request_table, session_answer, start_view_change_table, start_view_table, sync_view_table, tick_table}
use Rattle.vr_rules.specs.Opening.{Slot, announce, entry_header, going_on, leave_view, mend_slot, old_headers, opening, recover_old, recover_op, recover_parts, rewrite}
use Rattle.vr_rules.specs.Outputs as told
use Rattle.vr_rules.specs.Replica.{Replica, head, header_at, is_alone, is_here, is_frozen, is_spent, is_started, leads, part_at}
use Rattle.vr_rules.specs.Rules as rules
use Rattle.vr_rules.specs.Steps.{Effect, Write, Rewrite, Save, Mend, Checkpoint, PutBlock, Say, Setting, Word, ◌⨾◌, after_all, by, change, does, each, naming, quiet, reading, says, times, when}
use Rattle.vr_rules.specs.Words as words
use Rattle.vr_rules.specs.declared.asker.Asker.{Asker}
use Rattle.vr_rules.specs.declared.rule.Rule.{Rule}
use Rattle.vr_rules.specs.declared.rule.Rule.TheVariants.{Ahead, Answered, Behind, Beyond, BlockGiven, BlockMended, BlockTaken, ChangeDone, ChangeHeard, ChangeLater, CommitHeard, CommitLater, Counted, EntryGiven, EntryTaken, Full, Jumped, Known, Made, Next, Other, Past, PreparedLater, Redirected, Stated, StatedLate, SyncAsked, SyncGiven, Taken, TickedBackup, TickedChanging, TickedPrimary, ViewGiven}
use Rattle.law_4_disks.specs.Stocks.{IsGiven, IsGivenOutput}
use Rattle.law_4_disks.proofs.Stocking.{all_given}

-- of each block that is given G is so
abbrev pub Gives : (List ℕ → Type 0) → Effect → Type 0
Gives G (Say o) = IsGivenOutput G o
Gives G (Write again e) = Unit {0}
Gives G (Rewrite h) = Unit {0}
Gives G (Save old new) = Unit {0}
Gives G (Mend v) = Unit {0}
Gives G (Checkpoint cluster texts op old) = Unit {0}
Gives G (PutBlock name block) = Unit {0}

gives_said : (G : List ℕ → Type 0) (os : List Output) → AllByRecursion (IsGivenOutput G) os → AllByRecursion (Gives G) (map Say os)
gives_said G [] h = tt
gives_said G (o ∷ os) h = (h.0, gives_said G os h.1)

reply_given : (G : List ℕ → Type 0) (e : Whole) (r : Replica) → AllByRecursion (IsGivenOutput G) (told.applied_reply e r)
reply_given G e r =
    elim (leads r) as (λ t. AllByRecursion (IsGivenOutput G) (cond t (told.replies (told.asker_of e) (told.kind_of (applying.applied r.state e).reply) r) [])) [ true ↦ (tt, tt) | false ↦ tt ]

-- ---- words that give no block

pub record Mute {F : Type 0} (G : List ℕ → Type 0) (w : Word F) : Type 0 where
  pub every : (s : Setting F) (r : Replica) (f : F) → AllByRecursion (Gives G) (w s r f).script

module _ {F : Type 0} {G : List ℕ → Type 0} where
  mute_then : (v w : Word F) → Mute G v → Mute G w → Mute G (v ⨾ w)
  unfolding ◌⨾◌
  mute_then v w x y = record {
    every = λ s r f.
        let a = v s r f in
        let d : F = after_all s f a.script in
        all_append (Gives G) a.script (w s a.replica d).script (x.every s r f) (y.every s a.replica d);
  }

  mute_quiet : Mute {F = F} G quiet
  unfolding quiet
  mute_quiet = record { every = λ s r f. tt }

  mute_change : (g : Replica → Replica) → Mute {F = F} G (change g)
  unfolding change
  mute_change g = record { every = λ s r f. tt }

  mute_does : (e : Replica → Effect) → ((r : Replica) → Gives G (e r)) → Mute {F = F} G (does e)
  unfolding does
  mute_does e h = record { every = λ s r f. (h r, tt) }

  mute_says : (os : Replica → List Output) → ((r : Replica) → AllByRecursion (IsGivenOutput G) (os r)) → Mute {F = F} G (says os)
  unfolding says
  mute_says os h = record { every = λ s r f. gives_said G (os r) (h r) }

  -- a message of another kind, to all others
  mute_tells : (m : Replica → Frame) → ((r : Replica) → IsGiven G (m r)) → Mute {F = F} G (says (told.send_to_all m))
  mute_tells m h = mute_says _ (λ r. all_given G m r (h r))

  mute_by : (w : Replica → Word F) → ((r : Replica) → Mute G (w r)) → Mute G (by w)
  unfolding by
  mute_by w h = record { every = λ s r f. (h r).every s r f }

  mute_naming : (w : (List ℕ → List ℕ) → Word F) → ((hash : List ℕ → List ℕ) → Mute G (w hash)) → Mute G (naming w)
  unfolding naming
  mute_naming w h = record { every = λ s r f. (h s.hash).every s r f }

  mute_reading : {X : Type 0} (g : Setting F → F → X) (w : X → Word F) → ((x : X) → Mute G (w x)) → Mute G (reading g w)
  unfolding reading
  mute_reading g w h = record { every = λ s r f. (h (g s f)).every s r f }

  mute_if : (b : Bool) (v w : Word F) → Mute G v → Mute G w → Mute G (cond b v w)
  mute_if true v w h k = h
  mute_if false v w h k = k

  mute_when : (b : Bool) (w : Word F) → Mute G w → Mute G (when b w)
  mute_when b w h = mute_if b w quiet h mute_quiet

  mute_times : (n : ℕ) (w : Word F) → Mute G w → Mute G (times n w)
  unfolding times
  mute_times zero w h = mute_quiet
  mute_times (suc n) w h = mute_then w (times n w) h (mute_times n w h)

  mute_each : {X : Type 0} (w : X → Word F) (xs : List X) → ((x : X) → Mute G (w x)) → Mute G (each w xs)
  unfolding each
  mute_each w [] h = mute_quiet
  mute_each w (x ∷ xs) h = mute_then (w x) (each w xs) (h x) (mute_each w xs h)

  mute_or_lost : (h : Header) (w : Whole → Word F) (o : Option Whole) → ((e : Whole) → Mute G (w e)) → Mute G (words.or_lost h w o)
  mute_or_lost h w None all = mute_change (words.lost h)
  mute_or_lost h w (Some e) all = all e

  mute_part : (w : Whole → Word F) (p : Part) → ((e : Whole) → Mute G (w e)) → Mute G (words.with_entry w p)
  mute_part w (Here h) all = mute_reading (words.entry_of h) (words.or_lost h w) (λ o. mute_or_lost h w o all)
  mute_part w (Lost h) all = mute_quiet
  mute_part w (Wanted h) all = mute_quiet
  mute_part w Unknown all = mute_quiet
  mute_part w Nothing all = mute_quiet

  mute_entry : (op : ℕ) (w : Whole → Word F) → ((e : Whole) → Mute G (w e)) → Mute G (words.with_entry_at op w)
  unfolding words.with_entry_at
  mute_entry op w all = mute_by _ (λ r. mute_part w (part_at r op) all)

  -- ---- the words of the rules

  mute_save : Mute {F = F} G words.save
  unfolding words.save
  mute_save = mute_then _ _ (mute_does _ (λ r. tt)) (mute_change _)

  mute_enter : (view : ℕ) → Mute {F = F} G (words.enter view)
  unfolding words.enter
  mute_enter view = mute_if _ _ _ (mute_change _) (mute_then _ _ (mute_change (words.entered view)) (mute_then _ _ mute_save (mute_tells told.start_view_change (λ r. tt))))

  mute_write : (e : Whole) → Mute {F = F} G (words.write e)
  unfolding words.write
  mute_write e = mute_then _ _ (mute_does (words.writes e) (λ r. tt)) (mute_change (words.stored e))

  mute_accept : (e : Whole) → Mute {F = F} G (words.accept e)
  unfolding words.accept
  mute_accept e = mute_by _ (λ r. mute_when (not (is_here (part_at r e.header.op))) (words.write e) (mute_write e))

  mute_checkpoint : Mute {F = F} G words.make_checkpoint
  unfolding words.make_checkpoint
  mute_checkpoint = mute_by _ (λ r. mute_reading _ _ (λ c. mute_then _ _ (mute_does words.checkpoints (λ r. tt)) (mute_then _ _ (mute_change _) mute_save)))

  mute_apply_entry : (e : Whole) → Mute {F = F} G (words.apply_entry e)
  unfolding words.apply_entry
  mute_apply_entry e =
      mute_then _ _ (mute_says _ (λ r. (tt, tt))) (mute_then _ _ (mute_says (told.applied_reply e) (λ r. reply_given G e r))
      (mute_then _ _ (mute_change (words.applied e)) (mute_by _ (λ r. mute_when _ words.make_checkpoint mute_checkpoint))))

  mute_apply : Mute {F = F} G words.apply
  unfolding words.apply words.apply_next
  mute_apply = mute_by _ (λ r. mute_times _ words.apply_next (mute_by _ (λ r. mute_when _ _ (mute_entry _ words.apply_entry mute_apply_entry))))

  mute_advance : Mute {F = F} G words.advance
  unfolding words.advance
  mute_advance = mute_then _ _ (mute_change words.advanced) mute_apply

  mute_learn : (c : ℕ) → Mute {F = F} G (words.learn c)
  unfolding words.learn
  mute_learn c = mute_then _ _ (mute_change (words.learned c)) mute_apply

  mute_take : (l : words.Log) → Mute {F = F} G (words.take l)
  unfolding words.take
  mute_take l = mute_then _ _ (mute_change (words.taken l)) mute_save

  mute_jump : (v : SyncView) → Mute {F = F} G (words.jump v)
  unfolding words.jump
  mute_jump v = mute_then _ _ (mute_change (words.jumped v)) mute_save

  mute_load : Mute {F = F} G words.load
  unfolding words.load
  mute_load = mute_by _ (λ r. mute_when _ _ (mute_reading _ _ (λ l. mute_change _)))

  mute_again : (op : ℕ) → Mute {F = F} G (words.prepare_again op)
  unfolding words.prepare_again
  mute_again op = mute_entry op _ (λ e. mute_tells (told.prepare e) (λ r. tt))

  mute_begin : (ss : List Statement) (l : words.Log) → Mute {F = F} G (words.begin_view ss l)
  unfolding words.begin_view
  mute_begin ss l =
      mute_then _ _ (mute_says (words.choose_line ss l) (λ r. (tt, tt)))
      (mute_then _ _ (mute_take l) (mute_then _ _ (mute_tells told.start_view (λ r. tt)) (mute_then _ _ (mute_by _ (λ r. mute_each words.prepare_again _ mute_again)) (mute_by _ (λ r. mute_if (is_alone r) words.advance words.apply mute_advance mute_apply)))))

  mute_choice : (ss : List Statement) (c : Choice) → Mute {F = F} G (words.obey_choice ss c)
  unfolding words.try_log
  mute_choice ss TooFew = mute_quiet
  mute_choice ss (WaitsAt op) = mute_says _ (λ r. (tt, tt))
  mute_choice ss (Ends headers) =
      mute_by _ (λ r. mute_naming _ (λ hash. mute_by _ (λ q. mute_if _ _ _ (mute_begin ss (words.chosen_log r ss headers)) (mute_says _ (λ r. (tt, tt))))))

  mute_try : Mute {F = F} G words.try
  unfolding words.try
  mute_try = mute_by _ (λ r. mute_when _ _ (mute_choice (words.stated r) (words.decided r)))

  mute_speak : Mute {F = F} G words.speak
  unfolding words.speak
  mute_speak = mute_by _ (λ r. mute_when _ _ (mute_if _ _ _ mute_try (mute_says _ (λ r. (tt, tt)))))

  mute_resend : (e : Whole) → Mute {F = F} G (words.resend e)
  unfolding words.resend
  mute_resend e = mute_naming _ (λ hash. mute_by _ (λ r. mute_when _ _ (mute_if _ _ _ (mute_tells (told.prepare e) (λ r. tt)) (mute_says _ (λ r. (tt, tt))))))

  mute_peer : (message : Replica → Frame) → ((r : Replica) → IsGiven G (message r)) → Mute {F = F} G (words.ask_peer message)
  unfolding words.ask_peer
  mute_peer message h = mute_then _ _ (mute_says _ (λ r. (h r, tt))) (mute_change words.turned)

  mute_ask_for : (names : List Name) (absent : Option Header) (worn : List Name) → Mute {F = F} G (words.ask_for names absent worn)
  mute_ask_for (name ∷ names) absent worn = mute_peer _ (λ r. tt)
  mute_ask_for [] (Some h) worn = mute_naming _ (λ hash. mute_peer _ (λ r. tt))
  mute_ask_for [] None (name ∷ names) = mute_peer _ (λ r. tt)
  mute_ask_for [] None [] = mute_quiet

  mute_ask : Mute {F = F} G words.ask
  unfolding words.ask
  mute_ask = mute_by _ (λ r. mute_when (not (is_alone r)) _ (mute_ask_for r.missing (words.least_absent r) r.worn))

  -- ---- a visit

  mute_mend : (h : Header) (o : Option Header) → Mute {F = F} G (words.mend_header h o)
  mute_mend h None = mute_does _ (λ r. tt)
  mute_mend h (Some d) = mute_when (not (same_header d h)) _ (mute_does _ (λ r. tt))

  mute_slot : (op : ℕ) → Mute {F = F} G (words.visit_slot op)
  unfolding words.visit_slot
  mute_slot op = mute_entry op _ (λ e. mute_reading _ _ (λ o. mute_mend e.header o))

  mute_read : (name : Name) (o : Option (List ℕ)) → Mute {F = F} G (words.visit_read name o)
  mute_read name None = mute_change _
  mute_read name (Some block) = mute_quiet

  mute_block : (o : Option Name) → Mute {F = F} G (words.visit_block o)
  unfolding words.visit_block
  mute_block None = mute_quiet
  mute_block (Some name) = mute_reading _ _ (λ o. mute_read name o)

  mute_place : (at : ℕ) → Mute {F = F} G (words.visit_place at)
  unfolding words.visit_place
  mute_place at = mute_by _ (λ r. mute_if (nat_lt at 64) _ _ (mute_slot _) (mute_if (at == 64) _ _ (mute_does _ (λ r. tt)) (mute_block _)))

  mute_visit : Mute {F = F} G words.visit
  unfolding words.visit
  mute_visit = mute_by _ (λ r. mute_when _ _ (mute_then _ _ (mute_place (words.place_now r)) (mute_change _)))

  mute_looks : Mute {F = F} G (words.visit ⨾ words.ask)
  mute_looks = mute_then _ _ mute_visit mute_ask

  -- ---- rules

  mute_answer : (a : Asker) (x : SessionAnswer) → Mute {F = F} G (rules.stored_reply a x)
  mute_answer a answer.Fresh = mute_quiet
  mute_answer a (answer.Repeat outcome op) = mute_says _ (λ r. (tt, tt))
  mute_answer a answer.Old = mute_says _ (λ r. (tt, tt))
  mute_answer a answer.Gap = mute_says _ (λ r. (tt, tt))
  mute_answer a answer.Evicted = mute_says _ (λ r. (tt, tt))

  mute_request : (hash : Hash) (q : RequestFields) (x : Rule) → Mute {F = F} G (rules.obey_request hash q x)
  unfolding rules.make
  mute_request hash q Redirected = mute_says _ (λ r. (tt, tt))
  mute_request hash q Behind = mute_says _ (λ r. (tt, tt))
  mute_request hash q Answered = mute_by _ (λ r. mute_answer (rules.asker_by hash q) (session_answer q r))
  mute_request hash q Full = mute_says _ (λ r. (tt, tt))
  mute_request hash q Made = mute_by _ (λ r. mute_then _ _ (mute_write (rules.next_entry hash q r)) (mute_then _ _ (mute_tells _ (λ r. tt)) mute_advance))
  mute_request hash q _ = mute_quiet

  mute_rested : Mute {F = F} G (change words.rested)
  mute_rested = mute_change words.rested

  mute_prepare : (hash : Hash) (p : Prepare) (x : Rule) → Mute {F = F} G (rules.obey_prepare hash p x)
  mute_prepare hash p PreparedLater = mute_says _ (λ r. (tt, tt))
  mute_prepare hash p Past = mute_then _ _ mute_rested (mute_learn p.commit)
  mute_prepare hash p Beyond = mute_rested
  mute_prepare hash p Known = mute_then _ _ mute_rested (mute_then _ _ (mute_accept p.entry) (mute_then _ _ (mute_says _ (λ r. (tt, tt))) (mute_learn p.commit)))
  mute_prepare hash p Next = mute_then _ _ mute_rested (mute_then _ _ (mute_write p.entry) (mute_then _ _ (mute_says _ (λ r. (tt, tt))) (mute_learn p.commit)))
  mute_prepare hash p Ahead = mute_then _ _ mute_rested (mute_then _ _ (mute_says _ (λ r. (tt, tt))) (mute_learn p.commit))
  mute_prepare hash p Other = mute_rested
  mute_prepare hash p _ = mute_quiet

  mute_ok : (a : PrepareOk) (x : Rule) → Mute {F = F} G (rules.obey_prepare_ok a x)
  mute_ok a Counted = mute_then _ _ (mute_change (rules.acknowledged a)) mute_advance
  mute_ok a _ = mute_quiet

  mute_commit : (c : Commit) (x : Rule) → Mute {F = F} G (rules.obey_commit c x)
  mute_commit c CommitLater = mute_says _ (λ r. (tt, tt))
  mute_commit c CommitHeard = mute_then _ _ mute_rested (mute_then _ _ (mute_by _ (λ r. mute_when _ _ (mute_says _ (λ r. (tt, tt))))) (mute_learn c.commit))
  mute_commit c _ = mute_quiet

  mute_view_change : (c : StartViewChange) (x : Rule) → Mute {F = F} G (rules.obey_start_view_change c x)
  mute_view_change c ChangeLater = mute_then _ _ (mute_enter c.view) (mute_then _ _ (mute_change (rules.heard_of c.replica)) mute_speak)
  mute_view_change c ChangeHeard = mute_then _ _ (mute_change (rules.heard_of c.replica)) mute_speak
  mute_view_change c ChangeDone = mute_says _ (λ r. (tt, tt))
  mute_view_change c _ = mute_quiet

  mute_stated : (d : DoViewChange) (x : Rule) → Mute {F = F} G (rules.obey_do_view_change d x)
  mute_stated d StatedLate = mute_says _ (λ r. (tt, tt))
  mute_stated d Stated =
      mute_then _ _ (mute_by _ (λ r. mute_when (nat_lt r.view d.view) _ (mute_enter d.view))) (mute_then _ _ (mute_change (rules.with_statement d.replica d.statement)) mute_try)
  mute_stated d _ = mute_quiet

  mute_acknowledge : (hash : Hash) (o : Option Header) → Mute {F = F} G (option_map_or (rules.acknowledge hash) o quiet)
  mute_acknowledge hash None = mute_quiet
  mute_acknowledge hash (Some h) = mute_says _ (λ r. (tt, tt))

  mute_stored : (hash : Hash) (op : ℕ) → Mute {F = F} G (rules.acknowledge_stored hash op)
  unfolding rules.acknowledge_stored
  mute_stored hash op = mute_by _ (λ r. mute_when (is_here (part_at r op)) _ (mute_acknowledge hash (header_at r op)))

  mute_told : (hash : Hash) (last : ℕ) → Mute {F = F} G (by (λ r. each (rules.acknowledge_stored hash) (ops r.commit last)) ⨾ words.apply)
  mute_told hash last = mute_then _ _ (mute_by _ (λ r. mute_each (rules.acknowledge_stored hash) _ (mute_stored hash))) mute_apply

  mute_start_view : (hash : Hash) (v : StartView) (x : Rule) → Mute {F = F} G (rules.obey_start_view hash v x)
  mute_start_view hash v Taken = mute_then _ _ (mute_take (log_of v)) (mute_told hash v.head)
  mute_start_view hash v SyncAsked = mute_says _ (λ r. (tt, tt))
  mute_start_view hash v _ = mute_quiet

  mute_sync_view : (hash : Hash) (v : SyncView) (x : Rule) → Mute {F = F} G (rules.obey_sync_view hash v x)
  mute_sync_view hash v Jumped = mute_then _ _ (mute_jump v) (mute_told hash v.head)
  mute_sync_view hash v _ = mute_quiet

  mute_get_view : (g : GetView) (x : Rule) → Mute {F = F} G (rules.obey_get_view g x)
  mute_get_view g ViewGiven = mute_says _ (λ r. (tt, tt))
  mute_get_view g _ = mute_quiet

  mute_get_sync : (g : GetSync) (x : Rule) → Mute {F = F} G (rules.obey_get_sync g x)
  mute_get_sync g SyncGiven = mute_says _ (λ r. (tt, tt))
  mute_get_sync g _ = mute_quiet

  mute_get_prepare : (g : GetPrepare) (x : Rule) → Mute {F = F} G (rules.obey_get_prepare g x)
  mute_get_prepare g EntryGiven = mute_entry g.op _ (λ e. mute_says _ (λ r. (tt, tt)))
  mute_get_prepare g _ = mute_quiet

  mute_give_prepare : (g : GivePrepare) (x : Rule) → Mute {F = F} G (rules.obey_give_prepare g x)
  mute_give_prepare g EntryTaken = mute_then _ _ (mute_write g.entry) (mute_then _ _ (mute_resend g.entry) mute_apply)
  mute_give_prepare g _ = mute_quiet

  mute_put_found : (block : List ℕ) (o : Option Name) → Mute {F = F} G (rules.put_found block o)
  unfolding rules.put_block
  mute_put_found block None = mute_quiet
  mute_put_found block (Some name) = mute_then _ _ (mute_then _ _ (mute_does _ (λ r. tt)) (mute_then _ _ (mute_change (rules.without name)) (mute_by _ (λ r. mute_when _ words.load mute_load)))) mute_apply

  mute_mend_found : (block : List ℕ) (o : Option Name) → Mute {F = F} G (rules.mend_found block o)
  mute_mend_found block None = mute_quiet
  mute_mend_found block (Some name) = mute_then _ _ (mute_does _ (λ r. tt)) (mute_change (rules.not_worn name))

  mute_give_block : (t : Name → List ℕ → Bool) (g : GiveBlock) (x : Rule) → Mute {F = F} G (rules.obey_give_block t g x)
  mute_give_block t g BlockTaken = mute_by _ (λ r. mute_put_found g.block (find (is_wanted t g) r.missing))
  mute_give_block t g BlockMended = mute_by _ (λ r. mute_mend_found g.block (find (is_wanted t g) r.worn))
  mute_give_block t g _ = mute_quiet

  mute_idles : (w : Word F) → Mute G w → Mute G (change rules.idler ⨾ w)
  mute_idles w h = mute_then _ _ (mute_change rules.idler) h

  mute_next : Mute {F = F} G rules.next_view
  mute_next = mute_by _ (λ r. mute_enter (r.view + 1))

  mute_tick : (x : Rule) → Mute {F = F} G (rules.obey_tick x)
  mute_tick TickedPrimary = mute_then _ _ (mute_tells told.commit_message (λ r. tt)) (mute_then _ _ (mute_by _ (λ r. mute_when (nat_lt r.commit (head r)) _ (mute_again (r.commit + 1)))) mute_looks)
  mute_tick TickedBackup = mute_idles _ (mute_by _ (λ r. mute_if _ _ _ mute_next mute_looks))
  mute_tick TickedChanging = mute_idles _ (mute_by _ (λ r. mute_if _ _ _ mute_next (mute_then _ _ (mute_tells told.start_view_change (λ r. tt)) (mute_then _ _ mute_speak mute_looks))))
  mute_tick _ = mute_quiet

  mute_on_request : (q : RequestFields) → Mute {F = F} G (rules.on_request q)
  unfolding rules.on_request
  mute_on_request q = mute_naming _ (λ hash. mute_by _ (λ r. mute_request hash q (first_of (request_table q r))))

  -- ---- an opening

  mute_rewrite : (o : Option Header) → Mute {F = F} G (rewrite o)
  mute_rewrite None = mute_quiet
  mute_rewrite (Some h) = mute_does _ (λ r. tt)

  mute_mend_slot : (x : Slot) (t : Verdict) → Mute {F = F} G (mend_slot x t)
  mute_mend_slot x verdict.Rewrite = mute_rewrite (entry_header x)
  mute_mend_slot x _ = mute_quiet

  mute_recover : (v : SuperValue) → Mute {F = F} G (recover_parts v)
  unfolding recover_parts recover_old recover_op
  mute_recover v =
      mute_then _ _ (mute_each _ (old_headers v) (λ h. mute_reading _ _ (λ e. mute_change _)))
      (mute_then _ _ (mute_each _ (ops v.fields.checkpoint (v.fields.checkpoint + 64)) (λ k. mute_reading _ _ (λ x. mute_then _ _ (mute_mend_slot x _) (mute_change _)))) (mute_then _ _ (mute_change _) (mute_change _)))

  mute_leave : Mute {F = F} G leave_view
  mute_leave = mute_by _ (λ r. mute_when (leads r) _ (mute_then _ _ (mute_change _) mute_save))

  mute_announce : Mute {F = F} G announce
  mute_announce = mute_by _ (λ r. mute_when (not (is_started r)) _ (mute_then _ _ (mute_change _) (mute_by _ (λ q. mute_when _ _ (mute_tells told.start_view_change (λ r. tt))))))

  mute_starts : Mute {F = F} G (says told.start_line)
  mute_starts = mute_says told.start_line (λ r. (tt, tt))

  mute_going : Mute {F = F} G going_on
  mute_going = mute_then _ _ mute_leave (mute_then _ _ mute_starts (mute_then _ _ mute_load (mute_then _ _ mute_apply mute_announce)))

  pub mute_opening : (v : SuperValue) → Mute {F = F} G (opening v)
  unfolding opening
  mute_opening v = mute_then _ _ (mute_does _ (λ r. tt)) (mute_then _ _ (mute_recover v) (mute_by _ (λ r. mute_if (is_spent r) _ _ mute_starts mute_going)))

-- ---- steps: of each block that reads on the disk at the beginning G is so

module _ {F : Type 0} (G : List ℕ → Type 0) (s : Setting F) (f : F) (read : (name : Name) (b : List ℕ) → s.block f name ≡ Some b → G b) where
  abbrev Does : Word F → Replica → Type 0
  Does w r = AllByRecursion (Gives G) (w s r f).script

  mutely : (w : Word F) (r : Replica) → Mute G w → Does w r
  mutely w r h = h.every s r f

  gives_read : (g : GetBlock) (o : Option (List ℕ)) (r : Replica) → ((b : List ℕ) → o ≡ Some b → G b) → Does (rules.give_read g o) r
  unfolding says
  gives_read g None r h = mutely quiet r mute_quiet
  gives_read g (Some block) r h = (h block refl, tt)

  gives_block : (g : GetBlock) (o : Option (List ℕ)) (x : Rule) (r : Replica) → ((b : List ℕ) → o ≡ Some b → G b) → Does (rules.obey_get_block g o x) r
  gives_block g o BlockGiven r h = gives_read g o r h
  gives_block g o _ r h = mutely quiet r mute_quiet

  gives_message : (m : Frame) (r : Replica) → Does (rules.on_message m) r
  unfolding rules.on_prepare rules.on_prepare_ok rules.on_commit rules.on_start_view_change rules.on_do_view_change rules.on_start_view rules.on_get_view rules.on_get_prepare rules.on_give_prepare rules.on_get_block rules.on_give_block rules.on_get_sync rules.on_sync_view reading by
  gives_message (frame.Request q) r = mutely _ r (mute_on_request q)
  gives_message (frame.Reply a) r = mutely quiet r mute_quiet
  gives_message (frame.Prepare p) r = mutely _ r (mute_naming _ (λ hash. mute_by _ (λ r. mute_prepare hash p (first_of (prepare_table hash p r)))))
  gives_message (frame.PrepareOk a) r = mutely _ r (mute_naming _ (λ hash. mute_by _ (λ r. mute_ok a (first_of (prepare_ok_table hash a r)))))
  gives_message (frame.Commit c) r = mutely _ r (mute_by _ (λ r. mute_commit c (first_of (commit_table c r))))
  gives_message (frame.StartViewChange c) r = mutely _ r (mute_by _ (λ r. mute_view_change c (first_of (start_view_change_table c r))))
  gives_message (frame.DoViewChange d) r = mutely _ r (mute_by _ (λ r. mute_stated d (first_of (do_view_change_table d r))))
  gives_message (frame.StartView v) r = mutely _ r (mute_naming _ (λ hash. mute_by _ (λ r. mute_start_view hash v (first_of (start_view_table hash v r)))))
  gives_message (frame.GetView g) r = mutely _ r (mute_by _ (λ r. mute_get_view g (first_of (get_view_table g r))))
  gives_message (frame.GetPrepare g) r = mutely _ r (mute_naming _ (λ hash. mute_by _ (λ r. mute_get_prepare g (first_of (get_prepare_table hash g r)))))
  gives_message (frame.GivePrepare g) r = mutely _ r (mute_by _ (λ r. mute_give_prepare g (first_of (give_prepare_table g r))))
  gives_message (frame.GetBlock g) r =
      let o : Option (List ℕ) = s.block f (rules.asked_block g) in
      gives_block g o (first_of (get_block_table (is_some o) g r)) r (λ b e. read (rules.asked_block g) b e)
  gives_message (frame.GiveBlock g) r = mutely _ r (mute_by _ (λ r. mute_give_block s.is_block g (first_of (give_block_table s.is_block g r))))
  gives_message (frame.GetSync g) r = mutely _ r (mute_by _ (λ r. mute_get_sync g (first_of (get_sync_table g r))))
  gives_message (frame.SyncView v) r = mutely _ r (mute_naming _ (λ hash. mute_by _ (λ r. mute_sync_view hash v (first_of (sync_view_table hash v r)))))

  gives_event : (e : Event) (r : Replica) → Does (rules.on_event e) r
  unfolding rules.on_tick by
  gives_event (event.Request q) r = mutely _ r (mute_on_request q)
  gives_event (event.Deliver m) r = gives_message m r
  gives_event event.Tick r = mutely _ r (mute_tick (first_of (tick_table r)))

  pub step_gives : (e : Event) (r : Replica) → Does (rules.react e) r
  unfolding rules.react by
  step_gives e r = elim (is_frozen r) as (λ b. AllByRecursion (Gives G) (cond (not b) (rules.on_event e) quiet s r f).script) [ true ↦ mutely quiet r mute_quiet | false ↦ gives_event e r ]

-- Each rule says no wait, or it changes no Part; what a tick of a replica whose view hasn't begun may change is said apart.
use Rattle.std.proofs.Common.{◌≡◌, ◌⊎◌, inl, inr, refl, ap, ◌∙◌, ℕ, Bool, true, false, cond, List, [], ◌∷◌, map, Option, Some, None, is_some}
use Rattle.std.specs.Prelude.{All}
use Rattle.std.specs.Option.{option_map_or}
use Rattle.std.proofs.lemmas.List.Elements.{All-append}
use Rattle.vr_header.specs.declared.header.Header.{Header}
use Rattle.vr_ckpt.specs.declared.name.Name.{Name}
use Rattle.vr_msg.specs.declared.frame.Commit.{Commit}
use Rattle.vr_msg.specs.declared.frame.DoViewChange.{DoViewChange}
use Rattle.vr_msg.specs.declared.frame.Frame.{Frame}
use Rattle.vr_msg.specs.declared.frame.Frame.TheVariants as frame
use Rattle.vr_msg.specs.declared.frame.GetBlock.{GetBlock}
use Rattle.vr_msg.specs.declared.frame.GetPrepare.{GetPrepare}
use Rattle.vr_msg.specs.declared.frame.GetSync.{GetSync}
use Rattle.vr_msg.specs.declared.frame.GetView.{GetView}
use Rattle.vr_msg.specs.declared.frame.GiveBlock.{GiveBlock}
use Rattle.vr_msg.specs.declared.frame.GivePrepare.{GivePrepare}
use Rattle.vr_msg.specs.declared.frame.Prepare.{Prepare}
use Rattle.vr_msg.specs.declared.frame.PrepareOk.{PrepareOk}
use Rattle.vr_msg.specs.declared.frame.StartView.{StartView}
use Rattle.vr_msg.specs.declared.frame.StartViewChange.{StartViewChange}
use Rattle.vr_msg.specs.declared.frame.SyncView.{SyncView}
use Rattle.vr_msg.specs.declared.request.RequestFields.{RequestFields}
use Rattle.vr_msg.specs.declared.output.Output.{Output}
use Rattle.vr_msg.specs.declared.statement.Statement.{Statement}
use Rattle.vr_msg.specs.declared.choice.Choice.{Choice}
use Rattle.vr_msg.specs.declared.choice.Choice.TheVariants.{Ends, WaitsAt, TooFew}
use Rattle.vr_state.specs.declared.session.SessionAnswer.{SessionAnswer}
use Rattle.vr_state.specs.declared.session.SessionAnswer.TheVariants as answer
use Rattle.vr_rules.specs.Replica.{Replica}
use Rattle.vr_rules.specs.Steps.{Effect, Say, Setting, Step, Word, ◌⨾◌, quiet, change, does, says, by, naming, outputs, after_all}
use Rattle.vr_rules.specs.declared.asker.Asker.{Asker}
use Rattle.vr_rules.specs.Words as words
use Rattle.vr_rules.specs.Deciding.{Hash, commit_table, do_view_change_table, first_of, get_block_table, get_prepare_table, get_sync_table, get_view_table, give_block_table, give_prepare_table, prepare_ok_table, prepare_table, request_table, start_view_change_table, start_view_table, sync_view_table}
use Rattle.vr_rules.specs.declared.rule.Rule.{Rule}
use Rattle.vr_rules.specs.declared.rule.Rule.TheVariants.{Redirected, Behind, Answered, Full, Made, PreparedLater, Past, Beyond, Known, Next, Ahead, Other, Counted, CommitLater, CommitHeard, ChangeLater, ChangeHeard, ChangeDone, StatedLate, Stated, Taken, ViewGiven, EntryGiven, EntryTaken, BlockGiven, BlockTaken, BlockMended, SyncAsked, SyncGiven, Jumped}
use Rattle.vr_rules.specs.Rules as rules
use Rattle.vr_rules.proofs.SendsScripts.{outputs_append}
use Rattle.vr_rules.proofs.SilentWaits.{IsNoWait, Mute, Unwaiting, unwaiting_mute, mute_then, mute_quiet, mute_change, mute_does, mute_by, mute_naming, mute_reading, mute_if, mute_each, mute_one, mute_all, mute_write, mute_entry, mute_apply, mute_take, mute_jump, mute_prepare_again, unwaiting_begin, mute_advance, mute_learn, mute_accept, mute_resend, mute_load, mute_visit}

pub record IsStill (r : Replica) (x : Step) : Type 0 where
  pub first : x.replica.first ≡ r.first
  pub parts : x.replica.parts ≡ r.parts

-- only outputs
pub record OnlySays (r : Replica) (x : Step) : Type 0 where
  pub said : List Output
  pub replica : x.replica ≡ r
  pub script : x.script ≡ map Say said

module _ {F : Type 0} where
  -- no wait is said, and no Part changes
  pub record Still (w : Word F) : Type 0 where
    pub mute : Mute w
    pub still : (s : Setting F) (r : Replica) (f : F) → IsStill r (w s r f)

  -- no wait is said, or no Part changes
  pub record Steady (w : Word F) : Type 0 where
    pub each : (s : Setting F) (r : Replica) (f : F) → All IsNoWait (outputs (w s r f).script) ⊎ IsStill r (w s r f)

  still_then : (v w : Word F) → Still v → Still w → Still (v ⨾ w)
  unfolding ◌⨾◌
  still_then v w h k = record {
    mute = mute_then v w h.mute k.mute;
    still = λ s r f.
        let a = v s r f in
        let p = h.still s r f in
        let q = k.still s a.replica (after_all s f a.script) in
        record { first = q.first ∙ p.first; parts = q.parts ∙ p.parts };
  }

  pub still_quiet : Still quiet
  unfolding quiet
  still_quiet = record { mute = mute_quiet; still = λ s r f. record { first = refl; parts = refl } }

  still_change : (g : Replica → Replica) → ((r : Replica) → (g r).first ≡ r.first) → ((r : Replica) → (g r).parts ≡ r.parts) → Still (change g)
  unfolding change
  still_change g a b = record { mute = mute_change g; still = λ s r f. record { first = a r; parts = b r } }

  still_says : (os : Replica → List Output) → Mute {F = F} (says os) → Still (says os)
  unfolding says
  still_says os m = record { mute = m; still = λ s r f. record { first = refl; parts = refl } }

  still_does : (e : Replica → Effect) → Mute {F = F} (does e) → Still (does e)
  unfolding does
  still_does e m = record { mute = m; still = λ s r f. record { first = refl; parts = refl } }

  still_by : (w : Replica → Word F) → ((r : Replica) → Still (w r)) → Still (by w)
  unfolding by
  still_by w h = record { mute = mute_by w (λ r. (h r).mute); still = λ s r f. (h r).still s r f }

  still_naming : (w : Hash → Word F) → ((hash : Hash) → Still (w hash)) → Still (naming w)
  unfolding naming
  still_naming w h = record { mute = mute_naming w (λ hash. (h hash).mute); still = λ s r f. (h s.hash).still s r f }

  still_if : (b : Bool) (v w : Word F) → Still v → Still w → Still (cond b v w)
  still_if true v w h k = h
  still_if false v w h k = k

  still_save : Still words.save
  unfolding words.save outputs
  still_save = still_then _ _ (still_does _ (mute_does _ (λ r. refl))) (still_change _ (λ r. refl) (λ r. refl))

  pub still_enter : (v : ℕ) → Still (words.enter v)
  unfolding words.enter words.entered
  still_enter v =
      still_if _ _ _ (still_change _ (λ r. refl) (λ r. refl)) (still_then _ _ (still_change _ (λ r. refl) (λ r. refl)) (still_then _ _ still_save (still_says _ (mute_all _))))

  still_ask_peer : (message : Replica → Frame) → Still (words.ask_peer message)
  unfolding words.ask_peer
  still_ask_peer message = still_then _ _ (still_says _ (mute_one _ (λ r. tt))) (still_change _ (λ r. refl) (λ r. refl))

  still_ask_for : (names : List Name) (absent : Option Header) (worn : List Name) → Still (words.ask_for names absent worn)
  still_ask_for (name ∷ names) absent worn = still_ask_peer _
  still_ask_for [] (Some h) worn = still_naming _ (λ hash. still_ask_peer _)
  still_ask_for [] None (name ∷ names) = still_ask_peer _
  still_ask_for [] None [] = still_quiet

  pub still_ask : Still words.ask
  unfolding words.ask
  still_ask = still_by _ (λ r. still_if _ _ _ (still_ask_for _ _ _) still_quiet)

  -- ---- what may wait

  pub steady_mute : (w : Word F) → Mute w → Steady w
  steady_mute w h = record { each = λ s r f. inl ((unwaiting_mute w h).said s r f) }

  pub steady_still : (w : Word F) → Still w → Steady w
  steady_still w h = record { each = λ s r f. inr (h.still s r f) }

  steady_after : (v w : Word F) → Still v → Steady w → Steady (v ⨾ w)
  unfolding ◌⨾◌
  steady_after v w h k = record {
    each = λ s r f.
        let a = v s r f in
        let g = after_all s f a.script in
        let b = w s a.replica g in
        let p = h.still s r f in
        elim (k.each s a.replica g) [
          | inl m ↦ inl (rw (outputs_append a.script b.script) (All-append IsNoWait (outputs a.script) (outputs b.script) ((unwaiting_mute v h.mute).said s r f) m))
          | inr q ↦ inr (record { first = q.first ∙ p.first; parts = q.parts ∙ p.parts })
        ];
  }

  pub steady_by : (w : Replica → Word F) → ((r : Replica) → Steady (w r)) → Steady (by w)
  unfolding by
  steady_by w h = record { each = λ s r f. (h r).each s r f }

  pub steady_if : (b : Bool) (v w : Word F) → Steady v → Steady w → Steady (cond b v w)
  steady_if true v w h k = h
  steady_if false v w h k = k

  -- no wait is said, or there are only outputs
  pub record Pausing (w : Word F) : Type 0 where
    pub each : (s : Setting F) (r : Replica) (f : F) → All IsNoWait (outputs (w s r f).script) ⊎ OnlySays r (w s r f)

  pausing_unwaiting : (w : Word F) → Unwaiting w → Pausing w
  pausing_unwaiting w h = record { each = λ s r f. inl (h.said s r f) }

  pausing_says : (os : Replica → List Output) → Pausing (says os)
  unfolding says
  pausing_says os = record { each = λ s r f. inr (record { said = os r; replica = refl; script = refl }) }

  pausing_quiet : Pausing quiet
  unfolding quiet
  pausing_quiet = record { each = λ s r f. inr (record { said = []; replica = refl; script = refl }) }

  pausing_by : (w : Replica → Word F) → ((r : Replica) → Pausing (w r)) → Pausing (by w)
  unfolding by
  pausing_by w h = record { each = λ s r f. (h r).each s r f }

  pausing_naming : (w : Hash → Word F) → ((hash : Hash) → Pausing (w hash)) → Pausing (naming w)
  unfolding naming
  pausing_naming w h = record { each = λ s r f. (h s.hash).each s r f }

  pausing_if : (b : Bool) (v w : Word F) → Pausing v → Pausing w → Pausing (cond b v w)
  pausing_if true v w h k = h
  pausing_if false v w h k = k

  pausing_choice : (ss : List Statement) (c : Choice) → Pausing (words.obey_choice ss c)
  unfolding words.try_log
  pausing_choice ss TooFew = pausing_quiet
  pausing_choice ss (WaitsAt op) = pausing_says _
  pausing_choice ss (Ends headers) =
      pausing_by _ (λ r. pausing_naming _ (λ hash. pausing_by _ (λ r'. pausing_if _ _ _ (pausing_unwaiting _ (unwaiting_begin ss (words.chosen_log r ss headers))) (pausing_says _))))

  pausing_try : Pausing words.try
  unfolding words.try
  pausing_try = pausing_by _ (λ r. pausing_if _ _ _ (pausing_choice _ _) pausing_quiet)

  pub pausing_speak : Pausing words.speak
  unfolding words.speak
  pausing_speak = pausing_by _ (λ r. pausing_if _ _ _ (pausing_if _ _ _ pausing_try (pausing_says _)) pausing_quiet)

  steady_pausing : (w : Word F) → Pausing w → Steady w
  steady_pausing w h = record {
    each = λ s r f.
        elim (h.each s r f) [
          | inl m ↦ inl m
          | inr only ↦ inr (record { first = ap (λ (x : Replica). x.first) only.replica; parts = ap (λ (x : Replica). x.parts) only.replica })
        ];
  }

  steady_try : Steady words.try
  steady_try = steady_pausing _ pausing_try

  steady_speak : Steady words.speak
  steady_speak = steady_pausing _ pausing_speak

  -- ---- the rules

  mute_replies : (a : Asker) (x : SessionAnswer) → Mute {F = F} (rules.stored_reply a x)
  mute_replies a answer.Fresh = mute_quiet
  mute_replies a (answer.Repeat outcome op) = mute_one _ (λ r. tt)
  mute_replies a answer.Old = mute_one _ (λ r. tt)
  mute_replies a answer.Gap = mute_one _ (λ r. tt)
  mute_replies a answer.Evicted = mute_one _ (λ r. tt)

  pub mute_request : (hash : Hash) (q : RequestFields) (rule : Rule) → Mute {F = F} (rules.obey_request hash q rule)
  unfolding rules.make
  mute_request hash q Redirected = mute_one _ (λ r. tt)
  mute_request hash q Behind = mute_one _ (λ r. tt)
  mute_request hash q Answered = mute_by _ (λ r. mute_replies _ _)
  mute_request hash q Full = mute_one _ (λ r. tt)
  mute_request hash q Made = mute_by _ (λ r. mute_then _ _ (mute_write _) (mute_then _ _ (mute_all _) mute_advance))
  mute_request hash q _ = mute_quiet

  pub mute_prepare : (hash : Hash) (p : Prepare) (rule : Rule) → Mute {F = F} (rules.obey_prepare hash p rule)
  mute_prepare hash p PreparedLater = mute_one _ (λ r. tt)
  mute_prepare hash p Past = mute_then _ _ (mute_change _) (mute_learn _)
  mute_prepare hash p Beyond = mute_change _
  mute_prepare hash p Known = mute_then _ _ (mute_change _) (mute_then _ _ (mute_accept _) (mute_then _ _ (mute_one _ (λ r. tt)) (mute_learn _)))
  mute_prepare hash p Next = mute_then _ _ (mute_change _) (mute_then _ _ (mute_write _) (mute_then _ _ (mute_one _ (λ r. tt)) (mute_learn _)))
  mute_prepare hash p Ahead = mute_then _ _ (mute_change _) (mute_then _ _ (mute_one _ (λ r. tt)) (mute_learn _))
  mute_prepare hash p Other = mute_change _
  mute_prepare hash p _ = mute_quiet

  pub mute_prepare_ok : (a : PrepareOk) (rule : Rule) → Mute {F = F} (rules.obey_prepare_ok a rule)
  mute_prepare_ok a Counted = mute_then _ _ (mute_change _) mute_advance
  mute_prepare_ok a _ = mute_quiet

  pub mute_commit : (c : Commit) (rule : Rule) → Mute {F = F} (rules.obey_commit c rule)
  mute_commit c CommitLater = mute_one _ (λ r. tt)
  mute_commit c CommitHeard = mute_then _ _ (mute_change _) (mute_then _ _ (mute_by _ (λ r. mute_if _ _ _ (mute_one _ (λ r. tt)) mute_quiet)) (mute_learn _))
  mute_commit c _ = mute_quiet

  steady_change : (c : StartViewChange) (rule : Rule) → Steady (rules.obey_start_view_change c rule)
  steady_change c ChangeLater = steady_after _ _ (still_enter _) (steady_after _ _ (still_change _ (λ r. refl) (λ r. refl)) steady_speak)
  steady_change c ChangeHeard = steady_after _ _ (still_change _ (λ r. refl) (λ r. refl)) steady_speak
  steady_change c ChangeDone = steady_mute _ (mute_one _ (λ r. tt))
  steady_change c _ = steady_still _ still_quiet

  steady_statement : (d : DoViewChange) (rule : Rule) → Steady (rules.obey_do_view_change d rule)
  steady_statement d StatedLate = steady_mute _ (mute_one _ (λ r. tt))
  steady_statement d Stated =
      steady_after _ _ (still_by _ (λ r. still_if _ _ _ (still_enter _) still_quiet)) (steady_after _ _ (still_change _ (λ r. refl) (λ r. refl)) steady_try)
  steady_statement d _ = steady_still _ still_quiet

  mute_acknowledged : (hash : Hash) (h : Option Header) → Mute {F = F} (option_map_or (rules.acknowledge hash) h quiet)
  mute_acknowledged hash None = mute_quiet
  mute_acknowledged hash (Some h) = mute_one _ (λ r. tt)

  mute_stored : (hash : Hash) (op : ℕ) → Mute {F = F} (rules.acknowledge_stored hash op)
  unfolding rules.acknowledge_stored
  mute_stored hash op = mute_by _ (λ r. mute_if _ _ _ (mute_acknowledged hash _) mute_quiet)

  pub mute_start_view : (hash : Hash) (v : StartView) (rule : Rule) → Mute {F = F} (rules.obey_start_view hash v rule)
  mute_start_view hash v Taken = mute_then _ _ (mute_take _) (mute_then _ _ (mute_by _ (λ r. mute_each _ _ (mute_stored hash))) mute_apply)
  mute_start_view hash v SyncAsked = mute_one _ (λ r. tt)
  mute_start_view hash v _ = mute_quiet

  pub mute_get_sync : (g : GetSync) (rule : Rule) → Mute {F = F} (rules.obey_get_sync g rule)
  mute_get_sync g SyncGiven = mute_one _ (λ r. tt)
  mute_get_sync g _ = mute_quiet

  pub mute_sync_view : (hash : Hash) (v : SyncView) (rule : Rule) → Mute {F = F} (rules.obey_sync_view hash v rule)
  mute_sync_view hash v Jumped = mute_then _ _ (mute_jump _) (mute_then _ _ (mute_by _ (λ r. mute_each _ _ (mute_stored hash))) mute_apply)
  mute_sync_view hash v _ = mute_quiet

  pub mute_get_view : (g : GetView) (rule : Rule) → Mute {F = F} (rules.obey_get_view g rule)
  mute_get_view g ViewGiven = mute_one _ (λ r. tt)
  mute_get_view g _ = mute_quiet

  pub mute_get_prepare : (g : GetPrepare) (rule : Rule) → Mute {F = F} (rules.obey_get_prepare g rule)
  mute_get_prepare g EntryGiven = mute_entry _ _ (λ e. mute_one _ (λ r. tt))
  mute_get_prepare g _ = mute_quiet

  pub mute_give_prepare : (g : GivePrepare) (rule : Rule) → Mute {F = F} (rules.obey_give_prepare g rule)
  mute_give_prepare g EntryTaken = mute_then _ _ (mute_write _) (mute_then _ _ (mute_resend _) mute_apply)
  mute_give_prepare g _ = mute_quiet

  mute_read : (g : GetBlock) (block : Option (List ℕ)) → Mute {F = F} (rules.give_read g block)
  mute_read g None = mute_quiet
  mute_read g (Some block) = mute_one _ (λ r. tt)

  pub mute_get_block : (g : GetBlock) (block : Option (List ℕ)) (rule : Rule) → Mute {F = F} (rules.obey_get_block g block rule)
  mute_get_block g block BlockGiven = mute_read g block
  mute_get_block g block _ = mute_quiet

  mute_put : (block : List ℕ) (name : Option Name) → Mute {F = F} (rules.put_found block name)
  unfolding rules.put_block outputs
  mute_put block None = mute_quiet
  mute_put block (Some name) =
      mute_then _ _ (mute_then _ _ (mute_does _ (λ r. refl)) (mute_then _ _ (mute_change _) (mute_by _ (λ r. mute_if _ _ _ mute_load mute_quiet)))) mute_apply

  mute_mend : (block : List ℕ) (name : Option Name) → Mute {F = F} (rules.mend_found block name)
  unfolding outputs
  mute_mend block None = mute_quiet
  mute_mend block (Some name) = mute_then _ _ (mute_does _ (λ r. refl)) (mute_change _)

  pub mute_give_block : (is_block : Name → List ℕ → Bool) (g : GiveBlock) (rule : Rule) → Mute {F = F} (rules.obey_give_block is_block g rule)
  mute_give_block is_block g BlockTaken = mute_by _ (λ r. mute_put _ _)
  mute_give_block is_block g BlockMended = mute_by _ (λ r. mute_mend _ _)
  mute_give_block is_block g _ = mute_quiet

  -- at the primary and at another replica of a view that has begun; a wait isn't said there
  pub mute_primary_ticks : Mute {F = F} rules.primary_ticks
  mute_primary_ticks =
      mute_then _ _ (mute_all _) (mute_then _ _ (mute_by _ (λ r. mute_if _ _ _ (mute_prepare_again _) mute_quiet)) (mute_then _ _ mute_visit still_ask.mute))

  pub mute_backup_ticks : Mute {F = F} rules.backup_ticks
  mute_backup_ticks =
      mute_then _ _ (mute_change _) (mute_by _ (λ r. mute_if _ _ _ (mute_by _ (λ r. (still_enter _).mute)) (mute_then _ _ mute_visit still_ask.mute)))

  -- ---- messages

  pub steady_message : (m : Frame) → Steady (rules.on_message m)
  unfolding rules.on_request rules.on_prepare rules.on_prepare_ok rules.on_commit rules.on_start_view_change rules.on_do_view_change rules.on_start_view rules.on_get_view rules.on_get_prepare rules.on_give_prepare rules.on_get_block rules.on_give_block rules.on_get_sync rules.on_sync_view
  steady_message (frame.Request q) = steady_mute _ (mute_naming _ (λ hash. mute_by _ (λ r. mute_request hash q (first_of (request_table q r)))))
  steady_message (frame.Reply a) = steady_still _ still_quiet
  steady_message (frame.Prepare p) = steady_mute _ (mute_naming _ (λ hash. mute_by _ (λ r. mute_prepare hash p (first_of (prepare_table hash p r)))))
  steady_message (frame.PrepareOk a) = steady_mute _ (mute_naming _ (λ hash. mute_by _ (λ r. mute_prepare_ok a (first_of (prepare_ok_table hash a r)))))
  steady_message (frame.Commit c) = steady_mute _ (mute_by _ (λ r. mute_commit c (first_of (commit_table c r))))
  steady_message (frame.StartViewChange c) = steady_by _ (λ r. steady_change c (first_of (start_view_change_table c r)))
  steady_message (frame.DoViewChange d) = steady_by _ (λ r. steady_statement d (first_of (do_view_change_table d r)))
  steady_message (frame.StartView v) = steady_mute _ (mute_naming _ (λ hash. mute_by _ (λ r. mute_start_view hash v (first_of (start_view_table hash v r)))))
  steady_message (frame.GetView g) = steady_mute _ (mute_by _ (λ r. mute_get_view g (first_of (get_view_table g r))))
  steady_message (frame.GetPrepare g) = steady_mute _ (mute_naming _ (λ hash. mute_by _ (λ r. mute_get_prepare g (first_of (get_prepare_table hash g r)))))
  steady_message (frame.GivePrepare g) = steady_mute _ (mute_by _ (λ r. mute_give_prepare g (first_of (give_prepare_table g r))))
  steady_message (frame.GetBlock g) = steady_mute _ (mute_reading _ _ (λ block. mute_by _ (λ r. mute_get_block g block (first_of (get_block_table (is_some block) g r)))))
  steady_message (frame.GiveBlock g) = steady_mute _ (mute_reading _ _ (λ is_block. mute_by _ (λ r. mute_give_block is_block g (first_of (give_block_table is_block g r)))))
  steady_message (frame.GetSync g) = steady_mute _ (mute_by _ (λ r. mute_get_sync g (first_of (get_sync_table g r))))
  steady_message (frame.SyncView v) = steady_mute _ (mute_naming _ (λ hash. mute_by _ (λ r. mute_sync_view hash v (first_of (sync_view_table hash v r)))))

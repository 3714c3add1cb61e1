-- The rules keep a replica's checkpoint and state the log's.
use Rattle.std.proofs.Common.{ℕ, ◌≡◌, ◌≢◌, refl, sym, subst, Bool, true, false, cond, List, [], ◌∷◌, Option, Some, None}
use Rattle.std.specs.Prelude.{⊤, find, is_some, nat_le, nat_lt, not, ◌==◌, ◌||◌}
use Rattle.std.specs.List.{list_any}
use Rattle.std.specs.Option.{option_map_or}
use Rattle.std.proofs.lemmas.Bool.{and_parts, ltb-true}
use Rattle.vr_header.specs.declared.header.Header.{Header}
use Rattle.vr_header.specs.Made.{Whole}
use Rattle.vr_header.specs.NoCollision.{NoCollision}
use Rattle.vr_ckpt.specs.Blocks.{named}
use Rattle.vr_ckpt.specs.declared.name.Name.{Name}
use Rattle.vr_msg.specs.declared.event.Event.{Event}
use Rattle.vr_msg.specs.declared.event.Event.TheVariants as event
use Rattle.vr_msg.specs.declared.frame.Commit.{Commit}
use Rattle.vr_msg.specs.declared.frame.DoViewChange.{DoViewChange}
use Rattle.vr_msg.specs.declared.frame.Frame.{Frame}
use Rattle.vr_msg.specs.declared.frame.Frame.TheVariants as frame
use Rattle.vr_msg.specs.declared.frame.GetBlock.{GetBlock}
use Rattle.vr_msg.specs.declared.frame.GetPrepare.{GetPrepare}
use Rattle.vr_msg.specs.declared.frame.GetSync.{GetSync}
use Rattle.vr_msg.specs.declared.frame.GetView.{GetView}
use Rattle.vr_msg.specs.declared.frame.GiveBlock.{GiveBlock}
use Rattle.vr_msg.specs.declared.frame.GivePrepare.{GivePrepare}
use Rattle.vr_msg.specs.declared.frame.Prepare.{Prepare}
use Rattle.vr_msg.specs.declared.frame.PrepareOk.{PrepareOk}
use Rattle.vr_msg.specs.declared.frame.StartView.{StartView}
use Rattle.vr_msg.specs.declared.frame.StartViewChange.{StartViewChange}
use Rattle.vr_msg.specs.declared.frame.SyncView.{SyncView}
use Rattle.vr_msg.specs.declared.request.RequestFields.{RequestFields}
use Rattle.vr_state.specs.declared.session.SessionAnswer.{SessionAnswer}
use Rattle.vr_state.specs.declared.session.SessionAnswer.TheVariants as answer
use Rattle.vr_rules.specs.declared.asker.Asker.{Asker}
use Rattle.vr_rules.specs.declared.rule.Rule.{Rule}
use Rattle.vr_rules.specs.declared.rule.Rule.TheVariants.{Redirected, Behind, Answered, Full, Made, PreparedLater, Past, Beyond, Known, Next, Ahead, Other, Counted, CommitLater, CommitHeard, ChangeLater, ChangeHeard, ChangeDone, StatedLate, Stated, Taken, ViewGiven, EntryGiven, EntryTaken, BlockGiven, BlockTaken, BlockMended, TickedPrimary, TickedBackup, TickedChanging, SyncAsked}
use Rattle.vr_rules.specs.Deciding.{Hash, first_of, get_sync_table, give_block_table, is_from, is_wanted, reaches_down, session_answer, sync_view_table}
use Rattle.vr_world.specs.Group.{stepped}
use Rattle.vr_world.specs.Lying.{Lying, lying}
use Rattle.vr_rules.specs.Replica.{Replica, header_at, is_frozen, leads, run_start}
use Rattle.vr_rules.specs.Rules as rules
use Rattle.vr_rules.proofs.Ruling.{by_rows}
use Rattle.vr_rules.specs.Steps.{Effect, PutBlock, Word, ◌⨾◌, quiet, change, does, by, naming, reading, when}
use Rattle.vr_rules.specs.Words.{apply, rested, speak}
use Rattle.law_6_one_log.specs.Hashed.{ReadsHashed}
use Rattle.law_6_one_log.proofs.Jumping.{jump_at}
use Rattle.law_6_one_log.proofs.Values.{IsOffered, Stands, core}
use Rattle.law_6_one_log.proofs.Walk.{IsTrueFrame, Settles, WellAt, settles, then_at}
use Rattle.law_6_one_log.proofs.Words.{Keeps, S, go_accept, go_advance, go_again, go_all, go_apply, go_by, go_change, go_each, go_enter, go_entry, go_if, go_learn, go_looks, go_naming, go_quiet, go_reading, go_resend, go_says, go_speak, go_take, go_then, go_try, go_when, go_write, mends_at, offers_at, put_at}

-- a checkpoint that is delivered with the log of a view is one of the log
abbrev pub IsTrueEvent : (List ℕ → Type 0) → ℕ → List Whole → Event → Type 0
IsTrueEvent H cluster log (event.Deliver m) = IsTrueFrame H cluster log m
IsTrueEvent H cluster log _ = ⊤

-- a block that is found wanted is one of those that are missing
pub found_wanted : (p : Name → Bool) (names : List Name) (name : Name) → find p names ≡ Some name → (p name ≡ true) × (names ≢ [])
found_wanted p [] name e = absurd cc
found_wanted p (x ∷ names) name e =
    elim (p x) as (λ b. p x ≡ b → cond b (Some x) (find p names) ≡ Some name → (p name ≡ true) × (x ∷ names ≢ [])) [
      | true ↦ λ t e. (let same : x ≡ name = cc in subst (λ y. p y ≡ true) same t, λ none. absurd cc)
      | false ↦ λ t e. ((found_wanted p names name e).0, λ none. absurd cc)
    ] refl e

found_any : (p : Name → Bool) (names : List Name) (name : Name) → find p names ≡ Some name → list_any p names ≡ true
found_any p [] name e = absurd cc
found_any p (x ∷ names) name e =
    elim (p x) as (λ b. cond b (Some x) (find p names) ≡ Some name → (b || list_any p names) ≡ true) [ true ↦ λ e. refl | false ↦ λ e. found_any p names name e ] e

-- a missing block that is given by another replica of the group is put first
pub puts_first : (g : GiveBlock) (name : Name) (r : Replica) (d : Lying) → is_frozen r ≡ false → is_from g.version g.cluster g.replica r ≡ true → find (is_wanted lying.is_block g) r.missing ≡ Some name
    → (later : List Effect) × ((stepped (event.Deliver (frame.GiveBlock g)) r d).script ≡ PutBlock name g.block ∷ later)
unfolding rules.react rules.on_give_block rules.put_block first_of by reading does change ◌⨾◌
puts_first g name r d free from found =
    let any : list_any (is_wanted lying.is_block g) r.missing ≡ true = found_any (is_wanted lying.is_block g) r.missing name found in
    rw (free, from, any, found) (_, refl)

module _ (H : List ℕ → Type 0) (never : NoCollision H) (cluster : ℕ) (log : List Whole) where
  keeps_rested : Keeps H never cluster log (change rested)
  keeps_rested = go_change H never cluster log rested (λ r. refl)

  keeps_stored_reply : (a : Asker) (x : SessionAnswer) → Keeps H never cluster log (rules.stored_reply a x)
  keeps_stored_reply a answer.Fresh = go_quiet H never cluster log
  keeps_stored_reply a (answer.Repeat outcome op) = go_says H never cluster log _ (λ r. (tt, tt))
  keeps_stored_reply a answer.Old = go_says H never cluster log _ (λ r. (tt, tt))
  keeps_stored_reply a answer.Gap = go_says H never cluster log _ (λ r. (tt, tt))
  keeps_stored_reply a answer.Evicted = go_says H never cluster log _ (λ r. (tt, tt))

  keeps_make : (e : Whole) → Keeps H never cluster log (rules.make e)
  unfolding rules.make
  keeps_make e = go_then H never cluster log _ _ (go_write H never cluster log e) (go_then H never cluster log _ _ (go_all H never cluster log _ (λ r. tt)) (go_advance H never cluster log))

  keeps_request : (hash : Hash) (q : RequestFields) → (rule : Rule) → Keeps H never cluster log (rules.obey_request hash q rule)
  keeps_request hash q Redirected = go_says H never cluster log _ (λ r. (tt, tt))
  keeps_request hash q Behind = go_says H never cluster log _ (λ r. (tt, tt))
  keeps_request hash q Answered = go_by H never cluster log _ (λ r. keeps_stored_reply (rules.asker_by hash q) (session_answer q r))
  keeps_request hash q Full = go_says H never cluster log _ (λ r. (tt, tt))
  keeps_request hash q Made = go_by H never cluster log _ (λ r. keeps_make (rules.next_entry hash q r))
  keeps_request hash q _ = go_quiet H never cluster log

  keeps_prepare : (hash : Hash) (p : Prepare) → (rule : Rule) → Keeps H never cluster log (rules.obey_prepare hash p rule)
  keeps_prepare hash p PreparedLater = go_says H never cluster log _ (λ r. (tt, tt))
  keeps_prepare hash p Past = go_then H never cluster log _ _ keeps_rested (go_learn H never cluster log p.commit)
  keeps_prepare hash p Beyond = keeps_rested
  keeps_prepare hash p Known = go_then H never cluster log _ _ keeps_rested (go_then H never cluster log _ _ (go_accept H never cluster log p.entry) (go_then H never cluster log _ _ (go_says H never cluster log _ (λ r. (tt, tt))) (go_learn H never cluster log p.commit)))
  keeps_prepare hash p Next = go_then H never cluster log _ _ keeps_rested (go_then H never cluster log _ _ (go_write H never cluster log p.entry) (go_then H never cluster log _ _ (go_says H never cluster log _ (λ r. (tt, tt))) (go_learn H never cluster log p.commit)))
  keeps_prepare hash p Ahead = go_then H never cluster log _ _ keeps_rested (go_then H never cluster log _ _ (go_says H never cluster log _ (λ r. (tt, tt))) (go_learn H never cluster log p.commit))
  keeps_prepare hash p Other = keeps_rested
  keeps_prepare hash p _ = go_quiet H never cluster log

  keeps_prepare_ok : (a : PrepareOk) (rule : Rule) → Keeps H never cluster log (rules.obey_prepare_ok a rule)
  keeps_prepare_ok a Counted = go_then H never cluster log _ _ (go_change H never cluster log (rules.acknowledged a) (λ r. refl)) (go_advance H never cluster log)
  keeps_prepare_ok a _ = go_quiet H never cluster log

  keeps_commit : (m : Commit) (rule : Rule) → Keeps H never cluster log (rules.obey_commit m rule)
  keeps_commit m CommitLater = go_says H never cluster log _ (λ r. (tt, tt))
  keeps_commit m CommitHeard = go_then H never cluster log _ _ keeps_rested (go_then H never cluster log _ _ (go_by H never cluster log _ (λ r. go_when H never cluster log _ _ (go_says H never cluster log _ (λ r. (tt, tt))))) (go_learn H never cluster log m.commit))
  keeps_commit m _ = go_quiet H never cluster log

  keeps_heard : (sender : ℕ) → Keeps H never cluster log (change (rules.heard_of sender) ⨾ speak)
  keeps_heard sender = go_then H never cluster log _ _ (go_change H never cluster log (rules.heard_of sender) (λ r. refl)) (go_speak H never cluster log)

  keeps_change : (m : StartViewChange) (rule : Rule) → Keeps H never cluster log (rules.obey_start_view_change m rule)
  keeps_change m ChangeLater = go_then H never cluster log _ _ (go_enter H never cluster log m.view) (keeps_heard m.replica)
  keeps_change m ChangeHeard = keeps_heard m.replica
  keeps_change m ChangeDone = go_says H never cluster log _ (λ r. (tt, tt))
  keeps_change m _ = go_quiet H never cluster log

  keeps_statement : (d : DoViewChange) (rule : Rule) → Keeps H never cluster log (rules.obey_do_view_change d rule)
  keeps_statement d StatedLate = go_says H never cluster log _ (λ r. (tt, tt))
  keeps_statement d Stated = go_then H never cluster log _ _ (go_by H never cluster log _ (λ r. go_when H never cluster log _ _ (go_enter H never cluster log d.view))) (go_then H never cluster log _ _ (go_change H never cluster log (rules.with_statement d.replica d.statement) (λ r. refl)) (go_try H never cluster log))
  keeps_statement d _ = go_quiet H never cluster log

  keeps_stored_of : (hash : Hash) (o : Option Header) → Keeps H never cluster log (option_map_or (rules.acknowledge hash) o quiet)
  keeps_stored_of hash None = go_quiet H never cluster log
  keeps_stored_of hash (Some h) = go_says H never cluster log _ (λ r. (tt, tt))

  keeps_stored : (hash : Hash) (op : ℕ) → Keeps H never cluster log (rules.acknowledge_stored hash op)
  unfolding rules.acknowledge_stored
  keeps_stored hash op = go_by H never cluster log _ (λ r. go_when H never cluster log _ _ (keeps_stored_of hash (header_at r op)))

  keeps_view : (hash : Hash) (v : StartView) (rule : Rule) → Keeps H never cluster log (rules.obey_start_view hash v rule)
  keeps_view hash v Taken = go_then H never cluster log _ _ (go_take H never cluster log _) (go_then H never cluster log _ _ (go_by H never cluster log _ (λ r. go_each H never cluster log _ _ (keeps_stored hash))) (go_apply H never cluster log))
  keeps_view hash v SyncAsked = go_says H never cluster log _ (λ r. (tt, tt))
  keeps_view hash v _ = go_quiet H never cluster log

  keeps_get_view : (g : GetView) (rule : Rule) → Keeps H never cluster log (rules.obey_get_view g rule)
  keeps_get_view g ViewGiven = go_says H never cluster log _ (λ r. (tt, tt))
  keeps_get_view g _ = go_quiet H never cluster log

  keeps_get_prepare : (g : GetPrepare) (rule : Rule) → Keeps H never cluster log (rules.obey_get_prepare g rule)
  keeps_get_prepare g EntryGiven = go_entry H never cluster log g.op _ (λ e. go_says H never cluster log _ (λ r. (tt, tt)))
  keeps_get_prepare g _ = go_quiet H never cluster log

  keeps_give_prepare : (g : GivePrepare) → (rule : Rule) → Keeps H never cluster log (rules.obey_give_prepare g rule)
  keeps_give_prepare g EntryTaken = go_then H never cluster log _ _ (go_write H never cluster log g.entry) (go_then H never cluster log _ _ (go_resend H never cluster log g.entry) (go_apply H never cluster log))
  keeps_give_prepare g _ = go_quiet H never cluster log

  keeps_give_read : (g : GetBlock) (o : Option (List ℕ)) → Keeps H never cluster log (rules.give_read g o)
  keeps_give_read g None = go_quiet H never cluster log
  keeps_give_read g (Some block) = go_says H never cluster log _ (λ r. (tt, tt))

  keeps_get_block : (g : GetBlock) (o : Option (List ℕ)) (rule : Rule) → Keeps H never cluster log (rules.obey_get_block g o rule)
  keeps_get_block g o BlockGiven = keeps_give_read g o
  keeps_get_block g o _ = go_quiet H never cluster log

  keeps_next_view : Keeps H never cluster log rules.next_view
  keeps_next_view = go_by H never cluster log _ (λ r. go_enter H never cluster log _)

  keeps_tick : (rule : Rule) → Keeps H never cluster log (rules.obey_tick rule)
  keeps_tick TickedPrimary = go_then H never cluster log _ _ (go_all H never cluster log _ (λ r. tt)) (go_then H never cluster log _ _ (go_by H never cluster log _ (λ r. go_when H never cluster log _ _ (go_again H never cluster log _))) (go_looks H never cluster log))
  keeps_tick TickedBackup = go_then H never cluster log _ _ (go_change H never cluster log rules.idler (λ r. refl)) (go_by H never cluster log _ (λ r. go_if H never cluster log _ _ _ keeps_next_view (go_looks H never cluster log)))
  keeps_tick TickedChanging =
      go_then H never cluster log _ _ (go_change H never cluster log rules.idler (λ r. refl)) (go_by H never cluster log _ (λ r. go_if H never cluster log _ _ _ keeps_next_view (go_then H never cluster log _ _ (go_all H never cluster log _ (λ r. tt)) (go_then H never cluster log _ _ (go_speak H never cluster log) (go_looks H never cluster log)))))
  keeps_tick _ = go_quiet H never cluster log

  -- ---- a missing block

  put_found_at : (block : List ℕ) (o : Option Name) (r : Replica) (d : Lying) → ((name : Name) → o ≡ Some name → (is_some (named name block) ≡ true) × (r.missing ≢ [])) → (r.missing ≢ [] → r.applied ≡ r.checkpoint) → ReadsHashed H d.face → Stands H cluster log (core r)
      → WellAt H cluster log (S H never cluster log) (rules.put_found block o) r d
  put_found_at block None r d found same reads h = (go_quiet H never cluster log).every r d h
  put_found_at block (Some name) r d found same reads h =
      let f = found name refl in
      then_at H cluster log (S H never cluster log) (S H never cluster log) (rules.put_block name block) apply r d (put_at H never cluster log name block r d f.0 f.1 (same f.1) reads h) (λ p. (go_apply H never cluster log).every _ _ p)

  give_block_at : (g : GiveBlock) (rule : Rule) (r : Replica) (d : Lying) → (r.missing ≢ [] → r.applied ≡ r.checkpoint) → ReadsHashed H d.face → Stands H cluster log (core r) → WellAt H cluster log (S H never cluster log) (rules.obey_give_block lying.is_block g rule) r d
  unfolding by
  give_block_at g BlockTaken r d same reads h =
      put_found_at g.block (find (is_wanted lying.is_block g) r.missing) r d (λ name e.
      let f = found_wanted (is_wanted lying.is_block g) r.missing name e in
      ((and_parts (name.address == g.address) (lying.is_block name g.block) f.0).1, f.1)) same reads h
  give_block_at g BlockMended r d same reads h = mends_at H never cluster log g.block (find (is_wanted lying.is_block g) r.worn) r d h
  give_block_at g _ r d same reads h = (go_quiet H never cluster log).every r d h

  -- ---- all events

  keeps_on_request : (q : RequestFields) → Keeps H never cluster log (rules.on_request q)
  unfolding rules.on_request
  keeps_on_request q = go_naming H never cluster log _ (λ hash. go_by H never cluster log _ (λ r. keeps_request hash q _))

  keeps_on_prepare : (p : Prepare) → Keeps H never cluster log (rules.on_prepare p)
  unfolding rules.on_prepare
  keeps_on_prepare p = go_naming H never cluster log _ (λ hash. go_by H never cluster log _ (λ r. keeps_prepare hash p _))

  keeps_on_prepare_ok : (a : PrepareOk) → Keeps H never cluster log (rules.on_prepare_ok a)
  unfolding rules.on_prepare_ok
  keeps_on_prepare_ok a = go_naming H never cluster log _ (λ hash. go_by H never cluster log _ (λ r. keeps_prepare_ok a _))

  keeps_on_commit : (m : Commit) → Keeps H never cluster log (rules.on_commit m)
  unfolding rules.on_commit
  keeps_on_commit m = go_by H never cluster log _ (λ r. keeps_commit m _)

  keeps_on_start_view_change : (m : StartViewChange) → Keeps H never cluster log (rules.on_start_view_change m)
  unfolding rules.on_start_view_change
  keeps_on_start_view_change m = go_by H never cluster log _ (λ r. keeps_change m _)

  keeps_on_do_view_change : (m : DoViewChange) → Keeps H never cluster log (rules.on_do_view_change m)
  unfolding rules.on_do_view_change
  keeps_on_do_view_change m = go_by H never cluster log _ (λ r. keeps_statement m _)

  keeps_on_start_view : (v : StartView) → Keeps H never cluster log (rules.on_start_view v)
  unfolding rules.on_start_view
  keeps_on_start_view v = go_naming H never cluster log _ (λ hash. go_by H never cluster log _ (λ r. keeps_view hash v _))

  keeps_on_get_view : (g : GetView) → Keeps H never cluster log (rules.on_get_view g)
  unfolding rules.on_get_view
  keeps_on_get_view g = go_by H never cluster log _ (λ r. keeps_get_view g _)

  keeps_on_get_prepare : (g : GetPrepare) → Keeps H never cluster log (rules.on_get_prepare g)
  unfolding rules.on_get_prepare
  keeps_on_get_prepare g = go_naming H never cluster log _ (λ hash. go_by H never cluster log _ (λ r. keeps_get_prepare g _))

  keeps_on_give_prepare : (g : GivePrepare) → Keeps H never cluster log (rules.on_give_prepare g)
  unfolding rules.on_give_prepare
  keeps_on_give_prepare g = go_by H never cluster log _ (λ r. keeps_give_prepare g _)

  keeps_on_get_block : (g : GetBlock) → Keeps H never cluster log (rules.on_get_block g)
  unfolding rules.on_get_block
  keeps_on_get_block g = go_reading H never cluster log _ _ (λ o. go_by H never cluster log _ (λ r. keeps_get_block g o _))

  keeps_on_tick : Keeps H never cluster log rules.on_tick
  unfolding rules.on_tick
  keeps_on_tick = go_by H never cluster log _ (λ r. keeps_tick _)

  module _ (r : Replica) (d : Lying) (same : r.missing ≢ [] → r.applied ≡ r.checkpoint) (reads : ReadsHashed H d.face) (h : Stands H cluster log (core r)) where
    of_word : (w : Word Lying) → Keeps H never cluster log w → WellAt H cluster log (S H never cluster log) w r d
    of_word w k = k.every r d h

    on_give_block_at : (g : GiveBlock) → WellAt H cluster log (S H never cluster log) (rules.on_give_block g) r d
    unfolding rules.on_give_block reading by
    on_give_block_at g = give_block_at g (first_of (give_block_table lying.is_block g r)) r d same reads h

    on_get_sync_at : (g : GetSync) → WellAt H cluster log (S H never cluster log) (rules.on_get_sync g) r d
    unfolding rules.on_get_sync by
    on_get_sync_at g =
        let idle = of_word quiet (go_quiet H never cluster log) in
        by_rows (λ x. WellAt H cluster log (S H never cluster log) (rules.obey_get_sync g x) r d) (get_sync_table g r) (
          λ t. idle,
          λ n0. (
            λ t.
                let a = and_parts (leads r) _ t in
                let b = and_parts (nat_le g.view r.view) (reaches_down r) a.1 in
                let c = and_parts (nat_lt 0 r.checkpoint) (nat_lt (run_start r) r.checkpoint) b.1 in
                offers_at H never cluster log g.replica r d (ltb-true 0 r.checkpoint c.0) h,
            λ n1. idle,
          ),
        )

    well : (w : Word Lying) → WellAt H cluster log (S H never cluster log) w r d → Settles H cluster log (S H never cluster log) r d (w lying r d)
    well w k = settles H cluster log (S H never cluster log) r d (w lying r d) k

    settled : (w : Word Lying) → Keeps H never cluster log w → Settles H cluster log (S H never cluster log) r d (w lying r d)
    settled w k = well w (of_word w k)

    on_sync_view_at : (v : SyncView) → IsOffered H cluster log v → Settles H cluster log (S H never cluster log) r d (rules.on_sync_view v lying r d)
    unfolding rules.on_sync_view naming by
    on_sync_view_at v offered =
        let idle = settled quiet (go_quiet H never cluster log) in
        by_rows (λ x. Settles H cluster log (S H never cluster log) r d (rules.obey_sync_view lying.hash v x lying r d)) (sync_view_table lying.hash v r) (
          λ t. idle,
          λ n0. (λ t. jump_at H never cluster log lying.hash v r d offered h, λ n1. idle),
        )

    message_at : (m : Frame) → IsTrueFrame H cluster log m → Settles H cluster log (S H never cluster log) r d (rules.on_message m lying r d)
    message_at (frame.Request q) told = settled (rules.on_request q) (keeps_on_request q)
    message_at (frame.Reply a) told = settled quiet (go_quiet H never cluster log)
    message_at (frame.Prepare p) told = settled (rules.on_prepare p) (keeps_on_prepare p)
    message_at (frame.PrepareOk a) told = settled (rules.on_prepare_ok a) (keeps_on_prepare_ok a)
    message_at (frame.Commit m) told = settled (rules.on_commit m) (keeps_on_commit m)
    message_at (frame.StartViewChange m) told = settled (rules.on_start_view_change m) (keeps_on_start_view_change m)
    message_at (frame.DoViewChange m) told = settled (rules.on_do_view_change m) (keeps_on_do_view_change m)
    message_at (frame.StartView v) told = settled (rules.on_start_view v) (keeps_on_start_view v)
    message_at (frame.GetView g) told = settled (rules.on_get_view g) (keeps_on_get_view g)
    message_at (frame.GetPrepare g) told = settled (rules.on_get_prepare g) (keeps_on_get_prepare g)
    message_at (frame.GivePrepare g) told = settled (rules.on_give_prepare g) (keeps_on_give_prepare g)
    message_at (frame.GetBlock g) told = settled (rules.on_get_block g) (keeps_on_get_block g)
    message_at (frame.GiveBlock g) told = well (rules.on_give_block g) (on_give_block_at g)
    message_at (frame.GetSync g) told = well (rules.on_get_sync g) (on_get_sync_at g)
    message_at (frame.SyncView v) told = on_sync_view_at v told

    event_at : (e : Event) → IsTrueEvent H cluster log e → Settles H cluster log (S H never cluster log) r d (rules.on_event e lying r d)
    event_at (event.Request q) told = settled (rules.on_request q) (keeps_on_request q)
    event_at (event.Deliver m) told = message_at m told
    event_at event.Tick told = settled rules.on_tick keeps_on_tick

    -- a step of a replica that isn't frozen
    pub react_at : (e : Event) → IsTrueEvent H cluster log e → is_frozen r ≡ false → Settles H cluster log (S H never cluster log) r d (rules.react e lying r d)
    unfolding rules.react by
    react_at e told free = subst (λ b. Settles H cluster log (S H never cluster log) r d (when (not b) (rules.on_event e) lying r d)) (sym free) (event_at e told)

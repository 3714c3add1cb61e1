-- Each rule leaves a sound replica that is caught up so.
use Rattle.std.proofs.Common.{ℕ, ◌+◌, ◌-◌, ◌≤◌, ◌≡◌, ◌^◌, arith, refl, Bool, false, cond, not, List, Option, Some, None}
use Rattle.std.specs.Prelude.{find, is_some, nat_le, nat_lt, ◌&&◌}
use Rattle.std.specs.Option.{option_map_or}
use Rattle.std.proofs.lemmas.Bool.{and_parts, eqb-true, le-ltb, leb-false, ltb-false, ltb-true, not-false, or_parts}
use Rattle.vr_base.specs.Groups.{quorums_of}
use Rattle.vr_header.specs.declared.header.Header.{Header}
use Rattle.vr_header.specs.Made.{Whole}
use Rattle.vr_ckpt.specs.declared.name.Name.{Name}
use Rattle.vr_state.specs.declared.session.SessionAnswer.{SessionAnswer}
use Rattle.vr_state.specs.declared.session.SessionAnswer.TheVariants as answer
use Rattle.vr_msg.specs.Choice.{ops}
use Rattle.vr_msg.specs.declared.choice.Choice.{Choice}
use Rattle.vr_msg.specs.declared.choice.Choice.TheVariants.{Ends, WaitsAt, TooFew}
use Rattle.vr_msg.specs.declared.frame.Commit.{Commit}
use Rattle.vr_msg.specs.declared.frame.DoViewChange.{DoViewChange}
use Rattle.vr_msg.specs.declared.frame.Frame.TheVariants as frame
use Rattle.vr_msg.specs.declared.frame.GetBlock.{GetBlock}
use Rattle.vr_msg.specs.declared.frame.GetPrepare.{GetPrepare}
use Rattle.vr_msg.specs.declared.frame.GetSync.{GetSync}
use Rattle.vr_msg.specs.declared.frame.GetView.{GetView}
use Rattle.vr_msg.specs.declared.frame.GiveBlock.{GiveBlock}
use Rattle.vr_msg.specs.declared.frame.GivePrepare.{GivePrepare}
use Rattle.vr_msg.specs.declared.frame.Prepare.{Prepare}
use Rattle.vr_msg.specs.declared.frame.PrepareOk.{PrepareOk}
use Rattle.vr_msg.specs.declared.frame.StartView.{StartView}
use Rattle.vr_msg.specs.declared.frame.StartViewChange.{StartViewChange}
use Rattle.vr_msg.specs.declared.frame.SyncView.{SyncView}
use Rattle.vr_msg.specs.declared.request.RequestFields.{RequestFields}
use Rattle.vr_msg.specs.declared.output.Output.{Output}
use Rattle.vr_msg.specs.declared.statement.Statement.{Statement}
use Rattle.vr_rules.specs.Deciding.{Hash, commit_table, do_view_change_table, get_block_table, get_prepare_table, get_sync_table, get_view_table, give_block_table, give_prepare_table, is_from_primary, is_known, is_wanted, log_of, may_jump, prepare_ok_table, prepare_table, request_table, session_answer, start_view_change_table, start_view_table, sync_view_table, tick_table}
use Rattle.vr_rules.specs.Laws.{HasNames, IsMessage}
use Rattle.vr_rules.specs.Outputs.{do_view_change, to_primary, wait_line}
use Rattle.vr_rules.specs.Replica.{Replica, head, header_at, is_alone, is_here, is_primary, is_started, last_view, part_at, version, view_change}
use Rattle.vr_rules.specs.Rules.{acknowledge, acknowledge_stored, acknowledged, asked_block, asker_by, block_at, give_read, heard_of, idler, make, mend_found, next_entry, next_view, not_worn, obey_commit, obey_do_view_change, obey_get_block, obey_get_prepare, obey_get_sync, obey_get_view, obey_give_block, obey_give_prepare, obey_prepare, obey_prepare_ok, obey_request, obey_start_view, obey_start_view_change, obey_sync_view, obey_tick, on_commit, on_do_view_change, on_get_block, on_get_prepare, on_get_sync, on_get_view, on_give_block, on_give_prepare, on_prepare, on_prepare_ok, on_request, on_start_view, on_start_view_change, on_sync_view, on_tick, put_block, put_found, stored_reply, test_of, with_statement, without}
use Rattle.vr_rules.specs.Sound.{IsCaughtUp, IsSound, IsStated}
use Rattle.vr_rules.specs.Steps.{Setting, Word, ◌⨾◌, after_all, by, change, each, quiet, says, when}
use Rattle.vr_rules.specs.Words.{Log, accept, advance, apply, ask, begin_view, chosen_log, choose_line, decided, enter, is_loaded, jump, learn, load, may_take, obey_choice, prepare_again, rested, speak, stated, take, try, try_log, visit, write}
use Rattle.vr_rules.specs.declared.asker.Asker.{Asker}
use Rattle.vr_rules.proofs.Combining.{kept_change, kept_when}
use Rattle.vr_rules.proofs.Jumping.{kept_jump, may_jump_is}
use Rattle.vr_rules.proofs.Keeping.{Kept}
use Rattle.vr_rules.proofs.Reacting.{keeps_idler, may_store_next}
use Rattle.vr_rules.proofs.Ruling.{IsFor, by_rows, for_of, group_of, group_of_primary, in_view, keeps_heard, kept_statement, may_store_given, may_store_prepare, told_log, told_sync}
use Rattle.vr_rules.proofs.Storing.{MayStore}
use Rattle.vr_rules.specs.Given.{IsLogFor}
use Rattle.vr_rules.proofs.Taking.{MayTake, kept_take, may_take_is}
use Rattle.vr_rules.proofs.Trying.{all_stated, chosen_log_is, decided_ends}
use Rattle.vr_rules.proofs.Wording.{kept_accept, kept_enter, kept_rested, kept_write}
use Rattle.law_repair.proofs.Upkeep.{Calm, Settles, UpBy, calm_by, calm_change, calm_does, calm_enter, calm_quiet, calm_resend, calm_rested, calm_says, calm_then, calm_when, settles_advance, settles_apply, settles_by, settles_calm_then, settles_if, settles_learn, settles_then, sorts_again, sorts_by, sorts_calm, sorts_change, sorts_each, sorts_load, sorts_then, sorts_when, up_by, up_calm, up_calm_then, up_change_then, up_entry, up_if, up_naming, up_reading, up_says_then, up_settles, up_then, up_then_up, up_visit_ask, up_when}

module _ {F : Type 0} where
  calm_stored_reply : (a : Asker) (x : SessionAnswer) → Calm {F = F} (stored_reply a x)
  calm_stored_reply a answer.Fresh = calm_quiet
  calm_stored_reply a (answer.Repeat outcome op) = calm_says _
  calm_stored_reply a answer.Old = calm_says _
  calm_stored_reply a answer.Gap = calm_says _
  calm_stored_reply a answer.Evicted = calm_says _

  calm_acknowledged : (a : PrepareOk) → Calm {F = F} (change (acknowledged a))
  unfolding part_at
  calm_acknowledged a = calm_change (acknowledged a) (λ r. record { parts = λ k. refl; commit = refl; applied = refl; missing = refl })

  calm_heard : (sender : ℕ) → Calm {F = F} (change (heard_of sender))
  unfolding part_at
  calm_heard sender = calm_change (heard_of sender) (λ r. record { parts = λ k. refl; commit = refl; applied = refl; missing = refl })

  calm_statement : (sender : ℕ) (t : Statement) → Calm {F = F} (change (with_statement sender t))
  unfolding part_at
  calm_statement sender t = calm_change (with_statement sender t) (λ r. record { parts = λ k. refl; commit = refl; applied = refl; missing = refl })

  calm_idler : Calm {F = F} (change idler)
  unfolding part_at
  calm_idler = calm_change idler (λ r. record { parts = λ k. refl; commit = refl; applied = refl; missing = refl })

  calm_give_read : (g : GetBlock) (o : Option (List ℕ)) → Calm {F = F} (give_read g o)
  calm_give_read g None = calm_quiet
  calm_give_read g (Some block) = calm_says _

  calm_next_view : Calm {F = F} next_view
  calm_next_view = calm_by _ (λ r. calm_enter (r.view + 1))

  calm_acknowledge_of : (hash : Hash) (o : Option Header) → Calm {F = F} (option_map_or (acknowledge hash) o quiet)
  calm_acknowledge_of hash None = calm_quiet
  calm_acknowledge_of hash (Some h) = calm_says _

  calm_acknowledge_stored : (hash : Hash) (op : ℕ) → Calm {F = F} (acknowledge_stored hash op)
  unfolding acknowledge_stored
  calm_acknowledge_stored hash op = calm_by _ (λ r. calm_when (is_here (part_at r op)) _ (calm_acknowledge_of hash (header_at r op)))

  -- what follows a log that is taken
  settles_told : (hash : Hash) (top : ℕ) → Settles {F = F} (by (λ r. each (acknowledge_stored hash) (ops r.commit top)) ⨾ apply)
  settles_told hash top = settles_then _ _ (sorts_by _ (λ r. sorts_each _ _ (λ op. sorts_calm _ (calm_acknowledge_stored hash op)))) settles_apply

  settles_begun : (top : ℕ) (w : Word F) → Calm w → Settles {F = F} (w ⨾ by (λ r. each prepare_again (ops r.commit top)) ⨾ by (λ r. cond (is_alone r) advance apply))
  settles_begun top w h =
      settles_calm_then _ _ h (settles_then _ _ (sorts_by _ (λ r. sorts_each _ _ sorts_again)) (settles_by _ (λ r. settles_if (is_alone r) advance apply settles_advance settles_apply)))

  settles_put : (name : Name) (block : List ℕ) → Settles {F = F} (put_block name block ⨾ apply)
  unfolding put_block part_at
  settles_put name block =
      settles_then _ _ (sorts_then _ _ (sorts_calm _ (calm_does _)) (sorts_then _ _ (sorts_change (without name) (λ r k. refl)) (sorts_by _ (λ r. sorts_when _ load sorts_load)))) settles_apply

module _ {F : Type 0} (s : Setting F) where
  -- ---- the primary of a view that isn't started

  up_begin : (ss : List Statement) (l : Log) (r : Replica) (f : F) → IsSound r → IsLogFor r l → MayTake l r → UpBy (begin_view ss l) s r f
  unfolding begin_view
  up_begin ss l r f h log m =
      up_says_then s (choose_line ss l) _ r f (λ d. up_then s (take l) _ r d (kept_take l s r d h log m) (settles_begun l.head _ (calm_says _)))

  up_try_log : (ss : List Statement) (l : Log) (r : Replica) (f : F) → IsSound r → IsCaughtUp r → IsLogFor r l → UpBy (try_log ss l) s r f
  unfolding try_log
  up_try_log ss l r f h u log =
      up_naming s _ r f (up_by s _ r f (up_if s (may_take s.hash l r) (begin_view ss l) (says (wait_line l.head)) r f
      (λ t. up_begin ss l r f h log (may_take_is s.hash l r t))
      (λ t. up_calm s _ r f u (calm_says _))))

  up_choice : (c : Choice) (r : Replica) (f : F) → IsSound r → IsCaughtUp r → decided r ≡ c → UpBy (obey_choice (stated r) c) s r f
  up_choice TooFew r f h u e = up_calm s quiet r f u calm_quiet
  up_choice (WaitsAt op) r f h u e = up_calm s _ r f u (calm_says (wait_line op))
  up_choice (Ends hs) r f h u e =
      let q = decided_ends r.n (stated r) hs (quorums_of r.n) e in
      up_by s _ r f (up_try_log (stated r) (chosen_log r (stated r) hs) r f h u (chosen_log_is r q.0 (stated r) hs (all_stated r h) q.1))

  up_try : (r : Replica) (f : F) → IsSound r → IsCaughtUp r → UpBy try s r f
  unfolding try
  up_try r f h u = up_by s _ r f (up_when s (is_primary r && not (is_started r)) (obey_choice (stated r) (decided r)) r f u (λ t. up_choice (decided r) r f h u refl))

  up_speak : (r : Replica) (f : F) → IsSound r → IsCaughtUp r → UpBy speak s r f
  unfolding speak
  up_speak r f h u =
      up_by s _ r f (up_when s (nat_le (view_change r.n) _) _ r f u (λ t.
      up_if s (is_primary r) try _ r f (λ a. up_try r f h u) (λ a. up_calm s _ r f u (calm_says (to_primary do_view_change)))))

  -- ---- requests

  up_make : (e : Whole) (r : Replica) (f : F) → IsSound r → MayStore e r → UpBy (make e) s r f
  unfolding make
  up_make e r f h m = up_then s (write e) _ r f (kept_write e s r f h m) (settles_calm_then _ _ (calm_says _) settles_advance)

  pub up_request : (q : RequestFields) (r : Replica) (f : F) → HasNames s → IsSound r → IsCaughtUp r → IsMessage (frame.Request q) → r.view ≤ last_view → UpBy (on_request q) s r f
  unfolding on_request
  up_request q r f names h u m last =
      let idle = up_calm s quiet r f u calm_quiet in
      let told = λ (os : Replica → List Output). up_calm s (says os) r f u (calm_says os) in
      up_naming s _ r f (up_by s _ r f (by_rows (λ x. UpBy (obey_request s.hash q x) s r f) (request_table q r) (
        λ t. idle,
        λ n0. (
          λ t. told _,
          λ n1. (
            λ t. told _,
            λ n2. (
              λ t. idle,
              λ n3. (
                λ t. up_by s _ r f (up_calm s _ r f u (calm_stored_reply (asker_by s.hash q) (session_answer q r))),
                λ n4. (
                  λ t. told _,
                  λ n5. (
                    λ t.
                        let lead = and_parts (is_started r) (is_primary r) (not-false _ n1) in
                        let behind = or_parts (not (is_loaded r)) (nat_lt r.applied r.commit) n2 in
                        let full = or_parts (nat_le 8 (head r - r.commit)) (nat_le (2 ^ 62) (head r)) n5 in
                        let few = leb-false 8 (head r - r.commit) full.0 in
                        let known = h.order.known in
                        let may = may_store_next s.hash q r names h m (for_of q.version q.cluster r (not-false _ n0)) (eqb-true r.view r.log_view lead.0) last (ltb-false r.applied r.commit behind.1) (omega arith) (leb-false (2 ^ 62) (head r) full.1) in
                        up_by s _ r f (up_make (next_entry s.hash q r) r f h may),
                    λ n6. idle,
                  ),
                ),
              ),
            ),
          ),
        ),
      )))

  -- ---- prepares

  up_known : (hash : Hash) (p : Prepare) (r : Replica) (f : F) → IsSound r → MayStore p.entry (rested r)
      → UpBy (change rested ⨾ accept p.entry ⨾ acknowledge hash p.entry.header ⨾ learn p.commit) s r f
  up_known hash p r f h m =
      up_change_then s rested _ r f (λ d.
      up_then s (accept p.entry) _ (rested r) d (kept_accept p.entry s (rested r) d (kept_rested r h).sound m) (settles_calm_then _ _ (calm_says _) (settles_learn p.commit)))

  up_next : (hash : Hash) (p : Prepare) (r : Replica) (f : F) → IsSound r → MayStore p.entry (rested r)
      → UpBy (change rested ⨾ write p.entry ⨾ acknowledge hash p.entry.header ⨾ learn p.commit) s r f
  up_next hash p r f h m =
      up_change_then s rested _ r f (λ d.
      up_then s (write p.entry) _ (rested r) d (kept_write p.entry s (rested r) d (kept_rested r h).sound m) (settles_calm_then _ _ (calm_says _) (settles_learn p.commit)))

  pub up_prepare : (p : Prepare) (r : Replica) (f : F) → IsSound r → IsCaughtUp r → IsMessage (frame.Prepare p) → UpBy (on_prepare p) s r f
  unfolding on_prepare
  up_prepare p r f h u m =
      let op : ℕ = p.entry.header.op in
      let idle = up_calm s quiet r f u calm_quiet in
      let rests = up_calm s _ r f u calm_rested in
      let may : not (is_from_primary p.version p.entry.header.cluster p.replica p.view r) ≡ false → nat_lt r.log_view p.view ≡ false → nat_le op r.checkpoint ≡ false
      → nat_lt (r.checkpoint + 64) op ≡ false → MayStore p.entry (rested r) =
      λ a b c d. may_store_prepare p r m (group_of_primary p.version p.entry.header.cluster p.replica p.view r a) (ltb-false r.log_view p.view b) (leb-false op r.checkpoint c) (ltb-false (r.checkpoint + 64) op d) in
      up_naming s _ r f (up_by s _ r f (by_rows (λ x. UpBy (obey_prepare s.hash p x) s r f) (prepare_table s.hash p r) (
        λ t. idle,
        λ n0. (
          λ t. idle,
          λ n1. (
            λ t. up_calm s _ r f u (calm_says _),
            λ n2. (
              λ t. up_settles s _ r f h (settles_calm_then _ _ calm_rested (settles_learn p.commit)),
              λ n3. (
                λ t. rests,
                λ n4. (
                  λ t. up_known s.hash p r f h (may n0 n2 n3 n4),
                  λ n5. (
                    λ t. up_next s.hash p r f h (may n0 n2 n3 n4),
                    λ n6. (λ t. up_settles s _ r f h (settles_calm_then _ _ calm_rested (settles_calm_then _ _ (calm_says _) (settles_learn p.commit))), λ n7. (λ t. rests, λ n8. idle)),
                  ),
                ),
              ),
            ),
          ),
        ),
      )))

  -- ---- prepare_oks and commits

  pub up_prepare_ok : (a : PrepareOk) (r : Replica) (f : F) → IsSound r → IsCaughtUp r → UpBy (on_prepare_ok a) s r f
  unfolding on_prepare_ok
  up_prepare_ok a r f h u =
      let idle = up_calm s quiet r f u calm_quiet in
      up_naming s _ r f (up_by s _ r f (by_rows (λ x. UpBy (obey_prepare_ok a x) s r f) (prepare_ok_table s.hash a r) (
        λ t. idle,
        λ n0. (λ t. up_settles s _ r f h (settles_calm_then _ _ (calm_acknowledged a) settles_advance), λ n1. idle),
      )))

  pub up_commit : (c : Commit) (r : Replica) (f : F) → IsSound r → IsCaughtUp r → UpBy (on_commit c) s r f
  unfolding on_commit
  up_commit c r f h u =
      let idle = up_calm s quiet r f u calm_quiet in
      up_by s _ r f (by_rows (λ x. UpBy (obey_commit c x) s r f) (commit_table c r) (
        λ t. idle,
        λ n0. (
          λ t. idle,
          λ n1. (
            λ t. up_calm s _ r f u (calm_says _),
            λ n2. (
              λ t. up_settles s _ r f h (settles_calm_then _ _ calm_rested (settles_calm_then _ _ (calm_by _ (λ q. calm_when (nat_lt (head q) c.head) _ (calm_says _))) (settles_learn c.commit))),
              λ n3. idle,
            ),
          ),
        ),
      ))

  -- ---- view changes

  up_heard : (sender : ℕ) (r : Replica) (f : F) → IsSound r → IsCaughtUp r → UpBy (change (heard_of sender) ⨾ speak) s r f
  up_heard sender r f h u = up_calm_then s _ speak r f u (calm_heard sender) ((keeps_heard sender).every s r f h) (λ q d i v. up_speak q d i v)

  pub up_start_view_change : (c : StartViewChange) (r : Replica) (f : F) → IsSound r → IsCaughtUp r → UpBy (on_start_view_change c) s r f
  unfolding on_start_view_change
  up_start_view_change c r f h u =
      let idle = up_calm s quiet r f u calm_quiet in
      up_by s _ r f (by_rows (λ x. UpBy (obey_start_view_change c x) s r f) (start_view_change_table c r) (
        λ t. idle,
        λ n0. (
          λ t. idle,
          λ n1. (
            λ t.
                up_calm_then s (enter c.view) _ r f u (calm_enter c.view) (kept_enter c.view s r f h (let l = ltb-true r.view c.view t in omega arith))
                (λ q d i v. up_heard c.replica q d i v),
            λ n2. (λ t. up_heard c.replica r f h u, λ n3. (λ t. up_calm s _ r f u (calm_says _), λ n4. idle)),
          ),
        ),
      ))

  up_stated : (d : DoViewChange) (r : Replica) (f : F) → IsMessage (frame.DoViewChange d) → IsSound r → IsCaughtUp r → IsFor d.version d.cluster r → r.view ≤ d.view
      → UpBy (by (λ r. when (nat_lt r.view d.view) (enter d.view)) ⨾ change (with_statement d.replica d.statement) ⨾ try) s r f
  unfolding ◌⨾◌ by
  up_stated d r f m h u g a =
      let form = m.form in
      let b : Bool = nat_lt r.view d.view in
      let w = when b (enter d.view) s r f in
      let q : Replica = w.replica in
      let k : Kept r q = (kept_when b (enter d.view) s r f h (λ t. kept_enter d.view s r f h a)).kept in
      let v : IsCaughtUp q = (up_calm s (when b (enter d.view)) r f u (calm_when b _ (calm_enter d.view))).up in
      let top = form.view in
      let low : nat_lt last_view d.view ≡ false = le-ltb last_view d.view (omega arith) in
      let at = in_view d.view b s r f refl low a in
      let older = form.log_view in
      let is : IsStated (version q) q.cluster q.view d.statement =
      rw (at.0, at.1, at.2, ← g.0, ← g.1) (record { statement = form.statement; values = m.body; view = omega arith }) in
      let after = up_calm_then s (change (with_statement d.replica d.statement)) try q (after_all s f w.script) v (calm_statement d.replica d.statement)
      (kept_change (with_statement d.replica d.statement) s q (after_all s f w.script) (kept_statement d.replica d.statement q k.sound is)) (λ p e i y. up_try p e i y) in
      record { up = after.up }

  pub up_do_view_change : (d : DoViewChange) (r : Replica) (f : F) → IsSound r → IsCaughtUp r → IsMessage (frame.DoViewChange d) → UpBy (on_do_view_change d) s r f
  unfolding on_do_view_change
  up_do_view_change d r f h u m =
      let idle = up_calm s quiet r f u calm_quiet in
      up_by s _ r f (by_rows (λ x. UpBy (obey_do_view_change d x) s r f) (do_view_change_table d r) (
        λ t. idle,
        λ n0. (
          λ t. idle,
          λ n1. (
            λ t. up_calm s _ r f u (calm_says _),
            λ n2. (
              λ t. up_stated d r f m h u (group_of d.version d.cluster d.replica r (not-false _ n0)) (ltb-false d.view r.view (or_parts (nat_lt d.view r.view) _ n1).0),
              λ n3. idle,
            ),
          ),
        ),
      ))

  pub up_start_view : (v : StartView) (r : Replica) (f : F) → IsSound r → IsCaughtUp r → IsMessage (frame.StartView v) → UpBy (on_start_view v) s r f
  unfolding on_start_view
  up_start_view v r f h u m =
      let idle = up_calm s quiet r f u calm_quiet in
      up_naming s _ r f (up_by s _ r f (by_rows (λ x. UpBy (obey_start_view s.hash v x) s r f) (start_view_table s.hash v r) (
        λ t. idle,
        λ n0. (
          λ t.
              let log = told_log v r m (group_of_primary v.version v.cluster v.replica v.view r n0) in
              let may = may_take_is s.hash (log_of v) r (and_parts (may_take s.hash (log_of v) r) _ t).0 in
              up_then s (take (log_of v)) _ r f (kept_take (log_of v) s r f h log may) (settles_told s.hash v.head),
          λ n1. (λ t. up_calm s _ r f u (calm_says _), λ n2. idle),
        ),
      )))

  -- ---- checkpoints of others

  pub up_get_sync : (g : GetSync) (r : Replica) (f : F) → IsCaughtUp r → UpBy (on_get_sync g) s r f
  unfolding on_get_sync
  up_get_sync g r f u =
      let idle = up_calm s quiet r f u calm_quiet in
      up_by s _ r f (by_rows (λ x. UpBy (obey_get_sync g x) s r f) (get_sync_table g r) (λ t. idle, λ n0. (λ t. up_calm s _ r f u (calm_says _), λ n1. idle)))

  pub up_sync_view : (v : SyncView) (r : Replica) (f : F) → IsSound r → IsCaughtUp r → IsMessage (frame.SyncView v) → UpBy (on_sync_view v) s r f
  unfolding on_sync_view
  up_sync_view v r f h u m =
      let idle = up_calm s quiet r f u calm_quiet in
      up_naming s _ r f (up_by s _ r f (by_rows (λ x. UpBy (obey_sync_view s.hash v x) s r f) (sync_view_table s.hash v r) (
        λ t. idle,
        λ n0. (
          λ t.
              let is = told_sync v r m (group_of_primary v.version v.cluster v.replica v.view r n0) in
              let may = may_jump_is s.hash v r (and_parts (may_jump s.hash v r) _ t).0 in
              up_then s (jump v) _ r f (kept_jump v s r f h is may) (settles_told s.hash v.head),
          λ n1. idle,
        ),
      )))

  pub up_get_view : (g : GetView) (r : Replica) (f : F) → IsCaughtUp r → UpBy (on_get_view g) s r f
  unfolding on_get_view
  up_get_view g r f u =
      let idle = up_calm s quiet r f u calm_quiet in
      up_by s _ r f (by_rows (λ x. UpBy (obey_get_view g x) s r f) (get_view_table g r) (λ t. idle, λ n0. (λ t. up_calm s _ r f u (calm_says _), λ n1. idle)))

  -- ---- repair

  pub up_get_prepare : (g : GetPrepare) (r : Replica) (f : F) → IsCaughtUp r → UpBy (on_get_prepare g) s r f
  unfolding on_get_prepare
  up_get_prepare g r f u =
      let idle = up_calm s quiet r f u calm_quiet in
      up_naming s _ r f (up_by s _ r f (by_rows (λ x. UpBy (obey_get_prepare g x) s r f) (get_prepare_table s.hash g r) (
        λ t. idle,
        λ n0. (λ t. up_entry s g.op _ r f u (λ e. calm_says _), λ n1. idle),
      )))

  pub up_give_prepare : (g : GivePrepare) (r : Replica) (f : F) → IsSound r → IsCaughtUp r → UpBy (on_give_prepare g) s r f
  unfolding on_give_prepare
  up_give_prepare g r f h u =
      let op : ℕ = g.entry.header.op in
      let idle = up_calm s quiet r f u calm_quiet in
      up_by s _ r f (by_rows (λ x. UpBy (obey_give_prepare g x) s r f) (give_prepare_table g r) (
        λ t. idle,
        λ n0. (
          λ t.
              let a = and_parts (nat_lt r.checkpoint op) _ t in
              let b = and_parts (is_known g.entry.header op r) _ a.1 in
              up_then s (write g.entry) _ r f (kept_write g.entry s r f h (may_store_given g.entry r h (ltb-true r.checkpoint op a.0) b.0))
              (settles_calm_then _ _ (calm_resend g.entry) settles_apply),
          λ n1. idle,
        ),
      ))

  pub up_get_block : (g : GetBlock) (r : Replica) (f : F) → IsCaughtUp r → UpBy (on_get_block g) s r f
  unfolding on_get_block
  up_get_block g r f u =
      let idle = up_calm s quiet r f u calm_quiet in
      let block = block_at (asked_block g) s f in
      up_reading s _ _ r f (up_by s _ r f (by_rows (λ x. UpBy (obey_get_block g block x) s r f) (get_block_table (is_some block) g r) (
        λ t. idle,
        λ n0. (λ t. up_calm s _ r f u (calm_give_read g block), λ n1. idle),
      )))

  up_put : (block : List ℕ) (o : Option Name) (r : Replica) (f : F) → IsSound r → IsCaughtUp r → UpBy (put_found block o) s r f
  up_put block None r f h u = up_calm s quiet r f u calm_quiet
  up_put block (Some name) r f h u = up_settles s _ r f h (settles_put name block)

  up_mend : (block : List ℕ) (o : Option Name) (r : Replica) (f : F) → IsCaughtUp r → UpBy (mend_found block o) s r f
  unfolding part_at
  up_mend block None r f u = up_calm s quiet r f u calm_quiet
  up_mend block (Some name) r f u =
      up_calm s _ r f u (calm_then _ _ (calm_does _) (calm_change (not_worn name) (λ q. record { parts = λ k. refl; commit = refl; applied = refl; missing = refl })))

  pub up_give_block : (g : GiveBlock) (r : Replica) (f : F) → IsSound r → IsCaughtUp r → UpBy (on_give_block g) s r f
  unfolding on_give_block
  up_give_block g r f h u =
      let idle = up_calm s quiet r f u calm_quiet in
      let is_block = test_of s f in
      up_reading s _ _ r f (up_by s _ r f (by_rows (λ x. UpBy (obey_give_block is_block g x) s r f) (give_block_table is_block g r) (
        λ t. idle,
        λ n0. (
          λ t. up_by s _ r f (up_put g.block (find (is_wanted is_block g) r.missing) r f h u),
          λ n1. (λ t. up_by s _ r f (up_mend g.block (find (is_wanted is_block g) r.worn) r f u), λ n2. idle),
        ),
      )))

  -- ---- ticks

  up_again : (op : ℕ) (r : Replica) (f : F) → IsCaughtUp r → UpBy (prepare_again op) s r f
  unfolding prepare_again
  up_again op r f u = up_entry s op _ r f u (λ e. calm_says _)

  pub up_tick : (r : Replica) (f : F) → IsSound r → IsCaughtUp r → UpBy on_tick s r f
  unfolding on_tick
  up_tick r f h u =
      up_by s _ r f (by_rows (λ x. UpBy (obey_tick x) s r f) (tick_table r) (
        λ t. up_says_then s _ _ r f (λ d.
            up_then_up s _ (visit ⨾ ask) r d (up_by s _ r d (up_when s (nat_lt r.commit (head r)) _ r d u (λ a. up_again (r.commit + 1) r d u))) (λ q e v. up_visit_ask s q e v)),
        λ n0. (
          λ t. up_then_up s (change idler) _ r f (up_calm s _ r f u calm_idler) (λ q d v.
              up_by s _ q d (up_if s (nat_le 5 q.idle) next_view (visit ⨾ ask) q d (λ a. up_calm s next_view q d v calm_next_view) (λ a. up_visit_ask s q d v))),
          λ n1. (
            λ t.
                up_calm_then s (change idler) _ r f u calm_idler (keeps_idler.every s r f h) (λ q d i v.
                up_by s _ q d (up_if s (nat_le 10 q.idle) next_view _ q d (λ a. up_calm s next_view q d v calm_next_view) (λ a.
                up_says_then s _ _ q d (λ e. up_then_up s speak (visit ⨾ ask) q e (up_speak q e i v) (λ p g y. up_visit_ask s p g y))))),
            λ n2. up_calm s quiet r f u calm_quiet,
          ),
        ),
      ))

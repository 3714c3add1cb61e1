-- The commit lines of each rule come in order.
use Rattle.std.proofs.Common.{ℕ, ◌+◌, ◌-◌, ◌^◌, ◌≤◌, ◌≡◌, ◌≢◌, inl, inr, arith, refl, Bool, true, false, cond, List, [], map, min, max, Option, Some, None}
use Rattle.std.specs.Prelude.{nat_lt, nat_le, not, is_some, ◌&&◌}
use Rattle.std.specs.List.{find, prefix_len}
use Rattle.std.proofs.lemmas.List.FromFn.{length-range_with_len}
use Rattle.std.proofs.lemmas.List.Sums.{prefix_len-le-length}
use Rattle.std.specs.Option.{option_map_or}
use Rattle.std.proofs.lemmas.Bool.{and_parts, or_parts, eqb-true, le-ltb, leb-false, ltb-false, ltb-true, not-false}
use Rattle.vr_base.specs.Groups.{quorums_of}
use Rattle.vr_base.specs.Replicas.{size}
use Rattle.vr_header.specs.declared.header.Header.{Header}
use Rattle.vr_header.specs.Made.{Whole}
use Rattle.vr_ckpt.specs.declared.name.Name.{Name}
use Rattle.vr_state.specs.declared.session.SessionAnswer.{SessionAnswer}
use Rattle.vr_state.specs.declared.session.SessionAnswer.TheVariants as answer
use Rattle.vr_msg.specs.Choice.{ops}
use Rattle.vr_msg.specs.declared.choice.Choice.{Choice}
use Rattle.vr_msg.specs.declared.choice.Choice.TheVariants.{Ends, WaitsAt, TooFew}
use Rattle.vr_msg.specs.declared.event.Event.{Event}
use Rattle.vr_msg.specs.declared.event.Event.TheVariants as event
use Rattle.vr_msg.specs.declared.frame.Frame.{Frame}
use Rattle.vr_msg.specs.declared.frame.Frame.TheVariants as frame
use Rattle.vr_msg.specs.declared.frame.Commit.{Commit}
use Rattle.vr_msg.specs.declared.frame.DoViewChange.{DoViewChange}
use Rattle.vr_msg.specs.declared.frame.GetBlock.{GetBlock}
use Rattle.vr_msg.specs.declared.frame.GetPrepare.{GetPrepare}
use Rattle.vr_msg.specs.declared.frame.GetSync.{GetSync}
use Rattle.vr_msg.specs.declared.frame.GetView.{GetView}
use Rattle.vr_msg.specs.declared.frame.GiveBlock.{GiveBlock}
use Rattle.vr_msg.specs.declared.frame.GivePrepare.{GivePrepare}
use Rattle.vr_msg.specs.declared.frame.Prepare.{Prepare}
use Rattle.vr_msg.specs.declared.frame.PrepareOk.{PrepareOk}
use Rattle.vr_msg.specs.declared.frame.StartView.{StartView}
use Rattle.vr_msg.specs.declared.frame.StartViewChange.{StartViewChange}
use Rattle.vr_msg.specs.declared.frame.SyncView.{SyncView}
use Rattle.vr_msg.specs.declared.output.Output.TheVariants as output
use Rattle.vr_msg.specs.declared.request.RequestFields.{RequestFields}
use Rattle.vr_msg.specs.declared.statement.Statement.{Statement}
use Rattle.vr_rules.specs.Deciding.{Hash, session_answer, request_table, prepare_table, prepare_ok_table, commit_table, start_view_change_table, do_view_change_table, log_of, start_view_table, get_view_table, get_prepare_table, give_prepare_table, get_block_table, is_wanted, give_block_table, tick_table, is_from_primary, is_known, get_sync_table, sync_view_table}
use Rattle.vr_rules.specs.declared.asker.Asker.{Asker}
use Rattle.vr_rules.specs.Laws.{HasNames, IsEvent, IsMessage}
use Rattle.vr_rules.specs.Outputs.{send_to, send_to_all, to_primary, prepare, commit_message, do_view_change, start_view, start_view_change, get_view, get_sync, sync_view, give_prepare, give_block, wait_line}
use Rattle.vr_rules.specs.Replica.{Replica, is_alone, head, header_at, is_here, is_frozen, is_spent, is_primary, is_started, last_view, part_at, view_change, version}
use Rattle.vr_rules.specs.Rules.{asker_by, next_entry, make, stored_reply, obey_request, on_request, acknowledge, ask_view, obey_prepare, on_prepare, acknowledged, obey_prepare_ok, on_prepare_ok, obey_commit, on_commit, heard_of, obey_start_view_change, on_start_view_change, with_statement, obey_do_view_change, on_do_view_change, acknowledge_stored, obey_start_view, on_start_view, obey_get_view, on_get_view, obey_get_prepare, on_get_prepare, obey_give_prepare, on_give_prepare, asked_block, block_at, give_read, obey_get_block, on_get_block, without, put_block, put_found, mend_found, not_worn, obey_give_block, on_give_block, obey_get_sync, on_get_sync, obey_sync_view, on_sync_view, test_of, idler, next_view, obey_tick, on_tick, on_message, on_event, react}
use Rattle.vr_rules.specs.Sound.{IsSound, IsStated}
use Rattle.vr_rules.specs.Steps.{PutBlock, Say, Setting, Step, Word, ◌⨾◌, quiet, change, does, says, by, naming, reading, when, each, outputs, after_all}
use Rattle.vr_rules.specs.Words.{Log, rested, enter, write, accept, may_take, take, apply, advance, advanced, has_quorum, learn, learned, is_loaded, load, prepare_again, stated, chosen_log, choose_line, begin_view, try_log, obey_choice, decided, try, speak, resend, ask, visit}
use Rattle.vr_rules.proofs.Combining.{KeptBy, Keeps, kept_change_then, kept_does_then, kept_by, kept_when, keeps_says, keeps_quiet, keeps_by, keeps_change, keeps_each, keeps_when}
use Rattle.vr_rules.proofs.Keeping.{Kept, sound_commit}
use Rattle.vr_rules.proofs.Reacting.{may_store_next, kept_without, keeps_idler}
use Rattle.vr_rules.proofs.Ruling.{by_rows, group_of, group_of_primary, may_store_prepare, may_store_given, keeps_acknowledged, keeps_heard, kept_statement, in_view, told_log, IsFor, for_of}
use Rattle.vr_rules.proofs.Storing.{MayStore}
use Rattle.vr_rules.specs.Given.{IsLogFor}
use Rattle.vr_rules.proofs.Taking.{MayTake, may_take_is, kept_take}
use Rattle.vr_rules.proofs.Trying.{all_stated, chosen_log_is, decided_ends, keeps_speak}
use Rattle.vr_rules.proofs.Wording.{keeps_rested, kept_rested, kept_enter, kept_write, kept_accept, keeps_prepare_again, keeps_resend, kept_load}
use Rattle.law_3_outputs.specs.Answering.{Jumps}
use Rattle.law_3_outputs.specs.Ordered.{ComesInOrder, IsOrderly}
use Rattle.law_3_outputs.proofs.Jumps.{sync_jumps}
use Rattle.law_3_outputs.proofs.Traces.{every_in}
use Rattle.law_3_outputs.proofs.Orders.{IsOther, OrderlyAt, Orderly, Quiet, at_then, at_quiet, at_kept, orderly_then, orderly_quiet, orderly_by, orderly_if, quiet_quiet, quiet_change, quiet_does, quiet_says, quiet_then, quiet_by, quiet_naming, quiet_reading, quiet_if, quiet_when, quiet_each, quiet_sends, quiet_rested, quiet_enter, quiet_write, quiet_accept, quiet_take, quiet_entry, quiet_again, quiet_resend, quiet_looks, quiet_load, mute_others, others_ordered, orderly_apply}

-- ---- commit numbers

kept_number : (r : Replica) (c : ℕ) → r.commit ≤ c → c ≤ head r → IsSound r → Kept r (record r { commit = c })
kept_number r c a b h = record { sound = sound_commit r c a b h; rises = record { view = omega arith; log_view = omega arith; commit = a; applied = omega arith; checkpoint = omega arith } }

module _ {F : Type 0} where
  keeps_advanced : Keeps {F = F} (change advanced)
  unfolding advanced
  keeps_advanced = keeps_change advanced (λ r h.
      let n : ℕ = prefix_len (has_quorum r) (ops r.commit (head r)) in
      let few = prefix_len-le-length (has_quorum r) (ops r.commit (head r)) in
      let size = length-range_with_len (r.commit + 1) (head r - r.commit) in
      let known = h.order.known in
      kept_number r (r.commit + n) (omega arith) (omega (arith, few, size, known)) h)

  keeps_learned : (c : ℕ) → Keeps {F = F} (change (learned c))
  keeps_learned c = keeps_change (learned c) (λ r h.
      let known = h.order.known in
      kept_number r (max r.commit (min c (head r))) (omega arith) (omega arith) h)

  orderly_advance : Orderly {F = F} advance
  unfolding advance advanced
  orderly_advance = orderly_then (change advanced) apply (orderly_quiet (change advanced) (quiet_change advanced (λ r. refl) (λ r. refl))) keeps_advanced orderly_apply

  orderly_learn : (c : ℕ) → Orderly {F = F} (learn c)
  unfolding learn
  orderly_learn c = orderly_then (change (learned c)) apply (orderly_quiet (change (learned c)) (quiet_change (learned c) (λ r. refl) (λ r. refl))) (keeps_learned c) orderly_apply

  -- a quiet word that keeps each replica sound, then an orderly one
  quiet_and : (v w : Word F) → Quiet v → Keeps v → Orderly w → Orderly (v ⨾ w)
  quiet_and v w q k o = orderly_then v w (orderly_quiet v q) k o

  at_and : (v w : Word F) (s : Setting F) (r : Replica) (f : F) → Quiet v → KeptBy v s r f → Orderly w → OrderlyAt s r f (v ⨾ w)
  at_and v w s r f q k o = at_kept v w s r f (at_quiet v s r f q) k o

  -- ---- what is said

  quiet_tell : (to : ℕ) (message : Replica → Frame) → Quiet {F = F} (says (λ r. send_to to (message r) r))
  quiet_tell to message = quiet_says _ (λ r. (tt, tt))

  quiet_primary : (message : Replica → Frame) → Quiet {F = F} (says (to_primary message))
  quiet_primary message = quiet_says _ (λ r. (tt, tt))

  -- ---- requests

  quiet_stored : (a : Asker) (x : SessionAnswer) → Quiet {F = F} (stored_reply a x)
  quiet_stored a answer.Fresh = quiet_quiet
  quiet_stored a (answer.Repeat outcome op) = quiet_says _ (λ r. (tt, tt))
  quiet_stored a answer.Old = quiet_says _ (λ r. (tt, tt))
  quiet_stored a answer.Gap = quiet_says _ (λ r. (tt, tt))
  quiet_stored a answer.Evicted = quiet_says _ (λ r. (tt, tt))

  at_make : (e : Whole) (s : Setting F) (r : Replica) (f : F) → IsSound r → MayStore e r → OrderlyAt s r f (make e)
  unfolding make
  at_make e s r f h m = at_and (write e) _ s r f (quiet_write e) (kept_write e s r f h m) (quiet_and _ advance (quiet_sends (prepare e)) (keeps_says _) orderly_advance)

  at_request : (q : RequestFields) (s : Setting F) (r : Replica) (f : F) → HasNames s → IsSound r → IsMessage (frame.Request q) → r.view ≤ last_view → OrderlyAt s r f (on_request q)
  unfolding on_request naming by
  at_request q s r f names h m last =
      let idle = at_quiet quiet s r f quiet_quiet in
      by_rows (λ x. OrderlyAt s r f (obey_request s.hash q x)) (request_table q r) (
        λ t. idle,
        λ n0. (
          λ t. at_quiet _ s r f (quiet_says _ (λ r. (tt, tt))),
          λ n1. (
            λ t. at_quiet _ s r f (quiet_says _ (λ r. (tt, tt))),
            λ n2. (
              λ t. idle,
              λ n3. (
                λ t. at_quiet _ s r f (quiet_stored (asker_by s.hash q) (session_answer q r)),
                λ n4. (
                  λ t. at_quiet _ s r f (quiet_says _ (λ r. (tt, tt))),
                  λ n5. (
                    λ t.
                        let lead = and_parts (is_started r) (is_primary r) (not-false _ n1) in
                        let behind = or_parts (not (is_loaded r)) (nat_lt r.applied r.commit) n2 in
                        let full = or_parts (nat_le 8 (head r - r.commit)) (nat_le (2 ^ 62) (head r)) n5 in
                        let few = leb-false 8 (head r - r.commit) full.0 in
                        let known = h.order.known in
                        let may = may_store_next s.hash q r names h m (for_of q.version q.cluster r (not-false _ n0)) (eqb-true r.view r.log_view lead.0) last (ltb-false r.applied r.commit behind.1) (omega arith) (leb-false (2 ^ 62) (head r) full.1) in
                        at_make (next_entry s.hash q r) s r f h may,
                    λ n6. idle,
                  ),
                ),
              ),
            ),
          ),
        ),
      )

  -- ---- prepares

  -- idle is 0, then a word at that replica
  rest_and : (p : Prepare) (s : Setting F) (r : Replica) (f : F) → IsSound r → (v w : Word F) → Quiet v → ((d : F) → KeptBy v s (rested r) d) → Orderly w → OrderlyAt s r f (change rested ⨾ v ⨾ w)
  unfolding change
  rest_and p s r f h v w q k o = at_then (change rested) (v ⨾ w) s r f (at_quiet (change rested) s r f quiet_rested) (at_and v w s (rested r) (after_all s f []) q (k (after_all s f [])) o)

  at_prepare : (p : Prepare) (s : Setting F) (r : Replica) (f : F) → IsSound r → IsMessage (frame.Prepare p) → OrderlyAt s r f (on_prepare p)
  unfolding on_prepare naming by
  at_prepare p s r f h m =
      let op : ℕ = p.entry.header.op in
      let idle = at_quiet quiet s r f quiet_quiet in
      let rests = at_quiet (change rested) s r f quiet_rested in
      let learns = orderly_learn p.commit in
      let told : Orderly (acknowledge s.hash p.entry.header ⨾ learn p.commit) = quiet_and (acknowledge s.hash p.entry.header) (learn p.commit) (quiet_primary _) (keeps_says _) learns in
      let k = keeps_rested.every s r f h in
      let rest_then : (w : Word F) → Orderly w → OrderlyAt s r f (change rested ⨾ w) = λ w o. at_and (change rested) w s r f quiet_rested k o in
      let may : not (is_from_primary p.version p.entry.header.cluster p.replica p.view r) ≡ false → nat_lt r.log_view p.view ≡ false → nat_le op r.checkpoint ≡ false
      → nat_lt (r.checkpoint + 64) op ≡ false → MayStore p.entry (rested r) =
      λ a b c d. may_store_prepare p r m (group_of_primary p.version p.entry.header.cluster p.replica p.view r a) (ltb-false r.log_view p.view b) (leb-false op r.checkpoint c) (ltb-false (r.checkpoint + 64) op d) in
      by_rows (λ x. OrderlyAt s r f (obey_prepare s.hash p x)) (prepare_table s.hash p r) (
        λ t. idle,
        λ n0. (
          λ t. idle,
          λ n1. (
            λ t. at_quiet _ s r f (quiet_tell p.replica (get_view p.view)),
            λ n2. (
              λ t. rest_then (learn p.commit) learns,
              λ n3. (
                λ t. rests,
                λ n4. (
                  λ t. rest_and p s r f h (accept p.entry) _ (quiet_accept p.entry) (λ d. kept_accept p.entry s (rested r) d (kept_rested r h).sound (may n0 n2 n3 n4)) told,
                  λ n5. (
                    λ t. rest_and p s r f h (write p.entry) _ (quiet_write p.entry) (λ d. kept_write p.entry s (rested r) d (kept_rested r h).sound (may n0 n2 n3 n4)) told,
                    λ n6. (λ t. rest_then (ask_view p.view p.replica ⨾ learn p.commit) (quiet_and (ask_view p.view p.replica) (learn p.commit) (quiet_tell p.replica (get_view p.view)) (keeps_says _) learns), λ n7. (λ t. rests, λ n8. idle)),
                  ),
                ),
              ),
            ),
          ),
        ),
      )

  -- ---- prepare_oks and commits

  orderly_counted : (a : PrepareOk) → Orderly {F = F} (change (acknowledged a) ⨾ advance)
  orderly_counted a = quiet_and (change (acknowledged a)) advance (quiet_change (acknowledged a) (λ r. refl) (λ r. refl)) (keeps_acknowledged a) orderly_advance

  at_prepare_ok : (a : PrepareOk) (s : Setting F) (r : Replica) (f : F) → IsSound r → OrderlyAt s r f (on_prepare_ok a)
  unfolding on_prepare_ok naming by
  at_prepare_ok a s r f h =
      let idle = at_quiet quiet s r f quiet_quiet in
      by_rows (λ x. OrderlyAt s r f (obey_prepare_ok a x)) (prepare_ok_table s.hash a r) (λ t. idle, λ n0. (λ t. (orderly_counted a).every s r f h, λ n1. idle))

  orderly_heard : (c : Commit) → Orderly {F = F} (change rested ⨾ by (λ r. when (nat_lt (head r) c.head) (ask_view c.view c.replica)) ⨾ learn c.commit)
  orderly_heard c =
      let asks : Word F = by (λ r. when (nat_lt (head r) c.head) (ask_view c.view c.replica)) in
      quiet_and (change rested) (asks ⨾ learn c.commit) quiet_rested keeps_rested
      (quiet_and asks (learn c.commit) (quiet_by _ (λ r. quiet_when (nat_lt (head r) c.head) (ask_view c.view c.replica) (quiet_tell c.replica (get_view c.view))))
      (keeps_by _ (λ r. keeps_when (nat_lt (head r) c.head) (ask_view c.view c.replica) (keeps_says _))) (orderly_learn c.commit))

  at_commit : (c : Commit) (s : Setting F) (r : Replica) (f : F) → IsSound r → OrderlyAt s r f (on_commit c)
  unfolding on_commit by
  at_commit c s r f h =
      let idle = at_quiet quiet s r f quiet_quiet in
      by_rows (λ x. OrderlyAt s r f (obey_commit c x)) (commit_table c r)
      (λ t. idle, λ n0. (λ t. idle, λ n1. (λ t. at_quiet _ s r f (quiet_tell c.replica (get_view c.view)), λ n2. (λ t. (orderly_heard c).every s r f h, λ n3. idle))))

  -- ---- a log is chosen

  at_begin : (ss : List Statement) (l : Log) (s : Setting F) (r : Replica) (f : F) → IsSound r → IsLogFor r l → MayTake l r → OrderlyAt s r f (begin_view ss l)
  unfolding begin_view says
  at_begin ss l s r f h log m =
      let again : Word F = by (λ r. each prepare_again (ops r.commit l.head)) in
      let counts : Word F = by (λ r. cond (is_alone r) advance apply) in
      let d = after_all s f (map Say (choose_line ss l r)) in
      at_then (says (choose_line ss l)) _ s r f (at_quiet (says (choose_line ss l)) s r f (quiet_says (choose_line ss l) (λ r. (tt, tt))))
      (at_and (take l) (says (send_to_all start_view) ⨾ again ⨾ counts) s r d (quiet_take l) (kept_take l s r d h log m)
      (quiet_and (says (send_to_all start_view)) (again ⨾ counts) (quiet_sends start_view) (keeps_says _)
      (quiet_and again counts (quiet_by _ (λ r. quiet_each prepare_again (ops r.commit l.head) quiet_again)) (keeps_by _ (λ r. keeps_each prepare_again (ops r.commit l.head) keeps_prepare_again))
      (orderly_by _ (λ r. orderly_if (is_alone r) advance apply orderly_advance orderly_apply)))))

  at_choice : (c : Choice) (s : Setting F) (r : Replica) (f : F) → IsSound r → decided r ≡ c → OrderlyAt s r f (obey_choice (stated r) c)
  unfolding try_log naming by
  at_choice TooFew s r f h e = at_quiet quiet s r f quiet_quiet
  at_choice (WaitsAt op) s r f h e = at_quiet _ s r f (quiet_says (wait_line op) (λ r. (tt, tt)))
  at_choice (Ends hs) s r f h e =
      let q = decided_ends r.n (stated r) hs (quorums_of r.n) e in
      let l = chosen_log r (stated r) hs in
      let go : (b : Bool) → may_take s.hash l r ≡ b → OrderlyAt s r f (cond b (begin_view (stated r) l) (says (wait_line l.head))) = elim [
        | true ↦ λ t. at_begin (stated r) l s r f h (chosen_log_is r q.0 (stated r) hs (all_stated r h) q.1) (may_take_is s.hash l r t)
        | false ↦ λ t. at_quiet _ s r f (quiet_says (wait_line l.head) (λ r. (tt, tt)))
      ] in
      go (may_take s.hash l r) refl

  orderly_try : Orderly {F = F} try
  unfolding try by
  orderly_try = record {
    every = λ s r f h.
        let go : (b : Bool) → OrderlyAt s r f (cond b (obey_choice (stated r) (decided r)) quiet) = elim [ true ↦ at_choice (decided r) s r f h refl | false ↦ at_quiet quiet s r f quiet_quiet ] in
        go (is_primary r && not (is_started r));
  }

  orderly_speak : Orderly {F = F} speak
  unfolding speak
  orderly_speak = orderly_by _ (λ r. orderly_if (nat_le (view_change r.n) (size r.heard)) _ quiet (orderly_if (is_primary r) try (says (to_primary do_view_change)) orderly_try (orderly_quiet _ (quiet_primary do_view_change))) (orderly_quiet quiet quiet_quiet))

  -- ---- view changes

  orderly_told : (sender : ℕ) → Orderly {F = F} (change (heard_of sender) ⨾ speak)
  orderly_told sender = quiet_and (change (heard_of sender)) speak (quiet_change (heard_of sender) (λ r. refl) (λ r. refl)) (keeps_heard sender) orderly_speak

  at_change : (c : StartViewChange) (s : Setting F) (r : Replica) (f : F) → IsSound r → OrderlyAt s r f (on_start_view_change c)
  unfolding on_start_view_change by
  at_change c s r f h =
      let idle = at_quiet quiet s r f quiet_quiet in
      by_rows (λ x. OrderlyAt s r f (obey_start_view_change c x)) (start_view_change_table c r) (
        λ t. idle,
        λ n0. (
          λ t. idle,
          λ n1. (
            λ t. at_and (enter c.view) _ s r f (quiet_enter c.view) (kept_enter c.view s r f h (let l = ltb-true r.view c.view t in omega arith)) (orderly_told c.replica),
            λ n2. (λ t. (orderly_told c.replica).every s r f h, λ n3. (λ t. at_quiet _ s r f (quiet_tell c.replica start_view), λ n4. idle)),
          ),
        ),
      )

  at_stated : (d : DoViewChange) (s : Setting F) (r : Replica) (f : F) → IsMessage (frame.DoViewChange d) → IsSound r → IsFor d.version d.cluster r → r.view ≤ d.view
      → OrderlyAt s r f (by (λ r. when (nat_lt r.view d.view) (enter d.view)) ⨾ change (with_statement d.replica d.statement) ⨾ try)
  unfolding by change
  at_stated d s r f m h g a =
      let form = m.form in
      let first : Word F = by (λ r. when (nat_lt r.view d.view) (enter d.view)) in
      let w = when (nat_lt r.view d.view) (enter d.view) s r f in
      let q : Replica = w.replica in
      let k : Kept r q = (kept_when (nat_lt r.view d.view) (enter d.view) s r f h (λ t. kept_enter d.view s r f h a)).kept in
      let top = form.view in
      let low : nat_lt last_view d.view ≡ false = le-ltb last_view d.view (omega arith) in
      let at = in_view d.view (nat_lt r.view d.view) s r f refl low a in
      let older = form.log_view in
      let is : IsStated (version q) q.cluster q.view d.statement =
      rw (at.0, at.1, at.2, ← g.0, ← g.1) (record { statement = form.statement; values = m.body; view = omega arith }) in
      let g1 = after_all s f w.script in
      at_then first (change (with_statement d.replica d.statement) ⨾ try) s r f (at_quiet first s r f (quiet_by _ (λ r. quiet_when (nat_lt r.view d.view) (enter d.view) (quiet_enter d.view))))
      (at_then (change (with_statement d.replica d.statement)) try s q g1 (at_quiet _ s q g1 (quiet_change (with_statement d.replica d.statement) (λ r. refl) (λ r. refl)))
      (orderly_try.every s (with_statement d.replica d.statement q) (after_all s g1 []) (kept_statement d.replica d.statement q k.sound is).sound))

  at_statement : (d : DoViewChange) (s : Setting F) (r : Replica) (f : F) → IsSound r → IsMessage (frame.DoViewChange d) → OrderlyAt s r f (on_do_view_change d)
  unfolding on_do_view_change by
  at_statement d s r f h m =
      let idle = at_quiet quiet s r f quiet_quiet in
      by_rows (λ x. OrderlyAt s r f (obey_do_view_change d x)) (do_view_change_table d r) (
        λ t. idle,
        λ n0. (
          λ t. idle,
          λ n1. (
            λ t. at_quiet _ s r f (quiet_tell d.replica start_view),
            λ n2. (λ t. at_stated d s r f m h (group_of d.version d.cluster d.replica r (not-false _ n0)) (ltb-false d.view r.view (or_parts (nat_lt d.view r.view) _ n1).0), λ n3. idle),
          ),
        ),
      )

  -- ---- start_views

  quiet_some : (hash : Hash) (o : Option Header) → Quiet {F = F} (option_map_or (acknowledge hash) o quiet)
  quiet_some hash None = quiet_quiet
  quiet_some hash (Some h) = quiet_primary _

  quiet_acknowledges : (hash : Hash) (op : ℕ) → Quiet {F = F} (acknowledge_stored hash op)
  unfolding acknowledge_stored
  quiet_acknowledges hash op = quiet_by _ (λ r. quiet_when (is_here (part_at r op)) _ (quiet_some hash (header_at r op)))

  keeps_some : (hash : Hash) (o : Option Header) → Keeps {F = F} (option_map_or (acknowledge hash) o quiet)
  keeps_some hash None = keeps_quiet
  keeps_some hash (Some h) = keeps_says _

  keeps_acknowledges : (hash : Hash) (op : ℕ) → Keeps {F = F} (acknowledge_stored hash op)
  unfolding acknowledge_stored
  keeps_acknowledges hash op = keeps_by _ (λ r. keeps_when (is_here (part_at r op)) _ (keeps_some hash (header_at r op)))

  at_start_view : (v : StartView) (s : Setting F) (r : Replica) (f : F) → IsSound r → IsMessage (frame.StartView v) → OrderlyAt s r f (on_start_view v)
  unfolding on_start_view naming by
  at_start_view v s r f h m =
      let idle = at_quiet quiet s r f quiet_quiet in
      let told : Word F = by (λ r. each (acknowledge_stored s.hash) (ops r.commit v.head)) in
      by_rows (λ x. OrderlyAt s r f (obey_start_view s.hash v x)) (start_view_table s.hash v r) (
        λ t. idle,
        λ n0. (
          λ t.
              let log = told_log v r m (group_of_primary v.version v.cluster v.replica v.view r n0) in
              let may = may_take_is s.hash (log_of v) r (and_parts (may_take s.hash (log_of v) r) _ t).0 in
              at_and (take (log_of v)) (told ⨾ apply) s r f (quiet_take (log_of v)) (kept_take (log_of v) s r f h log may)
              (quiet_and told apply (quiet_by _ (λ r. quiet_each (acknowledge_stored s.hash) (ops r.commit v.head) (quiet_acknowledges s.hash))) (keeps_by _ (λ r. keeps_each (acknowledge_stored s.hash) (ops r.commit v.head) (keeps_acknowledges s.hash))) orderly_apply),
          λ n1. (λ t. at_quiet _ s r f (quiet_tell v.replica (get_sync v.view)), λ n2. idle),
        ),
      )

  -- ---- checkpoints of others

  quiet_get_sync : (g : GetSync) → Quiet {F = F} (on_get_sync g)
  unfolding on_get_sync
  quiet_get_sync g = quiet_by _ (λ r. by_rows (λ z. Quiet {F = F} (obey_get_sync g z)) (get_sync_table g r) (λ e. quiet_quiet, λ n0. (λ e. quiet_tell g.replica sync_view, λ n1. quiet_quiet)))

  -- a step that isn't a jump
  of : (s : Setting F) (r : Replica) (f : F) (x : Step) → ComesInOrder s r f x → IsOrderly s r f x
  of s r f x h = record { index = h.index; applied = inl h.applied; ordered = h.ordered; read = h.read }

  -- and one that is
  of_jump : (s : Setting F) (r : Replica) (f : F) (x : Step) → Jumps r x → IsOrderly s r f x
  of_jump s r f x j =
      let mute = mute_others (outputs x.script) j.mute in
      record { index = j.index; applied = inr j; ordered = others_ordered r.index r.applied (outputs x.script) mute; read = λ c i. absurd (every_in IsOther (outputs x.script) (output.Commit c) i mute) }

  sync_in : (v : SyncView) (s : Setting F) (r : Replica) (f : F) → IsOrderly s r f (on_sync_view v s r f)
  unfolding on_sync_view naming by
  sync_in v s r f =
      let idle = of s r f (quiet s r f) (at_quiet quiet s r f quiet_quiet) in
      by_rows (λ x. IsOrderly s r f (obey_sync_view s.hash v x s r f)) (sync_view_table s.hash v r) (λ t. idle, λ n0. (λ t. of_jump s r f _ (sync_jumps s.hash v s r f), λ n1. idle))

  -- ---- what is asked for

  quiet_get_view : (g : GetView) → Quiet {F = F} (on_get_view g)
  unfolding on_get_view
  quiet_get_view g = quiet_by _ (λ r. by_rows (λ z. Quiet {F = F} (obey_get_view g z)) (get_view_table g r) (λ e. quiet_quiet, λ n0. (λ e. quiet_tell g.replica start_view, λ n1. quiet_quiet)))

  quiet_get_prepare : (g : GetPrepare) → Quiet {F = F} (on_get_prepare g)
  unfolding on_get_prepare
  quiet_get_prepare g = quiet_naming _ (λ hash. quiet_by _ (λ r.
      by_rows (λ z. Quiet {F = F} (obey_get_prepare g z)) (get_prepare_table hash g r) (λ e. quiet_quiet, λ n0. (λ e. quiet_entry g.op _ (λ e. quiet_tell g.replica (give_prepare e)), λ n1. quiet_quiet))))

  at_give_prepare : (g : GivePrepare) (s : Setting F) (r : Replica) (f : F) → IsSound r → IsMessage (frame.GivePrepare g) → OrderlyAt s r f (on_give_prepare g)
  unfolding on_give_prepare by
  at_give_prepare g s r f h m =
      let idle = at_quiet quiet s r f quiet_quiet in
      let op : ℕ = g.entry.header.op in
      by_rows (λ x. OrderlyAt s r f (obey_give_prepare g x)) (give_prepare_table g r) (
        λ t. idle,
        λ n0. (
          λ t.
              let a = and_parts (nat_lt r.checkpoint op) _ t in
              let b = and_parts (is_known g.entry.header op r) _ a.1 in
              at_and (write g.entry) (resend g.entry ⨾ apply) s r f (quiet_write g.entry) (kept_write g.entry s r f h (may_store_given g.entry r h (ltb-true r.checkpoint op a.0) b.0))
              (quiet_and (resend g.entry) apply (quiet_resend g.entry) (keeps_resend g.entry) orderly_apply),
          λ n1. idle,
        ),
      )

  -- ---- blocks

  quiet_give : (g : GetBlock) (o : Option (List ℕ)) → Quiet {F = F} (give_read g o)
  quiet_give g None = quiet_quiet
  quiet_give g (Some block) = quiet_tell g.replica (give_block g.address block)

  quiet_get_block : (g : GetBlock) → Quiet {F = F} (on_get_block g)
  unfolding on_get_block
  quiet_get_block g = quiet_reading (block_at (asked_block g)) _ (λ block. quiet_by _ (λ r.
      by_rows (λ z. Quiet {F = F} (obey_get_block g block z)) (get_block_table (is_some block) g r) (λ e. quiet_quiet, λ n0. (λ e. quiet_give g block, λ n1. quiet_quiet))))

  quiet_put : (name : Name) (block : List ℕ) → Quiet {F = F} (put_block name block)
  unfolding put_block outputs
  quiet_put name block =
      quiet_then (does (λ r. PutBlock name block)) _ (quiet_does (λ r. PutBlock name block) (λ r. tt))
      (quiet_then (change (without name)) _ (quiet_change (without name) (λ r. refl) (λ r. refl)) (quiet_by _ (λ r. quiet_when (is_loaded r) load quiet_load)))

  kept_put : (name : Name) (block : List ℕ) (s : Setting F) (r : Replica) (f : F) → IsSound r → r.missing ≢ [] → KeptBy (put_block name block) s r f
  unfolding put_block
  kept_put name block s r f h n =
      let k = kept_without name r h in
      kept_does_then _ _ s r f (λ d.
      kept_change_then (without name) _ s r d k (λ e.
      kept_by _ s (without name r) e (kept_when (is_loaded (without name r)) load s (without name r) e k.sound (λ t. kept_load s (without name r) e k.sound (h.waits n)))))

  quiet_mended : (block : List ℕ) (o : Option Name) → Quiet {F = F} (mend_found block o)
  unfolding outputs
  quiet_mended block None = quiet_quiet
  quiet_mended block (Some name) = quiet_then (does (λ r. PutBlock name block)) (change (not_worn name)) (quiet_does (λ r. PutBlock name block) (λ r. tt)) (quiet_change (not_worn name) (λ r. refl) (λ r. refl))

  at_found : (block : List ℕ) (p : Name → Bool) (o : Option Name) (s : Setting F) (r : Replica) (f : F) → IsSound r → find p r.missing ≡ o → OrderlyAt s r f (put_found block o)
  at_found block p None s r f h e = at_quiet quiet s r f quiet_quiet
  at_found block p (Some name) s r f h e =
      at_and (put_block name block) apply s r f (quiet_put name block) (kept_put name block s r f h (λ n. let no_name : None ≡ Some name = rw n at e in absurd cc)) orderly_apply

  at_give_block : (g : GiveBlock) (s : Setting F) (r : Replica) (f : F) → IsSound r → OrderlyAt s r f (on_give_block g)
  unfolding on_give_block reading by
  at_give_block g s r f h =
      let is_block = test_of s f in
      let idle = at_quiet quiet s r f quiet_quiet in
      by_rows (λ x. OrderlyAt s r f (obey_give_block is_block g x)) (give_block_table is_block g r) (
        λ t. idle,
        λ n0. (
          λ t. at_found g.block (is_wanted is_block g) (find (is_wanted is_block g) r.missing) s r f h refl,
          λ n1. (λ t. at_quiet (mend_found g.block (find (is_wanted is_block g) r.worn)) s r f (quiet_mended g.block (find (is_wanted is_block g) r.worn)), λ n2. idle),
        ),
      )

  -- ---- ticks

  quiet_idler : Quiet {F = F} (change idler)
  quiet_idler = quiet_change idler (λ r. refl) (λ r. refl)

  quiet_next : Quiet {F = F} next_view
  quiet_next = quiet_by _ (λ r. quiet_enter (r.view + 1))

  orderly_waits : Orderly {F = F} (says (send_to_all start_view_change) ⨾ speak ⨾ visit ⨾ ask)
  orderly_waits = quiet_and (says (send_to_all start_view_change)) (speak ⨾ visit ⨾ ask) (quiet_sends start_view_change) (keeps_says _) (orderly_then speak (visit ⨾ ask) orderly_speak keeps_speak (orderly_quiet (visit ⨾ ask) quiet_looks))

  at_tick : (s : Setting F) (r : Replica) (f : F) → IsSound r → OrderlyAt s r f on_tick
  unfolding on_tick by
  at_tick s r f h =
      by_rows (λ x. OrderlyAt s r f (obey_tick x)) (tick_table r) (
        λ t. at_quiet _ s r f (quiet_then _ _ (quiet_sends commit_message) (quiet_then _ _ (quiet_by _ (λ r. quiet_when (nat_lt r.commit (head r)) _ (quiet_again (r.commit + 1)))) quiet_looks)),
        λ n0. (
          λ t. at_quiet _ s r f (quiet_then _ _ quiet_idler (quiet_by _ (λ r. quiet_if (nat_le 5 r.idle) next_view (visit ⨾ ask) quiet_next quiet_looks))),
          λ n1. (
            λ t. (quiet_and (change idler) _ quiet_idler keeps_idler (orderly_by _ (λ r. orderly_if (nat_le 10 r.idle) next_view _ (orderly_quiet next_view quiet_next) orderly_waits))).every s r f h,
            λ n2. at_quiet quiet s r f quiet_quiet,
          ),
        ),
      )

  -- ---- each event

  at_message : (m : Frame) (s : Setting F) (r : Replica) (f : F) → HasNames s → IsSound r → IsMessage m → r.view ≤ last_view → IsOrderly s r f (on_message m s r f)
  at_message (frame.Request q) s r f names h m last = of s r f _ (at_request q s r f names h m last)
  at_message (frame.Reply a) s r f names h m last = of s r f _ (at_quiet quiet s r f quiet_quiet)
  at_message (frame.Prepare p) s r f names h m last = of s r f _ (at_prepare p s r f h m)
  at_message (frame.PrepareOk a) s r f names h m last = of s r f _ (at_prepare_ok a s r f h)
  at_message (frame.Commit c) s r f names h m last = of s r f _ (at_commit c s r f h)
  at_message (frame.StartViewChange c) s r f names h m last = of s r f _ (at_change c s r f h)
  at_message (frame.DoViewChange d) s r f names h m last = of s r f _ (at_statement d s r f h m)
  at_message (frame.StartView v) s r f names h m last = of s r f _ (at_start_view v s r f h m)
  at_message (frame.GetView g) s r f names h m last = of s r f _ (at_quiet (on_get_view g) s r f (quiet_get_view g))
  at_message (frame.GetPrepare g) s r f names h m last = of s r f _ (at_quiet (on_get_prepare g) s r f (quiet_get_prepare g))
  at_message (frame.GivePrepare g) s r f names h m last = of s r f _ (at_give_prepare g s r f h m)
  at_message (frame.GetBlock g) s r f names h m last = of s r f _ (at_quiet (on_get_block g) s r f (quiet_get_block g))
  at_message (frame.GiveBlock g) s r f names h m last = of s r f _ (at_give_block g s r f h)
  at_message (frame.GetSync g) s r f names h m last = of s r f _ (at_quiet (on_get_sync g) s r f (quiet_get_sync g))
  at_message (frame.SyncView v) s r f names h m last = sync_in v s r f

  at_event : (e : Event) (s : Setting F) (r : Replica) (f : F) → HasNames s → IsSound r → IsEvent e → r.view ≤ last_view → IsOrderly s r f (on_event e s r f)
  at_event (event.Request q) s r f names h m last = of s r f _ (at_request q s r f names h m last)
  at_event (event.Deliver message) s r f names h m last = at_message message s r f names h m last
  at_event event.Tick s r f names h m last = of s r f _ (at_tick s r f h)

  -- every step
  pub come_in_order : (s : Setting F) (r : Replica) (f : F) (e : Event) → HasNames s → IsSound r → IsEvent e → IsOrderly s r f (react e s r f)
  unfolding react by
  come_in_order s r f e names h m =
      let go : (b : Bool) → is_frozen r ≡ b → IsOrderly s r f (when (not b) (on_event e) s r f) = elim [
        | true ↦ λ t. of s r f _ (at_quiet quiet s r f quiet_quiet)
        | false ↦ λ t. at_event e s r f names h m (ltb-false last_view r.view (or_parts (nat_lt last_view r.view) (is_spent r) t).0)
      ] in
      go (is_frozen r) refl

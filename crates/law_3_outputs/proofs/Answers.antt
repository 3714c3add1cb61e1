-- Every step of every replica: its replies are true of the log, and it keeps the state.
use Rattle.std.proofs.Common.{ℕ, ◌+◌, ◌-◌, ◌≤◌, ◌≡◌, ◌∙◌, ◌⊎◌, inl, inr, arith, refl, subst, Bool, true, false, List, [], ◌∷◌, length, take, Option, Some, None}
use Rattle.std.specs.Prelude.{nat_lt, nat_le, not, is_some}
use Rattle.std.specs.List.{find}
use Rattle.std.specs.Option.{option_map_or}
use Rattle.std.proofs.lemmas.Bool.{eqb-true, not-false, or_parts}
use Rattle.std.proofs.lemmas.List.{nil_from_length}
use Rattle.vr_header.specs.declared.header.Header.{Header}
use Rattle.vr_header.specs.Made.{Whole}
use Rattle.vr_state.specs.Folds.{state_after}
use Rattle.vr_state.specs.StateTexts.{state_decoded}
use Rattle.vr_state.specs.declared.state.State.{State}
use Rattle.vr_ckpt.specs.declared.found.Load.{Load}
use Rattle.vr_ckpt.specs.declared.found.Load.TheVariants.{Loaded, Missing}
use Rattle.vr_ckpt.specs.declared.name.Name.{Name}
use Rattle.vr_state.specs.Sessions.{checked}
use Rattle.vr_state.specs.declared.session.SessionAnswer.{SessionAnswer}
use Rattle.vr_state.specs.declared.session.SessionAnswer.TheVariants as answer
use Rattle.vr_msg.specs.declared.event.Event.{Event}
use Rattle.vr_msg.specs.declared.event.Event.TheVariants as event
use Rattle.vr_msg.specs.declared.frame.Frame.{Frame}
use Rattle.vr_msg.specs.declared.frame.Frame.TheVariants as frame
use Rattle.vr_msg.specs.declared.frame.Commit.{Commit}
use Rattle.vr_msg.specs.declared.frame.DoViewChange.{DoViewChange}
use Rattle.vr_msg.specs.declared.frame.GetBlock.{GetBlock}
use Rattle.vr_msg.specs.declared.frame.GetPrepare.{GetPrepare}
use Rattle.vr_msg.specs.declared.frame.GetSync.{GetSync}
use Rattle.vr_msg.specs.declared.frame.GetView.{GetView}
use Rattle.vr_msg.specs.declared.frame.GiveBlock.{GiveBlock}
use Rattle.vr_msg.specs.declared.frame.GivePrepare.{GivePrepare}
use Rattle.vr_msg.specs.declared.frame.Prepare.{Prepare}
use Rattle.vr_msg.specs.declared.frame.PrepareOk.{PrepareOk}
use Rattle.vr_msg.specs.declared.frame.StartView.{StartView}
use Rattle.vr_msg.specs.declared.frame.StartViewChange.{StartViewChange}
use Rattle.vr_msg.specs.declared.frame.SyncView.{SyncView}
use Rattle.vr_msg.specs.declared.reply.ReplyFields.{ReplyFields}
use Rattle.vr_msg.specs.declared.reply.ReplyKind.{ReplyKind}
use Rattle.vr_msg.specs.declared.reply.ReplyKind.TheVariants as reply
use Rattle.vr_msg.specs.declared.request.RequestFields.{RequestFields}
use Rattle.vr_msg.specs.declared.statement.Statement.{Statement}
use Rattle.vr_msg.specs.Choice.{ops}
use Rattle.vr_state.proofs.Stored.{repeat_stored}
use Rattle.vr_rules.specs.Outputs.{replies, send_to, send_to_all, prepare, commit_message, start_view, start_view_change, get_view, get_sync, sync_view, give_prepare, give_block}
use Rattle.vr_rules.specs.declared.asker.Asker.{Asker}
use Rattle.vr_rules.specs.Replica.{Replica, is_frozen, part_at, header_at, head, is_here, version}
use Rattle.vr_rules.specs.Steps.{Step, Setting, Word, ◌⨾◌, quiet, change, does, says, by, naming, reading, when, each, outputs, after_all, PutBlock}
use Rattle.vr_rules.specs.Words.{rested, write, accept, enter, apply, advance, learn, is_loaded, load, loads, loaded_state, checkpoint_at, try, speak, resend, ask, prepare_again, visit, usable}
use Rattle.vr_rules.specs.Words as word
use Rattle.vr_rules.specs.Deciding.{Hash, session_answer, request_table, prepare_table, prepare_ok_table, commit_table, start_view_change_table, do_view_change_table, log_of, start_view_table, get_view_table, get_prepare_table, give_prepare_table, get_block_table, is_from, is_wanted, give_block_table, tick_table, get_sync_table, sync_view_table}
use Rattle.vr_rules.specs.Rules.{asker_by, next_entry, make, stored_reply, obey_request, on_request, acknowledge, ask_view, obey_prepare, on_prepare, acknowledged, obey_prepare_ok, on_prepare_ok, obey_commit, on_commit, heard_of, obey_start_view_change, on_start_view_change, with_statement, obey_do_view_change, on_do_view_change, acknowledge_stored, obey_start_view, on_start_view, obey_get_view, on_get_view, obey_get_prepare, on_get_prepare, obey_give_prepare, on_give_prepare, asked_block, block_at, give_read, obey_get_block, on_get_block, without, put_block, put_found, mend_found, not_worn, obey_give_block, on_give_block, obey_get_sync, on_get_sync, obey_sync_view, on_sync_view, idler, next_view, obey_tick, on_tick, on_message, on_event, react}
use Rattle.vr_rules.proofs.Ruling.{by_rows}
use Rattle.vr_world.specs.Commitment.{IsReplyOf}
use Rattle.law_3_outputs.specs.Answering.{IsNumbered, HasState, Jumps, PutsWell, lines, Lined, Told, Leaves}
use Rattle.law_3_outputs.proofs.Words.{Keeps, FairAt, IsFair, fair_at_then, fair_then, fair_quiet, fair_change, fair_does, fair_says, fair_by, fair_naming, fair_reading, fair_if, fair_when, fair_each}
use Rattle.law_3_outputs.proofs.Applies.{fair_with_entry, fair_apply, fair_advance, fair_learn, fair_rested, fair_sends, fair_enter, fair_write, fair_accept, fair_take, fair_again, fair_try, fair_speak, fair_resend, fair_looks}
use Rattle.law_3_outputs.proofs.Jumps.{sync_jumps}

keeps_acknowledged : (a : PrepareOk) (r : Replica) → Keeps r (acknowledged a r)
keeps_acknowledged a r = record { index = refl; applied = refl; state = refl; missing = refl }

keeps_heard : (sender : ℕ) (r : Replica) → Keeps r (heard_of sender r)
keeps_heard sender r = record { index = refl; applied = refl; state = refl; missing = refl }

keeps_statement : (sender : ℕ) (s : Statement) (r : Replica) → Keeps r (with_statement sender s r)
keeps_statement sender s r = record { index = refl; applied = refl; state = refl; missing = refl }

keeps_idler : (r : Replica) → Keeps r (idler r)
keeps_idler r = record { index = refl; applied = refl; state = refl; missing = refl }

-- ---- a load

pub loads_place : (root : Name) (l : Load) (r : Replica) → ((loads root l r).index ≡ r.index) × ((loads root l r).applied ≡ r.applied)
unfolding word.with_state
loads_place root (Missing names) r = (refl, refl)
loads_place root (Loaded texts table) r =
    let go : (x : Option State) → ((loaded_state root table x r).index ≡ r.index) × ((loaded_state root table x r).applied ≡ r.applied) = elim [ Some s ↦ (refl, refl) | None ↦ (refl, refl) ] in
    go (usable (version r) (state_decoded texts))

pub record IsPut (r : Replica) (x : Step) : Type 0 where
  pub script : x.script ≡ []
  pub index : x.replica.index ≡ r.index
  pub applied : x.replica.applied ≡ r.applied

load_put : {F : Type 0} (s : Setting F) (r : Replica) (f : F) → IsPut r (load s r f)
unfolding load by reading change quiet
load_put s r f =
    let p = loads_place r.root (s.loaded f r.root) r in
    let go : (b : Bool) → IsPut r ((when b (reading (checkpoint_at r.root) (λ l. change (loads r.root l)))) s r f) = elim [
      | true ↦ record { script = refl; index = p.0; applied = p.1 }
      | false ↦ record { script = refl; index = refl; applied = refl }
    ] in
    go (nat_lt 0 r.checkpoint)

put_if : {F : Type 0} (b : Bool) (s : Setting F) (r : Replica) (f : F) → IsPut r (when b load s r f)
unfolding quiet
put_if true s r f = load_put s r f
put_if false s r f = record { script = refl; index = refl; applied = refl }

module _ {F : Type 0} (log : List Whole) (numbers : IsNumbered log) where
  -- ---- requests

  abbrev RightAt : Setting F → Replica → F → Word F → Type 0
  RightAt s r f w = HasState log r → Lined log r.index r.applied (outputs (w s r f).script) → Leaves log r false (w s r f)

  right : (w : Word F) (s : Setting F) (r : Replica) (f : F) → FairAt log s r f w → RightAt s r f w
  right w s r f h state lined = h state lined false

  right_reply : (a : Asker) (k : ReplyKind) (s : Setting F) (r : Replica) (f : F) → (HasState log r → (z : ReplyFields) → z.client ≡ a.client → z.request ≡ a.request → IsReplyOf log r.applied r.applied z k) → RightAt s r f (says (replies a k))
  unfolding says outputs Told lines
  right_reply a k s r f so had lined =
      let none : r.applied ≡ r.applied + 0 = omega arith in
      let back : r.applied - 0 ≡ r.applied = omega arith in
      record { told = (rw back (so had _ refl refl), tt); index = refl; applied = none; state = had }

  module _ (s : Setting F) (r : Replica) (f : F) (within : r.applied ≤ length log) where
    says_of : (c : SessionAnswer) (q : RequestFields) → session_answer q r ≡ c → r.missing ≡ [] → HasState log r → checked (state_after (take r.applied log)).sessions q.client q.request ≡ c
    says_of c q is none had = subst (λ (t : State). checked t.sessions q.client q.request ≡ c) (had none) is

    right_stored : (hash : Hash) (q : RequestFields) (c : SessionAnswer) → session_answer q r ≡ c → r.missing ≡ [] → RightAt s r f (stored_reply (asker_by hash q) c)
    right_stored hash q answer.Fresh is none = right quiet s r f ((fair_quiet log).each s r f)
    right_stored hash q (answer.Repeat outcome op) is none =
        right_reply (asker_by hash q) (reply.Outcome (record { op = op; outcome = outcome })) s r f
        (λ had z c p. let t = repeat_stored log r.applied q.client q.request outcome op numbers within (says_of (answer.Repeat outcome op) q is none had) in record { op = t.op; answer = rw (c, p) t.answer })
    right_stored hash q answer.Old is none = right_reply (asker_by hash q) reply.Old s r f (λ had z c p. rw (c, p) (says_of answer.Old q is none had))
    right_stored hash q answer.Gap is none = right_reply (asker_by hash q) reply.Gap s r f (λ had z c p. rw (c, p) (says_of answer.Gap q is none had))
    right_stored hash q answer.Evicted is none = right_reply (asker_by hash q) reply.Evicted s r f (λ had z c p. rw (c, p) (says_of answer.Evicted q is none had))

    fair_make : (e : Whole) → IsFair {F = F} log (make e)
    unfolding make
    fair_make e = fair_then log (write e) (says (send_to_all (prepare e)) ⨾ advance) (fair_write log numbers e) (fair_then log (says (send_to_all (prepare e))) advance (fair_sends log numbers (prepare e)) (fair_advance log numbers))

    right_request : (q : RequestFields) → RightAt s r f (on_request q)
    unfolding on_request naming by
    right_request q =
        let hash = s.hash in
        let idle = right quiet s r f ((fair_quiet log).each s r f) in
        let busy = right_reply (asker_by hash q) reply.Busy s r f (λ had z c p. tt) in
        let redirect = right_reply (asker_by hash q) reply.Redirect s r f (λ had z c p. tt) in
        by_rows (λ z. RightAt s r f (obey_request hash q z)) (request_table q r) (
          λ c. idle,
          λ n0. (
            λ c. redirect,
            λ n1. (
              λ c. busy,
              λ n2. (
                λ c. idle,
                λ n3. (
                  λ c.
                      let loaded = eqb-true (length r.missing) 0 (not-false (is_loaded r) (or_parts (not (is_loaded r)) (nat_lt r.applied r.commit) n2).0) in
                      right_stored hash q (session_answer q r) refl (nil_from_length r.missing loaded),
                  λ n4. (λ c. busy, λ n5. (λ c. right (make (next_entry hash q r)) s r f ((fair_make (next_entry hash q r)).each s r f), λ n6. idle)),
                ),
              ),
            ),
          ),
        )

  -- ---- the other events

  fair_tell : (to : ℕ) (message : Replica → Frame) → IsFair {F = F} log (says (λ r. send_to to (message r) r))
  fair_tell to message = fair_says log _ (λ r. (tt, tt))

  fair_acknowledge : (hash : Hash) (h : Header) → IsFair {F = F} log (acknowledge hash h)
  fair_acknowledge hash h = fair_says log _ (λ r. (tt, tt))

  fair_prepare : (p : Prepare) → IsFair {F = F} log (on_prepare p)
  unfolding on_prepare
  fair_prepare p = fair_naming log _ (λ hash. fair_by log _ (λ r.
      let idle = fair_quiet log in
      let learns = fair_learn log numbers p.commit in
      let rests = fair_rested log numbers in
      let asks = fair_tell p.replica (get_view p.view) in
      let answers = fair_acknowledge hash p.entry.header in
      by_rows (λ z. IsFair {F = F} log (obey_prepare hash p z)) (prepare_table hash p r) (
        λ c. idle,
        λ n0. (
          λ c. idle,
          λ n1. (
            λ c. asks,
            λ n2. (
              λ c. fair_then log (change rested) (learn p.commit) rests learns,
              λ n3. (
                λ c. rests,
                λ n4. (
                  λ c. fair_then log (change rested) _ rests (fair_then log (accept p.entry) _ (fair_accept log numbers p.entry) (fair_then log (acknowledge hash p.entry.header) (learn p.commit) answers learns)),
                  λ n5. (
                    λ c. fair_then log (change rested) _ rests (fair_then log (write p.entry) _ (fair_write log numbers p.entry) (fair_then log (acknowledge hash p.entry.header) (learn p.commit) answers learns)),
                    λ n6. (
                      λ c. fair_then log (change rested) _ rests (fair_then log (ask_view p.view p.replica) (learn p.commit) asks learns),
                      λ n7. (λ c. rests, λ n8. idle),
                    ),
                  ),
                ),
              ),
            ),
          ),
        ),
      )))

  fair_prepare_ok : (a : PrepareOk) → IsFair {F = F} log (on_prepare_ok a)
  unfolding on_prepare_ok
  fair_prepare_ok a = fair_naming log _ (λ hash. fair_by log _ (λ r.
      let idle = fair_quiet log in
      by_rows (λ z. IsFair {F = F} log (obey_prepare_ok a z)) (prepare_ok_table hash a r)
      (λ c. idle, λ n0. (λ c. fair_then log (change (acknowledged a)) advance (fair_change log (acknowledged a) (keeps_acknowledged a)) (fair_advance log numbers), λ n1. idle))))

  fair_commit : (c : Commit) → IsFair {F = F} log (on_commit c)
  unfolding on_commit
  fair_commit c = fair_by log _ (λ r.
      let idle = fair_quiet log in
      let asks = fair_tell c.replica (get_view c.view) in
      by_rows (λ z. IsFair {F = F} log (obey_commit c z)) (commit_table c r) (
        λ e. idle,
        λ n0. (
          λ e. idle,
          λ n1. (
            λ e. asks,
            λ n2. (
              λ e. fair_then log (change rested) _ (fair_rested log numbers) (fair_then log (by (λ r. when (nat_lt (head r) c.head) (ask_view c.view c.replica))) (learn c.commit)
                  (fair_by log _ (λ r. fair_when log (nat_lt (head r) c.head) (ask_view c.view c.replica) asks)) (fair_learn log numbers c.commit)),
              λ n3. idle,
            ),
          ),
        ),
      ))

  fair_change_heard : (c : StartViewChange) → IsFair {F = F} log (change (heard_of c.replica) ⨾ speak)
  fair_change_heard c = fair_then log (change (heard_of c.replica)) speak (fair_change log (heard_of c.replica) (keeps_heard c.replica)) (fair_speak log numbers)

  fair_start_view_change : (c : StartViewChange) → IsFair {F = F} log (on_start_view_change c)
  unfolding on_start_view_change
  fair_start_view_change c = fair_by log _ (λ r.
      let idle = fair_quiet log in
      by_rows (λ z. IsFair {F = F} log (obey_start_view_change c z)) (start_view_change_table c r) (
        λ e. idle,
        λ n0. (
          λ e. idle,
          λ n1. (
            λ e. fair_then log (enter c.view) _ (fair_enter log numbers c.view) (fair_change_heard c),
            λ n2. (λ e. fair_change_heard c, λ n3. (λ e. fair_tell c.replica start_view, λ n4. idle)),
          ),
        ),
      ))

  fair_do_view_change : (d : DoViewChange) → IsFair {F = F} log (on_do_view_change d)
  unfolding on_do_view_change
  fair_do_view_change d = fair_by log _ (λ r.
      let idle = fair_quiet log in
      by_rows (λ z. IsFair {F = F} log (obey_do_view_change d z)) (do_view_change_table d r) (
        λ e. idle,
        λ n0. (
          λ e. idle,
          λ n1. (
            λ e. fair_tell d.replica start_view,
            λ n2. (
              λ e. fair_then log (by (λ r. when (nat_lt r.view d.view) (enter d.view))) _ (fair_by log _ (λ r. fair_when log (nat_lt r.view d.view) (enter d.view) (fair_enter log numbers d.view)))
                  (fair_then log (change (with_statement d.replica d.statement)) try (fair_change log (with_statement d.replica d.statement) (keeps_statement d.replica d.statement)) (fair_try log numbers)),
              λ n3. idle,
            ),
          ),
        ),
      ))

  fair_acknowledge_some : (hash : Hash) (o : Option Header) → IsFair {F = F} log (option_map_or (acknowledge hash) o quiet)
  fair_acknowledge_some hash None = fair_quiet log
  fair_acknowledge_some hash (Some h) = fair_acknowledge hash h

  fair_acknowledge_stored : (hash : Hash) (op : ℕ) → IsFair {F = F} log (acknowledge_stored hash op)
  unfolding acknowledge_stored
  fair_acknowledge_stored hash op = fair_by log _ (λ r. fair_when log (is_here (part_at r op)) _ (fair_acknowledge_some hash (header_at r op)))

  fair_start_view : (v : StartView) → IsFair {F = F} log (on_start_view v)
  unfolding on_start_view
  fair_start_view v = fair_naming log _ (λ hash. fair_by log _ (λ r.
      let idle = fair_quiet log in
      by_rows (λ z. IsFair {F = F} log (obey_start_view hash v z)) (start_view_table hash v r) (
        λ e. idle,
        λ n0. (
          λ e. fair_then log (word.take (log_of v)) _ (fair_take log numbers (log_of v))
              (fair_then log (by (λ r. each (acknowledge_stored hash) (ops r.commit v.head))) apply (fair_by log _ (λ r. fair_each log (acknowledge_stored hash) (ops r.commit v.head) (fair_acknowledge_stored hash))) (fair_apply log numbers)),
          λ n1. (λ e. fair_tell v.replica (get_sync v.view), λ n2. idle),
        ),
      )))

  fair_get_sync : (g : GetSync) → IsFair {F = F} log (on_get_sync g)
  unfolding on_get_sync
  fair_get_sync g = fair_by log _ (λ r. by_rows (λ z. IsFair {F = F} log (obey_get_sync g z)) (get_sync_table g r) (λ e. fair_quiet log, λ n0. (λ e. fair_tell g.replica sync_view, λ n1. fair_quiet log)))

  fair_get_view : (g : GetView) → IsFair {F = F} log (on_get_view g)
  unfolding on_get_view
  fair_get_view g = fair_by log _ (λ r. by_rows (λ z. IsFair {F = F} log (obey_get_view g z)) (get_view_table g r) (λ e. fair_quiet log, λ n0. (λ e. fair_tell g.replica start_view, λ n1. fair_quiet log)))

  fair_get_prepare : (g : GetPrepare) → IsFair {F = F} log (on_get_prepare g)
  unfolding on_get_prepare
  fair_get_prepare g = fair_naming log _ (λ hash. fair_by log _ (λ r.
      by_rows (λ z. IsFair {F = F} log (obey_get_prepare g z)) (get_prepare_table hash g r)
      (λ e. fair_quiet log, λ n0. (λ e. fair_with_entry log numbers g.op _ (λ e. fair_tell g.replica (give_prepare e)), λ n1. fair_quiet log))))

  fair_give_prepare : (g : GivePrepare) → IsFair {F = F} log (on_give_prepare g)
  unfolding on_give_prepare
  fair_give_prepare g = fair_by log _ (λ r.
      by_rows (λ z. IsFair {F = F} log (obey_give_prepare g z)) (give_prepare_table g r)
      (λ e. fair_quiet log, λ n0. (λ e. fair_then log (write g.entry) _ (fair_write log numbers g.entry) (fair_then log (resend g.entry) apply (fair_resend log numbers g.entry) (fair_apply log numbers)), λ n1. fair_quiet log)))

  fair_give : (g : GetBlock) (o : Option (List ℕ)) → IsFair {F = F} log (give_read g o)
  fair_give g None = fair_quiet log
  fair_give g (Some block) = fair_tell g.replica (give_block g.address block)

  fair_get_block : (g : GetBlock) → IsFair {F = F} log (on_get_block g)
  unfolding on_get_block
  fair_get_block g = fair_reading log (block_at (asked_block g)) _ (λ block. fair_by log _ (λ r.
      by_rows (λ z. IsFair {F = F} log (obey_get_block g block z)) (get_block_table (is_some block) g r) (λ e. fair_quiet log, λ n0. (λ e. fair_give g block, λ n1. fair_quiet log))))

  -- a missing block is put in its place
  fair_put : (name : Name) (block : List ℕ) (s : Setting F) (r : Replica) (f : F) → HasState log (put_block name block s r f).replica → FairAt log s r f (put_block name block)
  unfolding put_block does change by ◌⨾◌ outputs Told lines
  fair_put name block s r f left had lined =
      let q : Replica = without name r in
      let d = after_all s (after_all s f (PutBlock name block ∷ [])) [] in
      let x = when (is_loaded q) load s q d in
      let p = put_if (is_loaded q) s q d in
      λ b. record { told = rw (p.script) tt; index = p.index; applied = let e = p.applied in rw (p.script) (e ∙ (let z : r.applied ≡ r.applied + 0 = omega arith in z)); state = left }

  fair_found : (block : List ℕ) (p : Name → Bool) (o : Option Name) (s : Setting F) (r : Replica) (f : F) → ((name : Name) → o ≡ Some name → HasState log (put_block name block s r f).replica) → FairAt log s r f (put_found block o)
  fair_found block p None s r f puts = (fair_quiet log).each s r f
  fair_found block p (Some name) s r f puts = fair_at_then log (put_block name block) apply s r f (fair_put name block s r f (puts name refl)) ((fair_apply log numbers).each s _ _)

  fair_mend_found : (block : List ℕ) (o : Option Name) → IsFair {F = F} log (mend_found block o)
  unfolding outputs
  fair_mend_found block None = fair_quiet log
  fair_mend_found block (Some name) = fair_then log (does (λ r. PutBlock name block)) (change (not_worn name)) (fair_does log (λ r. PutBlock name block) (λ r. tt)) (fair_change log (not_worn name) (λ r. record { index = refl; applied = refl; state = refl; missing = refl }))

  -- what is left where a replica that isn't frozen puts a missing block in its place
  abbrev PutsFree : Setting F → Replica → F → Event → Type 0
  PutsFree s r f e =
      (g : GiveBlock) (name : Name) → e ≡ event.Deliver (frame.GiveBlock g) → is_from g.version g.cluster g.replica r ≡ true → find (is_wanted s.is_block g) r.missing ≡ Some name → HasState log (put_block name g.block s r f).replica

  fair_give_block : (g : GiveBlock) (s : Setting F) (r : Replica) (f : F) → PutsFree s r f (event.Deliver (frame.GiveBlock g)) → FairAt log s r f (on_give_block g)
  unfolding on_give_block reading by
  fair_give_block g s r f puts =
      let idle = (fair_quiet log).each s r f in
      by_rows (λ z. FairAt log s r f (obey_give_block s.is_block g z)) (give_block_table s.is_block g r) (
        λ e. idle,
        λ n0. (
          λ e. fair_found g.block (is_wanted s.is_block g) (find (is_wanted s.is_block g) r.missing) s r f (λ name there. puts g name refl (not-false _ n0) there),
          λ n1. (λ e. (fair_mend_found g.block (find (is_wanted s.is_block g) r.worn)).each s r f, λ n2. idle),
        ),
      )

  fair_tick : IsFair {F = F} log on_tick
  unfolding on_tick
  fair_tick = fair_by log _ (λ r.
      let next : IsFair {F = F} log next_view = fair_by log _ (λ r. fair_enter log numbers (r.view + 1)) in
      let asks = fair_looks log numbers in
      let idles : IsFair {F = F} log (change idler) = fair_change log idler keeps_idler in
      by_rows (λ z. IsFair {F = F} log (obey_tick z)) (tick_table r) (
        λ e. fair_then log (says (send_to_all commit_message)) _ (fair_sends log numbers commit_message)
            (fair_then log (by (λ r. when (nat_lt r.commit (head r)) (prepare_again (r.commit + 1)))) (visit ⨾ ask) (fair_by log _ (λ r. fair_when log (nat_lt r.commit (head r)) (prepare_again (r.commit + 1)) (fair_again log numbers (r.commit + 1)))) asks),
        λ n0. (
          λ e. fair_then log (change idler) _ idles (fair_by log _ (λ r. fair_if log (nat_le 5 r.idle) next_view (visit ⨾ ask) next asks)),
          λ n1. (
            λ e. fair_then log (change idler) _ idles (fair_by log _ (λ r. fair_if log (nat_le 10 r.idle) next_view _ next
                (fair_then log (says (send_to_all start_view_change)) _ (fair_sends log numbers start_view_change) (fair_then log speak (visit ⨾ ask) (fair_speak log numbers) asks)))),
            λ n2. fair_quiet log,
          ),
        ),
      ))

  module _ (s : Setting F) (r : Replica) (f : F) (within : r.applied ≤ length log) where
    -- or a checkpoint of another replica is taken over
    abbrev AnswersAt : Word F → Type 0
    AnswersAt w = HasState log r → Lined log r.index r.applied (outputs (w s r f).script) → Leaves log r false (w s r f) ⊎ Jumps r (w s r f)

    of_right : (w : Word F) → RightAt s r f w → AnswersAt w
    of_right w h had lined = inl (h had lined)

    of_word : (w : Word F) → IsFair log w → AnswersAt w
    of_word w h = of_right w (right w s r f (h.each s r f))

    right_sync : (v : SyncView) → AnswersAt (on_sync_view v)
    unfolding on_sync_view naming by
    right_sync v =
        let idle = of_word quiet (fair_quiet log) in
        by_rows (λ z. AnswersAt (obey_sync_view s.hash v z)) (sync_view_table s.hash v r) (λ c. idle, λ n0. (λ c. λ had lined. inr (sync_jumps s.hash v s r f), λ n1. idle))

    right_message : (m : Frame) → PutsFree s r f (event.Deliver m) → AnswersAt (on_message m)
    right_message (frame.Request q) puts = of_right (on_request q) (right_request s r f within q)
    right_message (frame.GetSync g) puts = of_word (on_get_sync g) (fair_get_sync g)
    right_message (frame.SyncView v) puts = right_sync v
    right_message (frame.Reply a) puts = of_word quiet (fair_quiet log)
    right_message (frame.Prepare p) puts = of_word (on_prepare p) (fair_prepare p)
    right_message (frame.PrepareOk a) puts = of_word (on_prepare_ok a) (fair_prepare_ok a)
    right_message (frame.Commit c) puts = of_word (on_commit c) (fair_commit c)
    right_message (frame.StartViewChange c) puts = of_word (on_start_view_change c) (fair_start_view_change c)
    right_message (frame.DoViewChange d) puts = of_word (on_do_view_change d) (fair_do_view_change d)
    right_message (frame.StartView v) puts = of_word (on_start_view v) (fair_start_view v)
    right_message (frame.GetView g) puts = of_word (on_get_view g) (fair_get_view g)
    right_message (frame.GetPrepare g) puts = of_word (on_get_prepare g) (fair_get_prepare g)
    right_message (frame.GivePrepare g) puts = of_word (on_give_prepare g) (fair_give_prepare g)
    right_message (frame.GetBlock g) puts = of_word (on_get_block g) (fair_get_block g)
    right_message (frame.GiveBlock g) puts = of_right (on_give_block g) (right (on_give_block g) s r f (fair_give_block g s r f puts))

    right_event : (e : Event) → PutsFree s r f e → AnswersAt (on_event e)
    right_event (event.Request q) puts = of_right (on_request q) (right_request s r f within q)
    right_event (event.Deliver m) puts = right_message m puts
    right_event event.Tick puts = of_word on_tick fair_tick

    -- every step
    pub right_react : (e : Event) → PutsWell log s r f e → HasState log r → Lined log r.index r.applied (outputs (react e s r f).script) → Leaves log r false (react e s r f) ⊎ Jumps r (react e s r f)
    unfolding react by
    right_react e puts =
        let go : (b : Bool) → is_frozen r ≡ b → AnswersAt (when (not b) (on_event e)) = elim [
          | false ↦ λ free. right_event e (λ g name is from there. puts g name is free from there)
          | true ↦ λ frozen. of_word quiet (fair_quiet log)
        ] in
        go (is_frozen r) refl

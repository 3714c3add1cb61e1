-- At the end of each rule of a replica its tables are true.
use Rattle.std.proofs.Common.{ℕ, ◌+◌, ◌%◌, ◌≤◌, ◌<◌, ◌≡◌, ◌≢◌, ◌∙◌, inl, arith, refl, sym, ap, subst, Bool, true, false, not, List, [], get_or, Option, Some, None}
use Rattle.std.specs.Prelude.{nat_lt, nat_le, find, ◌==◌, ◌&&◌, is_some}
use Rattle.std.specs.Option.{option_map_or}
use Rattle.std.proofs.lemmas.Bool.{and_parts, or_parts, not-false, not-true, ltb-true, ltb-false, le-ltb, leb-true, leb-false, eqb-true, eqb-false, eq-eqb, true≢false}
use Rattle.vr_header.specs.declared.header.Header.{Header}
use Rattle.vr_header.specs.Made.{Whole}
use Rattle.vr_msg.specs.declared.frame.Frame.TheVariants as frame
use Rattle.vr_msg.specs.declared.frame.Commit.{Commit}
use Rattle.vr_msg.specs.declared.frame.DoViewChange.{DoViewChange}
use Rattle.vr_msg.specs.declared.frame.GetBlock.{GetBlock}
use Rattle.vr_msg.specs.declared.frame.GetPrepare.{GetPrepare}
use Rattle.vr_msg.specs.declared.frame.GetView.{GetView}
use Rattle.vr_msg.specs.declared.frame.GiveBlock.{GiveBlock}
use Rattle.vr_msg.specs.declared.frame.GivePrepare.{GivePrepare}
use Rattle.vr_msg.specs.declared.frame.Prepare.{Prepare}
use Rattle.vr_msg.specs.declared.frame.PrepareOk.{PrepareOk}
use Rattle.vr_msg.specs.declared.frame.GetSync.{GetSync}
use Rattle.vr_msg.specs.declared.frame.StartView.{StartView}
use Rattle.vr_msg.specs.declared.frame.SyncView.{SyncView}
use Rattle.vr_msg.specs.declared.frame.StartViewChange.{StartViewChange}
use Rattle.vr_msg.specs.declared.statement.Statement.{Statement}
use Rattle.vr_msg.specs.Choice.{ops}
use Rattle.vr_ckpt.specs.declared.name.Name.{Name}
use Rattle.vr_rules.specs.Replica.{Replica, last_view, head, header_at, is_here, is_started, leads, part_at, forgetting, with_part, version}
use Rattle.vr_rules.specs.Outputs.{send_to, send_to_all, commit_message, start_view_change, give_prepare, give_block, get_sync, sync_view}
use Rattle.vr_rules.specs.Steps.{Setting, Step, Word, ◌⨾◌, quiet, change, does, says, by, naming, reading, when, each, after_all}
use Rattle.vr_rules.specs.Words.{with_saved, entered, enter, rested, stored, write, accept, apply, learn, advance, taken, may_take, prepare_again, try, speak, resend, ask, visit, jumped, is_loaded, load, value_of}
use Rattle.vr_rules.specs.Deciding.{Hash, is_from, is_from_primary, is_known, prepare_table, prepare_ok_table, commit_table, start_view_change_table, do_view_change_table, log_of, start_view_table, get_view_table, get_prepare_table, give_prepare_table, get_block_table, is_wanted, give_block_table, tick_table, get_sync_table, sync_view_table, may_jump, is_for}
use Rattle.vr_rules.specs.Rules.{acknowledge, ask_view, obey_prepare, on_prepare, acknowledged, obey_prepare_ok, on_prepare_ok, obey_commit, on_commit, heard_of, tell_view, obey_start_view_change, on_start_view_change, with_statement, obey_do_view_change, on_do_view_change, acknowledge_stored, obey_start_view, on_start_view, obey_get_view, on_get_view, obey_get_prepare, on_get_prepare, obey_give_prepare, on_give_prepare, asked_block, block_at, give_read, obey_get_block, on_get_block, without, put_block, put_found, test_of, obey_give_block, on_give_block, mend_found, obey_get_sync, on_get_sync, obey_sync_view, on_sync_view, idler, next_view, primary_ticks, obey_tick, on_tick}
use Rattle.vr_rules.specs.Laws.{IsMessage}
use Rattle.vr_rules.specs.Sound.{IsSound, IsStated}
use Rattle.vr_rules.proofs.Keeping.{sound_alike}
use Rattle.vr_rules.proofs.Reacting.{kept_without}
use Rattle.vr_rules.proofs.Combining.{kept_by, kept_change_then, kept_does_then, kept_when}
use Rattle.vr_rules.proofs.Ruling.{by_rows, group_of, group_of_primary, kept_statement, keeps_acknowledged, may_store_given, may_store_prepare, told_log, told_sync}
use Rattle.vr_rules.proofs.Jumping.{may_jump_is, kept_jumped}
use Rattle.vr_rules.proofs.Storing.{MayStore, kept_stored}
use Rattle.vr_rules.proofs.Taking.{may_take_is, kept_taken}
use Rattle.vr_rules.proofs.Trying.{keeps_speak}
use Rattle.vr_rules.proofs.Wording.{kept_accept, kept_load, kept_rested, none_stated}
use Rattle.law_1_machine.specs.Basics.{In}
use Rattle.law_1_machine.specs.Group.{Group}
use Rattle.law_1_machine.specs.Members as machine
use Rattle.law_1_machine.specs.Members.{Do_view_change}
use Rattle.law_2_chains.specs.Local.{Local}
use Rattle.law_2_chains.specs.Chains.{Setup, Mid, WasSent, statement_told}
use Rattle.law_2_chains.specs.Tables.{Fits, HasVouchedAt}
use Rattle.law_2_chains.proofs.Tallies.{Tallies}
use Rattle.law_2_chains.proofs.Saving.{saved_sound}
use Rattle.law_2_chains.proofs.Beginning.{with_statement_told}
use Rattle.law_2_chains.proofs.Counting.{tables_acknowledged}
use Rattle.law_2_chains.proofs.Repairs.{leads_is}
use Rattle.law_2_chains.proofs.Speaking.{mid_idler}
use Rattle.law_2_chains.proofs.Takes.{taken_views}
use Rattle.law_2_chains.proofs.Jumps.{jumped_views}
use Rattle.law_2_chains.proofs.Holding.{Holds, holds_rested, tables_hold}
use Rattle.law_2_chains.proofs.Staying.{Stays, stays_quiet, stays_says, stays_then, stays_by, stays_when, stays_each, stays_apply, stays_learn, stays_advance, stays_rested, stays_again, stays_resend, stays_looks, stays_mend_found, holds_entry, holds_idler, holds_put}
use Rattle.law_2_chains.proofs.Tabling.{Tabled, tabled_after, tabled_change_then, tabled_says_then, tabled_quiet_then, tabled_if, tabled_held, tabled_stays, tabled_then_stays, tallies_unled, tabled_unled}
use Rattle.law_2_chains.proofs.TabledWords.{Enters, enter_rests, entered_so, started_so, tabled_entered, tabled_enter_then, enter_is, tabled_take_then, taken_statements, tabled_jump_then, jumped_statements, tabled_try, tabled_speak, tabled_repaired}

-- ---- the view and its primary stay

record Alike (r q : Replica) : Type 0 where
  view : q.view ≡ r.view
  log_view : q.log_view ≡ r.log_view
  index : q.index ≡ r.index
  n : q.n ≡ r.n
  statements : q.statements ≡ r.statements

alike_same : (r : Replica) → Alike r r
alike_same r = record { view = refl; log_view = refl; index = refl; n = refl; statements = refl }

alike_more : (a b c : Replica) → Alike a b → Alike b c → Alike a c
alike_more a b c h k = record { view = k.view ∙ h.view; log_view = k.log_view ∙ h.log_view; index = k.index ∙ h.index; n = k.n ∙ h.n; statements = k.statements ∙ h.statements }

alike_held : (r q : Replica) → Holds r q → Alike r q
alike_held r q h = record { view = h.view; log_view = h.log_view; index = h.index; n = h.n; statements = h.statements }

alike_stored : (e : Whole) (r : Replica) → Alike r (stored e r)
unfolding forgetting with_part
alike_stored e r = record { view = refl; log_view = refl; index = refl; n = refl; statements = refl }

alike_write : {F : Type 0} (e : Whole) (t : Setting F) (r : Replica) (f : F) → Alike r (write e t r f).replica
unfolding write does change ◌⨾◌
alike_write e t r f = alike_stored e r

alike_when : {F : Type 0} (b : Bool) (w : Word F) (t : Setting F) (r : Replica) (f : F) → Alike r (w t r f).replica → Alike r (when b w t r f).replica
unfolding quiet
alike_when true w t r f h = h
alike_when false w t r f h = alike_same r

alike_accept : {F : Type 0} (e : Whole) (t : Setting F) (r : Replica) (f : F) → Alike r (accept e t r f).replica
unfolding accept by
alike_accept e t r f = alike_when (not (is_here (part_at r e.header.op))) (write e) t r f (alike_write e t r f)

alike_rested : (r : Replica) → Alike r (rested r)
alike_rested r = record { view = refl; log_view = refl; index = refl; n = refl; statements = refl }

leads_alike : (r q : Replica) → Alike r q → leads q ≡ leads r
leads_alike r q h = rw (h.view, h.log_view, h.index, h.n) refl

stays_acknowledge_of : {F : Type 0} (hash : Hash) (o : Option Header) → Stays {F = F} (option_map_or (acknowledge hash) o quiet)
stays_acknowledge_of hash None = stays_quiet
stays_acknowledge_of hash (Some h) = stays_says _

stays_acknowledge : {F : Type 0} (hash : Hash) (op : ℕ) → Stays {F = F} (acknowledge_stored hash op)
unfolding acknowledge_stored
stays_acknowledge hash op = stays_by _ (λ r. stays_when (is_here (part_at r op)) _ (stays_acknowledge_of hash (header_at r op)))

module _ (u : Setup) (fits : Fits u) (start : Group Header) (i : ℕ) where
  -- the tables of a backup say nothing but what was stated
  backup : (r : Replica) (x : Step) → Tallies u start i r → (leads r ≡ true → ⊥) → Alike r x.replica → Tabled u start i x
  backup r x tables unled h =
      tabled_unled u start i x (λ l. unled (sym (leads_alike r x.replica h) ∙ l)) (λ j z is. subst (λ v. In (Do_view_change j v (statement_told z)) start.sent) (sym h.view)
      (tables.stated j z (sym (ap (λ (ys : List (Option Statement)). get_or ys j None) h.statements) ∙ is)))

  -- who hears its view's primary isn't the primary
  not_primary : (v cluster sender view : ℕ) (r : Replica) → not (is_from_primary v cluster sender view r) ≡ false → r.view ≡ view → leads r ≡ true → ⊥
  not_primary v cluster sender view r e same l =
      let p = and_parts (is_from v cluster sender r) (sender == view % r.n) (not-false _ e) in
      let from = and_parts (is_for v cluster r) _ p.0 in
      let other = and_parts (nat_lt sender r.n) (not (sender == r.index)) from.1 in
      let apart = eqb-false sender r.index (not-true _ other.1) in
      let first = eqb-true sender (view % r.n) p.1 in
      let own = (leads_is r l).1 in
      apart (first ∙ (ap (λ v. v % r.n) (sym same) ∙ sym own))

  module _ {F : Type 0} (t : Setting F) (r : Replica) (f : F) (l : Local) (x : Mid u start i r l start) (tables : Tallies u start i r) where
    pub held : (w : Word F) → Stays w → Tabled u start i (w t r f)
    held w h = tabled_stays u start i w t r f h x.sound tables

    idle : Tabled u start i (quiet t r f)
    idle = held quiet stays_quiet

    -- ---- prepares (rules 7 to 14)

    alike_known : (e : Whole) (c : ℕ) → MayStore e (rested r) → Alike r ((change rested ⨾ accept e ⨾ acknowledge t.hash e.header ⨾ learn c) t r f).replica
    unfolding change ◌⨾◌
    alike_known e c may =
        let d = after_all t f [] in
        let y = accept e t (rested r) d in
        let sound = (kept_accept e t (rested r) d (kept_rested r x.sound).sound may).kept.sound in
        let z = ((stays_then (acknowledge t.hash e.header) (learn c) (stays_says _) (stays_learn c)).every t y.replica (after_all t d y.script) sound).0 in
        alike_more r y.replica _ (alike_more r (rested r) y.replica (alike_rested r) (alike_accept e t (rested r) d)) (alike_held y.replica _ z)

    alike_next : (e : Whole) (c : ℕ) → MayStore e (rested r) → Alike r ((change rested ⨾ write e ⨾ acknowledge t.hash e.header ⨾ learn c) t r f).replica
    unfolding change ◌⨾◌ write does
    alike_next e c may =
        let d = after_all t f [] in
        let y = write e t (rested r) d in
        let sound = (kept_stored e (rested r) (kept_rested r x.sound).sound may).sound in
        let z = ((stays_then (acknowledge t.hash e.header) (learn c) (stays_says _) (stays_learn c)).every t y.replica (after_all t d y.script) sound).0 in
        alike_more r y.replica _ (alike_more r (rested r) y.replica (alike_rested r) (alike_write e t (rested r) d)) (alike_held y.replica _ z)

    pub tabled_prepare : (p : Prepare) → IsMessage (frame.Prepare p) → Tabled u start i (on_prepare p t r f)
    unfolding on_prepare naming by
    tabled_prepare p m =
        let op : ℕ = p.entry.header.op in
        let views = x.sound.order.views in
        let now : nat_lt p.view r.view ≡ false → nat_lt r.log_view p.view ≡ false → r.view ≡ p.view = λ a b. let c = ltb-false p.view r.view a in let d = ltb-false r.log_view p.view b in omega arith in
        let may : not (is_from_primary p.version p.entry.header.cluster p.replica p.view r) ≡ false → nat_lt r.log_view p.view ≡ false → nat_le op r.checkpoint ≡ false → nat_lt (r.checkpoint + 64) op ≡ false
        → MayStore p.entry (rested r) =
        λ a b c d. may_store_prepare p r m (group_of_primary p.version p.entry.header.cluster p.replica p.view r a) (ltb-false r.log_view p.view b) (leb-false op r.checkpoint c) (ltb-false (r.checkpoint + 64) op d) in
        let rests = held (change rested) stays_rested in
        by_rows (λ y. Tabled u start i (obey_prepare t.hash p y t r f)) (prepare_table t.hash p r) (
          λ c. idle,
          λ n0. (
            λ c. idle,
            λ n1. (
              λ c. held (ask_view p.view p.replica) (stays_says _),
              λ n2. (
                λ c. held (change rested ⨾ learn p.commit) (stays_then (change rested) (learn p.commit) stays_rested (stays_learn p.commit)),
                λ n3. (
                  λ c. rests,
                  λ n4. (
                    λ c. backup r _ tables (not_primary p.version p.entry.header.cluster p.replica p.view r n0 (now n1 n2)) (alike_known p.entry p.commit (may n0 n2 n3 n4)),
                    λ n5. (
                      λ c. backup r _ tables (not_primary p.version p.entry.header.cluster p.replica p.view r n0 (now n1 n2)) (alike_next p.entry p.commit (may n0 n2 n3 n4)),
                      λ n6. (
                        λ c. held (change rested ⨾ ask_view p.view p.replica ⨾ learn p.commit) (stays_then (change rested) _ stays_rested (stays_then (ask_view p.view p.replica) (learn p.commit) (stays_says _) (stays_learn p.commit))),
                        λ n7. (λ c. rests, λ n8. idle),
                      ),
                    ),
                  ),
                ),
              ),
            ),
          ),
        )

    -- ---- prepare_oks and commits (rules 15 to 18)

    sound_acknowledged : (a : PrepareOk) → IsSound (acknowledged a r)
    unfolding change
    sound_acknowledged a = ((keeps_acknowledged a).every t r f x.sound).kept.sound

    pub tabled_prepare_ok : (a : PrepareOk) → WasSent u start.sent (frame.PrepareOk a) → Tabled u start i (on_prepare_ok a t r f)
    unfolding on_prepare_ok naming by
    tabled_prepare_ok a sent =
        by_rows (λ z. Tabled u start i (obey_prepare_ok a z t r f)) (prepare_ok_table t.hash a r) (
          λ c. idle,
          λ n0. (
            λ c.
                let from = and_parts (is_for a.version a.cluster r) _ (not-false (is_from a.version a.cluster a.replica r) n0) in
                let sender = ltb-true a.replica r.n (and_parts (nat_lt a.replica r.n) _ from.1).0 in
                let size_is = x.size in
                let p = and_parts (leads r) _ c in
                let q = and_parts (a.view == r.view) _ p.1 in
                let b = and_parts (nat_lt r.commit a.op) _ q.1 in
                let d = and_parts (nat_le a.op (head r)) _ b.1 in
                let view = eqb-true a.view r.view q.0 in
                let vouched : HasVouchedAt u start r.view a.op a.replica = (sent.0, inl (subst (λ v. In (machine.Prepare_ok a.replica v a.op sent.0) start.sent) view sent.2)) in
                let counted = tables_acknowledged u start i a r x.sound tables p.0 (ltb-true r.commit a.op b.0) (leb-true a.op (head r) d.0) (omega arith, vouched) in
                tabled_change_then u start i (acknowledged a) advance t r f (λ e. tabled_stays u start i advance t (acknowledged a r) e stays_advance (sound_acknowledged a) counted),
            λ n1. idle,
          ),
        )

    pub tabled_commit : (c : Commit) → Tabled u start i (on_commit c t r f)
    unfolding on_commit by
    tabled_commit c =
        by_rows (λ z. Tabled u start i (obey_commit c z t r f)) (commit_table c r) (
          λ a. idle,
          λ n0. (
            λ a. idle,
            λ n1. (
              λ a. held (ask_view c.view c.replica) (stays_says _),
              λ n2. (
                λ a. held (change rested ⨾ by (λ r. when (nat_lt (head r) c.head) (ask_view c.view c.replica)) ⨾ learn c.commit)
                    (stays_then (change rested) _ stays_rested (stays_then (by (λ r. when (nat_lt (head r) c.head) (ask_view c.view c.replica))) (learn c.commit) (stays_by _ (λ r. stays_when (nat_lt (head r) c.head) _ (stays_says _))) (stays_learn c.commit))),
                λ n3. idle,
              ),
            ),
          ),
        )

    -- ---- views (rules 19 to 26)

    hears : (sender : ℕ) (q : Replica) (d : F) → Enters u start i q → Tabled u start i ((change (heard_of sender) ⨾ speak) t q d)
    hears sender q d y =
        tabled_change_then u start i (heard_of sender) speak t q d (λ e. tabled_speak u start i t (heard_of sender q) e
        (record { sound = sound_alike q (heard_of sender q) refl y.sound; place = y.place; size = y.size; lower = y.lower; stated = y.stated; unmade = y.unmade }))

    pub tabled_start_view_change : (c : StartViewChange) → IsMessage (frame.StartViewChange c) → Tabled u start i (on_start_view_change c t r f)
    unfolding on_start_view_change by
    tabled_start_view_change c m =
        let views = x.sound.order.views in
        by_rows (λ z. Tabled u start i (obey_start_view_change c z t r f)) (start_view_change_table c r) (
          λ a. idle,
          λ n0. (
            λ a. idle,
            λ n1. (
              λ a.
                  let top = m.form in
                  let later = ltb-true r.view c.view a in
                  let low : nat_lt last_view c.view ≡ false = le-ltb last_view c.view (omega arith) in
                  tabled_enter_then u start i c.view _ t r f low (λ d. hears c.replica (with_saved (entered c.view r)) d (entered_so u start i c.view r l x later)),
              λ n2. (
                λ a.
                    let b = and_parts (not (is_started r)) _ a in
                    let apart = eqb-false r.view r.log_view (not-true (is_started r) b.0) in
                    hears c.replica r f (started_so u start i r l x tables.stated (omega arith)),
                λ n3. (λ a. held (tell_view c.replica) (stays_says _), λ n4. idle),
              ),
            ),
          ),
        )

    states : (d : DoViewChange) (q : Replica) (e : F) → Enters u start i q → IsStated (version q) q.cluster q.view d.statement → In (Do_view_change d.replica q.view (statement_told d.statement)) start.sent
        → Tabled u start i ((change (with_statement d.replica d.statement) ⨾ try) t q e)
    states d q e y is new =
        tabled_change_then u start i (with_statement d.replica d.statement) try t q e (λ g. tabled_try u start i t (with_statement d.replica d.statement q) g
        (record { sound = (kept_statement d.replica d.statement q y.sound is).sound; place = y.place; size = y.size; lower = y.lower; stated = with_statement_told u start i d q y.stated new; unmade = y.unmade }))

    entered_stated : (d : DoViewChange) → IsStated (version r) r.cluster d.view d.statement → IsStated (version (with_saved (entered d.view r))) (with_saved (entered d.view r)).cluster (with_saved (entered d.view r)).view d.statement
    unfolding entered value_of
    entered_stated d is = is

    entered_sent : (d : DoViewChange) → WasSent u start.sent (frame.DoViewChange d) → In (Do_view_change d.replica (with_saved (entered d.view r)).view (statement_told d.statement)) start.sent
    unfolding entered
    entered_sent d sent = sent

    -- the view is entered first, where it is later
    states_in : (d : DoViewChange) (b : Bool) → nat_lt r.view d.view ≡ b → r.view ≤ d.view → (d.view ≡ r.view → r.log_view < r.view) → nat_lt last_view d.view ≡ false → IsStated (version r) r.cluster d.view d.statement
        → WasSent u start.sent (frame.DoViewChange d) → Tabled u start i ((when b (enter d.view) ⨾ change (with_statement d.replica d.statement) ⨾ try) t r f)
    states_in d true e up apart low is sent =
        tabled_enter_then u start i d.view _ t r f low (λ g. states d (with_saved (entered d.view r)) g (entered_so u start i d.view r l x (ltb-true r.view d.view e)) (entered_stated d is) (entered_sent d sent))
    states_in d false e up apart low is sent =
        let below = ltb-false r.view d.view e in
        let same : d.view ≡ r.view = omega arith in
        tabled_quiet_then u start i _ t r f (λ g. states d r g (started_so u start i r l x tables.stated (apart same)) (rw (← same) is) (rw (← same) sent))

    stated_then : (d : DoViewChange) → r.view ≤ d.view → (d.view ≡ r.view → r.log_view < r.view) → nat_lt last_view d.view ≡ false → IsStated (version r) r.cluster d.view d.statement → WasSent u start.sent (frame.DoViewChange d)
        → Tabled u start i ((by (λ r. when (nat_lt r.view d.view) (enter d.view)) ⨾ change (with_statement d.replica d.statement) ⨾ try) t r f)
    unfolding by ◌⨾◌
    stated_then d up apart low is sent = states_in d (nat_lt r.view d.view) refl up apart low is sent

    below_view : (d : DoViewChange) → d.view ≡ r.view → ((d.view == r.view) && is_started r) ≡ false → r.log_view < r.view
    below_view d same e =
        let views = x.sound.order.views in
        let here : (d.view == r.view) ≡ true = eq-eqb d.view r.view same in
        let apart = eqb-false r.view r.log_view (sym (ap (λ b. b && is_started r) here) ∙ e) in
        omega arith

    pub tabled_do_view_change : (d : DoViewChange) → IsMessage (frame.DoViewChange d) → WasSent u start.sent (frame.DoViewChange d) → Tabled u start i (on_do_view_change d t r f)
    unfolding on_do_view_change by
    tabled_do_view_change d m sent =
        let views = x.sound.order.views in
        by_rows (λ z. Tabled u start i (obey_do_view_change d z t r f)) (do_view_change_table d r) (
          λ a. idle,
          λ n0. (
            λ a. idle,
            λ n1. (
              λ a. held (tell_view d.replica) (stays_says _),
              λ n2. (
                λ a.
                    let form = m.form in
                    let top = form.view in
                    let older = form.log_view in
                    let o = or_parts (nat_lt d.view r.view) _ n1 in
                    let up = ltb-false d.view r.view o.0 in
                    let low : nat_lt last_view d.view ≡ false = le-ltb last_view d.view (omega arith) in
                    let group = group_of d.version d.cluster d.replica r (not-false _ n0) in
                    let is : IsStated (version r) r.cluster d.view d.statement = rw (← group.0, ← group.1) (record { statement = form.statement; values = m.body; view = omega arith }) in
                    stated_then d up (λ same. below_view d same n2) low is sent,
                λ n3. idle,
              ),
            ),
          ),
        )

    pub tabled_start_view : (v : StartView) → IsMessage (frame.StartView v) → Tabled u start i (on_start_view v t r f)
    unfolding on_start_view naming by
    tabled_start_view v m =
        by_rows (λ z. Tabled u start i (obey_start_view t.hash v z t r f)) (start_view_table t.hash v r) (
          λ a. idle,
          λ n0. (
            λ a.
                let log = told_log v r m (group_of_primary v.version v.cluster v.replica v.view r n0) in
                let p = and_parts (may_take t.hash (log_of v) r) (not (r.index == v.view % r.n)) a in
                let may = may_take_is t.hash (log_of v) r p.0 in
                let apart = eqb-false r.index (v.view % r.n) (not-true _ p.1) in
                let q : Replica = with_saved (taken (log_of v) r) in
                let w = taken_views (log_of v) r x.sound log may in
                let sound = saved_sound (taken (log_of v) r) (kept_taken (log_of v) r x.sound log may).sound in
                let unled : leads q ≡ true → ⊥ = λ l. let own = (leads_is q l).1 in apart (sym w.2 ∙ (own ∙ (ap (λ k. k % q.n) w.0 ∙ ap (λ k. v.view % k) w.3))) in
                let none = tallies_unled u start i start q unled (λ j z e. absurd (none_stated r.n j z (sym (ap (λ (ys : List (Option Statement)). get_or ys j None) (taken_statements (log_of v) r)) ∙ e))) in
                tabled_take_then u start i (log_of v) _ t r f (λ d. tabled_stays u start i _ t q d
                (stays_then (by (λ r. each (acknowledge_stored t.hash) (ops r.commit v.head))) apply (stays_by _ (λ r. stays_each (acknowledge_stored t.hash) (ops r.commit v.head) (stays_acknowledge t.hash))) stays_apply) sound none),
            λ n1. (λ a. held (says (λ r. send_to v.replica (get_sync v.view r) r)) (stays_says _), λ n2. idle),
          ),
        )

    -- ---- checkpoints of others (rules 36 and 37)

    pub tabled_get_sync : (g : GetSync) → Tabled u start i (on_get_sync g t r f)
    unfolding on_get_sync by
    tabled_get_sync g =
        by_rows (λ z. Tabled u start i (obey_get_sync g z t r f)) (get_sync_table g r) (λ a. idle, λ n0. (λ a. held (says (λ r. send_to g.replica (sync_view r) r)) (stays_says _), λ n1. idle))

    pub tabled_sync_view : (v : SyncView) → IsMessage (frame.SyncView v) → Tabled u start i (on_sync_view v t r f)
    unfolding on_sync_view naming by
    tabled_sync_view v m =
        by_rows (λ z. Tabled u start i (obey_sync_view t.hash v z t r f)) (sync_view_table t.hash v r) (
          λ a. idle,
          λ n0. (
            λ a.
                let told = told_sync v r m (group_of_primary v.version v.cluster v.replica v.view r n0) in
                let p = and_parts (may_jump t.hash v r) (not (r.index == v.view % r.n)) a in
                let may = may_jump_is t.hash v r p.0 in
                let apart = eqb-false r.index (v.view % r.n) (not-true _ p.1) in
                let q : Replica = with_saved (jumped v r) in
                let w = jumped_views v r x.sound told may in
                let sound = saved_sound (jumped v r) (kept_jumped v r x.sound told may).sound in
                let unled : leads q ≡ true → ⊥ = λ l. let own = (leads_is q l).1 in apart (sym w.2 ∙ (own ∙ (ap (λ k. k % q.n) w.0 ∙ ap (λ k. v.view % k) w.3))) in
                let none = tallies_unled u start i start q unled (λ j z e. absurd (none_stated r.n j z (sym (ap (λ (ys : List (Option Statement)). get_or ys j None) (jumped_statements v r)) ∙ e))) in
                tabled_jump_then u start i v _ t r f (λ d. tabled_stays u start i _ t q d
                (stays_then (by (λ r. each (acknowledge_stored t.hash) (ops r.commit v.head))) apply (stays_by _ (λ r. stays_each (acknowledge_stored t.hash) (ops r.commit v.head) (stays_acknowledge t.hash))) stays_apply) sound none),
            λ n1. idle,
          ),
        )

    -- ---- repairs (rules 27 to 31)

    pub tabled_get_view : (g : GetView) → Tabled u start i (on_get_view g t r f)
    unfolding on_get_view by
    tabled_get_view g = by_rows (λ z. Tabled u start i (obey_get_view g z t r f)) (get_view_table g r) (λ a. idle, λ n0. (λ a. held (tell_view g.replica) (stays_says _), λ n1. idle))

    pub tabled_get_prepare : (g : GetPrepare) → Tabled u start i (on_get_prepare g t r f)
    unfolding on_get_prepare naming by
    tabled_get_prepare g =
        by_rows (λ z. Tabled u start i (obey_get_prepare g z t r f)) (get_prepare_table t.hash g r) (
          λ a. idle,
          λ n0. (λ a. tabled_held u start i r _ tables (holds_entry g.op (λ e r. send_to g.replica (give_prepare e r) r) t r f x.sound), λ n1. idle),
        )

    written : (e : Whole) (d : F) → (write e t r d).replica ≡ stored e r
    unfolding write does change ◌⨾◌
    written e d = refl

    repaired : (e : Whole) (b : Bool) → leads r ≡ b → MayStore e r → (d : F) → Tabled u start i ((resend e ⨾ apply) t (stored e r) d)
    repaired e true lead may d = tabled_repaired u start i e r x.sound may tables lead t d x.place x.size
    repaired e false lead may d =
        let q : Replica = stored e r in
        let unled : leads q ≡ true → ⊥ = λ y. true≢false (sym y ∙ (leads_alike r q (alike_stored e r) ∙ lead)) in
        let none = tallies_unled u start i start q unled (λ j z is. subst (λ v. In (Do_view_change j v (statement_told z)) start.sent) (sym (alike_stored e r).view)
        (tables.stated j z (sym (ap (λ (ys : List (Option Statement)). get_or ys j None) (alike_stored e r).statements) ∙ is))) in
        tabled_stays u start i (resend e ⨾ apply) t q d (stays_then (resend e) apply (stays_resend e) stays_apply) (kept_stored e r x.sound may).sound none

    pub tabled_give_prepare : (g : GivePrepare) → Tabled u start i (on_give_prepare g t r f)
    unfolding on_give_prepare by
    tabled_give_prepare g =
        let e = g.entry in
        let op : ℕ = e.header.op in
        by_rows (λ z. Tabled u start i (obey_give_prepare g z t r f)) (give_prepare_table g r) (
          λ a. idle,
          λ n0. (
            λ a.
                let p = and_parts (nat_lt r.checkpoint op) _ a in
                let c = and_parts (is_known e.header op r) _ p.1 in
                let may = may_store_given e r x.sound (ltb-true r.checkpoint op p.0) c.0 in
                tabled_after u start i (write e) (resend e ⨾ apply) t r f (λ d. subst (λ q. Tabled u start i ((resend e ⨾ apply) t q d)) (sym (written e f)) (repaired e (leads r) refl may d)),
            λ n1. idle,
          ),
        )

    sound_put : (name : Name) (block : List ℕ) → r.missing ≢ [] → IsSound (put_block name block t r f).replica
    unfolding put_block
    sound_put name block some =
        let k = kept_without name r x.sound in
        (kept_does_then _ _ t r f (λ d.
        kept_change_then (without name) _ t r d k (λ e.
        kept_by _ t (without name r) e (kept_when (is_loaded (without name r)) load t (without name r) e k.sound (λ c. kept_load t (without name r) e k.sound (x.sound.waits some)))))).kept.sound

    put_tabled : (block : List ℕ) (p : Name → Bool) (o : Option Name) → find p r.missing ≡ o → Tabled u start i (put_found block o t r f)
    put_tabled block p None e = idle
    put_tabled block p (Some name) e =
        let sound = sound_put name block (λ n. let no_name : None ≡ Some name = rw n at e in absurd cc) in
        tabled_then_stays u start i (put_block name block) apply t r f (tabled_held u start i r _ tables (holds_put name block t r f)) sound stays_apply

    pub tabled_give_block : (g : GiveBlock) → Tabled u start i (on_give_block g t r f)
    unfolding on_give_block reading by
    tabled_give_block g =
        let is_block = test_of t f in
        by_rows (λ z. Tabled u start i (obey_give_block is_block g z t r f)) (give_block_table is_block g r) (
          λ a. idle,
          λ n0. (λ a. put_tabled g.block (is_wanted is_block g) (find (is_wanted is_block g) r.missing) refl, λ n1. (λ a. held (mend_found g.block (find (is_wanted is_block g) r.worn)) (stays_mend_found g.block _), λ n2. idle)),
        )

    give_tabled : (g : GetBlock) (o : Option (List ℕ)) → Tabled u start i (give_read g o t r f)
    give_tabled g None = idle
    give_tabled g (Some block) = held (says (λ r. send_to g.replica (give_block g.address block r) r)) (stays_says _)

    pub tabled_get_block : (g : GetBlock) → Tabled u start i (on_get_block g t r f)
    unfolding on_get_block reading by
    tabled_get_block g =
        let block = block_at (asked_block g) t f in
        by_rows (λ z. Tabled u start i (obey_get_block g block z t r f)) (get_block_table (is_some block) g r) (λ a. idle, λ n0. (λ a. give_tabled g block, λ n1. idle))

    -- ---- ticks (rules 32 to 34)

    enters : (v : ℕ) (q : Replica) (d : F) → Mid u start i q l start → Tallies u start i q → q.view < v → Tabled u start i (enter v t q d)
    enters v q d y so later =
        elim (nat_lt last_view v) as (λ b. nat_lt last_view v ≡ b → Tabled u start i (enter v t q d)) [
          | true ↦ λ e. tabled_held u start i q (enter v t q d) so (subst (Holds q) (sym (enter_rests v t q d e)) (holds_rested q))
          | false ↦ λ e. tabled_entered u start i (with_saved (entered v q)) (enter v t q d) (enter_is v t q d e) (entered_so u start i v q l y later)
        ] refl

    pub next : (q : Replica) (d : F) → Mid u start i q l start → Tallies u start i q → Tabled u start i (next_view t q d)
    unfolding by
    next q d y so = enters (q.view + 1) q d y so (omega arith)

    pub idle_tables : Tallies u start i (idler r)
    idle_tables = tables_hold u start start i r (idler r) (holds_idler r) refl (λ m j. j) tables

    speaks_looks : (q : Replica) (d : F) → Enters u start i q → Tabled u start i ((speak ⨾ visit ⨾ ask) t q d)
    speaks_looks q d y = tabled_then_stays u start i speak (visit ⨾ ask) t q d (tabled_speak u start i t q d y) (keeps_speak.every t q d y.sound).kept.sound stays_looks

    pub tabled_tick : Tabled u start i (on_tick t r f)
    unfolding on_tick by
    tabled_tick =
        let y = mid_idler u start i r l start x in
        let views = x.sound.order.views in
        by_rows (λ z. Tabled u start i (obey_tick z t r f)) (tick_table r) (
          λ a. held primary_ticks
              (stays_then (says (send_to_all commit_message)) _ (stays_says _) (stays_then (by (λ r. when (nat_lt r.commit (head r)) (prepare_again (r.commit + 1)))) (visit ⨾ ask) (stays_by _ (λ r. stays_when (nat_lt r.commit (head r)) _ (stays_again (r.commit + 1)))) stays_looks)),
          λ n0. (
            λ a. tabled_change_then u start i idler _ t r f (λ d. tabled_if u start i (nat_le 5 (idler r).idle) next_view (visit ⨾ ask) t (idler r) d (λ b. next (idler r) d y idle_tables) (λ b. tabled_stays u start i (visit ⨾ ask) t (idler r) d stays_looks y.sound idle_tables)),
            λ n1. (
              λ a.
                  let apart = eqb-false r.view r.log_view n1 in
                  let begun = started_so u start i (idler r) l y tables.stated (omega arith) in
                  tabled_change_then u start i idler _ t r f (λ d. tabled_if u start i (nat_le 10 (idler r).idle) next_view (says (send_to_all start_view_change) ⨾ speak ⨾ visit ⨾ ask) t (idler r) d (λ b. next (idler r) d y idle_tables)
                  (λ b. tabled_says_then u start i (send_to_all start_view_change) (speak ⨾ visit ⨾ ask) t (idler r) d (λ e. speaks_looks (idler r) e begun))),
              λ n2. idle,
            ),
          ),
        )

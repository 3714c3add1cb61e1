-- Apply: each commit line, with the reply after it; and the other words, which reply nothing.
use Rattle.std.proofs.Common.{ℕ, suc, ◌+◌, ◌-◌, ◌≡◌, ◌∙◌, arith, refl, sym, ap, subst, Bool, true, false, cond, eqb, List, [], ◌∷◌, ◌++◌, map, length, take, Option, Some, None}
use Rattle.std.specs.Prelude.{slice_get, nat_lt, not, ◌&&◌, ◌==◌}
use Rattle.vr_header.specs.Same.{same_header}
use Rattle.std.proofs.lemmas.Bool.{and_parts, eq-eqb, eqb-true}
use Rattle.std.proofs.lemmas.List.{nil_from_length}
use Rattle.std.proofs.lemmas.Option.{slice_get_within}
use Rattle.vr_header.specs.declared.header.Header.{Header}
use Rattle.vr_header.specs.declared.part.Part.{Part}
use Rattle.vr_header.specs.declared.part.Part.TheVariants.{Here, Lost, Wanted, Unknown, Nothing}
use Rattle.vr_header.specs.Made.{Whole}
use Rattle.vr_state.specs.Folds.{state_after, check, answered, executed, outcome_of, fresh_outcome, answer_at}
use Rattle.vr_state.specs.Folds as state
use Rattle.vr_state.specs.declared.state.State.{State}
use Rattle.vr_ckpt.specs.declared.saving.SavedCheckpoint as checkpoint
use Rattle.vr_state.specs.declared.session.SessionAnswer.{SessionAnswer}
use Rattle.vr_state.specs.declared.session.SessionAnswer.TheVariants as answer
use Rattle.vr_msg.specs.declared.frame.Frame.{Frame}
use Rattle.vr_msg.specs.declared.reply.ReplyFields.{ReplyFields}
use Rattle.vr_msg.specs.declared.statement.Statement.{Statement}
use Rattle.vr_msg.specs.declared.choice.Choice.{Choice}
use Rattle.vr_msg.specs.declared.choice.Choice.TheVariants.{Ends, WaitsAt, TooFew}
use Rattle.vr_msg.specs.Choice.{ops}
use Rattle.vr_ckpt.specs.declared.name.Name.{Name}
use Rattle.vr_state.proofs.Stored.{answer_next, repeat_stored, state_next}
use Rattle.vr_rules.specs.Outputs.{kind_of, replies, asker_of, commit_line, applied_reply, send, send_to, send_to_all, others, to_primary, prepare, prepare_ok, start_view, start_view_change, do_view_change, get_block, get_prepare, wait_line}
use Rattle.vr_rules.specs.Replica.{Replica, is_alone, leads, part_at, with_part, forgetting, last_view, is_primary, is_started, is_here, version}
use Rattle.vr_rules.specs.Steps.{Mend, Rewrite, Say, Setting, Word, ◌⨾◌, quiet, change, does, says, by, reading, when, times, each, outputs, after_all}
use Rattle.vr_rules.specs.Words.{Log, rested, entered, enter, saves, with_saved, save, writes, stored, write, accept, entry_of, lost, or_lost, with_entry, with_entry_at, applied, checkpoints, with_checkpoint, checkpoint_of, make_checkpoint, is_checkpoint, apply_entry, is_loaded, apply_next, apply, advanced, advance, learned, learn, taken, take as take_over, prepare_again, choose_line, begin_view, try_log, may_take, obey_choice, chosen_log, decided, stated, try, speak, resend, turned, ask_peer, ask_for, ask, least_absent, peer, blocks_of, header_read, mend_header, op_of_slot, place_now, visit, visit_block, visit_place, visit_read, visit_slot, with_cursor, with_worn}
use Rattle.law_2_chains.specs.Chains.{Every}
use Rattle.law_2_chains.proofs.Repairs.{every_mapped}
use Rattle.vr_world.specs.Commitment.{IsReplyOf}
use Rattle.law_3_outputs.specs.Answering.{IsMute, IsNumbered, HasState, lines, Lined, Told, Leaves}
use Rattle.law_3_outputs.proofs.Words.{Keeps, FairAt, IsFair, fair_at_then, fair_then, fair_quiet, fair_change, fair_does, fair_says, fair_by, fair_naming, fair_reading, fair_if, fair_when, fair_times, fair_each}

-- ---- changes that leave the state

pub keeps_rested : (r : Replica) → Keeps r (rested r)
keeps_rested r = record { index = refl; applied = refl; state = refl; missing = refl }

keeps_stored : (e : Whole) (r : Replica) → Keeps r (stored e r)
unfolding forgetting with_part
keeps_stored e r = record { index = refl; applied = refl; state = refl; missing = refl }

keeps_lost : (h : Header) (r : Replica) → Keeps r (lost h r)
unfolding with_part
keeps_lost h r = record { index = refl; applied = refl; state = refl; missing = refl }

keeps_checkpoint : (c : checkpoint.SavedCheckpoint) (r : Replica) → Keeps r (with_checkpoint c r)
unfolding with_checkpoint
keeps_checkpoint c r = record { index = refl; applied = refl; state = refl; missing = refl }

keeps_saved : (r : Replica) → Keeps r (with_saved r)
keeps_saved r = record { index = refl; applied = refl; state = refl; missing = refl }

keeps_entered : (v : ℕ) (r : Replica) → Keeps r (entered v r)
unfolding entered
keeps_entered v r = record { index = refl; applied = refl; state = refl; missing = refl }

keeps_taken : (l : Log) (r : Replica) → Keeps r (taken l r)
unfolding taken forgetting
keeps_taken l r = record { index = refl; applied = refl; state = refl; missing = refl }

keeps_advanced : (r : Replica) → Keeps r (advanced r)
unfolding advanced
keeps_advanced r = record { index = refl; applied = refl; state = refl; missing = refl }

keeps_learned : (c : ℕ) (r : Replica) → Keeps r (learned c r)
keeps_learned c r = record { index = refl; applied = refl; state = refl; missing = refl }

keeps_turned : (r : Replica) → Keeps r (turned r)
keeps_turned r = record { index = refl; applied = refl; state = refl; missing = refl }

-- ---- outputs that are mute

pub mute_all_others : (message : Replica → Frame) (r : Replica) → Every IsMute (send_to_all message r)
unfolding send_to_all
mute_all_others message r = every_mapped IsMute (λ to. send to (message r) r) (others r.index r.n) (λ to. tt)

pub mute_one : (to : ℕ) (m : Frame) (r : Replica) → Every IsMute (send_to to m r)
mute_one to m r = (tt, tt)

-- ---- an entry is applied

-- what a reply in applying an entry says: of its request, after the entries before it
applied_says : (log : List Whole) (m lines : ℕ) (e : Whole) (r : ReplyFields) (a : SessionAnswer) → IsNumbered log → slice_get log m ≡ Some e → lines ≡ m + 1 → r.client ≡ e.header.client → r.request ≡ e.header.request
    → check (state_after (take m log)) e ≡ a → IsReplyOf log lines m r (kind_of (answered (state_after (take m log)) e a).reply)
unfolding answered executed
applied_says log m lines e r answer.Fresh numbers at l c q is =
    let s = state_after (take m log) in
    let op = numbers m e at in
    let next : answer_at log (m + 1) ≡ Some (record { client = e.header.client; request = e.header.request; answer = answer.Fresh; outcome = Some (outcome_of s e) }) =
    subst (λ a. answer_at log (m + 1) ≡ Some (record { client = e.header.client; request = e.header.request; answer = a; outcome = fresh_outcome s e a })) is (answer_next log m e at) in
    record { op = (omega (arith, op), omega (arith, op, l)); answer = rw (op, c, q) next }
applied_says log m lines e r (answer.Repeat outcome op) numbers at l c q is =
    let within = slice_get_within log m e at in
    let s = repeat_stored log m e.header.client e.header.request outcome op numbers (omega (arith, within)) is in
    let p = s.op in
    record { op = (p.0, omega (arith, p.1, l)); answer = rw (c, q) s.answer }
applied_says log m lines e r answer.Old numbers at l c q is = rw (c, q) is
applied_says log m lines e r answer.Gap numbers at l c q is = rw (c, q) is
applied_says log m lines e r answer.Evicted numbers at l c q is = rw (c, q) is

says_so : (log : List Whole) (m : ℕ) (e : Whole) (s : State) (r : ReplyFields) → IsNumbered log → slice_get log m ≡ Some e → r.client ≡ e.header.client → r.request ≡ e.header.request → s ≡ state_after (take m log)
    → IsReplyOf log (m + 1) m r (kind_of (state.applied s e).reply)
unfolding state.applied
says_so log m e s r numbers at c q is = rw is (applied_says log m (m + 1) e r (check (state_after (take m log)) e) numbers at refl c q refl)

module _ {F : Type 0} (log : List Whole) (numbers : IsNumbered log) where
  -- an entry's line and reply, and the entry applied
  abbrev lined_entry : Whole → Word F
  lined_entry e s r f = record { replica = applied e r; script = map Say (commit_line e r ++ applied_reply e r) }

  fair_line : (e : Whole) (s : Setting F) (r : Replica) (f : F) → r.missing ≡ [] → FairAt log s r f (lined_entry e)
  unfolding outputs Lined Told lines
  fair_line e s r f none had lined =
      let m = r.applied in
      let i = r.index in
      let at : slice_get log m ≡ Some e = lined.0 in
      let own : eqb i i ≡ true = eq-eqb i i refl in
      let next : m + 1 ≡ suc m = omega arith in
      let state' : HasState log (applied e r) =
      λ n. ap (λ (s : State). (state.applied s e).state) (had none) ∙ (sym (state_next log m e at) ∙ ap (λ k. state_after (take k log)) (sym next)) in
      let back : m + 1 - 1 ≡ m = omega arith in
      let cases : (c : Bool) → leads r ≡ c → (b : Bool) → Leaves log r b (record { replica = applied e r; script = map Say (commit_line e r ++ cond c (replies (asker_of e) (kind_of (state.applied r.state e).reply) r) []) }) = elim [
        | true ↦ λ t b.
            let a : ReplyFields = record { version = version r; cluster = r.cluster; replica = r.index; view = r.view; client = e.header.client; request = e.header.request; request_name = e.header.request_name; kind = kind_of (state.applied r.state e).reply } in
            let so : IsReplyOf log (m + 1) (m + 1 - 1) a a.kind = rw back (says_so log m e r.state a numbers at refl refl (had none)) in
            record { told = rw own (tt, (so, tt)); index = refl; applied = rw own refl; state = state' }
        | false ↦ λ t b. record { told = (tt, tt); index = refl; applied = rw own refl; state = state' }
      ] in
      cases (leads r) refl

  fair_save : IsFair {F = F} log save
  unfolding save outputs
  fair_save = fair_then log (does saves) (change with_saved) (fair_does log saves (λ r. tt)) (fair_change log with_saved keeps_saved)

  fair_checkpoint : IsFair {F = F} log make_checkpoint
  unfolding make_checkpoint outputs
  fair_checkpoint =
      fair_by log _ (λ r. fair_reading log (checkpoint_of r) _ (λ c. fair_then log (does checkpoints) (change (with_checkpoint c) ⨾ save) (fair_does log checkpoints (λ r. tt)) (fair_then log (change (with_checkpoint c)) save (fair_change log (with_checkpoint c) (keeps_checkpoint c)) fair_save)))

  fair_entry : (e : Whole) (s : Setting F) (r : Replica) (f : F) → r.missing ≡ [] → FairAt log s r f (apply_entry e)
  unfolding apply_entry says change ◌⨾◌ after_all
  fair_entry e s r f none =
      let w : Word F = by (λ r. when (is_checkpoint r.applied) make_checkpoint) in
      let h = fair_by log (λ r. when (is_checkpoint r.applied) make_checkpoint) (λ r. fair_when log (is_checkpoint r.applied) make_checkpoint fair_checkpoint) in
      fair_at_then log (lined_entry e) w s r f (fair_line e s r f none) (h.each s (applied e r) (after_all s f (map Say (commit_line e r ++ applied_reply e r))))

  -- a word with a stored entry
  fair_or_lost : (h : Header) (w : Whole → Word F) (o : Option Whole) (s : Setting F) (r : Replica) (f : F) → ((e : Whole) → FairAt log s r f (w e)) → FairAt log s r f (or_lost h w o)
  fair_or_lost h w None s r f k = (fair_change log (lost h) (keeps_lost h)).each s r f
  fair_or_lost h w (Some e) s r f k = k e

  fair_with : (w : Whole → Word F) (p : Part) (s : Setting F) (r : Replica) (f : F) → ((e : Whole) → FairAt log s r f (w e)) → FairAt log s r f (with_entry w p)
  unfolding reading
  fair_with w (Here h) s r f k = fair_or_lost h w (entry_of h s f) s r f k
  fair_with w (Lost h) s r f k = (fair_quiet log).each s r f
  fair_with w (Wanted h) s r f k = (fair_quiet log).each s r f
  fair_with w Unknown s r f k = (fair_quiet log).each s r f
  fair_with w Nothing s r f k = (fair_quiet log).each s r f

  fair_with_at : (op : ℕ) (w : Whole → Word F) (s : Setting F) (r : Replica) (f : F) → ((e : Whole) → FairAt log s r f (w e)) → FairAt log s r f (with_entry_at op w)
  unfolding with_entry_at by
  fair_with_at op w s r f k = fair_with w (part_at r op) s r f k

  pub fair_with_entry : (op : ℕ) (w : Whole → Word F) → ((e : Whole) → IsFair log (w e)) → IsFair log (with_entry_at op w)
  fair_with_entry op w h = record { each = λ s r f. fair_with_at op w s r f (λ e. (h e).each s r f) }

  fair_next : IsFair {F = F} log apply_next
  unfolding apply_next by
  fair_next = record {
    each = λ s r f.
        let go : (b : Bool) → (is_loaded r && nat_lt r.applied r.commit) ≡ b → FairAt log s r f (cond b (with_entry_at (r.applied + 1) apply_entry) quiet) = elim [
          | true ↦ λ t.
              let loaded = eqb-true (length r.missing) 0 (and_parts (is_loaded r) (nat_lt r.applied r.commit) t).0 in
              fair_with_at (r.applied + 1) apply_entry s r f (λ e. fair_entry e s r f (nil_from_length r.missing loaded))
          | false ↦ λ t. (fair_quiet log).each s r f
        ] in
        go (is_loaded r && nat_lt r.applied r.commit) refl;
  }

  pub fair_apply : IsFair {F = F} log apply
  unfolding apply
  fair_apply = fair_by log (λ r. times (r.commit - r.applied) apply_next) (λ r. fair_times log (r.commit - r.applied) apply_next fair_next)

  -- ---- the other words

  pub fair_advance : IsFair {F = F} log advance
  unfolding advance
  fair_advance = fair_then log (change advanced) apply (fair_change log advanced keeps_advanced) fair_apply

  pub fair_learn : (c : ℕ) → IsFair {F = F} log (learn c)
  unfolding learn
  fair_learn c = fair_then log (change (learned c)) apply (fair_change log (learned c) (keeps_learned c)) fair_apply

  pub fair_rested : IsFair {F = F} log (change rested)
  fair_rested = fair_change log rested keeps_rested

  pub fair_sends : (message : Replica → Frame) → IsFair {F = F} log (says (send_to_all message))
  fair_sends message = fair_says log (send_to_all message) (mute_all_others message)

  pub fair_enter : (v : ℕ) → IsFair {F = F} log (enter v)
  unfolding enter
  fair_enter v =
      fair_if log (nat_lt last_view v) (change rested) _ fair_rested
      (fair_then log (change (entered v)) (save ⨾ says (send_to_all start_view_change)) (fair_change log (entered v) (keeps_entered v)) (fair_then log save (says (send_to_all start_view_change)) fair_save (fair_sends start_view_change)))

  pub fair_write : (e : Whole) → IsFair {F = F} log (write e)
  unfolding write outputs
  fair_write e = fair_then log (does (writes e)) (change (stored e)) (fair_does log (writes e) (λ r. tt)) (fair_change log (stored e) (keeps_stored e))

  pub fair_accept : (e : Whole) → IsFair {F = F} log (accept e)
  unfolding accept
  fair_accept e = fair_by log (λ r. when (not (is_here (part_at r e.header.op))) (write e)) (λ r. fair_when log (not (is_here (part_at r e.header.op))) (write e) (fair_write e))

  pub fair_take : (l : Log) → IsFair {F = F} log (take_over l)
  unfolding take_over
  fair_take l = fair_then log (change (taken l)) save (fair_change log (taken l) (keeps_taken l)) fair_save

  pub fair_again : (op : ℕ) → IsFair {F = F} log (prepare_again op)
  unfolding prepare_again
  fair_again op = fair_with_entry op _ (λ e. fair_sends (prepare e))

  fair_begin : (ss : List Statement) (l : Log) → IsFair {F = F} log (begin_view ss l)
  unfolding begin_view
  fair_begin ss l =
      fair_then log (says (choose_line ss l)) _ (fair_says log (choose_line ss l) (λ r. (tt, tt)))
      (fair_then log (take_over l) _ (fair_take l)
      (fair_then log (says (send_to_all start_view)) _ (fair_sends start_view)
      (fair_then log (by (λ r. each prepare_again (ops r.commit l.head))) _ (fair_by log _ (λ r. fair_each log prepare_again (ops r.commit l.head) fair_again))
      (fair_by log _ (λ r. fair_if log (is_alone r) advance apply fair_advance fair_apply)))))

  fair_try_log : (ss : List Statement) (l : Log) → IsFair {F = F} log (try_log ss l)
  unfolding try_log
  fair_try_log ss l = fair_naming log _ (λ hash. fair_by log _ (λ r. fair_if log (may_take hash l r) (begin_view ss l) (says (wait_line l.head)) (fair_begin ss l) (fair_says log (wait_line l.head) (λ r. (tt, tt)))))

  fair_choice : (ss : List Statement) (c : Choice) → IsFair {F = F} log (obey_choice ss c)
  fair_choice ss TooFew = fair_quiet log
  fair_choice ss (WaitsAt op) = fair_says log (wait_line op) (λ r. (tt, tt))
  fair_choice ss (Ends headers) = fair_by log _ (λ r. fair_try_log ss (chosen_log r ss headers))

  pub fair_try : IsFair {F = F} log try
  unfolding try
  fair_try = fair_by log _ (λ r. fair_when log (is_primary r && not (is_started r)) (obey_choice (stated r) (decided r)) (fair_choice (stated r) (decided r)))

  pub fair_speak : IsFair {F = F} log speak
  unfolding speak
  fair_speak = fair_by log _ (λ r. fair_when log _ _ (fair_if log (is_primary r) try (says (to_primary do_view_change)) fair_try (fair_says log (to_primary do_view_change) (λ r. (tt, tt)))))

  pub fair_resend : (e : Whole) → IsFair {F = F} log (resend e)
  unfolding resend
  fair_resend e =
      fair_naming log _ (λ hash. fair_by log _ (λ r. fair_when log _ _ (fair_if log (is_primary r) _ _ (fair_sends (prepare e)) (fair_says log (to_primary (prepare_ok hash e.header)) (λ r. (tt, tt))))))

  fair_ask_peer : (message : Replica → Frame) → IsFair {F = F} log (ask_peer message)
  unfolding ask_peer
  fair_ask_peer message = fair_then log (says (λ r. send_to (peer r) (message r) r)) (change turned) (fair_says log _ (λ r. (tt, tt))) (fair_change log turned keeps_turned)

  fair_ask_for : (names : List Name) (absent : Option Header) (worn : List Name) → IsFair {F = F} log (ask_for names absent worn)
  fair_ask_for (name ∷ names) absent worn = fair_ask_peer (get_block name)
  fair_ask_for [] (Some h) worn = fair_naming log _ (λ hash. fair_ask_peer (get_prepare hash h))
  fair_ask_for [] None (name ∷ names) = fair_ask_peer (get_block name)
  fair_ask_for [] None [] = fair_quiet log

  pub fair_ask : IsFair {F = F} log ask
  unfolding ask
  fair_ask = fair_by log _ (λ r. fair_when log (not (is_alone r)) _ (fair_ask_for r.missing (least_absent r) r.worn))

  -- ---- a visit

  fair_mend_header : (h : Header) (o : Option Header) → IsFair {F = F} log (mend_header h o)
  unfolding outputs
  fair_mend_header h None = fair_does log (λ r. Rewrite h) (λ r. tt)
  fair_mend_header h (Some d) = fair_when log (not (same_header d h)) _ (fair_does log (λ r. Rewrite h) (λ r. tt))

  fair_visit_slot : (op : ℕ) → IsFair {F = F} log (visit_slot op)
  unfolding visit_slot
  fair_visit_slot op = fair_with_entry op _ (λ e. fair_reading log (header_read op) _ (fair_mend_header e.header))

  fair_visit_read : (name : Name) (o : Option (List ℕ)) → IsFair {F = F} log (visit_read name o)
  fair_visit_read name None = fair_change log (with_worn name) (λ r. record { index = refl; applied = refl; state = refl; missing = refl })
  fair_visit_read name (Some block) = fair_quiet log

  fair_visit_block : (o : Option Name) → IsFair {F = F} log (visit_block o)
  unfolding visit_block
  fair_visit_block None = fair_quiet log
  fair_visit_block (Some name) = fair_reading log _ _ (fair_visit_read name)

  fair_visit_place : (at : ℕ) → IsFair {F = F} log (visit_place at)
  unfolding visit_place outputs
  fair_visit_place at =
      fair_by log _ (λ r. fair_if log (nat_lt at 64) _ _ (fair_visit_slot (op_of_slot r at)) (fair_if log (at == 64) _ _ (fair_does log (λ r. Mend r.saved) (λ r. tt)) (fair_visit_block (slice_get (blocks_of r) (at - 65)))))

  fair_visit : IsFair {F = F} log visit
  unfolding visit
  fair_visit =
      fair_by log _ (λ r. fair_when log (is_loaded r) _ (fair_then log (visit_place (place_now r)) (change (with_cursor (place_now r))) (fair_visit_place (place_now r))
      (fair_change log (with_cursor (place_now r)) (λ q. record { index = refl; applied = refl; state = refl; missing = refl }))))

  -- and then a peer is asked
  pub fair_looks : IsFair {F = F} log (visit ⨾ ask)
  fair_looks = fair_then log visit ask fair_visit fair_ask

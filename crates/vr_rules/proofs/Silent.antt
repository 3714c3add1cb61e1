-- The rules that say nothing do nothing.
use Rattle.std.proofs.Common.{arith, ◌≡◌, refl, ap, Bool, true, false, not, ◌||◌, cond, [], ◌∷◌, is_some}
use Rattle.vr_msg.specs.declared.event.Event.{Event}
use Rattle.vr_msg.specs.declared.event.Event.TheVariants as event
use Rattle.vr_msg.specs.declared.frame.Frame.{Frame}
use Rattle.vr_msg.specs.declared.frame.Frame.TheVariants as frame
use Rattle.vr_msg.specs.declared.frame.Prepare.{Prepare}
use Rattle.vr_rules.specs.Replica.{Replica, is_frozen}
use Rattle.vr_rules.specs.Steps.{Setting, Word, quiet, change, by, naming, reading}
use Rattle.vr_rules.specs.Words.{rested}
use Rattle.vr_rules.specs.Deciding.{Table, Hash, request_table, prepare_table, prepare_ok_table, commit_table, start_view_change_table, do_view_change_table, start_view_table, get_view_table, get_prepare_table, give_prepare_table, get_block_table, give_block_table, get_sync_table, sync_view_table, tick_table}
use Rattle.vr_rules.specs.declared.rule.Rule.{Rule}
use Rattle.vr_rules.specs.declared.rule.Rule.TheVariants.{Ignored, InFlight, PreparedBefore, Beyond, Other, CommitBefore, ChangeBefore, StatedBefore}
use Rattle.vr_rules.specs.Deciding.{first_of as first_row}
use Rattle.vr_rules.specs.Rules.{asked_block, obey_request, obey_prepare, obey_prepare_ok, obey_commit, obey_start_view_change, obey_do_view_change, obey_start_view, obey_get_view, obey_get_prepare, obey_give_prepare, obey_get_block, obey_give_block, obey_get_sync, obey_sync_view, obey_tick, on_request, on_prepare, on_prepare_ok, on_commit, on_start_view_change, on_do_view_change, on_start_view, on_get_view, on_get_prepare, on_give_prepare, on_get_block, on_give_block, on_get_sync, on_sync_view, on_tick, on_message, on_event, react, message_rule, event_rule, rule_for}
use Rattle.vr_rules.specs.Laws.{SaysNothing, NothingIsDone, OnlyHears, OnlyHearingIsDone}

module _ {F : Type 0} where
  silent : (obey : Rule → Word F) → obey Ignored ≡ quiet → obey InFlight ≡ quiet → obey PreparedBefore ≡ quiet → obey CommitBefore ≡ quiet → obey ChangeBefore ≡ quiet
      → obey StatedBefore ≡ quiet → (rule : Rule) → SaysNothing rule → obey rule ≡ quiet
  silent obey a b c d e f Ignored h = a
  silent obey a b c d e f InFlight h = b
  silent obey a b c d e f PreparedBefore h = c
  silent obey a b c d e f CommitBefore h = d
  silent obey a b c d e f ChangeBefore h = e
  silent obey a b c d e f StatedBefore h = f
  silent obey a b c d e f _ h = absurd h

  silent_here : (obey : Rule → Word F) (rule : Rule) (s : Setting F) (r : Replica) (f : F)
      → obey Ignored ≡ quiet → obey InFlight ≡ quiet → obey PreparedBefore ≡ quiet → obey CommitBefore ≡ quiet → obey ChangeBefore ≡ quiet → obey StatedBefore ≡ quiet
      → SaysNothing rule → obey rule s r f ≡ record { replica = r; script = [] }
  unfolding quiet
  silent_here obey rule s r f a b c d e g h = ap (λ (w : Word F). w s r f) (silent obey a b c d e g rule h)

  silent_message : (m : Frame) (s : Setting F) (r : Replica) (f : F) → SaysNothing (message_rule s f r m) → on_message m s r f ≡ record { replica = r; script = [] }
  unfolding on_request on_prepare on_prepare_ok on_commit on_start_view_change on_do_view_change on_start_view on_get_view on_get_prepare on_give_prepare on_get_block on_give_block on_get_sync on_sync_view by naming reading quiet
  silent_message (frame.Request q) s r f h = silent_here (obey_request s.hash q) (first_row (request_table q r)) s r f refl refl refl refl refl refl h
  silent_message (frame.Reply a) s r f h = refl
  silent_message (frame.Prepare p) s r f h = silent_here (obey_prepare s.hash p) (first_row (prepare_table s.hash p r)) s r f refl refl refl refl refl refl h
  silent_message (frame.PrepareOk a) s r f h = silent_here (obey_prepare_ok a) (first_row (prepare_ok_table s.hash a r)) s r f refl refl refl refl refl refl h
  silent_message (frame.Commit c) s r f h = silent_here (obey_commit c) (first_row (commit_table c r)) s r f refl refl refl refl refl refl h
  silent_message (frame.StartViewChange c) s r f h = silent_here (obey_start_view_change c) (first_row (start_view_change_table c r)) s r f refl refl refl refl refl refl h
  silent_message (frame.DoViewChange d) s r f h = silent_here (obey_do_view_change d) (first_row (do_view_change_table d r)) s r f refl refl refl refl refl refl h
  silent_message (frame.StartView v) s r f h = silent_here (obey_start_view s.hash v) (first_row (start_view_table s.hash v r)) s r f refl refl refl refl refl refl h
  silent_message (frame.GetView g) s r f h = silent_here (obey_get_view g) (first_row (get_view_table g r)) s r f refl refl refl refl refl refl h
  silent_message (frame.GetPrepare g) s r f h = silent_here (obey_get_prepare g) (first_row (get_prepare_table s.hash g r)) s r f refl refl refl refl refl refl h
  silent_message (frame.GivePrepare g) s r f h = silent_here (obey_give_prepare g) (first_row (give_prepare_table g r)) s r f refl refl refl refl refl refl h
  silent_message (frame.GetBlock g) s r f h =
      silent_here (obey_get_block g (s.block f (asked_block g))) (first_row (get_block_table (is_some (s.block f (asked_block g))) g r)) s r f refl refl refl refl refl refl h
  silent_message (frame.GiveBlock g) s r f h =
      silent_here (obey_give_block s.is_block g) (first_row (give_block_table s.is_block g r)) s r f refl refl refl refl refl refl h
  silent_message (frame.GetSync g) s r f h = silent_here (obey_get_sync g) (first_row (get_sync_table g r)) s r f refl refl refl refl refl refl h
  silent_message (frame.SyncView v) s r f h = silent_here (obey_sync_view s.hash v) (first_row (sync_view_table s.hash v r)) s r f refl refl refl refl refl refl h

  silent_event : (e : Event) (s : Setting F) (r : Replica) (f : F) → SaysNothing (event_rule s f r e) → on_event e s r f ≡ record { replica = r; script = [] }
  unfolding on_request on_tick by naming quiet
  silent_event (event.Request q) s r f h = silent_here (obey_request s.hash q) (first_row (request_table q r)) s r f refl refl refl refl refl refl h
  silent_event (event.Deliver m) s r f h = silent_message m s r f h
  silent_event event.Tick s r f h = silent_here obey_tick (first_row (tick_table r)) s r f refl refl refl refl refl refl h

  pub nothing_is_done : NothingIsDone F
  unfolding react rule_for by quiet
  nothing_is_done s f r e h =
      elim (is_frozen r) as (λ b. SaysNothing (cond b Ignored (event_rule s f r e)) → (cond (not b) (on_event e) quiet) s r f ≡ record { replica = r; script = [] }) [
        | true ↦ λ _. refl
        | false ↦ λ k. silent_event e s r f k
      ] h

-- ---- the two rules that only end the idle time are a prepare's

only_hears : Rule → Bool
only_hears Beyond = true
only_hears Other = true
only_hears _ = false

it_hears : (rule : Rule) → OnlyHears rule → only_hears rule ≡ true
unfolding only_hears
it_hears Beyond h = refl
it_hears Other h = refl
it_hears _ h = absurd h

one_hears : Table → Bool
one_hears [] = false
one_hears (row ∷ rows) = only_hears row.1 || one_hears rows

none_hears : (rows : Table) → one_hears rows ≡ false → OnlyHears (first_row rows) → ⊥
unfolding first_row one_hears
none_hears [] e h = h
none_hears (row ∷ rows) e h =
    elim (row.0) as (λ b. OnlyHears (cond b row.1 (first_row rows)) → ⊥) [
      | true ↦ λ k. let t = it_hears row.1 k in absurd (grind (arith, t, e))
      | false ↦ λ k. none_hears rows (grind (arith, e)) k
    ] h

module _ {F : Type 0} where
  prepare_hears : (hash : Hash) (p : Prepare) (rule : Rule) → OnlyHears rule → obey_prepare {F = F} hash p rule ≡ change rested
  prepare_hears hash p Beyond h = refl
  prepare_hears hash p Other h = refl
  prepare_hears hash p _ h = absurd h

  hears_message : (m : Frame) (s : Setting F) (r : Replica) (f : F) → OnlyHears (message_rule s f r m) → on_message m s r f ≡ record { replica = rested r; script = [] }
  unfolding on_prepare by naming change one_hears only_hears
  hears_message (frame.Prepare p) s r f h = ap (λ (w : Word F). w s r f) (prepare_hears s.hash p (first_row (prepare_table s.hash p r)) h)
  hears_message (frame.Request q) s r f h = absurd (none_hears (request_table q r) refl h)
  hears_message (frame.Reply a) s r f h = absurd h
  hears_message (frame.PrepareOk a) s r f h = absurd (none_hears (prepare_ok_table s.hash a r) refl h)
  hears_message (frame.Commit c) s r f h = absurd (none_hears (commit_table c r) refl h)
  hears_message (frame.StartViewChange c) s r f h = absurd (none_hears (start_view_change_table c r) refl h)
  hears_message (frame.DoViewChange d) s r f h = absurd (none_hears (do_view_change_table d r) refl h)
  hears_message (frame.StartView v) s r f h = absurd (none_hears (start_view_table s.hash v r) refl h)
  hears_message (frame.GetView g) s r f h = absurd (none_hears (get_view_table g r) refl h)
  hears_message (frame.GetPrepare g) s r f h = absurd (none_hears (get_prepare_table s.hash g r) refl h)
  hears_message (frame.GivePrepare g) s r f h = absurd (none_hears (give_prepare_table g r) refl h)
  hears_message (frame.GetBlock g) s r f h = absurd (none_hears (get_block_table (is_some (s.block f (asked_block g))) g r) refl h)
  hears_message (frame.GiveBlock g) s r f h = absurd (none_hears (give_block_table s.is_block g r) refl h)
  hears_message (frame.GetSync g) s r f h = absurd (none_hears (get_sync_table g r) refl h)
  hears_message (frame.SyncView v) s r f h = absurd (none_hears (sync_view_table s.hash v r) refl h)

  hears_event : (e : Event) (s : Setting F) (r : Replica) (f : F) → OnlyHears (event_rule s f r e) → on_event e s r f ≡ record { replica = rested r; script = [] }
  unfolding one_hears only_hears
  hears_event (event.Request q) s r f h = absurd (none_hears (request_table q r) refl h)
  hears_event (event.Deliver m) s r f h = hears_message m s r f h
  hears_event event.Tick s r f h = absurd (none_hears (tick_table r) refl h)

  pub only_hearing_is_done : OnlyHearingIsDone F
  unfolding react rule_for by quiet
  only_hearing_is_done s f r e h =
      elim (is_frozen r) as (λ b. OnlyHears (cond b Ignored (event_rule s f r e)) → (cond (not b) (on_event e) quiet) s r f ≡ record { replica = rested r; script = [] }) [
        | true ↦ λ k. absurd k
        | false ↦ λ k. hears_event e s r f k
      ] h

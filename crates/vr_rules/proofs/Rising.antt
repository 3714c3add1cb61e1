-- A step takes nothing back, however names are made.
use Rattle.std.proofs.Common.{ℕ, zero, suc, ◌+◌, ◌-◌, ◌≤◌, arith, Bool, true, false, not, Option, Some, None}
use Rattle.vr_header.specs.declared.header.Header.{Header}
use Rattle.vr_header.specs.declared.part.Part.{Part}
use Rattle.vr_header.specs.declared.part.Part.TheVariants.{Here, Lost, Wanted, Unknown, Nothing}
use Rattle.vr_header.specs.Made.{Whole}
use Rattle.vr_msg.specs.declared.event.Event.{Event}
use Rattle.vr_msg.specs.declared.event.Event.TheVariants as event
use Rattle.vr_msg.specs.declared.frame.Frame.{Frame}
use Rattle.vr_msg.specs.declared.frame.Frame.TheVariants as frame
use Rattle.vr_msg.specs.declared.request.RequestFields.{RequestFields}
use Rattle.vr_rules.specs.Replica.{Replica, forgetting, with_part, part_at, is_frozen}
use Rattle.vr_rules.specs.Steps.{Setting, ◌⨾◌, quiet, change, does, says, by, naming, reading, when, times, after_all}
use Rattle.vr_rules.specs.Words.{lost, or_lost, entry_of, with_entry, with_entry_at, stored, write, save, applied, with_checkpoint, make_checkpoint, is_checkpoint, apply_entry, apply_next, apply, advanced, advance}
use Rattle.vr_rules.specs.Deciding.{session_answer, request_table}
use Rattle.vr_rules.specs.Rules.{asker_by, next_entry, make, obey_request, on_request, on_message, on_event, react}
use Rattle.vr_rules.specs.Sound.{IsSound}
use Rattle.vr_rules.specs.Laws.{IsMessage, IsEvent, Rises, StepsRise}
use Rattle.vr_rules.proofs.Keeping.{rises_same, rises_then}
use Rattle.vr_rules.proofs.Combining.{keeps_quiet, keeps_says}
use Rattle.vr_rules.proofs.Ruling.{by_rows, keeps_prepare, keeps_prepare_ok, keeps_commit, keeps_start_view_change, keeps_do_view_change, keeps_start_view, keeps_get_view, keeps_get_prepare, keeps_give_prepare, keeps_get_sync, keeps_sync_view}
use Rattle.vr_rules.proofs.Reacting.{keeps_stored_reply, keeps_get_block, keeps_give_block, keeps_tick}

-- ---- applying, where the checkpoint isn't above what is applied

record Climbs (r q : Replica) : Type 0 where
  low : q.checkpoint ≤ q.applied
  rises : Rises r q

climbs_then : (a b c : Replica) → Climbs a b → Climbs b c → Climbs a c
climbs_then a b c h k = record { low = k.low; rises = rises_then a b c h.rises k.rises }

climbs_same : (r : Replica) → r.checkpoint ≤ r.applied → Climbs r r
climbs_same r l = record { low = l; rises = rises_same r }

climbs_lost : (h : Header) (r : Replica) → r.checkpoint ≤ r.applied → Climbs r (lost h r)
unfolding with_part
climbs_lost h r l = record { low = l; rises = record { view = omega arith; log_view = omega arith; commit = omega arith; applied = omega arith; checkpoint = omega arith } }

climbs_checkpoint : {F : Type 0} (b : Bool) (e : Whole) (s : Setting F) (r : Replica) (f : F) → r.checkpoint ≤ r.applied → Climbs r (when b make_checkpoint s (applied e r) f).replica
unfolding make_checkpoint with_checkpoint save by reading change does quiet ◌⨾◌
climbs_checkpoint true e s r f l = record { low = omega arith; rises = record { view = omega arith; log_view = omega arith; commit = omega arith; applied = omega arith; checkpoint = omega arith } }
climbs_checkpoint false e s r f l = record { low = omega arith; rises = record { view = omega arith; log_view = omega arith; commit = omega arith; applied = omega arith; checkpoint = omega arith } }

climbs_entry : {F : Type 0} (e : Whole) (s : Setting F) (r : Replica) (f : F) → r.checkpoint ≤ r.applied → Climbs r (apply_entry e s r f).replica
unfolding apply_entry says change by ◌⨾◌
climbs_entry e s r f l = climbs_checkpoint (is_checkpoint (r.applied + 1)) e s r _ l

climbs_or_lost : {F : Type 0} (h : Header) (o : Option Whole) (s : Setting F) (r : Replica) (f : F) → r.checkpoint ≤ r.applied → Climbs r (or_lost h apply_entry o s r f).replica
unfolding change
climbs_or_lost h None s r f l = climbs_lost h r l
climbs_or_lost h (Some e) s r f l = climbs_entry e s r f l

climbs_part : {F : Type 0} (p : Part) (s : Setting F) (r : Replica) (f : F) → r.checkpoint ≤ r.applied → Climbs r (with_entry apply_entry p s r f).replica
unfolding reading quiet
climbs_part (Here h) s r f l = climbs_or_lost h (entry_of h s f) s r f l
climbs_part (Lost h) s r f l = climbs_same r l
climbs_part (Wanted h) s r f l = climbs_same r l
climbs_part Unknown s r f l = climbs_same r l
climbs_part Nothing s r f l = climbs_same r l

climbs_when : {F : Type 0} (b : Bool) (op : ℕ) (s : Setting F) (r : Replica) (f : F) → r.checkpoint ≤ r.applied → Climbs r (when b (with_entry_at op apply_entry) s r f).replica
unfolding with_entry_at by quiet
climbs_when true op s r f l = climbs_part (part_at r op) s r f l
climbs_when false op s r f l = climbs_same r l

climbs_next : {F : Type 0} (s : Setting F) (r : Replica) (f : F) → r.checkpoint ≤ r.applied → Climbs r (apply_next s r f).replica
unfolding apply_next by
climbs_next s r f l = climbs_when _ (r.applied + 1) s r f l

climbs_times : {F : Type 0} (n : ℕ) (s : Setting F) (r : Replica) (f : F) → r.checkpoint ≤ r.applied → Climbs r (times n apply_next s r f).replica
unfolding times quiet ◌⨾◌
climbs_times zero s r f l = climbs_same r l
climbs_times (suc n) s r f l =
    let one = climbs_next s r f l in
    let a = apply_next s r f in
    climbs_then r a.replica _ one (climbs_times n s a.replica (after_all s f a.script) one.low)

climbs_apply : {F : Type 0} (s : Setting F) (r : Replica) (f : F) → r.checkpoint ≤ r.applied → Climbs r (apply s r f).replica
unfolding apply by
climbs_apply s r f l = climbs_times (r.commit - r.applied) s r f l

-- ---- a request

rises_stored : (e : Whole) (r : Replica) → r.checkpoint ≤ r.applied → Climbs r (advanced (stored e r))
unfolding advanced forgetting with_part
rises_stored e r l = record { low = l; rises = record { view = omega arith; log_view = omega arith; commit = omega arith; applied = omega arith; checkpoint = omega arith } }

rises_make : {F : Type 0} (e : Whole) (s : Setting F) (r : Replica) (f : F) → r.checkpoint ≤ r.applied → Rises r (make e s r f).replica
unfolding make write advance says does change ◌⨾◌
rises_make e s r f l =
    let q = rises_stored e r l in
    rises_then r (advanced (stored e r)) _ q.rises (climbs_apply s (advanced (stored e r)) _ q.low).rises

rises_request : {F : Type 0} (q : RequestFields) (s : Setting F) (r : Replica) (f : F) → IsSound r → Rises r (on_request q s r f).replica
unfolding on_request naming by
rises_request q s r f h =
    let idle = ((keeps_quiet).every s r f h).kept.rises in
    by_rows (λ x. Rises r (obey_request s.hash q x s r f).replica) (request_table q r) (
      λ t. idle,
      λ n0. (
        λ t. ((keeps_says _).every s r f h).kept.rises,
        λ n1. (
          λ t. ((keeps_says _).every s r f h).kept.rises,
          λ n2. (
            λ t. idle,
            λ n3. (
              λ t. ((keeps_stored_reply (asker_by s.hash q) (session_answer q r)).every s r f h).kept.rises,
              λ n4. (λ t. ((keeps_says _).every s r f h).kept.rises, λ n5. (λ t. rises_make (next_entry s.hash q r) s r f h.order.applied, λ n6. idle)),
            ),
          ),
        ),
      ),
    )

-- ---- each event

rises_message : {F : Type 0} (m : Frame) (s : Setting F) (r : Replica) (f : F) → IsSound r → IsMessage m → Rises r (on_message m s r f).replica
rises_message (frame.Request q) s r f h m = rises_request q s r f h
rises_message (frame.Reply a) s r f h m = (keeps_quiet.every s r f h).kept.rises
rises_message (frame.Prepare p) s r f h m = ((keeps_prepare p m).every s r f h).kept.rises
rises_message (frame.PrepareOk a) s r f h m = ((keeps_prepare_ok a).every s r f h).kept.rises
rises_message (frame.Commit c) s r f h m = ((keeps_commit c).every s r f h).kept.rises
rises_message (frame.StartViewChange c) s r f h m = ((keeps_start_view_change c).every s r f h).kept.rises
rises_message (frame.DoViewChange d) s r f h m = ((keeps_do_view_change d m).every s r f h).kept.rises
rises_message (frame.StartView v) s r f h m = ((keeps_start_view v m).every s r f h).kept.rises
rises_message (frame.GetView g) s r f h m = ((keeps_get_view g).every s r f h).kept.rises
rises_message (frame.GetPrepare g) s r f h m = ((keeps_get_prepare g).every s r f h).kept.rises
rises_message (frame.GivePrepare g) s r f h m = ((keeps_give_prepare g).every s r f h).kept.rises
rises_message (frame.GetBlock g) s r f h m = ((keeps_get_block g).every s r f h).kept.rises
rises_message (frame.GiveBlock g) s r f h m = ((keeps_give_block g).every s r f h).kept.rises
rises_message (frame.GetSync g) s r f h m = ((keeps_get_sync g).every s r f h).kept.rises
rises_message (frame.SyncView v) s r f h m = ((keeps_sync_view v m).every s r f h).kept.rises

rises_event : {F : Type 0} (e : Event) (s : Setting F) (r : Replica) (f : F) → IsSound r → IsEvent e → Rises r (on_event e s r f).replica
rises_event (event.Request q) s r f h m = rises_request q s r f h
rises_event (event.Deliver message) s r f h m = rises_message message s r f h m
rises_event event.Tick s r f h m = (keeps_tick.every s r f h).kept.rises

rises_if : {F : Type 0} (b : Bool) (e : Event) (s : Setting F) (r : Replica) (f : F) → IsSound r → IsEvent e → Rises r (when b (on_event e) s r f).replica
unfolding quiet
rises_if true e s r f h m = rises_event e s r f h m
rises_if false e s r f h m = rises_same r

pub steps_rise : {F : Type 0} → StepsRise F
unfolding react by
steps_rise = λ s f r e h m. rises_if (not (is_frozen r)) e s r f h m

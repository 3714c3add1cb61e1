-- A replica that has applied all that it can has done so after each step, and after an opening.
use Rattle.std.proofs.Common.{arith, ◌≡◌, ◌≤◌, refl, sym, cond, Bool, true, false, not, ◌∙◌}
use Rattle.std.proofs.lemmas.Bool.{ltb-false, or_parts}
use Rattle.std.specs.Prelude.{nat_lt}
use Rattle.vr_msg.specs.declared.event.Event.{Event}
use Rattle.vr_msg.specs.declared.event.Event.TheVariants as event
use Rattle.vr_msg.specs.declared.frame.Frame.{Frame}
use Rattle.vr_msg.specs.declared.frame.Frame.TheVariants as frame
use Rattle.vr_rules.specs.Laws.{HasNames, IsEvent, IsMessage}
use Rattle.vr_rules.specs.Opening.{announce, blank, going_on, heard_itself, in_next_view, leave_view, opening, recover_parts}
use Rattle.vr_rules.specs.Outputs.{start_line}
use Rattle.vr_rules.specs.Replica.{Replica, is_frozen, is_spent, is_started, last_view, leads, part_at}
use Rattle.vr_rules.specs.Rules.{on_event, on_message, react}
use Rattle.vr_rules.specs.Sound.{IsCaughtUp, IsSound}
use Rattle.vr_rules.specs.Steps.{Mend, Setting, ◌⨾◌, after_all, by, does, quiet, says, when}
use Rattle.vr_rules.proofs.Openings.{recovered, reads_after}
use Rattle.vr_rules.proofs.Slots.{value_is}
use Rattle.law_repair.specs.CaughtUp.{FreshKeepUp, KeepsUp, OpeningsKeepUp, StepsKeepUp}
use Rattle.law_repair.proofs.Rules.{up_commit, up_do_view_change, up_get_block, up_get_prepare, up_get_sync, up_get_view, up_give_block, up_give_prepare, up_prepare, up_prepare_ok, up_request, up_start_view, up_start_view_change, up_sync_view, up_tick}
use Rattle.law_repair.proofs.Settling.{Placed, placed_of}
use Rattle.law_repair.proofs.Upkeep.{Calm, Settles, UpBy, calm_by, calm_change, calm_quiet, calm_says, calm_save, calm_then, calm_when, settles_apply, settles_calm_then, settles_then, settles_then_calm, sorts_load, up_calm}

-- ---- steps

module _ {F : Type 0} (s : Setting F) where
  up_message : (m : Frame) (r : Replica) (f : F) → HasNames s → IsSound r → IsCaughtUp r → IsMessage m → r.view ≤ last_view → UpBy (on_message m) s r f
  up_message (frame.Request q) r f names h u m last = up_request s q r f names h u m last
  up_message (frame.Reply a) r f names h u m last = up_calm s _ r f u calm_quiet
  up_message (frame.Prepare p) r f names h u m last = up_prepare s p r f h u m
  up_message (frame.PrepareOk a) r f names h u m last = up_prepare_ok s a r f h u
  up_message (frame.Commit c) r f names h u m last = up_commit s c r f h u
  up_message (frame.StartViewChange c) r f names h u m last = up_start_view_change s c r f h u
  up_message (frame.DoViewChange d) r f names h u m last = up_do_view_change s d r f h u m
  up_message (frame.StartView v) r f names h u m last = up_start_view s v r f h u m
  up_message (frame.GetView g) r f names h u m last = up_get_view s g r f u
  up_message (frame.GetPrepare g) r f names h u m last = up_get_prepare s g r f u
  up_message (frame.GivePrepare g) r f names h u m last = up_give_prepare s g r f h u
  up_message (frame.GetBlock g) r f names h u m last = up_get_block s g r f u
  up_message (frame.GiveBlock g) r f names h u m last = up_give_block s g r f h u
  up_message (frame.GetSync g) r f names h u m last = up_get_sync s g r f u
  up_message (frame.SyncView v) r f names h u m last = up_sync_view s v r f h u m

  up_event : (e : Event) (r : Replica) (f : F) → HasNames s → IsSound r → IsCaughtUp r → IsEvent e → r.view ≤ last_view → UpBy (on_event e) s r f
  up_event (event.Request q) r f names h u m last = up_request s q r f names h u m last
  up_event (event.Deliver message) r f names h u m last = up_message message r f names h u m last
  up_event event.Tick r f names h u m last = up_tick s r f h u

  -- where it reacts at all
  up_react : (b : Bool) (e : Event) (r : Replica) (f : F) → is_frozen r ≡ b → HasNames s → IsSound r → IsEvent e → KeepsUp r → KeepsUp (when (not b) (on_event e) s r f).replica
  unfolding quiet
  up_react true e r f i names h m u = u
  up_react false e r f i names h m u =
      let parts = or_parts (nat_lt last_view r.view) (is_spent r) i in
      λ n. (up_event e r f names h (u parts.1) m (ltb-false last_view r.view parts.0)).up

pub steps_keep_up : {F : Type 0} → StepsKeepUp F
unfolding react by
steps_keep_up = λ s f r e names h m u. up_react s (is_frozen r) e r f refl names h m u

-- ---- openings

module _ {F : Type 0} where
  calm_leave : Calm {F = F} leave_view
  unfolding part_at
  calm_leave = calm_by _ (λ r. calm_when (leads r) _ (calm_then _ _ (calm_change in_next_view (λ q. record { parts = λ k. refl; commit = refl; applied = refl; missing = refl })) calm_save))

  calm_announce : Calm {F = F} announce
  unfolding part_at
  calm_announce =
      calm_by _ (λ r. calm_when (not (is_started r)) _ (calm_then _ _ (calm_change heard_itself (λ q. record { parts = λ k. refl; commit = refl; applied = refl; missing = refl })) (calm_by _ (λ q. calm_when _ _ (calm_says _)))))

  settles_on : Settles {F = F} going_on
  settles_on = settles_calm_then _ _ calm_leave (settles_calm_then _ _ (calm_says _) (settles_then _ _ sorts_load (settles_then_calm _ _ settles_apply calm_announce)))

  up_rest : (b : Bool) (s : Setting F) (r : Replica) (f : F) → is_spent r ≡ b → Placed r → KeepsUp (cond b (says start_line) going_on s r f).replica
  unfolding says
  up_rest true s r f i p = λ n. let never : true ≡ false = sym i ∙ n in absurd cc
  up_rest false s r f i p = λ n. settles_on.every s r f p

pub openings_keep_up : {F : Type 0} → OpeningsKeepUp F
unfolding opening ◌⨾◌ does after_all by
openings_keep_up = λ s f v k g.
    let d = s.after f (Mend v) in
    let found = recovered v s d (value_is v g) (reads_after s f (Mend v) g k) in
    up_rest (is_spent (recover_parts v s (blank v) d).replica) s (recover_parts v s (blank v) d).replica _ refl (placed_of _ found.sound)

-- nothing is committed yet
pub fresh_keep_up : FreshKeepUp
unfolding blank
fresh_keep_up kind cluster n index = λ i. record { next = λ none more. absurd (omega (arith, more)) }

-- What each step puts out carries present values.
use Rattle.std.proofs.Common.{arith, ◌≡◌, ◌≤◌, ◌<◌, ◌+◌, refl, ℕ, Bool, true, false, cond, not, List, [], ◌∷◌}
use Rattle.std.specs.Prelude.{nat_lt, nat_le, nat_eq}
use Rattle.std.proofs.lemmas.Bool.{cond_both, and_parts, not-false, ltb-false, ltb-true}
use Rattle.std.proofs.lemmas.List.Elements.{All-nil}
use Rattle.vr_msg.specs.declared.event.Event.{Event}
use Rattle.vr_msg.specs.declared.event.Event.TheVariants as event
use Rattle.vr_msg.specs.declared.frame.Commit.{Commit}
use Rattle.vr_msg.specs.declared.frame.DoViewChange.{DoViewChange}
use Rattle.vr_msg.specs.declared.frame.Frame.{Frame}
use Rattle.vr_msg.specs.declared.frame.Frame.TheVariants as frame
use Rattle.vr_msg.specs.declared.frame.Prepare.{Prepare}
use Rattle.vr_msg.specs.declared.frame.StartView.{StartView}
use Rattle.vr_msg.specs.declared.frame.StartViewChange.{StartViewChange}
use Rattle.vr_msg.specs.declared.frame.SyncView.{SyncView}
use Rattle.vr_msg.specs.Normal.{primary}
use Rattle.vr_rules.specs.Replica.{Replica, last_view, is_frozen, forgetting}
use Rattle.vr_rules.specs.Steps.{Setting, Word, ◌⨾◌, quiet, change, does, says, by, naming, reading, outputs, after_all}
use Rattle.vr_rules.specs.Outputs as told
use Rattle.vr_rules.specs.Words as words
use Rattle.vr_rules.specs.Deciding.{Hash, is_from, is_from_primary, log_of}
use Rattle.vr_rules.specs.declared.rule.Rule.{Rule}
use Rattle.vr_rules.specs.declared.rule.Rule.TheVariants.{Ignored, PreparedBefore, PreparedLater, ChangeBefore, ChangeLater, ChangeHeard, ChangeDone, StatedLate, Stated, Taken, TickedPrimary, TickedBackup, TickedChanging, SyncAsked, Jumped}
use Rattle.vr_rules.specs.Deciding.{first_of as first_row}
use Rattle.vr_rules.specs.Rules as rules
use Rattle.vr_rules.specs.Laws.{IsPlaced, IsPresent, Answers, StepsArePresent}
use Rattle.vr_rules.proofs.SendsPlaces.{IsOther}
use Rattle.vr_rules.proofs.SendsCalm.{Near, Calm, calm_then, calm_quiet, calm_by, calm_all, calm_each, present_then, present_after, present_calm}
use Rattle.vr_rules.proofs.SendsWords.{near_place, own, calm_keeps, calm_save, calm_apply, calm_try, calm_speak, calm_visit, calm_ask}
use Rattle.vr_rules.proofs.SendsRules.{from_is, not_primary, row, calm_ask_view, calm_ask_sync, calm_tell, calm_request, calm_prepare, calm_prepare_ok, calm_commit, calm_acknowledge_stored, calm_get_view, calm_get_sync, calm_get_prepare, calm_give_prepare, calm_get_block, calm_give_block, calm_primary_ticks}

module _ {F : Type 0} (MayAsk : ℕ → ℕ → Type 0) (s : Setting F) (r : Replica) (f : F) (p : IsPlaced r) where
  calmly : (w : Word F) → Calm MayAsk r w → IsPresent MayAsk r (w s r f)
  calmly w k = present_calm MayAsk s r f w p k

  -- a view is entered
  entering : (v : ℕ) → r.log_view ≤ v → IsPresent MayAsk r (change (words.entered v) s r f)
  unfolding change words.entered outputs
  entering v l = record { cluster = refl; index = refl; n = refl; commit = omega arith; placed = record { member = p.member; views = l; peer = p.peer }; each = All-nil _ }

  enters : (v : ℕ) → r.log_view ≤ v → IsPresent MayAsk r (words.enter v s r f)
  unfolding words.enter
  enters v l =
      cond_both (nat_lt last_view v) (change words.rested) (change (words.entered v) ⨾ words.save ⨾ says (told.send_to_all told.start_view_change)) (λ (w : Word F). IsPresent MayAsk r (w s r f))
      (λ _. calmly _ (calm_keeps _ (λ r. refl)))
      (λ _. present_then MayAsk s r f _ _ (entering v l) (calm_then _ _ calm_save (calm_all _ (λ r near to. (own r, refl)))))

  -- the log of a view is taken over
  taking : (l : words.Log) → IsPresent MayAsk r (change (words.taken l) s r f)
  unfolding change words.taken forgetting outputs
  taking l =
      record { cluster = refl; index = refl; n = refl; commit = omega arith; placed = record { member = p.member; views = omega arith; peer = p.peer }; each = All-nil _ }

  takes : (l : words.Log) → IsPresent MayAsk r (words.take l s r f)
  unfolding words.take
  takes l = present_then MayAsk s r f _ _ (taking l) calm_save

  -- and with it a later checkpoint
  jumping : (v : SyncView) → IsPresent MayAsk r (change (words.jumped v) s r f)
  unfolding change words.jumped forgetting outputs
  jumping v =
      record { cluster = refl; index = refl; n = refl; commit = omega arith; placed = record { member = p.member; views = omega arith; peer = p.peer }; each = All-nil _ }

  jumps : (v : SyncView) → IsPresent MayAsk r (words.jump v s r f)
  unfolding words.jump
  jumps v = present_then MayAsk s r f _ _ (jumping v) calm_save

  -- ---- the rules that may enter or begin a view

  hears_change : (c : StartViewChange) (rule : Rule) → IsOther r.index r.n c.replica → r.log_view ≤ c.view → IsPresent MayAsk r (rules.obey_start_view_change c rule s r f)
  hears_change c ChangeLater h l = present_then MayAsk s r f _ _ (enters c.view l) (calm_then _ _ (calm_keeps _ (λ r. refl)) calm_speak)
  hears_change c ChangeHeard h l = calmly _ (calm_then _ _ (calm_keeps _ (λ r. refl)) calm_speak)
  hears_change c ChangeDone h l = calmly _ (calm_tell _ h)
  hears_change c _ h l = calmly _ calm_quiet

  may_enter : (v : ℕ) → IsPresent MayAsk r (by (λ r. cond (nat_lt r.view v) (words.enter v) quiet) s r f)
  unfolding by
  may_enter v =
      cond_both (nat_lt r.view v) (words.enter v) quiet (λ (w : Word F). IsPresent MayAsk r (w s r f))
      (λ e. let below : r.view < v = ltb-true r.view v e in let views : r.log_view ≤ r.view = p.views in enters v (omega (arith, below, views)))
      (λ _. calmly _ calm_quiet)

  hears_statement : (d : DoViewChange) (rule : Rule) → IsOther r.index r.n d.replica → IsPresent MayAsk r (rules.obey_do_view_change d rule s r f)
  hears_statement d StatedLate h = calmly _ (calm_tell _ h)
  hears_statement d Stated h = present_then MayAsk s r f _ _ (may_enter d.view) (calm_then _ _ (calm_keeps _ (λ r. refl)) calm_try)
  hears_statement d _ h = calmly _ calm_quiet

  -- at another one than the view's primary
  takes_view : (hash : Hash) (v : StartView) (rule : Rule) → IsOther r.index r.n v.replica → MayAsk v.replica v.view → nat_eq r.index (primary r.n v.view) ≡ false
      → IsPresent MayAsk r (rules.obey_start_view hash v rule s r f)
  unfolding words.take words.taken words.save forgetting ◌⨾◌ change does
  takes_view hash v Taken h may e =
      present_then MayAsk s r f (words.take (log_of v)) _ (takes (log_of v)) (calm_then _ _ (calm_by _ (λ r near. calm_each _ _ (λ op. calm_acknowledge_stored hash op e))) calm_apply)
  takes_view hash v SyncAsked h may e = calmly _ (calm_ask_sync v.view v.replica h may)
  takes_view hash v _ h may e = calmly _ calm_quiet

  takes_sync : (hash : Hash) (v : SyncView) (rule : Rule) → nat_eq r.index (primary r.n v.view) ≡ false → IsPresent MayAsk r (rules.obey_sync_view hash v rule s r f)
  unfolding words.jump words.jumped words.save forgetting ◌⨾◌ change does
  takes_sync hash v Jumped e =
      present_then MayAsk s r f (words.jump v) _ (jumps v) (calm_then _ _ (calm_by _ (λ r near. calm_each _ _ (λ op. calm_acknowledge_stored hash op e))) calm_apply)
  takes_sync hash v _ e = calmly _ calm_quiet

  -- ---- ticks

  keeping : (g : Replica → Replica) (w : Word F) → Near r (g r) → outputs (change {F = F} g s r f).script ≡ [] → IsPresent MayAsk (g r) (w s (g r) f) → IsPresent MayAsk r ((change g ⨾ w) s r f)
  unfolding change after_all
  keeping g w near mute h = present_after MayAsk s r f (change g) w near.same mute h

  next_view : IsPresent MayAsk r (rules.next_view s r f)
  unfolding by
  next_view = let views : r.log_view ≤ r.view = p.views in enters (r.view + 1) (omega (arith, views))

  backup_goes_on : IsPresent MayAsk r (by (λ r. cond (nat_le 5 r.idle) rules.next_view (words.visit ⨾ words.ask)) s r f)
  unfolding by
  backup_goes_on =
      cond_both (nat_le 5 r.idle) rules.next_view (words.visit ⨾ words.ask) (λ (w : Word F). IsPresent MayAsk r (w s r f))
      (λ _. next_view)
      (λ _. calmly _ (calm_then _ _ calm_visit calm_ask))

  changing_goes_on : IsPresent MayAsk r (by (λ r. cond (nat_le 10 r.idle) rules.next_view (says (told.send_to_all told.start_view_change) ⨾ words.speak ⨾ words.visit ⨾ words.ask)) s r f)
  unfolding by
  changing_goes_on =
      cond_both (nat_le 10 r.idle) rules.next_view (says (told.send_to_all told.start_view_change) ⨾ words.speak ⨾ words.visit ⨾ words.ask) (λ (w : Word F). IsPresent MayAsk r (w s r f))
      (λ _. next_view)
      (λ _. calmly _ (calm_then _ _ (calm_all _ (λ r near to. (own r, refl))) (calm_then _ _ calm_speak (calm_then _ _ calm_visit calm_ask))))

module _ {F : Type 0} (MayAsk : ℕ → ℕ → Type 0) (s : Setting F) (r : Replica) (f : F) (p : IsPlaced r) where
  idler_near : Near r (rules.idler r)
  idler_near = near_place r (rules.idler r) p refl

  ticks : (rule : Rule) → IsPresent MayAsk r (rules.obey_tick rule s r f)
  unfolding change outputs
  ticks TickedPrimary = calmly MayAsk s r f p _ calm_primary_ticks
  ticks TickedBackup = keeping MayAsk s r f p rules.idler _ idler_near refl (backup_goes_on MayAsk s (rules.idler r) f idler_near.placed)
  ticks TickedChanging = keeping MayAsk s r f p rules.idler _ idler_near refl (changing_goes_on MayAsk s (rules.idler r) f idler_near.placed)
  ticks _ = calmly MayAsk s r f p _ calm_quiet

-- ---- all events

module _ {F : Type 0} (s : Setting F) (r : Replica) (f : F) (h : IsPlaced r) where
  -- from another replica, or ignored
  from_other : (MayAsk : ℕ → ℕ → Type 0) (v cluster sender : ℕ) (obey : Rule → Word F) (rows : List (Bool × Rule)) → obey Ignored ≡ quiet → (IsOther r.index r.n sender → IsPresent MayAsk r (obey (first_row rows) s r f))
      → IsPresent MayAsk r (obey (first_row ((not (is_from v cluster sender r), Ignored) ∷ rows)) s r f)
  from_other MayAsk v cluster sender obey rows e k =
      row (not (is_from v cluster sender r)) Ignored rows (λ rule. IsPresent MayAsk r (obey rule s r f))
      (λ _. rw e (calmly MayAsk s r f h quiet calm_quiet))
      (λ b. k (from_is v cluster sender r (not-false _ b)))

  present_prepare : (p : Prepare) → IsPresent (Answers (event.Deliver (frame.Prepare p))) r (rules.on_prepare p s r f)
  unfolding rules.on_prepare naming by
  present_prepare p =
      let a = Answers (event.Deliver (frame.Prepare p)) in
      let obey : Rule → Word F = rules.obey_prepare s.hash p in
      row _ Ignored _ (λ rule. IsPresent a r (obey rule s r f)) (λ _. calmly a s r f h _ calm_quiet) (λ b.
      let from : is_from_primary p.version p.entry.header.cluster p.replica p.view r ≡ true = not-false _ b in
      let other = from_is p.version p.entry.header.cluster p.replica r (and_parts _ _ from).0 in
      row (nat_lt p.view r.view) PreparedBefore _ (λ rule. IsPresent a r (obey rule s r f)) (λ _. calmly a s r f h _ calm_quiet) (λ c.
      let least : r.view ≤ p.view = ltb-false p.view r.view c in
      row (nat_lt r.log_view p.view) PreparedLater _ (λ rule. IsPresent a r (obey rule s r f)) (λ _. calmly a s r f h _ (calm_ask_view p.view p.replica other (refl, refl))) (λ d.
      let most : p.view ≤ r.log_view = ltb-false r.log_view p.view d in
      let views : r.log_view ≤ r.view = h.views in
      let same : p.view ≡ r.view = omega (arith, least, most, views) in
      let backup : nat_eq r.index (primary r.n p.view) ≡ false = not_primary p.version p.entry.header.cluster p.replica p.view r from in
      calmly a s r f h _ (calm_prepare s.hash p _ other (refl, refl) (rw same at backup)))))

  present_commit : (c : Commit) → IsPresent (Answers (event.Deliver (frame.Commit c))) r (rules.on_commit c s r f)
  unfolding rules.on_commit by
  present_commit c =
      let a = Answers (event.Deliver (frame.Commit c)) in
      row _ Ignored _ (λ rule. IsPresent a r (rules.obey_commit {F = F} c rule s r f)) (λ _. calmly a s r f h _ calm_quiet) (λ b.
      let from : is_from_primary c.version c.cluster c.replica c.view r ≡ true = not-false _ b in
      calmly a s r f h _ (calm_commit c _ (from_is c.version c.cluster c.replica r (and_parts _ _ from).0) (refl, refl)))

  present_change : (MayAsk : ℕ → ℕ → Type 0) (c : StartViewChange) → IsPresent MayAsk r (rules.on_start_view_change c s r f)
  unfolding rules.on_start_view_change by
  present_change a c =
      from_other a c.version c.cluster c.replica (rules.obey_start_view_change c) _ refl (λ other.
      row (nat_lt c.view r.view) ChangeBefore _ (λ rule. IsPresent a r (rules.obey_start_view_change {F = F} c rule s r f)) (λ _. calmly a s r f h _ calm_quiet) (λ b.
      let least : r.view ≤ c.view = ltb-false c.view r.view b in
      let views : r.log_view ≤ r.view = h.views in
      hears_change a s r f h c _ other (omega (arith, least, views))))

  present_statement : (MayAsk : ℕ → ℕ → Type 0) (d : DoViewChange) → IsPresent MayAsk r (rules.on_do_view_change d s r f)
  unfolding rules.on_do_view_change by
  present_statement a d = from_other a d.version d.cluster d.replica (rules.obey_do_view_change d) _ refl (λ other. hears_statement a s r f h d _ other)

  present_view : (v : StartView) → IsPresent (Answers (event.Deliver (frame.StartView v))) r (rules.on_start_view v s r f)
  unfolding rules.on_start_view naming by
  present_view v =
      let a = Answers (event.Deliver (frame.StartView v)) in
      row _ Ignored _ (λ rule. IsPresent a r (rules.obey_start_view {F = F} s.hash v rule s r f)) (λ _. calmly a s r f h _ calm_quiet) (λ b.
      let from : is_from_primary v.version v.cluster v.replica v.view r ≡ true = not-false _ b in
      takes_view a s r f h s.hash v _ (from_is v.version v.cluster v.replica r (and_parts _ _ from).0) (refl, refl) (not_primary v.version v.cluster v.replica v.view r from))

  present_sync : (MayAsk : ℕ → ℕ → Type 0) (v : SyncView) → IsPresent MayAsk r (rules.on_sync_view v s r f)
  unfolding rules.on_sync_view naming by
  present_sync a v =
      row _ Ignored _ (λ rule. IsPresent a r (rules.obey_sync_view {F = F} s.hash v rule s r f)) (λ _. calmly a s r f h _ calm_quiet) (λ b.
      takes_sync a s r f h s.hash v _ (not_primary v.version v.cluster v.replica v.view r (not-false _ b)))

  present_message : (m : Frame) → IsPresent (Answers (event.Deliver m)) r (rules.on_message m s r f)
  unfolding rules.on_request rules.on_prepare_ok rules.on_get_view rules.on_get_sync rules.on_get_prepare rules.on_give_prepare rules.on_get_block rules.on_give_block naming by reading
  present_message (frame.Request q) = calmly _ s r f h _ (calm_request s.hash q _)
  present_message (frame.Reply a) = calmly _ s r f h _ calm_quiet
  present_message (frame.Prepare p) = present_prepare p
  present_message (frame.PrepareOk a) = calmly _ s r f h _ (calm_prepare_ok a _)
  present_message (frame.Commit c) = present_commit c
  present_message (frame.StartViewChange c) = present_change _ c
  present_message (frame.DoViewChange d) = present_statement _ d
  present_message (frame.StartView v) = present_view v
  present_message (frame.GetView g) = from_other _ g.version g.cluster g.replica (rules.obey_get_view g) _ refl (λ other. calmly _ s r f h _ (calm_get_view g _ other))
  present_message (frame.GetPrepare g) = from_other _ g.version g.cluster g.replica (rules.obey_get_prepare g) _ refl (λ other. calmly _ s r f h _ (calm_get_prepare g _ other))
  present_message (frame.GivePrepare g) = calmly _ s r f h _ (calm_give_prepare g _)
  present_message (frame.GetBlock g) =
      from_other _ g.version g.cluster g.replica (rules.obey_get_block g (s.block f (rules.asked_block g))) _ refl (λ other. calmly _ s r f h _ (calm_get_block g (s.block f (rules.asked_block g)) _ other))
  present_message (frame.GiveBlock g) = calmly _ s r f h _ (calm_give_block s.is_block g _)
  present_message (frame.GetSync g) = from_other _ g.version g.cluster g.replica (rules.obey_get_sync g) _ refl (λ other. calmly _ s r f h _ (calm_get_sync g _ other))
  present_message (frame.SyncView v) = present_sync _ v

  present_event : (e : Event) → IsPresent (Answers e) r (rules.on_event e s r f)
  unfolding rules.on_request rules.on_tick naming by
  present_event (event.Request q) = calmly _ s r f h _ (calm_request s.hash q _)
  present_event (event.Deliver m) = present_message m
  present_event event.Tick = ticks _ s r f h _

pub steps_are_present : {F : Type 0} → StepsArePresent F
unfolding rules.react by
steps_are_present s f r e h =
    cond_both (not (is_frozen r)) (rules.on_event e) quiet (λ (w : Word _). IsPresent (Answers e) r (w s r f)) (λ _. present_event s r f h e) (λ _. calmly (Answers e) s r f h quiet calm_quiet)

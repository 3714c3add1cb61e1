-- How much each rule, and so each step, has a replica send.
use Rattle.std.proofs.Common.{arith, ◌≡◌, ◌≤◌, ◌<◌, ◌+◌, ◌-◌, ◌*◌, refl, sym, subst, ℕ, Bool, true, false, not, List, [], ◌∷◌, max, Option, Some, None, inl, inr}
use Rattle.std.specs.Prelude.{⊤, is_some, nat_le, ◌==◌, ◌&&◌}
use Rattle.std.specs.Option.{option_map_or}
use Rattle.std.proofs.lemmas.Bool.{cases_lt, cond_both, and_parts, not-false}
use Rattle.vr_header.specs.declared.command.Command.{Command}
use Rattle.vr_header.specs.declared.command.Command.TheVariants as command
use Rattle.vr_header.specs.declared.header.Header.{Header}
use Rattle.vr_ckpt.specs.declared.name.Name.{Name}
use Rattle.vr_state.specs.declared.session.SessionAnswer.{SessionAnswer}
use Rattle.vr_state.specs.declared.session.SessionAnswer.TheVariants as answer
use Rattle.vr_msg.specs.Forms.{IsFrame}
use Rattle.vr_msg.specs.Normal.{primary}
use Rattle.vr_msg.specs.declared.event.Event.{Event}
use Rattle.vr_msg.specs.declared.event.Event.TheVariants as event
use Rattle.vr_msg.specs.declared.frame.Commit.{Commit}
use Rattle.vr_msg.specs.declared.frame.DoViewChange.{DoViewChange}
use Rattle.vr_msg.specs.declared.frame.Frame.{Frame}
use Rattle.vr_msg.specs.declared.frame.Frame.TheVariants as frame
use Rattle.vr_msg.specs.declared.frame.GetBlock.{GetBlock}
use Rattle.vr_msg.specs.declared.frame.GetPrepare.{GetPrepare}
use Rattle.vr_msg.specs.declared.frame.GetSync.{GetSync}
use Rattle.vr_msg.specs.declared.frame.GetView.{GetView}
use Rattle.vr_msg.specs.declared.frame.GiveBlock.{GiveBlock}
use Rattle.vr_msg.specs.declared.frame.GivePrepare.{GivePrepare}
use Rattle.vr_msg.specs.declared.frame.Prepare.{Prepare}
use Rattle.vr_msg.specs.declared.frame.PrepareOk.{PrepareOk}
use Rattle.vr_msg.specs.declared.frame.StartView.{StartView}
use Rattle.vr_msg.specs.declared.frame.StartViewChange.{StartViewChange}
use Rattle.vr_msg.specs.declared.frame.SyncView.{SyncView}
use Rattle.vr_msg.specs.declared.request.RequestFields.{RequestFields}
use Rattle.vr_rules.specs.Outputs as told
use Rattle.vr_rules.specs.Replica.{Replica, is_frozen, is_started, leads, version}
use Rattle.vr_rules.specs.Sound.{IsSound}
use Rattle.vr_rules.specs.Steps.{Setting, Word, ◌⨾◌, quiet, says, by, naming, reading, outputs}
use Rattle.vr_rules.specs.Words as words
use Rattle.vr_rules.specs.Deciding.{Hash, first_of as first_row, commit_table, get_block_table, get_prepare_table, get_sync_table, get_view_table, give_block_table, give_prepare_table, is_from, is_from_primary, is_out_of_reach, log_of, prepare_ok_table, prepare_table, request_table, start_view_table, sync_view_table}
use Rattle.vr_rules.specs.declared.asker.Asker.{Asker}
use Rattle.vr_rules.specs.declared.rule.Rule.{Rule}
use Rattle.vr_rules.specs.declared.rule.Rule.TheVariants.{Ignored, Redirected, Behind, Answered, Full, Made, PreparedLater, Past, Beyond, Known, Next, Ahead, Other, Counted, CommitLater, CommitHeard, ChangeLater, ChangeHeard, ChangeDone, StatedLate, Stated, Taken, ViewGiven, EntryGiven, EntryTaken, BlockGiven, BlockTaken, BlockMended, TickedPrimary, TickedBackup, TickedChanging, SyncAsked, SyncGiven, Jumped}
use Rattle.vr_rules.specs.Rules as rules
use Rattle.vr_rules.proofs.SendsPlaces.{IsOther}
use Rattle.vr_rules.proofs.SendsRules.{from_is, row}
use Rattle.vr_replica.specs.Bounds.{IsFormed, StepsWeighLittle, asked, begun, for_message, for_tick, most, spoken}
use Rattle.vr_replica.proofs.Weighing.{At, Light, Seat, Weighs, seat, times_more, weighs_all, weighs_as, weighs_does, weighs_from, weighs_if, weighs_keeps, weighs_line, weighs_onto, weighs_send, weighs_then, weighs_when}
use Rattle.vr_replica.proofs.WeighedWords.{From, Low, at_accept, at_advance, at_apply, at_ask, at_by, at_entry, at_jump, at_learn, at_load, at_prepare_again, at_quiet, at_resend, at_visit, at_write, from_each, from_take, low_by, low_enter, low_keeps, low_quiet, low_speak, low_try, taken_near}

-- where a log is taken over, it ends near the number
abbrev pub EndsNear : ℕ → ℕ → Rule → Type 0
EndsNear c head Taken = head ≤ c + 64
EndsNear c head _ = ⊤

-- ---- rules that say nothing to all

module _ {F : Type 0} {w : ℕ → Command → ℕ} {o : Seat} where
  at_ask_view : (view sender : ℕ) → Weighs {F = F} w (At o) (At o) (w o.version command.GetView) (rules.ask_view view sender)
  at_ask_view view sender = weighs_send o (λ r p. p) command.GetView (λ r. sender) (told.get_view view) (λ r. refl) (λ r. refl)

  at_tell : (to : ℕ) → Weighs {F = F} w (At o) (At o) (w o.version command.StartView) (rules.tell_view to)
  at_tell to = weighs_send o (λ r p. p) command.StartView (λ r. to) told.start_view (λ r. refl) (λ r. refl)

  at_acknowledge : (hash : Hash) (h : Header) → Weighs {F = F} w (At o) (At o) (w o.version command.PrepareOk) (rules.acknowledge hash h)
  at_acknowledge hash h = weighs_send o (λ r p. p) command.PrepareOk (λ r. primary r.n r.view) (told.prepare_ok hash h) (λ r. refl) (λ r. refl)

  at_replies : (a : Asker) (kind : _) → Weighs {F = F} w (At o) (At o) 0 (says (told.replies a kind))
  at_replies a kind = weighs_line _ (λ r. refl)

  at_stored_reply : (a : Asker) (x : SessionAnswer) → Weighs {F = F} w (At o) (At o) 0 (rules.stored_reply a x)
  at_stored_reply a answer.Fresh = at_quiet
  at_stored_reply a (answer.Repeat outcome op) = at_replies a _
  at_stored_reply a answer.Old = at_replies a _
  at_stored_reply a answer.Gap = at_replies a _
  at_stored_reply a answer.Evicted = at_replies a _

  at_prepare : (hash : Hash) (p : Prepare) (rule : Rule) → Weighs {F = F} w (At o) (At o) (max (w o.version command.PrepareOk) (w o.version command.GetView)) (rules.obey_prepare hash p rule)
  at_prepare hash p PreparedLater = weighs_as _ (omega arith) (at_ask_view _ _)
  at_prepare hash p Past = weighs_as _ (omega arith) (weighs_then _ _ (weighs_keeps _ (λ r. refl)) (at_learn _))
  at_prepare hash p Beyond = weighs_as _ (omega arith) (weighs_keeps _ (λ r. refl))
  at_prepare hash p Known =
      weighs_as _ (omega arith) (weighs_then _ _ (weighs_keeps _ (λ r. refl)) (weighs_then _ _ (at_accept _) (weighs_then _ _ (at_acknowledge hash _) (at_learn _))))
  at_prepare hash p Next =
      weighs_as _ (omega arith) (weighs_then _ _ (weighs_keeps _ (λ r. refl)) (weighs_then _ _ (at_write _) (weighs_then _ _ (at_acknowledge hash _) (at_learn _))))
  at_prepare hash p Ahead = weighs_as _ (omega arith) (weighs_then _ _ (weighs_keeps _ (λ r. refl)) (weighs_then _ _ (at_ask_view _ _) (at_learn _)))
  at_prepare hash p Other = weighs_as _ (omega arith) (weighs_keeps _ (λ r. refl))
  at_prepare hash p _ = at_quiet

  at_prepare_ok : (a : PrepareOk) (rule : Rule) → Weighs {F = F} w (At o) (At o) 0 (rules.obey_prepare_ok a rule)
  at_prepare_ok a Counted = weighs_then _ _ (weighs_keeps _ (λ r. refl)) at_advance
  at_prepare_ok a _ = at_quiet

  at_commit : (c : Commit) (rule : Rule) → Weighs {F = F} w (At o) (At o) (w o.version command.GetView) (rules.obey_commit c rule)
  at_commit c CommitLater = at_ask_view _ _
  at_commit c CommitHeard =
      weighs_as _ (omega arith) (weighs_then _ _ (weighs_keeps _ (λ r. refl)) (weighs_then _ _ (at_by _ (λ r p. weighs_when _ _ (at_ask_view _ _))) (at_learn _)))
  at_commit c _ = at_quiet

  at_acknowledged : (hash : Hash) (h : Option Header) → Weighs {F = F} w (At o) (At o) (w o.version command.PrepareOk) (option_map_or (rules.acknowledge hash) h quiet)
  at_acknowledged hash None = at_quiet
  at_acknowledged hash (Some h) = at_acknowledge hash h

  at_acknowledge_stored : (hash : Hash) (op : ℕ) → Weighs {F = F} w (At o) (At o) (w o.version command.PrepareOk) (rules.acknowledge_stored hash op)
  unfolding rules.acknowledge_stored
  at_acknowledge_stored hash op = at_by _ (λ r p. weighs_when _ _ (at_acknowledged hash _))

  from_start_view : (hash : Hash) (v : StartView) (c : ℕ) (rule : Rule) → EndsNear c v.head rule
      → Weighs {F = F} w (From o c) (At o) (max (64 * w o.version command.PrepareOk) (w o.version command.GetSync)) (rules.obey_start_view hash v rule)
  from_start_view hash v c Taken near =
      weighs_as _ (omega arith) (weighs_then _ _ (from_take c (log_of v)) (weighs_then _ _ (from_each c v.head (rules.acknowledge_stored hash) near (at_acknowledge_stored hash)) at_apply))
  from_start_view hash v c SyncAsked near =
      weighs_from _ (λ r p. p.seat) (weighs_as _ (omega arith) (weighs_send o (λ r p. p) command.GetSync (λ r. v.replica) (told.get_sync v.view) (λ r. refl) (λ r. refl)))
  from_start_view hash v c _ near = weighs_from _ (λ r p. p.seat) at_quiet

  at_sync_view : (hash : Hash) (v : SyncView) (rule : Rule) → IsFrame (frame.SyncView v) → Weighs {F = F} w (At o) (At o) (64 * w o.version command.PrepareOk) (rules.obey_sync_view hash v rule)
  at_sync_view hash v Jumped h =
      let order = h.order in
      let count = h.count in
      let short = h.short in
      let near : v.head ≤ v.commit + 64 = omega (arith, order.0, order.1, count, short) in
      weighs_as _ (omega arith) (weighs_then _ _ (at_jump v) (weighs_then _ _ (from_each v.commit v.head (rules.acknowledge_stored hash) near (at_acknowledge_stored hash)) at_apply))
  at_sync_view hash v _ h = at_quiet

  at_get_view : (g : GetView) (rule : Rule) → Weighs {F = F} w (At o) (At o) (w o.version command.StartView) (rules.obey_get_view g rule)
  at_get_view g ViewGiven = at_tell _
  at_get_view g _ = at_quiet

  at_get_sync : (g : GetSync) (rule : Rule) → Weighs {F = F} w (At o) (At o) (w o.version command.SyncView) (rules.obey_get_sync g rule)
  at_get_sync g SyncGiven = weighs_send o (λ r p. p) command.SyncView (λ r. g.replica) told.sync_view (λ r. refl) (λ r. refl)
  at_get_sync g _ = at_quiet

  at_get_prepare : (g : GetPrepare) (rule : Rule) → Weighs {F = F} w (At o) (At o) (w o.version command.GivePrepare) (rules.obey_get_prepare g rule)
  at_get_prepare g EntryGiven = at_entry _ _ (λ e. weighs_send o (λ r p. p) command.GivePrepare (λ r. g.replica) (told.give_prepare e) (λ r. refl) (λ r. refl))
  at_get_prepare g _ = at_quiet

  at_read : (g : GetBlock) (block : Option (List ℕ)) → Weighs {F = F} w (At o) (At o) (w o.version command.GiveBlock) (rules.give_read g block)
  at_read g None = at_quiet
  at_read g (Some block) = weighs_send o (λ r p. p) command.GiveBlock (λ r. g.replica) (told.give_block g.address block) (λ r. refl) (λ r. refl)

  at_get_block : (g : GetBlock) (block : Option (List ℕ)) (rule : Rule) → Weighs {F = F} w (At o) (At o) (w o.version command.GiveBlock) (rules.obey_get_block g block rule)
  at_get_block g block BlockGiven = at_read g block
  at_get_block g block _ = at_quiet

  at_put : (block : List ℕ) (name : Option Name) → Weighs {F = F} w (At o) (At o) 0 (rules.put_found block name)
  unfolding rules.put_block outputs
  at_put block None = at_quiet
  at_put block (Some name) =
      weighs_then _ _ (weighs_then _ _ (weighs_does _ (λ r. refl)) (weighs_then _ _ (weighs_keeps _ (λ r. refl)) (at_by _ (λ r p. weighs_when _ _ at_load)))) at_apply

  at_mend : (block : List ℕ) (name : Option Name) → Weighs {F = F} w (At o) (At o) 0 (rules.mend_found block name)
  unfolding outputs
  at_mend block None = at_quiet
  at_mend block (Some name) = weighs_then _ _ (weighs_does _ (λ r. refl)) (weighs_keeps _ (λ r. refl))

  at_give_block : (is_block : Name → List ℕ → Bool) (g : GiveBlock) (rule : Rule) → Weighs {F = F} w (At o) (At o) 0 (rules.obey_give_block is_block g rule)
  at_give_block is_block g BlockTaken = at_by _ (λ r p. at_put _ _)
  at_give_block is_block g BlockMended = at_by _ (λ r p. at_mend _ _)
  at_give_block is_block g _ = at_quiet

-- a group in which a message comes from another replica has another one
several : (index n sender : ℕ) → index < n → IsOther index n sender → 1 ≤ n - 1
several index n sender member other =
    let below = other.0 in
    elim (cases_lt 1 n) [
      | inl more ↦ omega (arith, more)
      | inr one ↦ absurd (other.1 (omega (arith, one, member, below)))
    ]

-- ---- rules that speak to all

module _ {F : Type 0} {w : ℕ → Command → ℕ} {o : Seat} (member : o.index < o.n) where
  at_request : (hash : Hash) (q : RequestFields) (rule : Rule) → Weighs {F = F} w (At o) (At o) ((o.n - 1) * w o.version command.Prepare) (rules.obey_request hash q rule)
  unfolding rules.make
  at_request hash q Redirected = weighs_as _ (omega arith) (at_replies _ _)
  at_request hash q Behind = weighs_as _ (omega arith) (at_replies _ _)
  at_request hash q Answered = at_by _ (λ r p. weighs_as _ (omega arith) (at_stored_reply _ _))
  at_request hash q Full = weighs_as _ (omega arith) (at_replies _ _)
  at_request hash q Made =
      at_by _ (λ r p. weighs_as _ (omega arith) (weighs_then _ _ (at_write _)
      (weighs_then _ _ (weighs_all o (λ r p. p) command.Prepare (told.prepare _) member (λ r. refl) (λ r. refl)) at_advance)))
  at_request hash q _ = at_quiet

  at_give_prepare : (g : GivePrepare) (rule : Rule) → Weighs {F = F} w (At o) (At o) (max ((o.n - 1) * w o.version command.Prepare) (w o.version command.PrepareOk)) (rules.obey_give_prepare g rule)
  at_give_prepare g EntryTaken = weighs_as _ (omega arith) (weighs_then _ _ (at_write _) (weighs_then _ _ (at_resend member _) at_apply))
  at_give_prepare g _ = at_quiet

  low_start_view_change : (c : StartViewChange) (rule : Rule) → 1 ≤ o.n - 1
      → Weighs {F = F} w (Low o) (At o) ((o.n - 1) * w o.version command.StartViewChange + spoken (w o.version) (o.n - 1)) (rules.obey_start_view_change c rule)
  low_start_view_change c ChangeLater more =
      weighs_as _ (omega arith) (weighs_then _ _ (low_enter member c.view) (weighs_then _ _ (low_keeps _ (λ r. refl)) (low_speak member)))
  low_start_view_change c ChangeHeard more = weighs_as _ (omega arith) (weighs_then _ _ (low_keeps _ (λ r. refl)) (low_speak member))
  low_start_view_change c ChangeDone more =
      let least = times_more 1 (o.n - 1) (w o.version command.StartView) more in
      weighs_from _ (λ r p. p.seat) (weighs_as _ (omega (arith, least)) (at_tell _))
  low_start_view_change c _ more = low_quiet

  low_do_view_change : (d : DoViewChange) (rule : Rule) → 1 ≤ o.n - 1
      → Weighs {F = F} w (Low o) (At o) ((o.n - 1) * w o.version command.StartViewChange + begun (w o.version) (o.n - 1)) (rules.obey_do_view_change d rule)
  low_do_view_change d StatedLate more =
      let least = times_more 1 (o.n - 1) (w o.version command.StartView) more in
      weighs_from _ (λ r p. p.seat) (weighs_as _ (omega (arith, least)) (at_tell _))
  low_do_view_change d Stated more =
      weighs_as _ (omega arith) (weighs_then _ _ (low_by _ (λ r p. weighs_when _ _ (low_enter member d.view))) (weighs_then _ _ (low_keeps _ (λ r. refl)) (low_try member)))
  low_do_view_change d _ more = low_quiet

  -- ---- ticks

  at_primary_ticks : Weighs {F = F} w (At o) (At o) ((o.n - 1) * w o.version command.Commit + ((o.n - 1) * w o.version command.Prepare + asked (w o.version))) rules.primary_ticks
  at_primary_ticks =
      weighs_as _ (omega arith) (weighs_then _ _ (weighs_all o (λ r p. p) command.Commit told.commit_message member (λ r. refl) (λ r. refl))
      (weighs_then _ _ (at_by _ (λ r p. weighs_when _ _ (at_prepare_again member _))) (weighs_then _ _ at_visit at_ask)))

  low_next_view : Weighs {F = F} w (Low o) (At o) ((o.n - 1) * w o.version command.StartViewChange) rules.next_view
  low_next_view = low_by _ (λ r p. weighs_onto _ (λ r p. p.seat) (low_enter member (r.view + 1)))

  low_looks : Weighs {F = F} w (Low o) (At o) (asked (w o.version)) (words.visit ⨾ words.ask)
  low_looks = weighs_from _ (λ r p. p.seat) (weighs_as _ (omega arith) (weighs_then _ _ at_visit at_ask))

  low_backup_ticks : Weighs {F = F} w (Low o) (At o) (max (asked (w o.version)) ((o.n - 1) * w o.version command.StartViewChange)) rules.backup_ticks
  low_backup_ticks =
      weighs_as _ (omega arith) (weighs_then _ _ (low_keeps _ (λ r. refl)) (low_by _ (λ r p. weighs_if (nat_le 5 r.idle) _ _
      (λ _. weighs_as {k = max (asked (w o.version)) ((o.n - 1) * w o.version command.StartViewChange)} _ (omega arith) low_next_view) (λ _. weighs_as _ (omega arith) low_looks))))

  low_changing_ticks : Weighs {F = F} w (Low o) (At o) ((o.n - 1) * w o.version command.StartViewChange + (spoken (w o.version) (o.n - 1) + asked (w o.version))) rules.changing_ticks
  low_changing_ticks =
      weighs_as _ (omega arith) (weighs_then _ _ (low_keeps _ (λ r. refl)) (low_by _ (λ r p. weighs_if (nat_le 10 r.idle) _ _
      (λ _. weighs_as {k = (o.n - 1) * w o.version command.StartViewChange + (spoken (w o.version) (o.n - 1) + asked (w o.version))} _ (omega arith) low_next_view)
      (λ _. weighs_as _ (omega arith) (weighs_then _ _ (weighs_all o (λ r p. p.seat) command.StartViewChange told.start_view_change member (λ r. refl) (λ r. refl))
      (weighs_then _ _ (low_speak member) (weighs_then _ _ at_visit at_ask)))))))

-- ---- steps, of a replica that is sound

-- the table of a start_view
view_rows : (P : Rule → Type 0) (a b c : Bool) → P Ignored → (b ≡ true → P Taken) → P SyncAsked → P (first_row ((a, Ignored) ∷ (b, Taken) ∷ (c, SyncAsked) ∷ []))
unfolding first_row
view_rows P true b c x y z = x
view_rows P false true c x y z = y refl
view_rows P false false true x y z = z
view_rows P false false false x y z = x

module _ {F : Type 0} (w : ℕ → Command → ℕ) (s : Setting F) (r : Replica) (f : F) (h : IsSound r) where
  member : (seat r).index < (seat r).n
  member = h.member

  low : Low (seat r) r
  low = let a = h.order.applied in let b = h.order.commit in record { seat = refl; low = omega (arith, a, b) }

  -- from another replica, or ignored
  from_other : (k v cluster sender : ℕ) (obey : Rule → Word F) (rows : List (Bool × Rule)) → obey Ignored ≡ quiet → (1 ≤ r.n - 1 → (rule : Rule) → Light w (At (seat r)) k (obey rule s r f))
      → Light w (At (seat r)) k (obey (first_row ((not (is_from v cluster sender r), Ignored) ∷ rows)) s r f)
  from_other k v cluster sender obey rows e go =
      row (not (is_from v cluster sender r)) Ignored rows (λ rule. Light w (At (seat r)) k (obey rule s r f))
      (λ _. rw e ((at_quiet {F = F} {w = w}).each s r f refl))
      (λ b. go (several r.index r.n sender h.member (from_is v cluster sender r (not-false _ b))) (first_row rows))

  start_view_near : (hash : Hash) (v : StartView) → EndsNear r.commit v.head (first_row (start_view_table hash v r))
  start_view_near hash v =
      let taken : Bool = words.may_take hash (log_of v) r in
      let here : Bool = not (r.index == primary r.n v.view) in
      view_rows (EndsNear r.commit v.head) (not (is_from_primary v.version v.cluster v.replica v.view r)) (taken && here)
      (words.is_newer (log_of v) r && (is_out_of_reach v r && here)) tt
      (λ e. let near = taken_near hash (log_of v) r (and_parts taken here e).0 in let below = low.low in omega (arith, near, below)) tt

  light_message : (m : Frame) → IsFrame m → Light w (At (seat r)) (for_message (w (version r)) (r.n - 1) m) (rules.on_message m s r f)
  unfolding rules.on_request rules.on_prepare rules.on_prepare_ok rules.on_commit rules.on_start_view_change rules.on_do_view_change rules.on_start_view rules.on_get_view rules.on_get_sync rules.on_get_prepare rules.on_give_prepare rules.on_get_block rules.on_give_block rules.on_sync_view naming by reading
  light_message (frame.Request q) i = (at_request member s.hash q (first_row (request_table q r))).each s r f refl
  light_message (frame.Reply a) i = at_quiet.each s r f refl
  light_message (frame.Prepare p) i = (at_prepare s.hash p (first_row (prepare_table s.hash p r))).each s r f refl
  light_message (frame.PrepareOk a) i = (at_prepare_ok a (first_row (prepare_ok_table s.hash a r))).each s r f refl
  light_message (frame.Commit c) i = (at_commit c (first_row (commit_table c r))).each s r f refl
  light_message (frame.StartViewChange c) i =
      from_other _ c.version c.cluster c.replica (rules.obey_start_view_change c) _ refl (λ more rule. (low_start_view_change member c rule more).each s r f low)
  light_message (frame.DoViewChange d) i =
      from_other _ d.version d.cluster d.replica (rules.obey_do_view_change d) _ refl (λ more rule. (low_do_view_change member d rule more).each s r f low)
  light_message (frame.StartView v) i = (from_start_view s.hash v r.commit (first_row (start_view_table s.hash v r)) (start_view_near s.hash v)).each s r f (record { seat = refl; above = omega arith })
  light_message (frame.GetView g) i = (at_get_view g (first_row (get_view_table g r))).each s r f refl
  light_message (frame.GetPrepare g) i = (at_get_prepare g (first_row (get_prepare_table s.hash g r))).each s r f refl
  light_message (frame.GivePrepare g) i = (at_give_prepare member g (first_row (give_prepare_table g r))).each s r f refl
  light_message (frame.GetBlock g) i = (at_get_block g (s.block f (rules.asked_block g)) (first_row (get_block_table (is_some (s.block f (rules.asked_block g))) g r))).each s r f refl
  light_message (frame.GiveBlock g) i = (at_give_block s.is_block g (first_row (give_block_table s.is_block g r))).each s r f refl
  light_message (frame.GetSync g) i = (at_get_sync g (first_row (get_sync_table g r))).each s r f refl
  light_message (frame.SyncView v) i = (at_sync_view s.hash v (first_row (sync_view_table s.hash v r)) i).each s r f refl

  -- by whether the view has begun
  tick_so : (b : Bool) (rule : Rule) → is_started r ≡ b → Light w (At (seat r)) (for_tick (w (version r)) (r.n - 1) b) (rules.obey_tick rule s r f)
      → Light w (At (seat r)) (for_tick (w (version r)) (r.n - 1) (is_started r)) (rules.obey_tick rule s r f)
  tick_so b rule e x = subst (λ (t : Bool). Light w (At (seat r)) (for_tick (w (version r)) (r.n - 1) t) (rules.obey_tick rule s r f)) (sym e) x

  light_tick : Light w (At (seat r)) (for_tick (w (version r)) (r.n - 1) (is_started r)) (rules.on_tick s r f)
  unfolding rules.on_tick by first_row
  light_tick =
      let P : Rule → Type 0 = λ rule. Light w (At (seat r)) (for_tick (w (version r)) (r.n - 1) (is_started r)) (rules.obey_tick rule s r f) in
      row (leads r) TickedPrimary ((is_started r, TickedBackup) ∷ (true, TickedChanging) ∷ []) P
      (λ e. tick_so true TickedPrimary (and_parts _ _ e).0 ((weighs_as _ (omega arith) (at_primary_ticks member)).each s r f refl))
      (λ _. row (is_started r) TickedBackup ((true, TickedChanging) ∷ []) P
      (λ e. tick_so true TickedBackup e ((weighs_as _ (omega arith) (low_backup_ticks member)).each s r f low))
      (λ e. tick_so false TickedChanging e ((low_changing_ticks member).each s r f low)))

  light_event : (e : Event) → IsFormed e → Light w (At (seat r)) (most (w (version r)) (r.n - 1) (is_started r) e) (rules.on_event e s r f)
  unfolding rules.on_request naming by
  light_event (event.Request q) i = (at_request member s.hash q (first_row (request_table q r))).each s r f refl
  light_event (event.Deliver m) i = light_message m i
  light_event event.Tick i = light_tick

pub steps_weigh_little : {F : Type 0} → StepsWeighLittle F
unfolding rules.react by
steps_weigh_little w s f r e h i =
    (cond_both (not (is_frozen r)) (rules.on_event e) quiet (λ (v : Word _). Light w (At (seat r)) (most (w (version r)) (r.n - 1) (is_started r) e) (v s r f))
    (λ _. light_event w s r f h e i) (λ _. at_quiet.each s r f refl)).light

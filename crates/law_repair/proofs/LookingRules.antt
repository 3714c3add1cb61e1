-- Each rule leaves no more entries here, or one that it has written; a tick may visit a place.
use Rattle.std.proofs.Common.{ℕ, ◌+◌, ◌-◌, ◌≤◌, ◌≡◌, ◌^◌, arith, refl, Bool, false, not, List, length, Option, Some, None}
use Rattle.std.specs.Prelude.{find, is_some, nat_le, nat_lt}
use Rattle.std.specs.Option.{option_map_or}
use Rattle.std.proofs.lemmas.Bool.{and_parts, eqb-true, leb-false, ltb-false, ltb-true, not-false, or_parts}
use Rattle.vr_header.specs.declared.header.Header.{Header}
use Rattle.vr_header.specs.Made.{Whole}
use Rattle.vr_ckpt.specs.declared.name.Name.{Name}
use Rattle.vr_rings.specs.Slots.{IsWhole}
use Rattle.vr_state.specs.declared.session.SessionAnswer.{SessionAnswer}
use Rattle.vr_state.specs.declared.session.SessionAnswer.TheVariants as answer
use Rattle.vr_msg.specs.declared.frame.Commit.{Commit}
use Rattle.vr_msg.specs.declared.frame.DoViewChange.{DoViewChange}
use Rattle.vr_msg.specs.declared.frame.Frame.{Frame}
use Rattle.vr_msg.specs.declared.frame.Frame.TheVariants as frame
use Rattle.vr_msg.specs.declared.frame.GetBlock.{GetBlock}
use Rattle.vr_msg.specs.declared.frame.GetPrepare.{GetPrepare}
use Rattle.vr_msg.specs.declared.frame.GetSync.{GetSync}
use Rattle.vr_msg.specs.declared.frame.GetView.{GetView}
use Rattle.vr_msg.specs.declared.frame.GiveBlock.{GiveBlock}
use Rattle.vr_msg.specs.declared.frame.GivePrepare.{GivePrepare}
use Rattle.vr_msg.specs.declared.frame.Prepare.{Prepare}
use Rattle.vr_msg.specs.declared.frame.PrepareOk.{PrepareOk}
use Rattle.vr_msg.specs.declared.frame.StartView.{StartView}
use Rattle.vr_msg.specs.declared.frame.StartViewChange.{StartViewChange}
use Rattle.vr_msg.specs.declared.frame.SyncView.{SyncView}
use Rattle.vr_msg.specs.declared.request.RequestFields.{RequestFields}
use Rattle.vr_msg.specs.declared.statement.Statement.{Statement}
use Rattle.vr_rules.specs.Deciding.{Hash, commit_table, do_view_change_table, first_of, get_block_table, get_prepare_table, get_sync_table, get_view_table, give_block_table, give_prepare_table, is_from_primary, is_known, is_wanted, log_of, prepare_ok_table, prepare_table, request_table, session_answer, start_view_change_table, start_view_table, sync_view_table}
use Rattle.vr_rules.specs.Fit.{IsProgram}
use Rattle.vr_rules.specs.Laws.{HasNames, IsMessage}
use Rattle.vr_rules.specs.Replica.{Replica, head, header_at, is_here, is_primary, is_started, last_view, part_at, version}
use Rattle.vr_rules.specs.Rules as rules
use Rattle.vr_rules.specs.Sound.{IsSound}
use Rattle.vr_rules.specs.Steps.{PutBlock, Setting, Word, ◌⨾◌, change, quiet}
use Rattle.vr_rules.specs.Words as words
use Rattle.vr_rules.specs.declared.asker.Asker.{Asker}
use Rattle.vr_rules.specs.declared.rule.Rule.{Rule}
use Rattle.vr_rules.specs.declared.rule.Rule.TheVariants.{BlockGiven, BlockMended, BlockTaken, ChangeDone, ChangeHeard, ChangeLater, CommitHeard, CommitLater, Counted, EntryGiven, Jumped, Stated, StatedLate, SyncAsked, SyncGiven, Taken, ViewGiven}
use Rattle.vr_rules.proofs.FitRules.{whole_of}
use Rattle.vr_rules.proofs.FitSteps.{whole_next}
use Rattle.vr_rules.proofs.Reacting.{may_store_next}
use Rattle.vr_rules.proofs.Ruling.{by_rows, for_of, group_of_primary, may_store_given, may_store_prepare}
use Rattle.vr_rules.proofs.Storing.{MayStore}
use Rattle.law_repair.proofs.Looking.{InWindow, LeavesBy, Sturdy, change_then, leaves_accept, leaves_by, leaves_naming, leaves_then, leaves_write, of_sheds}
use Rattle.law_repair.proofs.Shedding.{Shed, Sheds, sheds_advance, sheds_apply, sheds_by, sheds_does, sheds_each, sheds_enter, sheds_entry, sheds_jump, sheds_learn, sheds_load, sheds_naming, sheds_quiet, sheds_reading, sheds_resend, sheds_rested, sheds_same, sheds_says, sheds_speak, sheds_take, sheds_then, sheds_try, sheds_when}

-- ---- rules that write no entry

module _ {F : Type 0} where
  sheds_answer : (a : Asker) (x : SessionAnswer) → Sheds {F = F} (rules.stored_reply a x)
  sheds_answer a answer.Fresh = sheds_quiet
  sheds_answer a (answer.Repeat outcome op) = sheds_says _
  sheds_answer a answer.Old = sheds_says _
  sheds_answer a answer.Gap = sheds_says _
  sheds_answer a answer.Evicted = sheds_says _

  sheds_ok : (a : PrepareOk) (x : Rule) → Sheds {F = F} (rules.obey_prepare_ok a x)
  unfolding part_at
  sheds_ok a Counted = sheds_then _ _ (sheds_same (rules.acknowledged a) (λ r k. refl) (λ r. refl)) sheds_advance
  sheds_ok a _ = sheds_quiet

  sheds_commit : (c : Commit) (x : Rule) → Sheds {F = F} (rules.obey_commit c x)
  sheds_commit c CommitLater = sheds_says _
  sheds_commit c CommitHeard = sheds_then _ _ sheds_rested (sheds_then _ _ (sheds_by _ (λ r. sheds_when _ _ (sheds_says _))) (sheds_learn c.commit))
  sheds_commit c _ = sheds_quiet

  sheds_heard : (sender : ℕ) → Sheds {F = F} (change (rules.heard_of sender))
  unfolding part_at
  sheds_heard sender = sheds_same (rules.heard_of sender) (λ r k. refl) (λ r. refl)

  sheds_view_change : (c : StartViewChange) (x : Rule) → Sheds {F = F} (rules.obey_start_view_change c x)
  sheds_view_change c ChangeLater = sheds_then _ _ (sheds_enter c.view) (sheds_then _ _ (sheds_heard c.replica) sheds_speak)
  sheds_view_change c ChangeHeard = sheds_then _ _ (sheds_heard c.replica) sheds_speak
  sheds_view_change c ChangeDone = sheds_says _
  sheds_view_change c _ = sheds_quiet

  sheds_statement : (sender : ℕ) (t : Statement) → Sheds {F = F} (change (rules.with_statement sender t))
  unfolding part_at
  sheds_statement sender t = sheds_same (rules.with_statement sender t) (λ r k. refl) (λ r. refl)

  sheds_stated : (d : DoViewChange) (x : Rule) → Sheds {F = F} (rules.obey_do_view_change d x)
  sheds_stated d StatedLate = sheds_says _
  sheds_stated d Stated = sheds_then _ _ (sheds_by _ (λ r. sheds_when (nat_lt r.view d.view) _ (sheds_enter d.view))) (sheds_then _ _ (sheds_statement d.replica d.statement) sheds_try)
  sheds_stated d _ = sheds_quiet

  sheds_acknowledge_of : (hash : Hash) (o : Option Header) → Sheds {F = F} (option_map_or (rules.acknowledge hash) o quiet)
  sheds_acknowledge_of hash None = sheds_quiet
  sheds_acknowledge_of hash (Some h) = sheds_says _

  sheds_stored : (hash : Hash) (op : ℕ) → Sheds {F = F} (rules.acknowledge_stored hash op)
  unfolding rules.acknowledge_stored
  sheds_stored hash op = sheds_by _ (λ r. sheds_when (is_here (part_at r op)) _ (sheds_acknowledge_of hash (header_at r op)))

  sheds_start_view : (hash : Hash) (v : StartView) (x : Rule) → Sheds {F = F} (rules.obey_start_view hash v x)
  sheds_start_view hash v Taken = sheds_then _ _ (sheds_take (log_of v)) (sheds_then _ _ (sheds_by _ (λ r. sheds_each (rules.acknowledge_stored hash) _ (sheds_stored hash))) sheds_apply)
  sheds_start_view hash v SyncAsked = sheds_says _
  sheds_start_view hash v _ = sheds_quiet

  sheds_sync_view : (hash : Hash) (v : SyncView) (x : Rule) → Sheds {F = F} (rules.obey_sync_view hash v x)
  sheds_sync_view hash v Jumped = sheds_then _ _ (sheds_jump v) (sheds_then _ _ (sheds_by _ (λ r. sheds_each (rules.acknowledge_stored hash) _ (sheds_stored hash))) sheds_apply)
  sheds_sync_view hash v _ = sheds_quiet

  sheds_get_view : (g : GetView) (x : Rule) → Sheds {F = F} (rules.obey_get_view g x)
  sheds_get_view g ViewGiven = sheds_says _
  sheds_get_view g _ = sheds_quiet

  sheds_get_sync : (g : GetSync) (x : Rule) → Sheds {F = F} (rules.obey_get_sync g x)
  sheds_get_sync g SyncGiven = sheds_says _
  sheds_get_sync g _ = sheds_quiet

  sheds_get_prepare : (g : GetPrepare) (x : Rule) → Sheds {F = F} (rules.obey_get_prepare g x)
  sheds_get_prepare g EntryGiven = sheds_entry g.op _ (λ e. sheds_says _)
  sheds_get_prepare g _ = sheds_quiet

  sheds_give_read : (g : GetBlock) (o : Option (List ℕ)) → Sheds {F = F} (rules.give_read g o)
  sheds_give_read g None = sheds_quiet
  sheds_give_read g (Some block) = sheds_says _

  sheds_get_block : (g : GetBlock) (o : Option (List ℕ)) (x : Rule) → Sheds {F = F} (rules.obey_get_block g o x)
  sheds_get_block g o BlockGiven = sheds_give_read g o
  sheds_get_block g o _ = sheds_quiet

  sheds_put : (block : List ℕ) (o : Option Name) → Sheds {F = F} (rules.put_found block o)
  unfolding rules.put_block part_at
  sheds_put block None = sheds_quiet
  sheds_put block (Some name) =
      sheds_then _ _
      (sheds_then _ _ (sheds_does (λ r. PutBlock name block) (λ r. tt))
      (sheds_then _ _ (sheds_same (rules.without name) (λ r k. refl) (λ r. refl)) (sheds_by _ (λ r. sheds_when (words.is_loaded r) words.load sheds_load)))) sheds_apply

  sheds_mend : (block : List ℕ) (o : Option Name) → Sheds {F = F} (rules.mend_found block o)
  unfolding part_at
  sheds_mend block None = sheds_quiet
  sheds_mend block (Some name) = sheds_then _ _ (sheds_does (λ r. PutBlock name block) (λ r. tt)) (sheds_same (rules.not_worn name) (λ r k. refl) (λ r. refl))

  sheds_give_block : (is_block : Name → List ℕ → Bool) (g : GiveBlock) (x : Rule) → Sheds {F = F} (rules.obey_give_block is_block g x)
  sheds_give_block is_block g BlockTaken = sheds_by _ (λ r. sheds_put g.block (find (is_wanted is_block g) r.missing))
  sheds_give_block is_block g BlockMended = sheds_by _ (λ r. sheds_mend g.block (find (is_wanted is_block g) r.worn))
  sheds_give_block is_block g _ = sheds_quiet

shed_rested : (r : Replica) → Shed r (words.rested r)
unfolding part_at
shed_rested r = record { here = λ k h e. e; cursor = refl }

in_window : (e : Whole) (r : Replica) → MayStore e r → InWindow e r
in_window e r m = record { above = m.above; within = m.window }

-- it is of a version that the replica's file takes
taken_by : (e : Whole) (r : Replica) (last : ℕ) → version r ≤ last → MayStore e r → e.header.version ≤ last
taken_by e r last upto m = let few = m.is_entry.of_version in omega (arith, few, upto)

-- ---- rules that may write one

module _ {F : Type 0} (s : Setting F) (Fine : F → Type 0) (sturdy : Sturdy s Fine) (program : IsProgram s) (names : HasNames s) where
  abbrev Right : Word F → Replica → F → Type 0
  Right w r f = LeavesBy s Fine sturdy w r f

  right : (w : Word F) (r : Replica) (f : F) → Sheds w → Right w r f
  right w r f h = of_sheds s Fine sturdy w r f h

  write_then : (e : Whole) (w : Word F) (r : Replica) (f : F) → version r ≤ sturdy.stores.last → IsSound r → Fine f → IsWhole e → MayStore e r → Sheds w → Right (words.write e ⨾ w) r f
  write_then e w r f upto h fine whole m k =
      leaves_then s Fine sturdy (words.write e) w r f (leaves_write s Fine sturdy e r f fine whole (taken_by e r sturdy.stores.last upto m) (in_window e r m) h.lists.reach h.lists.parts) k

  accept_then : (e : Whole) (w : Word F) (r : Replica) (f : F) → version r ≤ sturdy.stores.last → r.first ≤ r.checkpoint + 1 → r.first + length r.parts ≡ r.checkpoint + 65 → Fine f → IsWhole e → MayStore e r → Sheds w → Right (words.accept e ⨾ w) r f
  accept_then e w r f upto reach parts fine whole m k =
      leaves_then s Fine sturdy (words.accept e) w r f (leaves_accept s Fine sturdy e r f fine whole (taken_by e r sturdy.stores.last upto m) (in_window e r m) reach parts) k

  rested_then : (w : Word F) (r : Replica) (f : F) → Right w (words.rested r) f → Right (change words.rested ⨾ w) r f
  rested_then w r f h = change_then s Fine sturdy words.rested w r f (shed_rested r) refl h

  pub at_request : (q : RequestFields) (r : Replica) (f : F) → version r ≤ sturdy.stores.last → IsSound r → Fine f → IsMessage (frame.Request q) → r.view ≤ last_view → Right (rules.on_request q) r f
  unfolding rules.on_request rules.make
  at_request q r f upto h fine m last =
      let idle = right quiet r f sheds_quiet in
      leaves_naming s Fine sturdy _ r f (leaves_by s Fine sturdy _ r f (by_rows (λ x. Right (rules.obey_request s.hash q x) r f) (request_table q r) (
        λ t. idle,
        λ n0. (
          λ t. right _ r f (sheds_says _),
          λ n1. (
            λ t. right _ r f (sheds_says _),
            λ n2. (
              λ t. idle,
              λ n3. (
                λ t. right _ r f (sheds_by _ (λ r. sheds_answer (rules.asker_by s.hash q) (session_answer q r))),
                λ n4. (
                  λ t. right _ r f (sheds_says _),
                  λ n5. (
                    λ t.
                        let lead = and_parts (is_started r) (is_primary r) (not-false _ n1) in
                        let behind = or_parts (not (words.is_loaded r)) (nat_lt r.applied r.commit) n2 in
                        let full = or_parts (nat_le 8 (head r - r.commit)) (nat_le (2 ^ 62) (head r)) n5 in
                        let few = leb-false 8 (head r - r.commit) full.0 in
                        let known = h.order.known in
                        let e : Whole = rules.next_entry s.hash q r in
                        let may : MayStore e r = may_store_next s.hash q r names h m (for_of q.version q.cluster r (not-false _ n0)) (eqb-true r.view r.log_view lead.0) last (ltb-false r.applied r.commit behind.1) (omega arith) (leb-false (2 ^ 62) (head r) full.1) in
                        leaves_by s Fine sturdy _ r f (write_then e _ r f upto h fine (whole_next s q r program m may) may (sheds_then _ _ (sheds_says _) sheds_advance)),
                    λ n6. idle,
                  ),
                ),
              ),
            ),
          ),
        ),
      )))

  at_prepare : (p : Prepare) (r : Replica) (f : F) → version r ≤ sturdy.stores.last → IsSound r → Fine f → IsMessage (frame.Prepare p) → Right (rules.on_prepare p) r f
  unfolding rules.on_prepare
  at_prepare p r f upto h fine m =
      let op : ℕ = p.entry.header.op in
      let idle = right quiet r f sheds_quiet in
      let rests = right _ r f sheds_rested in
      let may : not (is_from_primary p.version p.entry.header.cluster p.replica p.view r) ≡ false → nat_lt r.log_view p.view ≡ false → nat_le op r.checkpoint ≡ false
      → nat_lt (r.checkpoint + 64) op ≡ false → MayStore p.entry (words.rested r) =
      λ a b c d. may_store_prepare p r m (group_of_primary p.version p.entry.header.cluster p.replica p.view r a) (ltb-false r.log_view p.view b) (leb-false op r.checkpoint c) (ltb-false (r.checkpoint + 64) op d) in
      let reach = h.lists.reach in
      let parts = h.lists.parts in
      leaves_naming s Fine sturdy _ r f (leaves_by s Fine sturdy _ r f (by_rows (λ x. Right (rules.obey_prepare s.hash p x) r f) (prepare_table s.hash p r) (
        λ t. idle,
        λ n0. (
          λ t. idle,
          λ n1. (
            λ t. right _ r f (sheds_says _),
            λ n2. (
              λ t. right _ r f (sheds_then _ _ sheds_rested (sheds_learn p.commit)),
              λ n3. (
                λ t. rests,
                λ n4. (
                  λ t. rested_then _ r f (accept_then p.entry _ (words.rested r) f upto reach parts fine (whole_of p m) (may n0 n2 n3 n4) (sheds_then _ _ (sheds_says _) (sheds_learn p.commit))),
                  λ n5. (
                    λ t. rested_then _ r f (leaves_then s Fine sturdy (words.write p.entry) _ (words.rested r) f
                        (leaves_write s Fine sturdy p.entry (words.rested r) f fine (whole_of p m) (taken_by p.entry (words.rested r) sturdy.stores.last upto (may n0 n2 n3 n4)) (in_window p.entry (words.rested r) (may n0 n2 n3 n4)) reach parts) (sheds_then _ _ (sheds_says _) (sheds_learn p.commit))),
                    λ n6. (λ t. right _ r f (sheds_then _ _ sheds_rested (sheds_then _ _ (sheds_says _) (sheds_learn p.commit))), λ n7. (λ t. rests, λ n8. idle)),
                  ),
                ),
              ),
            ),
          ),
        ),
      )))

  at_give_prepare : (g : GivePrepare) (r : Replica) (f : F) → version r ≤ sturdy.stores.last → IsSound r → Fine f → IsMessage (frame.GivePrepare g) → Right (rules.on_give_prepare g) r f
  unfolding rules.on_give_prepare
  at_give_prepare g r f upto h fine m =
      let op : ℕ = g.entry.header.op in
      let whole : IsWhole g.entry = record { entry = m.form.entry; header = m.body } in
      leaves_by s Fine sturdy _ r f (by_rows (λ x. Right (rules.obey_give_prepare g x) r f) (give_prepare_table g r) (
        λ t. right quiet r f sheds_quiet,
        λ n0. (
          λ t.
              let a = and_parts (nat_lt r.checkpoint op) _ t in
              let b = and_parts (is_known g.entry.header op r) _ a.1 in
              write_then g.entry _ r f upto h fine whole (may_store_given g.entry r h (ltb-true r.checkpoint op a.0) b.0) (sheds_then _ _ (sheds_resend g.entry) sheds_apply),
          λ n1. right quiet r f sheds_quiet,
        ),
      ))

  pub at_message : (m : Frame) (r : Replica) (f : F) → version r ≤ sturdy.stores.last → IsSound r → Fine f → IsMessage m → r.view ≤ last_view → Right (rules.on_message m) r f
  unfolding rules.on_prepare_ok rules.on_commit rules.on_start_view_change rules.on_do_view_change rules.on_start_view rules.on_get_view rules.on_get_prepare rules.on_get_block rules.on_give_block rules.on_get_sync rules.on_sync_view
  at_message (frame.Request q) r f upto h fine m last = at_request q r f upto h fine m last
  at_message (frame.Reply a) r f upto h fine m last = right quiet r f sheds_quiet
  at_message (frame.Prepare p) r f upto h fine m last = at_prepare p r f upto h fine m
  at_message (frame.PrepareOk a) r f upto h fine m last = right _ r f (sheds_naming _ (λ hash. sheds_by _ (λ r. sheds_ok a (first_of (prepare_ok_table hash a r)))))
  at_message (frame.Commit c) r f upto h fine m last = right _ r f (sheds_by _ (λ r. sheds_commit c (first_of (commit_table c r))))
  at_message (frame.StartViewChange c) r f upto h fine m last = right _ r f (sheds_by _ (λ r. sheds_view_change c (first_of (start_view_change_table c r))))
  at_message (frame.DoViewChange d) r f upto h fine m last = right _ r f (sheds_by _ (λ r. sheds_stated d (first_of (do_view_change_table d r))))
  at_message (frame.StartView v) r f upto h fine m last = right _ r f (sheds_naming _ (λ hash. sheds_by _ (λ r. sheds_start_view hash v (first_of (start_view_table hash v r)))))
  at_message (frame.GetView g) r f upto h fine m last = right _ r f (sheds_by _ (λ r. sheds_get_view g (first_of (get_view_table g r))))
  at_message (frame.GetPrepare g) r f upto h fine m last = right _ r f (sheds_naming _ (λ hash. sheds_by _ (λ r. sheds_get_prepare g (first_of (get_prepare_table hash g r)))))
  at_message (frame.GivePrepare g) r f upto h fine m last = at_give_prepare g r f upto h fine m
  at_message (frame.GetBlock g) r f upto h fine m last = right _ r f (sheds_reading _ _ (λ o. sheds_by _ (λ r. sheds_get_block g o (first_of (get_block_table (is_some o) g r)))))
  at_message (frame.GiveBlock g) r f upto h fine m last = right _ r f (sheds_reading _ _ (λ is_block. sheds_by _ (λ r. sheds_give_block is_block g (first_of (give_block_table is_block g r)))))
  at_message (frame.GetSync g) r f upto h fine m last = right _ r f (sheds_by _ (λ r. sheds_get_sync g (first_of (get_sync_table g r))))
  at_message (frame.SyncView v) r f upto h fine m last = right _ r f (sheds_naming _ (λ hash. sheds_by _ (λ r. sheds_sync_view hash v (first_of (sync_view_table hash v r)))))

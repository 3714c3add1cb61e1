-- The words save values that make good copies.
use Rattle.std.proofs.Common.{arith, ◌≡◌, ◌≤◌, ◌<◌, ◌+◌, ◌-◌, ◌%◌, ◌^◌, refl, sym, ℕ, Bool, true, false, List, [], ◌∷◌, length, Option, Some, None}
use Rattle.std.specs.Prelude.{nat_lt, ◌==◌}
use Rattle.std.proofs.lemmas.Bool.{and_parts, ltb-true, ltb-false, eqb-true, eqb-false}
use Rattle.std.proofs.lemmas.List.{nil_from_length}
use Rattle.vr_rules.proofs.Wording.{entry_numbered, read_is, kept_alike, keeps_rested, kept_entered}
use Rattle.vr_msg.specs.Numbers.{IsNumber}
use Rattle.vr_ckpt.specs.declared.saving.SavedCheckpoint as checkpoint
use Rattle.vr_state.specs.StateTexts.{texts_of}
use Rattle.vr_ckpt.specs.declared.name.Name.{Name}
use Rattle.vr_header.specs.declared.header.Header.{Header}
use Rattle.vr_header.specs.declared.part.Part.{Part}
use Rattle.vr_header.specs.declared.part.Part.TheVariants.{Here, Lost, Wanted, Unknown, Nothing}
use Rattle.vr_header.specs.Made.{Whole}
use Rattle.vr_msg.specs.declared.frame.Frame.{Frame}
use Rattle.vr_msg.specs.declared.frame.SyncView.{SyncView}
use Rattle.vr_msg.specs.declared.output.Output.{Output}
use Rattle.vr_rules.specs.Replica.{Replica, last_view, part_at, forgetting, with_part}
use Rattle.vr_rules.specs.Steps.{Setting, Word, quiet, change, says, when}
use Rattle.vr_rules.specs.Outputs.{commit_line, applied_reply}
use Rattle.vr_rules.specs.Words.{Log, save, entered, rested, enter, writes, stored, write, accept, entry_of, or_lost, lost, with_entry, with_entry_at, applied, checkpoints, with_checkpoint, checkpoint_of, make_checkpoint, is_checkpoint, apply_entry, is_loaded, apply_next, apply, taken, prepare_again, may_take, resend, turned, ask_peer, ask_for, ask, jumped, mend_header, op_of_slot, place_now, visit, visit_block, visit_place, visit_read, visit_slot, with_cursor, with_worn}
use Rattle.vr_rules.specs.Rules.{mend_found, not_worn}
use Rattle.vr_rules.specs.Sound.{IsNameBytes, IsSound, IsSavable}
use Rattle.vr_rules.specs.Laws.{SavesRoots}
use Rattle.vr_rules.proofs.Combining.{Keeps, keeps_change}
use Rattle.vr_rules.proofs.Storing.{MayStore, kept_stored, kept_lost, kept_moved, kept_applied}
use Rattle.vr_rules.specs.Given.{IsLogFor, IsSyncFor}
use Rattle.vr_rules.proofs.Taking.{may_take_is, kept_taken}
use Rattle.vr_rules.proofs.SavesWell.{Well, GoodBy, Good, well_less, well_alike, savable_alike, body, good_change_then, good_says_then, good_does_then, good_change, good_quiet, good_by, good_reading, good_if, good_when, goods_more, goods_then, goods_quiet, goods_says, goods_change, goods_by, goods_naming, goods_if, goods_when, goods_times, goods_save, goods_does, goods_reading}
use Rattle.vr_rules.proofs.Visiting.{keeps_with_worn, keeps_with_cursor, keeps_not_worn}
use Rattle.vr_rules.proofs.Jumping.{MayJump, kept_jumped}
use Rattle.vr_rules.proofs.SavesJump.{savable_jumped}
use Rattle.vr_rules.proofs.SavesParts.{savable_stored, savable_lost, savable_entered, savable_move, topped_moved, savable_taken}

keeps_turned : {F : Type 0} → Keeps {F = F} (change turned)
keeps_turned = keeps_change turned (λ r h. kept_alike r (turned r) refl (record { view = omega arith; log_view = omega arith; commit = omega arith; applied = omega arith; checkpoint = omega arith }) h)

pub well_stored : (v n : ℕ) (e : Whole) (r : Replica) → MayStore e r → Well v n r → Well v n (stored e r)
unfolding forgetting with_part
well_stored v n e r m h = record { sound = (kept_stored e r h.sound m).sound; savable = savable_stored e r h.sound m h.savable; view = h.view; room = h.room }

well_lost : (v n k : ℕ) (g : Header) (r : Replica) → part_at r k ≡ Here g → Well v n r → Well v n (lost g r)
unfolding with_part
well_lost v n k g r e h = record { sound = (kept_lost k g r h.sound e).sound; savable = savable_lost k g r h.sound e h.savable; view = h.view; room = h.room }

pub well_entered : (v n view : ℕ) (r : Replica) → r.view ≤ view → view < v → v ≤ 2 ^ 32 → Well v n r → Well v n (entered view r)
unfolding entered
well_entered v n view r a b c h =
    record { sound = (kept_entered view r h.sound a).sound; savable = savable_entered view r (omega arith) h.savable; view = b; room = h.room }

savable_moved : (c : checkpoint.SavedCheckpoint) (e : Whole) (r : Replica) → c.root.address < 128 → IsNameBytes c.root.sum.0 → IsSound r → r.applied < r.commit → IsSavable r
    → IsSavable (with_checkpoint c (applied e r))
savable_moved c e r a b h l w = savable_move c (applied e r) a b (omega arith) (savable_alike r (applied e r) refl w) (topped_moved c e r h l)

well_moved : (v n : ℕ) (c : checkpoint.SavedCheckpoint) (e : Whole) (r : Replica) → c.root.address < 128 → IsNameBytes c.root.sum.0 → IsNumber e.header.op → r.applied < r.commit → r.missing ≡ [] → (r.applied + 1) % 32 ≡ 0
    → Well v n r → Well v n (with_checkpoint c (applied e r))
unfolding with_checkpoint
well_moved v n c e r a b k l m d h =
    record { sound = (kept_moved c e r h.sound k l m d).sound; savable = savable_moved c e r a b h.sound l h.savable; view = h.view; room = h.room }

pub well_taken : (v n : ℕ) (hash : List ℕ → List ℕ) (l : Log) (r : Replica) → IsLogFor r l → may_take hash l r ≡ true → l.view < v → v ≤ 2 ^ 32 - 1 → Well v n r → Well v n (taken l r)
unfolding taken forgetting
well_taken v n hash l r log may b c h =
    record {
      sound = (kept_taken l r h.sound log (may_take_is hash l r may)).sound;
      savable = savable_taken hash l r h.sound log (may_take_is hash l r may) may (omega arith) h.savable;
      view = b;
      room = h.room;
    }

pub well_jumped : (v n : ℕ) (x : SyncView) (r : Replica) → IsSyncFor r x → MayJump x r → x.root_address < 128 → IsNameBytes x.root_name.0 → x.view < v → v ≤ 2 ^ 32 - 1 → Well v n r → Well v n (jumped x r)
unfolding jumped forgetting
well_jumped v n x r is m a name b c h =
    record { sound = (kept_jumped x r h.sound is m).sound; savable = savable_jumped x r h.sound is m a name (omega arith) h.savable; view = b; room = h.room }

module _ {F : Type 0} (v : ℕ) (s : Setting F) where
  pub goods_alike : (c : ℕ) (g : Replica → Replica) → Keeps {F = F} (change g) → ((r : Replica) → body (g r) ≡ body r) → ((r : Replica) → (g r).saved ≡ r.saved) → Good {F = F} v c (change g) s
  goods_alike c g k e same = goods_more v s 0 c (change g) (omega arith) (goods_change v s g k e same)

  pub goods_tell : (c : ℕ) (os : Replica → List Output) → Good {F = F} v c (says os) s
  goods_tell c os = goods_more v s 0 c (says os) (omega arith) (goods_says v s os)

  pub goods_rest : (c : ℕ) → Good {F = F} v c quiet s
  goods_rest c = goods_more v s 0 c quiet (omega arith) (goods_quiet v s)

  -- ---- entering, storing

  pub good_enter : (n view : ℕ) (r : Replica) (f : F) → r.view ≤ view → v ≡ last_view + 1 → Well v (n + 1) r → GoodBy {F = F} v n (enter view) s r f
  unfolding enter
  good_enter n view r f a b h =
      good_if v s n (nat_lt last_view view) (change rested) _ r f
      (λ e. (goods_alike 1 rested keeps_rested (λ r. refl) (λ r. refl)).every n r f h)
      (λ e.
      let low = ltb-false last_view view e in
      good_change_then v s n (entered view) _ r f (λ d. (goods_then v s 1 0 save _ (goods_save v s) (goods_says v s _)).every n (entered view r) d
      (well_entered v (n + 1) view r a (omega (arith, low, b)) (omega (arith, b)) h)))

  pub good_write : (n : ℕ) (e : Whole) (r : Replica) (f : F) → MayStore e r → Well v n r → GoodBy {F = F} v n (write e) s r f
  unfolding write
  good_write n e r f m h = good_does_then v s n (writes e) (change (stored e)) r f tt (λ d. good_change v s n (stored e) r d (well_stored v n e r m h))

  pub good_accept : (n : ℕ) (e : Whole) (r : Replica) (f : F) → MayStore e r → Well v n r → GoodBy {F = F} v n (accept e) s r f
  unfolding accept
  good_accept n e r f m h = good_by v s n _ r f (good_when v s n _ (write e) r f h (λ t. good_write n e r f m h))

  -- ---- reading

  good_or_lost : (n k : ℕ) (g : Header) (w : Whole → Word F) (o : Option Whole) (r : Replica) (f : F) → part_at r k ≡ Here g → Well v n r → ((e : Whole) → o ≡ Some e → GoodBy v n (w e) s r f) → GoodBy v n (or_lost g w o) s r f
  good_or_lost n k g w None r f e h all = good_change v s n (lost g) r f (well_lost v n k g r e h)
  good_or_lost n k g w (Some x) r f e h all = all x refl

  good_part : (n k : ℕ) (w : Whole → Word F) (p : Part) (r : Replica) (f : F) → part_at r k ≡ p → Well v n r → ((e : Whole) → IsNumber e.header.op → GoodBy v n (w e) s r f) → GoodBy v n (with_entry w p) s r f
  good_part n k w (Here g) r f e h all =
      good_reading v s n (entry_of g) (or_lost g w) r f (good_or_lost n k g w (entry_of g s f) r f e h
      (λ d i. all d (entry_numbered k g r d h.sound e (read_is g (s.entry f (g.op % 64)) d i))))
  good_part n k w (Lost g) r f e h all = good_quiet v s n r f h
  good_part n k w (Wanted g) r f e h all = good_quiet v s n r f h
  good_part n k w Unknown r f e h all = good_quiet v s n r f h
  good_part n k w Nothing r f e h all = good_quiet v s n r f h

  pub good_entry : (n k : ℕ) (w : Whole → Word F) (r : Replica) (f : F) → Well v n r → ((e : Whole) → IsNumber e.header.op → GoodBy v n (w e) s r f) → GoodBy v n (with_entry_at k w) s r f
  unfolding with_entry_at
  good_entry n k w r f h all = good_by v s n _ r f (good_part n k w (part_at r k) r f refl h all)

  pub goods_entry : (k : ℕ) (w : Whole → Word F) → ((e : Whole) → Good v 0 (w e) s) → Good v 0 (with_entry_at k w) s
  goods_entry k w all = record { every = λ n r f h. good_entry n k w r f (well_less v n (n + 0) r (omega arith) h) (λ e i. (all e).every n r f h) }

  pub goods_prepare_again : (op : ℕ) → Good {F = F} v 0 (prepare_again op) s
  unfolding prepare_again
  goods_prepare_again op = goods_entry op _ (λ e. goods_says v s _)

  pub goods_resend : (e : Whole) → Good {F = F} v 0 (resend e) s
  unfolding resend
  goods_resend e = goods_naming v s 0 _ (λ hash. goods_by v s 0 _ (λ r. goods_when v s 0 _ _ (goods_if v s 0 _ _ _ (goods_says v s _) (goods_says v s _))))

  goods_ask_peer : (message : Replica → Frame) → Good {F = F} v 0 (ask_peer message) s
  unfolding ask_peer
  goods_ask_peer message = goods_more v s (0 + 0) 0 _ (omega arith) (goods_then v s 0 0 _ _ (goods_says v s _) (goods_change v s turned keeps_turned (λ r. refl) (λ r. refl)))

  goods_ask_for : (names : List Name) (absent : Option Header) (worn : List Name) → Good {F = F} v 0 (ask_for names absent worn) s
  goods_ask_for (name ∷ names) absent worn = goods_ask_peer _
  goods_ask_for [] (Some h) worn = goods_naming v s 0 _ (λ hash. goods_ask_peer _)
  goods_ask_for [] None (name ∷ names) = goods_ask_peer _
  goods_ask_for [] None [] = goods_quiet v s

  pub goods_ask : Good {F = F} v 0 ask s
  unfolding ask
  goods_ask = goods_by v s 0 _ (λ r. goods_when v s 0 _ _ (goods_ask_for r.missing _ r.worn))

  -- ---- a visit

  goods_mend_header : (h : Header) (o : Option Header) → Good {F = F} v 0 (mend_header h o) s
  goods_mend_header h None = goods_does v s _ (λ r. tt)
  goods_mend_header h (Some d) = goods_when v s 0 _ _ (goods_does v s _ (λ r. tt))

  goods_visit_slot : (op : ℕ) → Good {F = F} v 0 (visit_slot op) s
  unfolding visit_slot
  goods_visit_slot op = goods_entry op _ (λ e. goods_reading v s 0 _ _ (goods_mend_header e.header))

  goods_visit_read : (name : Name) (o : Option (List ℕ)) → Good {F = F} v 0 (visit_read name o) s
  goods_visit_read name None = goods_change v s (with_worn name) (keeps_with_worn name) (λ r. refl) (λ r. refl)
  goods_visit_read name (Some block) = goods_quiet v s

  goods_visit_block : (o : Option Name) → Good {F = F} v 0 (visit_block o) s
  unfolding visit_block
  goods_visit_block None = goods_quiet v s
  goods_visit_block (Some name) = goods_reading v s 0 _ _ (goods_visit_read name)

  goods_visit_place : (at : ℕ) → Good {F = F} v 0 (visit_place at) s
  unfolding visit_place
  goods_visit_place at =
      goods_by v s 0 _ (λ r. goods_if v s 0 (nat_lt at 64) _ _ (goods_visit_slot (op_of_slot r at)) (goods_if v s 0 (at == 64) _ _ (goods_does v s _ (λ r. tt)) (goods_visit_block _)))

  pub goods_visit : Good {F = F} v 0 visit s
  unfolding visit
  goods_visit =
      goods_by v s 0 _ (λ r. goods_when v s 0 (is_loaded r) _ (goods_then v s 0 0 _ _ (goods_visit_place (place_now r))
      (goods_change v s (with_cursor (place_now r)) (keeps_with_cursor (place_now r)) (λ r. refl) (λ r. refl))))

  pub goods_mend_found : (block : List ℕ) (o : Option Name) → Good {F = F} v 0 (mend_found block o) s
  goods_mend_found block None = goods_quiet v s
  goods_mend_found block (Some name) = goods_then v s 0 0 _ _ (goods_does v s _ (λ r. tt)) (goods_change v s (not_worn name) (keeps_not_worn name) (λ r. refl) (λ r. refl))

module _ {F : Type 0} (v : ℕ) (s : Setting F) (roots : SavesRoots s) where
  -- ---- applying

  good_checkpoint : (n : ℕ) (e : Whole) (r : Replica) (f : F) → IsNumber e.header.op → r.applied < r.commit → r.missing ≡ [] → (r.applied + 1) % 32 ≡ 0 → Well v (n + 1) r → GoodBy {F = F} v n make_checkpoint s (applied e r) f
  unfolding make_checkpoint
  good_checkpoint n e r f k a m d h =
      let q : Replica = applied e r in
      let c : checkpoint.SavedCheckpoint = checkpoint_of q s f in
      good_by v s n _ q f (good_reading v s n (checkpoint_of q) _ q f (good_does_then v s n checkpoints _ q f tt (λ x.
      good_change_then v s n (with_checkpoint c) save q x (λ y. (goods_save v s).every n (with_checkpoint c q) y
      (well_moved v (n + 1) c e r (roots.address q.cluster (texts_of q.state) q.applied q.table) (roots.name q.cluster (texts_of q.state) q.applied q.table) k a m d h)))))

  well_applied : (n : ℕ) (e : Whole) (r : Replica) → IsNumber e.header.op → r.applied < r.commit → r.missing ≡ [] → ((r.applied + 1) % 32 ≡ 0 → ⊥) → Well v n r → Well v n (applied e r)
  well_applied n e r k a m d h = well_alike v n r (applied e r) refl refl (kept_applied e r h.sound k a m d).sound h

  good_applied : (n : ℕ) (e : Whole) (r : Replica) (f : F) (b : Bool) → b ≡ is_checkpoint (r.applied + 1) → IsNumber e.header.op → r.applied < r.commit → r.missing ≡ [] → Well v (n + 1) r
      → GoodBy {F = F} v n (when b make_checkpoint) s (applied e r) f
  good_applied n e r f true i k a m h = good_checkpoint n e r f k a m (eqb-true ((r.applied + 1) % 32) 0 (sym i)) h
  good_applied n e r f false i k a m h =
      good_quiet v s n (applied e r) f (well_less v n (n + 1) (applied e r) (omega arith) (well_applied (n + 1) e r k a m (eqb-false ((r.applied + 1) % 32) 0 (sym i)) h))

  good_apply_entry : (n : ℕ) (e : Whole) (r : Replica) (f : F) → IsNumber e.header.op → r.applied < r.commit → r.missing ≡ [] → Well v (n + 1) r → GoodBy {F = F} v n (apply_entry e) s r f
  unfolding apply_entry
  good_apply_entry n e r f k a m h =
      good_says_then v s n (commit_line e) _ r f (λ d. good_says_then v s n (applied_reply e) _ r d (λ x. good_change_then v s n (applied e) _ r x (λ y.
      good_by v s n _ (applied e r) y (good_applied n e r y (is_checkpoint (r.applied + 1)) refl k a m h))))

  goods_apply_next : Good {F = F} v 1 apply_next s
  unfolding apply_next
  goods_apply_next = record {
    every = λ n r f h.
        let less = well_less v n (n + 1) r (omega arith) h in
        good_by v s n _ r f (good_when v s n _ _ r f less (λ t.
        let p = and_parts (is_loaded r) (nat_lt r.applied r.commit) t in
        let m : r.missing ≡ [] = nil_from_length r.missing (eqb-true (length r.missing) 0 p.0) in
        good_entry v s n (r.applied + 1) apply_entry r f less (λ e k. good_apply_entry n e r f k (ltb-true r.applied r.commit p.1) m h)));
  }

  -- at most a window of ops is applied
  pub goods_apply : Good {F = F} v 64 apply s
  unfolding apply
  goods_apply = record {
    every = λ n r f h.
        let o = h.sound.order in
        let low = o.applied in
        let known = o.known in
        let window = o.window in
        good_by v s n _ r f ((goods_more v s (r.commit - r.applied) 64 _ (omega arith) (goods_times v s (r.commit - r.applied) apply_next goods_apply_next)).every n r f h);
  }

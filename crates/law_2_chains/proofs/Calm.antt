-- Words by whose effects nothing comes to count as stored, and that keep the view and the log view.
use Rattle.std.proofs.Common.{ℕ, zero, suc, ◌+◌, ◌-◌, ◌≤◌, ◌≡◌, ◌∙◌, inl, inr, arith, refl, Bool, true, false, cond, not, List, [], ◌∷◌, map, Option, Some, None}
use Rattle.std.specs.Prelude.{nat_lt, nat_le, ◌==◌, slice_get}
use Rattle.vr_header.specs.declared.header.Header.{Header}
use Rattle.vr_header.specs.declared.part.Part.{Part}
use Rattle.vr_header.specs.declared.part.Part.TheVariants.{Here, Lost, Wanted, Unknown, Nothing}
use Rattle.vr_header.specs.Made.{Whole}
use Rattle.vr_header.specs.Same.{same_header}
use Rattle.vr_msg.specs.declared.frame.Frame.{Frame}
use Rattle.vr_msg.specs.declared.output.Output.{Output}
use Rattle.vr_ckpt.specs.declared.name.Name.{Name}
use Rattle.vr_rules.specs.Outputs.{commit_line, applied_reply, get_block, get_prepare, send_to_all, start_view_change}
use Rattle.vr_rules.specs.Replica.{Replica, head, is_alone, last_view, part_at, with_part}
use Rattle.vr_rules.specs.Rules.{backup_ticks, idler, next_view, primary_ticks}
use Rattle.vr_rules.specs.Steps.{Effect, Say, Setting, Word, ◌⨾◌, quiet, change, does, says, by, naming, reading, when, times, each, after_all}
use Rattle.vr_rules.specs.Words.{advance, advanced, applied, apply, apply_entry, apply_next, ask, ask_for, ask_peer, blocks_of, checkpoint_of, checkpoints, enter, entered, entry_of, header_read, is_loaded, least_absent, lost, make_checkpoint, mend_header, op_of_slot, or_lost, place_now, prepare_again, rested, save, saves, turned, value_of, visit, visit_block, visit_place, visit_read, visit_slot, with_checkpoint, with_cursor, with_entry, with_entry_at, with_saved, with_worn}
use Rattle.law_2_chains.specs.Chains.{Every}
use Rattle.law_2_chains.proofs.LastWord.{last_word}
use Rattle.law_2_chains.proofs.Scripts.{every_append}
use Rattle.law_2_chains.proofs.StoredLists.{IsCalm, calm_same}

-- ---- scripts

pub calm_said : (view log : ℕ) (os : List Output) → Every (IsCalm view log) (map Say os)
calm_said view log [] = tt
calm_said view log (o ∷ os) = (tt, calm_said view log os)

-- ---- words

pub record Calms {F : Type 0} (w : Word F) : Type 0 where
  pub every : (t : Setting F) (r : Replica) (f : F) → Every (IsCalm r.view r.log_view) (w t r f).script
  pub views : (t : Setting F) (r : Replica) (f : F) → ((w t r f).replica.view ≡ r.view) × ((w t r f).replica.log_view ≡ r.log_view)

module _ {F : Type 0} where
  -- of one replica and disk: a word, and then another
  pub calm_then : (v w : Word F) → Calms v → (t : Setting F) (r : Replica) (f : F) → ((d : F) → Every (IsCalm (v t r f).replica.view (v t r f).replica.log_view) (w t (v t r f).replica d).script)
      → Every (IsCalm r.view r.log_view) ((v ⨾ w) t r f).script
  unfolding ◌⨾◌
  calm_then v w h t r f k =
      let a = v t r f in
      let g = after_all t f a.script in
      let p = h.views t r f in
      every_append (IsCalm r.view r.log_view) a.script (w t a.replica g).script (h.every t r f) (calm_same a.replica.view r.view a.replica.log_view r.log_view (w t a.replica g).script p.0 p.1 (k g))

  pub calms_then : (v w : Word F) → Calms v → Calms w → Calms (v ⨾ w)
  unfolding ◌⨾◌
  calms_then v w h k = record {
    every = λ t r f. calm_then v w h t r f (λ d. k.every t (v t r f).replica d);
    views = λ t r f.
        let a = v t r f in
        let p = h.views t r f in
        let q = k.views t a.replica (after_all t f a.script) in
        (q.0 ∙ p.0, q.1 ∙ p.1);
  }

  pub calms_quiet : Calms {F = F} quiet
  unfolding quiet
  calms_quiet = record { every = λ t r f. tt; views = λ t r f. (refl, refl) }

  pub calms_change : (g : Replica → Replica) → ((r : Replica) → ((g r).view ≡ r.view) × ((g r).log_view ≡ r.log_view)) → Calms {F = F} (change g)
  unfolding change
  calms_change g h = record { every = λ t r f. tt; views = λ t r f. h r }

  pub calms_says : (os : Replica → List Output) → Calms {F = F} (says os)
  unfolding says
  calms_says os = record { every = λ t r f. calm_said r.view r.log_view (os r); views = λ t r f. (refl, refl) }

  calms_does : (e : Replica → Effect) → ((r : Replica) → IsCalm r.view r.log_view (e r)) → Calms {F = F} (does e)
  unfolding does
  calms_does e h = record { every = λ t r f. (h r, tt); views = λ t r f. (refl, refl) }

  pub calms_by : (w : Replica → Word F) → ((r : Replica) → Calms (w r)) → Calms (by w)
  unfolding by
  calms_by w h = record { every = λ t r f. (h r).every t r f; views = λ t r f. (h r).views t r f }

  calms_naming : (w : (List ℕ → List ℕ) → Word F) → ((hash : List ℕ → List ℕ) → Calms (w hash)) → Calms (naming w)
  unfolding naming
  calms_naming w h = record { every = λ t r f. (h t.hash).every t r f; views = λ t r f. (h t.hash).views t r f }

  calms_reading : {X : Type 0} (g : Setting F → F → X) (w : X → Word F) → ((x : X) → Calms (w x)) → Calms (reading g w)
  unfolding reading
  calms_reading g w h = record { every = λ t r f. (h (g t f)).every t r f; views = λ t r f. (h (g t f)).views t r f }

  calms_if : (b : Bool) (v w : Word F) → Calms v → Calms w → Calms (cond b v w)
  calms_if true v w h k = h
  calms_if false v w h k = k

  calms_when : (b : Bool) (w : Word F) → Calms w → Calms (when b w)
  calms_when b w h = calms_if b w quiet h calms_quiet

  calms_times : (n : ℕ) (w : Word F) → Calms w → Calms (times n w)
  unfolding times
  calms_times zero w h = calms_quiet
  calms_times (suc n) w h = calms_then w (times n w) h (calms_times n w h)

  pub calms_each : {X : Type 0} (w : X → Word F) (xs : List X) → ((x : X) → Calms (w x)) → Calms (each w xs)
  unfolding each
  calms_each w [] h = calms_quiet
  calms_each w (x ∷ xs) h = calms_then (w x) (each w xs) (h x) (calms_each w xs h)

  -- ---- what is stored is read

  calms_lost : (h : Header) → Calms {F = F} (change (lost h))
  unfolding with_part
  calms_lost h = calms_change (lost h) (λ r. (refl, refl))

  calms_or_lost : (h : Header) (w : Whole → Word F) (o : Option Whole) → ((e : Whole) → Calms (w e)) → Calms (or_lost h w o)
  calms_or_lost h w None k = calms_lost h
  calms_or_lost h w (Some e) k = k e

  calms_part : (w : Whole → Word F) (p : Part) → ((e : Whole) → Calms (w e)) → Calms (with_entry w p)
  calms_part w (Here h) k = calms_reading (entry_of h) (or_lost h w) (λ o. calms_or_lost h w o k)
  calms_part w (Lost h) k = calms_quiet
  calms_part w (Wanted h) k = calms_quiet
  calms_part w Unknown k = calms_quiet
  calms_part w Nothing k = calms_quiet

  calms_entry_at : (op : ℕ) (w : Whole → Word F) → ((e : Whole) → Calms (w e)) → Calms (with_entry_at op w)
  unfolding with_entry_at
  calms_entry_at op w k = calms_by _ (λ r. calms_part w (part_at r op) k)

  pub calms_again : (op : ℕ) → Calms {F = F} (prepare_again op)
  unfolding prepare_again
  calms_again op = calms_entry_at op _ (λ e. calms_says _)

  -- ---- Save, Apply, Advance

  calms_save : Calms {F = F} save
  unfolding save value_of
  calms_save = calms_then (does saves) (change with_saved) (calms_does saves (λ r. inl (refl, refl))) (calms_change with_saved (λ r. (refl, refl)))

  calms_make_checkpoint : Calms {F = F} make_checkpoint
  unfolding make_checkpoint with_checkpoint
  calms_make_checkpoint =
      calms_by _ (λ r. calms_reading (checkpoint_of r) _ (λ c. calms_then _ _ (calms_does checkpoints (λ r. tt)) (calms_then _ _ (calms_change (with_checkpoint c) (λ r. (refl, refl))) calms_save)))

  calms_apply_entry : (e : Whole) → Calms {F = F} (apply_entry e)
  unfolding apply_entry
  calms_apply_entry e =
      calms_then _ _ (calms_says (commit_line e)) (calms_then _ _ (calms_says (applied_reply e)) (calms_then _ _ (calms_change (applied e) (λ r. (refl, refl))) (calms_by _ (λ r. calms_when _ make_checkpoint calms_make_checkpoint))))

  calms_apply_next : Calms {F = F} apply_next
  unfolding apply_next
  calms_apply_next = calms_by _ (λ r. calms_when _ _ (calms_entry_at (r.applied + 1) apply_entry calms_apply_entry))

  calms_apply : Calms {F = F} apply
  unfolding apply
  calms_apply = calms_by _ (λ r. calms_times (r.commit - r.applied) apply_next calms_apply_next)

  pub calms_advance : Calms {F = F} advance
  unfolding advance advanced
  calms_advance = calms_then _ _ (calms_change advanced (λ r. (refl, refl))) calms_apply

  pub calms_last : Calms {F = F} last_word
  calms_last = calms_by _ (λ r. calms_if (is_alone r) advance apply calms_advance calms_apply)

  -- ---- Ask and Visit

  calms_ask_peer : (message : Replica → Frame) → Calms {F = F} (ask_peer message)
  unfolding ask_peer
  calms_ask_peer message = calms_then _ _ (calms_says _) (calms_change turned (λ r. (refl, refl)))

  calms_ask_for : (names : List Name) (absent : Option Header) (worn : List Name) → Calms {F = F} (ask_for names absent worn)
  calms_ask_for (name ∷ names) absent worn = calms_ask_peer (get_block name)
  calms_ask_for [] (Some h) worn = calms_naming _ (λ hash. calms_ask_peer (get_prepare hash h))
  calms_ask_for [] None (name ∷ names) = calms_ask_peer (get_block name)
  calms_ask_for [] None [] = calms_quiet

  calms_ask : Calms {F = F} ask
  unfolding ask
  calms_ask = calms_by _ (λ r. calms_when (not (is_alone r)) _ (calms_ask_for r.missing (least_absent r) r.worn))

  calms_header : (h : Header) (o : Option Header) → Calms {F = F} (mend_header h o)
  calms_header h None = calms_does _ (λ r. tt)
  calms_header h (Some d) = calms_when (not (same_header d h)) _ (calms_does _ (λ r. tt))

  calms_slot : (op : ℕ) → Calms {F = F} (visit_slot op)
  unfolding visit_slot
  calms_slot op = calms_entry_at op _ (λ e. calms_reading (header_read op) _ (λ o. calms_header e.header o))

  calms_read : (name : Name) (o : Option (List ℕ)) → Calms {F = F} (visit_read name o)
  calms_read name None = calms_change (with_worn name) (λ r. (refl, refl))
  calms_read name (Some block) = calms_quiet

  calms_block : (o : Option Name) → Calms {F = F} (visit_block o)
  unfolding visit_block
  calms_block None = calms_quiet
  calms_block (Some name) = calms_reading _ _ (λ o. calms_read name o)

  calms_place : (at : ℕ) → Calms {F = F} (visit_place at)
  unfolding visit_place
  calms_place at = calms_by _ (λ r. calms_if (nat_lt at 64) _ _ (calms_slot (op_of_slot r at)) (calms_if (at == 64) _ _ (calms_does _ (λ r. tt)) (calms_block (slice_get (blocks_of r) (at - 65)))))

  calms_visit : Calms {F = F} visit
  unfolding visit
  calms_visit = calms_by _ (λ r. calms_when (is_loaded r) _ (calms_then _ _ (calms_place (place_now r)) (calms_change (with_cursor (place_now r)) (λ r. (refl, refl)))))

  pub calms_looks : Calms {F = F} (visit ⨾ ask)
  calms_looks = calms_then visit ask calms_visit calms_ask

  pub calms_idler : Calms {F = F} (change idler)
  calms_idler = calms_change idler (λ r. (refl, refl))

  -- ---- ticks

  pub calms_primary : Calms {F = F} primary_ticks
  calms_primary = calms_then _ _ (calms_says _) (calms_then _ _ (calms_by _ (λ r. calms_when (nat_lt r.commit (head r)) _ (calms_again (r.commit + 1)))) calms_looks)

  calm_cond : (b : Bool) (v w : Word F) (t : Setting F) (r : Replica) (f : F) → Every (IsCalm r.view r.log_view) (v t r f).script → Every (IsCalm r.view r.log_view) (w t r f).script → Every (IsCalm r.view r.log_view) (cond b v w t r f).script
  calm_cond true v w t r f h k = h
  calm_cond false v w t r f h k = k

  -- a view that is entered has no log
  calm_enters : (t : Setting F) (r : Replica) (f : F) → r.log_view ≤ r.view → Every (IsCalm r.view r.log_view) ((change (entered (r.view + 1)) ⨾ save ⨾ says (send_to_all start_view_change)) t r f).script
  unfolding change entered save value_of does says ◌⨾◌
  calm_enters t r f views = (inr (omega arith), calm_said r.view r.log_view _)

  pub calm_next : (t : Setting F) (r : Replica) (f : F) → r.log_view ≤ r.view → Every (IsCalm r.view r.log_view) (next_view t r f).script
  unfolding by enter
  calm_next t r f views = calm_cond (nat_lt last_view (r.view + 1)) (change rested) _ t r f ((calms_change rested (λ r. (refl, refl))).every t r f) (calm_enters t r f views)

  pub calm_backup : (t : Setting F) (r : Replica) (f : F) → r.log_view ≤ r.view → Every (IsCalm r.view r.log_view) (backup_ticks t r f).script
  unfolding change by
  calm_backup t r f views = calm_then (change idler) _ calms_idler t r f (λ d. calm_cond (nat_le 5 (idler r).idle) next_view (visit ⨾ ask) t (idler r) d (calm_next t (idler r) d views) (calms_looks.every t (idler r) d))

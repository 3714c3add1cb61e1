-- The commit lines of an opening come in order, and it keeps the state of the log past its load.
use Rattle.std.proofs.Common.{ℕ, ◌+◌, ◌≡◌, ◌∙◌, refl, sym, subst, Bool, true, false, cond, List, [], ◌++◌, Option, Some, None}
use Rattle.std.specs.Prelude.{nat_lt, nat_le, not, slice_get, ◌||◌, ◌-◌}
use Rattle.std.proofs.lemmas.Bool.{true≢false}
use Rattle.vr_header.specs.Made.{Whole}
use Rattle.vr_msg.specs.declared.output.Committed.{Committed}
use Rattle.vr_msg.specs.declared.output.Output.{Output}
use Rattle.vr_msg.specs.declared.output.Output.TheVariants as output
use Rattle.vr_super.specs.Copies.{SuperValue, IsGood}
use Rattle.vr_rules.specs.Fit.{ReadsWell}
use Rattle.vr_world.specs.Group.{mended, recovered, resumed}
use Rattle.vr_world.specs.Lying.{Lying, lying}
use Rattle.vr_rules.specs.Opening.{Slot, announce, clouded, entry_header, going_on, heard_itself, in_next_view, leave_view, mend_slot, mending, old_headers, old_part, part_by, recover_old, recover_op, recover_parts, rewrite, slot_at, slot_verdict}
use Rattle.vr_recover.specs.declared.readings.Verdict.{Verdict}
use Rattle.vr_recover.specs.declared.readings.Verdict.TheVariants as verdict
use Rattle.vr_header.specs.declared.header.Header.{Header}
use Rattle.vr_msg.specs.Choice.{ops}
use Rattle.vr_rules.specs.Outputs.{send_to_all, start_line, start_view_change}
use Rattle.vr_rules.specs.Replica.{Replica, is_frozen, is_spent, is_started, last_view, leads, forgetting, with_part}
use Rattle.vr_rules.specs.Sound.{IsSound}
use Rattle.vr_rules.specs.Steps.{Effect, Mend, Setting, Word, ◌⨾◌, by, change, does, quiet, says, when, outputs, after_all, Rewrite}
use Rattle.vr_rules.specs.Words.{apply, entry_of, load, save}
use Rattle.vr_rules.proofs.Combining.{Keeps, keeps_then, keeps_by, keeps_change, keeps_when}
use Rattle.vr_rules.proofs.FitOpening.{headers_of}
use Rattle.vr_rules.proofs.Openings as opening
use Rattle.vr_rules.proofs.Openings.{Opened, kept_next, left_applied, reads_after}
use Rattle.vr_rules.proofs.SendsScripts.{outputs_append}
use Rattle.vr_rules.proofs.Slots.{value_is}
use Rattle.vr_rules.proofs.Wording.{keeps_save, kept_load}
use Rattle.law_1_machine.specs.Basics.{In}
use Rattle.law_3_outputs.specs.Answering.{HasState, IsNumbered, Lined}
use Rattle.law_3_outputs.specs.Replied.{has_loaded}
use Rattle.law_3_outputs.proofs.Applies.{fair_apply}
use Rattle.law_3_outputs.specs.Ordered.{ComesInOrder}
use Rattle.law_3_outputs.proofs.Orders.{OrderlyAt, Quiet, at_then, at_quiet, in_order_lined, orderly_apply, quiet_by, quiet_change, quiet_does, quiet_each, quiet_load, quiet_quiet, quiet_reading, quiet_save, quiet_says, quiet_sends, quiet_then, quiet_when}
use Rattle.law_3_outputs.proofs.Sets.{in_left, in_right}
use Rattle.law_3_outputs.proofs.Words as words

keeps_leave : {F : Type 0} → Keeps {F = F} leave_view
keeps_leave = keeps_by _ (λ r. keeps_when (leads r) _ (keeps_then _ _ (keeps_change in_next_view kept_next) keeps_save))

-- what was found is sound
found_opened : (v : SuperValue) (d : Lying) → IsGood v → ReadsWell lying d → Opened (recovered v d)
unfolding ◌⨾◌ does after_all
found_opened v d good reads = opening.recovered v lying (lying.after d (Mend v)) (value_is v good) (reads_after lying d (Mend v) good (headers_of lying d reads))

-- what a part of a script says is said in it
said_left : (xs ys : List Effect) (o : Output) → In o (outputs xs) → In o (outputs (xs ++ ys))
said_left xs ys o i = subst (λ (os : List Output). In o os) (sym (outputs_append xs ys)) (in_left (outputs xs) (outputs ys) o i)

pub said_right : (xs ys : List Effect) (o : Output) → In o (outputs ys) → In o (outputs (xs ++ ys))
said_right xs ys o i = subst (λ (os : List Output). In o os) (sym (outputs_append xs ys)) (in_right (outputs xs) (outputs ys) o i)

-- what is announced leaves the state
announced : {F : Type 0} (s : Setting F) (r : Replica) (f : F) → words.Keeps r (announce s r f).replica
unfolding by change says quiet ◌⨾◌
announced {F} s r f =
    let told : Word F = says (send_to_all start_view_change) in
    let inner : (c : Bool) → words.Keeps r ((cond c told quiet) s (heard_itself r) (after_all s f [])).replica = elim [
      | true ↦ record { index = refl; applied = refl; state = refl; missing = refl }
      | false ↦ record { index = refl; applied = refl; state = refl; missing = refl }
    ] in
    let go : (b : Bool) → words.Keeps r ((cond b (change heard_itself ⨾ by (λ r. when (nat_le r.view last_view) told)) quiet) s r f).replica = elim [
      | true ↦ inner (nat_le r.view last_view)
      | false ↦ record { index = refl; applied = refl; state = refl; missing = refl }
    ] in
    go (not (is_started r))

spent_frozen : (a b : Bool) → b ≡ true → (a || b) ≡ true
spent_frozen true b e = refl
spent_frozen false b e = e

abbrev pub on_disk : SuperValue → Lying → Lying
on_disk v d = after_all lying d (mended v d).script

-- ---- the words of an opening say no lines, but for those that are applied

module _ {F : Type 0} where
  quiet_rewrite : (o : Option Header) → Quiet {F = F} (rewrite o)
  unfolding outputs
  quiet_rewrite None = quiet_quiet
  quiet_rewrite (Some h) = quiet_does (λ r. Rewrite h) (λ r. tt)

  quiet_slot : (x : Slot) (y : Verdict) → Quiet {F = F} (mend_slot x y)
  quiet_slot x verdict.Here = quiet_quiet
  quiet_slot x verdict.Rewrite = quiet_rewrite (entry_header x)
  quiet_slot x verdict.Lost = quiet_quiet
  quiet_slot x verdict.Wanted = quiet_quiet
  quiet_slot x verdict.Nothing = quiet_quiet
  quiet_slot x verdict.Unknown = quiet_quiet

  quiet_old : (h : Header) → Quiet {F = F} (recover_old h)
  unfolding recover_old with_part
  quiet_old h = quiet_reading (entry_of h) _ (λ e. quiet_change (with_part h.op (old_part h e)) (λ r. refl) (λ r. refl))

  quiet_op : (v : SuperValue) (k : ℕ) → Quiet {F = F} (recover_op v k)
  unfolding recover_op with_part
  quiet_op v k = quiet_reading (slot_at k) _ (λ x.
      quiet_then (mend_slot x (slot_verdict v k x)) _ (quiet_slot x (slot_verdict v k x)) (quiet_change (with_part k (part_by v k x (slot_verdict v k x))) (λ r. refl) (λ r. refl)))

  pub quiet_mending : (v : SuperValue) → Quiet {F = F} (mending v)
  unfolding recover_parts clouded forgetting outputs
  quiet_mending v =
      quiet_then (does (λ r. Mend v)) _ (quiet_does (λ r. Mend v) (λ r. tt))
      (quiet_then _ _ (quiet_each recover_old (old_headers v) quiet_old)
      (quiet_then _ _ (quiet_each (recover_op v) (ops v.fields.checkpoint (v.fields.checkpoint + 64)) (quiet_op v))
      (quiet_then (change (clouded v)) (change forgetting) (quiet_change (clouded v) (λ r. refl) (λ r. refl)) (quiet_change forgetting (λ r. refl) (λ r. refl)))))

  quiet_leave : Quiet {F = F} leave_view
  quiet_leave = quiet_by _ (λ r. quiet_when (leads r) _ (quiet_then (change in_next_view) save (quiet_change in_next_view (λ r. refl) (λ r. refl)) quiet_save))

  quiet_start : Quiet {F = F} (says start_line)
  quiet_start = quiet_says start_line (λ r. (tt, tt))

  quiet_announce : Quiet {F = F} announce
  quiet_announce = quiet_by _ (λ r. quiet_when (not (is_started r)) _
      (quiet_then (change heard_itself) _ (quiet_change heard_itself (λ r. refl) (λ r. refl)) (quiet_by _ (λ r. quiet_when (nat_le r.view last_view) _ (quiet_sends start_view_change)))))

module _ (v : SuperValue) (d : Lying) (good : IsGood v) (reads : ReadsWell lying d) where
  loaded_sound : IsSound (has_loaded v d).replica
  unfolding ◌⨾◌ says
  loaded_sound =
      let h = found_opened v d good reads in
      let q : Replica = (leave_view lying (recovered v d) (on_disk v d)).replica in
      let k : IsSound q = (keeps_leave.every lying (recovered v d) (on_disk v d) h.sound).kept.sound in
      let e : q.applied ≡ q.checkpoint = left_applied lying (recovered v d) (on_disk v d) h.applied in
      (kept_load lying q _ k e).kept.sound

  going_order : OrderlyAt lying (recovered v d) (on_disk v d) going_on
  unfolding ◌⨾◌
  going_order =
      let q : Replica = recovered v d in
      let a = leave_view lying q (on_disk v d) in
      let d1 = after_all lying (on_disk v d) a.script in
      let b = says start_line lying a.replica d1 in
      let d2 = after_all lying d1 b.script in
      let l = load lying b.replica d2 in
      let d3 = after_all lying d2 l.script in
      let p = apply lying l.replica d3 in
      let d4 = after_all lying d3 p.script in
      at_then leave_view (says start_line ⨾ load ⨾ apply ⨾ announce) lying q (on_disk v d) (at_quiet leave_view lying q (on_disk v d) quiet_leave)
      (at_then (says start_line) (load ⨾ apply ⨾ announce) lying a.replica d1 (at_quiet (says start_line) lying a.replica d1 quiet_start)
      (at_then load (apply ⨾ announce) lying b.replica d2 (at_quiet load lying b.replica d2 quiet_load)
      (at_then apply announce lying l.replica d3 (orderly_apply.every lying l.replica d3 loaded_sound) (at_quiet announce lying p.replica d4 quiet_announce))))

  -- the commit lines of an opening come in order
  pub resumed_order : ComesInOrder lying (recovered v d) (on_disk v d) (resumed v d)
  unfolding by
  resumed_order =
      let go : (b : Bool) → OrderlyAt lying (recovered v d) (on_disk v d) (cond b (says start_line) going_on) = elim [
        | true ↦ at_quiet (says start_line) lying (recovered v d) (on_disk v d) quiet_start
        | false ↦ going_order
      ] in
      go (is_spent (recovered v d))

module _ (log : List Whole) (numbers : IsNumbered log) (v : SuperValue) (d : Lying) (good : IsGood v) (reads : ReadsWell lying d) where
  abbrev AreLines : List Effect → Type 0
  AreLines es = (c : Committed) → In (output.Commit c) (outputs es) → slice_get log (c.entry.header.op - 1) ≡ Some c.entry

  going_have : HasState log (has_loaded v d).replica → AreLines (going_on lying (recovered v d) (on_disk v d)).script → HasState log (going_on lying (recovered v d) (on_disk v d)).replica
  unfolding ◌⨾◌
  going_have had are =
      let a = leave_view lying (recovered v d) (on_disk v d) in
      let d1 = after_all lying (on_disk v d) a.script in
      let b = says start_line lying a.replica d1 in
      let d2 = after_all lying d1 b.script in
      let l = load lying b.replica d2 in
      let d3 = after_all lying d2 l.script in
      let p = apply lying l.replica d3 in
      let d4 = after_all lying d3 p.script in
      let n = announce lying p.replica d4 in
      let lined : Lined log l.replica.index l.replica.applied (outputs p.script) =
      in_order_lined log l.replica.index l.replica.applied (outputs p.script) (orderly_apply.every lying l.replica d3 (loaded_sound v d good reads)).ordered (λ c i.
      are c (said_right a.script (b.script ++ (l.script ++ (p.script ++ n.script))) (output.Commit c) (said_right b.script (l.script ++ (p.script ++ n.script)) (output.Commit c) (said_right l.script (p.script ++ n.script) (output.Commit c) (said_left p.script n.script (output.Commit c) i))))) in
      words.keeps_state log p.replica n.replica (announced lying p.replica d4) ((fair_apply log numbers).each lying l.replica d3 had lined true).state

  pub resumed_have : is_frozen (resumed v d).replica ≡ false → HasState log (has_loaded v d).replica → AreLines (resumed v d).script → HasState log (resumed v d).replica
  unfolding by says
  resumed_have free had are =
      let q : Replica = recovered v d in
      let go : (b : Bool) → is_spent q ≡ b → is_frozen ((cond b (says start_line) going_on) lying q (on_disk v d)).replica ≡ false → AreLines ((cond b (says start_line) going_on) lying q (on_disk v d)).script
      → HasState log ((cond b (says start_line) going_on) lying q (on_disk v d)).replica = elim [
        | true ↦ λ z free are. absurd (true≢false (sym (spent_frozen (nat_lt last_view q.view) (is_spent q) z) ∙ free))
        | false ↦ λ z free are. going_have had are
      ] in
      go (is_spent q) refl free are

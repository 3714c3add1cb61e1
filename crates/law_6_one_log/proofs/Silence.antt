-- An opening says no choose line.
use Rattle.std.proofs.Common.{ℕ, ◌+◌, refl, [], Option, Some, None}
use Rattle.std.specs.Prelude.{All, Contains, nat_le, not}
use Rattle.std.proofs.lemmas.List.Elements.{All-nil, All-cons, All-append, All-contains}
use Rattle.vr_header.specs.declared.header.Header.{Header}
use Rattle.vr_msg.specs.declared.output.Chosen.{Chosen}
use Rattle.vr_msg.specs.declared.output.Output.TheVariants as output
use Rattle.vr_msg.specs.Choice.{ops}
use Rattle.vr_super.specs.Copies.{SuperValue}
use Rattle.vr_recover.specs.declared.readings.Verdict.{Verdict}
use Rattle.vr_recover.specs.declared.readings.Verdict.TheVariants as verdict
use Rattle.vr_world.specs.Group.{mended, opening_script, recovered, resumed}
use Rattle.vr_world.specs.Lying.{Lying, lying}
use Rattle.vr_rules.specs.Opening.{Slot, announce, blank, clouded, entry_header, going_on, heard_itself, in_next_view, leave_view, mend_slot, mending, old_headers, old_part, part_by, recover_old, recover_op, recover_parts, resuming, rewrite, slot_at, slot_verdict}
use Rattle.vr_rules.specs.Outputs.{send_to_all, start_line, start_view_change}
use Rattle.vr_rules.specs.Replica.{forgetting, is_spent, is_started, last_view, leads, with_part}
use Rattle.vr_rules.specs.Steps.{Mend, Rewrite, change, does, quiet, says, outputs, after_all}
use Rattle.vr_rules.specs.Words.{entry_of, load, save, apply}
use Rattle.vr_rules.proofs.SendsScripts.{outputs_append}
use Rattle.vr_rules.proofs.SilentWaits.{IsPlain, Mute, mute_all, mute_apply, mute_by, mute_change, mute_does, mute_each, mute_if, mute_load, mute_quiet, mute_reading, mute_save, mute_says, mute_then}

module _ {F : Type 0} where
  mute_rewrite : (o : Option Header) → Mute {F = F} (rewrite o)
  unfolding outputs
  mute_rewrite None = mute_quiet
  mute_rewrite (Some h) = mute_does (λ r. Rewrite h) (λ r. refl)

  mute_slot : (x : Slot) (y : Verdict) → Mute {F = F} (mend_slot x y)
  mute_slot x verdict.Here = mute_quiet
  mute_slot x verdict.Rewrite = mute_rewrite (entry_header x)
  mute_slot x verdict.Lost = mute_quiet
  mute_slot x verdict.Wanted = mute_quiet
  mute_slot x verdict.Nothing = mute_quiet
  mute_slot x verdict.Unknown = mute_quiet

  mute_old : (h : Header) → Mute {F = F} (recover_old h)
  unfolding recover_old
  mute_old h = mute_reading (entry_of h) _ (λ e. mute_change (with_part h.op (old_part h e)))

  mute_op : (v : SuperValue) (k : ℕ) → Mute {F = F} (recover_op v k)
  unfolding recover_op
  mute_op v k = mute_reading (slot_at k) _ (λ x. mute_then (mend_slot x (slot_verdict v k x)) _ (mute_slot x (slot_verdict v k x)) (mute_change (with_part k (part_by v k x (slot_verdict v k x)))))

  mute_mending : (v : SuperValue) → Mute {F = F} (mending v)
  unfolding recover_parts outputs
  mute_mending v =
      mute_then (does (λ r. Mend v)) _ (mute_does (λ r. Mend v) (λ r. refl))
      (mute_then _ _ (mute_each recover_old (old_headers v) mute_old)
      (mute_then _ _ (mute_each (recover_op v) (ops v.fields.checkpoint (v.fields.checkpoint + 64)) (mute_op v))
      (mute_then (change (clouded v)) (change forgetting) (mute_change (clouded v)) (mute_change forgetting))))

  mute_leave : Mute {F = F} leave_view
  mute_leave = mute_by _ (λ r. mute_if (leads r) _ quiet (mute_then (change in_next_view) save (mute_change in_next_view) mute_save) mute_quiet)

  mute_start : Mute {F = F} (says start_line)
  mute_start = mute_says start_line (λ r. All-cons IsPlain _ [] tt (All-nil IsPlain))

  mute_announce : Mute {F = F} announce
  mute_announce = mute_by _ (λ r. mute_if (not (is_started r)) _ quiet
      (mute_then (change heard_itself) _ (mute_change heard_itself) (mute_by _ (λ r. mute_if (nat_le r.view last_view) (says (send_to_all start_view_change)) quiet (mute_all start_view_change) mute_quiet))) mute_quiet)

  mute_going : Mute {F = F} going_on
  mute_going = mute_then leave_view _ mute_leave (mute_then (says start_line) _ mute_start (mute_then load _ mute_load (mute_then apply announce mute_apply mute_announce)))

  mute_resuming : Mute {F = F} resuming
  mute_resuming = mute_by _ (λ r. mute_if (is_spent r) (says start_line) going_on mute_start mute_going)

pub chooses_nothing : (v : SuperValue) (d : Lying) (l : Chosen) → Contains (outputs (opening_script v d)) (output.Choose l) → ⊥
chooses_nothing v d l i =
    let xs = (mended v d).script in
    let ys = (resumed v d).script in
    let plain : All IsPlain (outputs (opening_script v d)) = rw (outputs_append xs ys) (All-append IsPlain (outputs xs) (outputs ys) ((mute_mending v).said lying (blank v) d) (mute_resuming.said lying (recovered v d) (after_all lying d xs))) in
    All-contains IsPlain (outputs (opening_script v d)) (output.Choose l) plain i

-- How two members are started: one that lost both places of an entry, and one that has it.
use Rattle.std.proofs.Common.{ℕ, ◌≡◌, refl, ap, ◌∙◌, cond, eqb, false, true, List, [], ◌∷◌, ◌++◌, map, Some, None}
use Rattle.sha2.specs.Sha256.{sha256}
use Rattle.vr_base.specs.Bytes.{name_of}
use Rattle.vr_header.specs.Same.{same_header}
use Rattle.vr_super.specs.Opens.{opens}
use Rattle.vr_rules.specs.Replica.{Replica, forgetting, head, part_at, run, with_part}
use Rattle.vr_rules.specs.Formatting.{reserved_header}
use Rattle.vr_rules.specs.Steps.{Effect, Mend, Save, Say, ◌⨾◌, quiet, change, does, says, by, times, each, after_all}
use Rattle.vr_rules.specs.Outputs.{send, send_to_all, start_line, start_view_change}
use Rattle.vr_rules.specs.Words.{apply, load, save, value_of}
use Rattle.vr_rules.specs.Opening.{Slot, blank, clouded, opened}
use Rattle.vr_world.specs.Lying.{Lying, lying}
use Rattle.rows_computed.proofs.Changes.{a0, a0e, m0}
use Rattle.rows_computed.proofs.Entries.{first, first_header}
use Rattle.rows_computed.proofs.Found.{Looks, all_quiet, found_all, of_op, starts_as, value, window, with_found}

-- a slot that has had no entry
abbrev pub reserved : ℕ → Slot
reserved slot = record { header = Some (reserved_header 1 0 slot); entry = None; blank = false }

-- slot 1 is another one
abbrev pub but_first : Slot → ℕ → Slot
but_first x slot = cond (eqb slot 1) x (reserved slot)

abbrev pub lost_slot : Slot
lost_slot = record { header = None; entry = None; blank = false }

abbrev pub kept_slot : Slot
kept_slot = record { header = Some first_header; entry = Some first; blank = false }

-- ---- both places are lost

quiet_lost : all_quiet (value 1) (of_op (but_first lost_slot)) window ≡ true
unfolding name_of sha256
quiet_lost = refl

abbrev pub wakes_1 : List Effect
wakes_1 = Mend (value 1) ∷ map Say (start_line m0)

lost_is : (d : Lying) → with_found (value 1) d (record { replica = found_all (value 1) (of_op (but_first lost_slot)) window (blank (value 1)); script = [] }) ≡ record { replica = m0; script = wakes_1 }
unfolding ◌⨾◌ does change says by each quiet times after_all blank clouded forgetting head part_at with_part load apply
lost_is d = refl

pub starts_1 : (d : Lying) → opens d.face ≡ Some (value 1) → Looks (but_first lost_slot) d → opened lying d ≡ Some (record { replica = m0; script = wakes_1 })
starts_1 d is looks = starts_as 1 (but_first lost_slot) d is looks quiet_lost ∙ ap Some (lost_is d)

-- ---- the entry is there

quiet_kept : all_quiet (value 0) (of_op (but_first kept_slot)) window ≡ true
unfolding same_header
quiet_kept = refl

abbrev tells_change : Replica → ℕ → Effect
tells_change r to = Say (send to (start_view_change r) r)

abbrev pub wakes_0 : List Effect
wakes_0 = Mend (value 0) ∷ Save (value 0) a0e.saved ∷ (map Say (start_line a0e) ++ tells_change a0 1 ∷ tells_change a0 2 ∷ [])

kept_is : (d : Lying) → with_found (value 0) d (record { replica = found_all (value 0) (of_op (but_first kept_slot)) window (blank (value 0)); script = [] }) ≡ record { replica = a0; script = wakes_0 }
unfolding ◌⨾◌ does change says by each quiet times after_all blank clouded forgetting head run part_at with_part load apply save value_of send_to_all same_header
kept_is d = refl

pub starts_0 : (d : Lying) → opens d.face ≡ Some (value 0) → Looks (but_first kept_slot) d → opened lying d ≡ Some (record { replica = a0; script = wakes_0 })
starts_0 d is looks = starts_as 0 (but_first kept_slot) d is looks quiet_kept ∙ ap Some (kept_is d)

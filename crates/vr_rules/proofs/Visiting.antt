-- A visit of the disk keeps every replica sound.
use Rattle.std.proofs.Common.{ℕ, arith, refl, List, Option, Some, None}
use Rattle.std.specs.Prelude.{nat_lt, ◌==◌, not}
use Rattle.vr_header.specs.declared.header.Header.{Header}
use Rattle.vr_header.specs.Same.{same_header}
use Rattle.vr_ckpt.specs.declared.name.Name.{Name}
use Rattle.vr_rules.specs.Steps.{change}
use Rattle.vr_rules.specs.Words.{is_loaded, mend_header, op_of_slot, place_now, visit, visit_block, visit_place, visit_read, visit_slot, with_cursor, with_worn}
use Rattle.vr_rules.specs.Rules.{mend_found, not_worn}
use Rattle.vr_rules.proofs.Combining.{Keeps, keeps_by, keeps_change, keeps_does, keeps_if, keeps_quiet, keeps_reading, keeps_then, keeps_when}
use Rattle.vr_rules.proofs.Wording.{kept_alike, keeps_with_entry_at}

keeps_mend_header : {F : Type 0} (h : Header) (o : Option Header) → Keeps {F = F} (mend_header h o)
keeps_mend_header h None = keeps_does _
keeps_mend_header h (Some d) = keeps_when (not (same_header d h)) _ (keeps_does _)

keeps_visit_slot : {F : Type 0} (op : ℕ) → Keeps {F = F} (visit_slot op)
unfolding visit_slot
keeps_visit_slot op = keeps_with_entry_at op _ (λ e. keeps_reading _ _ (keeps_mend_header e.header))

pub keeps_with_worn : {F : Type 0} (name : Name) → Keeps {F = F} (change (with_worn name))
keeps_with_worn name = keeps_change (with_worn name) (λ r h. kept_alike r (with_worn name r) refl (record { view = omega arith; log_view = omega arith; commit = omega arith; applied = omega arith; checkpoint = omega arith }) h)

keeps_visit_read : {F : Type 0} (name : Name) (o : Option (List ℕ)) → Keeps {F = F} (visit_read name o)
keeps_visit_read name None = keeps_with_worn name
keeps_visit_read name (Some block) = keeps_quiet

keeps_visit_block : {F : Type 0} (o : Option Name) → Keeps {F = F} (visit_block o)
unfolding visit_block
keeps_visit_block None = keeps_quiet
keeps_visit_block (Some name) = keeps_reading _ _ (keeps_visit_read name)

keeps_visit_place : {F : Type 0} (at : ℕ) → Keeps {F = F} (visit_place at)
unfolding visit_place
keeps_visit_place at = keeps_by _ (λ r. keeps_if (nat_lt at 64) _ _ (keeps_visit_slot (op_of_slot r at)) (keeps_if (at == 64) _ _ (keeps_does _) (keeps_visit_block _)))

pub keeps_with_cursor : {F : Type 0} (at : ℕ) → Keeps {F = F} (change (with_cursor at))
keeps_with_cursor at = keeps_change (with_cursor at) (λ r h. kept_alike r (with_cursor at r) refl (record { view = omega arith; log_view = omega arith; commit = omega arith; applied = omega arith; checkpoint = omega arith }) h)

pub keeps_visit : {F : Type 0} → Keeps {F = F} visit
unfolding visit
keeps_visit = keeps_by _ (λ r. keeps_when (is_loaded r) _ (keeps_then _ _ (keeps_visit_place (place_now r)) (keeps_with_cursor (place_now r))))

pub keeps_not_worn : {F : Type 0} (name : Name) → Keeps {F = F} (change (not_worn name))
keeps_not_worn name = keeps_change (not_worn name) (λ r h. kept_alike r (not_worn name r) refl (record { view = omega arith; log_view = omega arith; commit = omega arith; applied = omega arith; checkpoint = omega arith }) h)

-- a block that has gone bad is mended
pub keeps_mend_found : {F : Type 0} (block : List ℕ) (o : Option Name) → Keeps {F = F} (mend_found block o)
keeps_mend_found block None = keeps_quiet
keeps_mend_found block (Some name) = keeps_then _ _ (keeps_does _) (keeps_not_worn name)

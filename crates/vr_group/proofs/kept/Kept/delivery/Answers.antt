use Rattle.std.proofs.Common.{◌≡◌, ◌∙◌, Some, ap, subst, sym}
use Rattle.vr_header.specs.Made.{entry_of}
use Rattle.vr_msg.specs.Forms.{IsPrepare}
use Rattle.vr_msg.specs.declared.event.Event.TheVariants as event
use Rattle.vr_msg.specs.declared.frame.Frame.TheVariants as frame
use Rattle.vr_msg.specs.declared.frame.Prepare.{Prepare}
use Rattle.vr_group.specs.Letters.{IsKept, frame_in}
use Rattle.vr_group.proofs.Letters.{prepare_there}
use Rattle.vr_group.proofs.kept.Kept.delivery.Goals as goal

pub made-requires : goal.made-requires
made-requires c =
    let k = c.in-Prepare in
    let p : Prepare = record { version = k.version; replica = k.replica; view = k.view; commit = k.commit; entry = c.in_ok-from_bytes-in-Prepare.field-0 } in
    let there : entry_of k.entry ≡ Some p.entry = ap entry_of (sym c.as_slice.ensures) ∙ c.in_ok-from_bytes-in-Prepare.ensures in
    let kept = subst IsKept k.is c.requires in
    subst IsPrepare (prepare_there p k.entry there) kept.1

pub returns-in_ok-from_bytes-in-Prepare : goal.returns-in_ok-from_bytes-in-Prepare
returns-in_ok-from_bytes-in-Prepare c =
    let k = c.in-Prepare in
    let p : Prepare = record { version = k.version; replica = k.replica; view = k.view; commit = k.commit; entry = c.in_ok-from_bytes-in-Prepare.field-0 } in
    let there : entry_of k.entry ≡ Some p.entry = ap entry_of (sym c.as_slice.ensures) ∙ c.in_ok-from_bytes-in-Prepare.ensures in
    c.made.ensures ∙ ap event.Deliver (sym (ap frame_in k.is ∙ ap frame.Prepare (prepare_there p k.entry there)))

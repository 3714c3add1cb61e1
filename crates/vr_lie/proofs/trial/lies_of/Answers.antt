use Rattle.std.proofs.Common.{◌∙◌, ap, refl, Some, None, inl, inr}
use Rattle.vr_disk.specs.DiskState.{cell, damaged}
use Rattle.vr_mem.specs.Cells.{disk_of}
use Rattle.vr_lie.proofs.Trials.{fault_within, told_twice}
use Rattle.vr_lie.proofs.trial.lies_of.Goals as goal

pub returns-in-Damage-clause-face : goal.returns-in-Damage-clause-face
returns-in-Damage-clause-face c =
    let f = (disk_of c.args.disk.now).face in
    let l = fault_within f c.args.fault.now _ c.requires c.args.disk.now.sectors.whole (inl c.in-Damage.is) in
    let read = c.damage.ensures.damaged ∙ ap damaged c.truth.ensures in
    rw c.in-Damage.is (told_twice f c.in-Damage.at (Some (damaged (cell f c.in-Damage.at).truth)) _ _ _ l refl (ap Some read) c.twice.ensures.first c.twice.ensures.second)

pub returns-in-Stale-clause-face : goal.returns-in-Stale-clause-face
returns-in-Stale-clause-face c =
    let f = (disk_of c.args.disk.now).face in
    let l = fault_within f c.args.fault.now _ c.requires c.args.disk.now.sectors.whole (inr (inl c.in-Stale.is)) in
    let read = c.before-in-Stale.ensures in
    rw c.in-Stale.is (told_twice f c.in-Stale.at (Some (cell f c.in-Stale.at).before) _ _ _ l refl (ap Some read) c.twice-in-Stale.ensures.first c.twice-in-Stale.ensures.second)

pub returns-in-Unread-clause-face : goal.returns-in-Unread-clause-face
returns-in-Unread-clause-face c =
    let f = (disk_of c.args.disk.now).face in
    let l = fault_within f c.args.fault.now _ c.requires c.args.disk.now.sectors.whole (inr (inr c.in-Unread.is)) in
    rw c.in-Unread.is (told_twice f c.in-Unread.at None _ _ _ l refl refl c.twice-in-Unread.ensures.first c.twice-in-Unread.ensures.second)

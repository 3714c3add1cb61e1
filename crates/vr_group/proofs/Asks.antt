-- A request is made in the version of the replica.
use Rattle.std.proofs.Common.{ℕ, ◌≤◌}
use Rattle.vr_msg.specs.Asking.{IsRequest}
use Rattle.vr_msg.specs.declared.request.RequestFields.{RequestFields}
use Rattle.vr_rules.specs.Fit.{IsAsked}
use Rattle.vr_world.specs.World.{in_version}
use Rattle.law_4_disks.proofs.Lines.{asked_in}

pub later_fits : (v : ℕ) (q : RequestFields) → v ≤ 2 → IsAsked q → IsRequest (in_version v q)
later_fits v q l h = (asked_in v q l h).form

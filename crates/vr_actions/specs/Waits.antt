-- Steps that end at once: of what was before, or known, or counts without a quorum.
use Rattle.std.specs.Prelude.{◌+◌, ◌≡◌, ◌&&◌, nat_lt, Bool, true, false, Result, is_ok}
use Rattle.vr_rules.specs.Replica.{Replica, is_here, part_at}
use Rattle.vr_rules.specs.Words.{has_quorum, is_loaded}
use Rattle.vr_rules.specs.declared.rule.Rule.{Rule}
use Rattle.vr_rules.specs.declared.rule.Rule.TheVariants.{Ignored, PreparedBefore, Other, ChangeBefore}
use Rattle.vr_rules.specs.Sound.{IsCaughtUp}
use Rattle.vr_disk.specs.declared.fault.Halt.{Halt}

-- the next op hasn't its quorum, and all that can be is applied, as it is at each replica that runs
pub record Waits (r : Replica) : Type 0 where
  pub next : has_quorum r (r.commit + 1) ≡ false
  pub applied : IsCaughtUp r

-- there is an op to apply, and its entry is here
abbrev pub applies_next : Replica → Bool
applies_next r = (is_loaded r && nat_lt r.applied r.commit) && is_here (part_at r (r.applied + 1))

-- the rules that leave a message be
abbrev pub passes : Rule → Bool
passes Ignored = true
passes PreparedBefore = true
passes Other = true
passes ChangeBefore = true
passes _ = false

-- it ends well, with no call of the disk, which is what it was, its counts included
abbrev pub EndsAtOnce : {D : Type 0} → D → D → Result (Unit {0}) Halt → Type 0
EndsAtOnce disk disk' result = (is_ok result ≡ true) × (disk' ≡ disk)

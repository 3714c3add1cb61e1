use Rattle.std.proofs.Common.{◌≤◌, subst, sym}
use Rattle.vr_rules.specs.Replica.{Replica}
use Rattle.vr_opening.proofs.Olds.{old_window}
use Rattle.vr_opening.proofs.opening.recover_old.Goals as goal

pub put_part-requires-clause-from : goal.put_part-requires-clause-from
put_part-requires-clause-from g c =
    subst (λ (r : Replica). r.first ≤ c.args.header.now.op) (sym c.find_entry.ensures.left) (old_window _ _ _ c.requires.opening c.requires.header c.requires.low).0

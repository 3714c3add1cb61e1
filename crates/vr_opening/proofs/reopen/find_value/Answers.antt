use Rattle.vr_opening.proofs.Recovers.{counts_none, refused_value}
use Rattle.vr_opening.proofs.reopen.find_value.Goals as goal

pub returns-in-Err-clause-cause : goal.returns-in-Err-clause-cause
returns-in-Err-clause-cause g c = rw c.not_found.ensures (counts_none c.args.wanted.now c.in-Err.fault _ _ c.find.ensures.untouched.faults)

pub returns-in-Err-clause-value : goal.returns-in-Err-clause-value
returns-in-Err-clause-value g c = rw c.not_found.ensures (refused_value c.args.wanted.now c.in-Err.fault _ _ c.in-Err.ensures.value c.find.ensures.untouched.told)

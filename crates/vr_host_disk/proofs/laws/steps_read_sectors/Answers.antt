use Rattle.vr_host_disk.proofs.Rules.{a_react}
use Rattle.vr_host_disk.proofs.Words.{a_opening}
use Rattle.vr_rules.specs.Opening.{blank}
use Rattle.vr_host_disk.proofs.laws.steps_read_sectors.Goals as goal

pub returns : goal.returns
returns c = record { steps = λ e r d. (a_react e).each r d; openings = λ v d. (a_opening v).each (blank v) d }

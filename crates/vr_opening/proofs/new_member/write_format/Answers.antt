use Rattle.vr_opening.proofs.Makes.{fresh_value}
use Rattle.vr_opening.proofs.new_member.write_format.Goals as goal

pub format-requires : goal.format-requires
format-requires g c = fresh_value c.args.config.now c.args.replica.now c.saved.result.now c.saved.ensures c.requires

use Rattle.vr_opening.proofs.Makes.{fresh_so, made, occupied, stopped, wanted}
use Rattle.vr_opening.proofs.new_member.fresh.Goals as goal

pub returns-in-Ok-write_format-clause-made : goal.returns-in-Ok-write_format-clause-made
returns-in-Ok-write_format-clause-made g c =
    made c.args.kind c.args.config.now _ _ _ _ c.in-Ok.replica c.is_occupied.ensures.value c.if-is_occupied.false c.is_occupied.ensures.untouched.told c.in-Ok.ensures.made c.in-Ok-write_format.ensures.runs

pub returns-in-Err-write_format-clause-made : goal.returns-in-Err-write_format-clause-made
returns-in-Err-write_format-clause-made g c =
    stopped c.args.kind c.args.config.now _ _ _ _ c.in-Ok.replica c.is_occupied.ensures.value c.if-is_occupied.false c.is_occupied.ensures.untouched.told c.in-Ok.ensures.made c.in-Err-write_format.ensures.runs

pub returns-then-is_occupied-clause-made : goal.returns-then-is_occupied-clause-made
returns-then-is_occupied-clause-made g c = occupied c.args.kind c.args.config.now _ _ _ c.is_occupied.ensures.value c.if-is_occupied.true c.is_occupied.ensures.untouched.told

pub returns-in-Err-clause-made : goal.returns-in-Err-clause-made
returns-in-Err-clause-made g c = wanted c.args.kind c.args.config.now _ _ _ c.is_occupied.ensures.value c.if-is_occupied.false c.is_occupied.ensures.untouched.told

pub write_format-requires : goal.write_format-requires
write_format-requires g c = fresh_so _ _ _ _ _ c.in-Ok.ensures.made

use Rattle.std.proofs.Common.{option_map, rules}
use Rattle.std.proofs.lemmas.List.{take_all, drop_all}
use Rattle.std.proofs.lemmas.List.Edits.{map_over_more}
use Rattle.vr_io_policy.specs.Guests.{yields}
use Rattle.vr_io_policy.proofs.places.all_yield.Goals as goal

pub loop-at-preserved : goal.loop-at-preserved
loop-at-preserved c = search (rules, map_over_more (option_map (yields c.args.member)))

pub returns : goal.returns
returns c = search (rules, take_all, drop_all)

use Rattle.law_repair.proofs.GroupPlaces.{groups_cover}
use Rattle.law_repair.proofs.groups_cover.Goals as goal

pub returns : goal.returns
returns c = groups_cover

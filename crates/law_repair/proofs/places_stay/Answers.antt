use Rattle.law_repair.proofs.GroupPlaces.{lying_places, sectors_places}
use Rattle.law_repair.proofs.places_stay.Goals as goal

pub returns-clause-sectors : goal.returns-clause-sectors
returns-clause-sectors _ = sectors_places

pub returns-clause-lying : goal.returns-clause-lying
returns-clause-lying _ = lying_places

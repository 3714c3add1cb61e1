use Rattle.law_2_chains.proofs.Bridging.{moves_so}
use Rattle.law_2_chains.proofs.runs.moves_are_chains.Goals as goal

pub returns : goal.returns
returns _ = λ u g s move moved fits hash fit h m bridge. moves_so u fits hash g s fit bridge move moved h m

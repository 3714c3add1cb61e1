use Rattle.law_2_chains.proofs.Lone.{vouches}
use Rattle.law_2_chains.proofs.groups_of_one.lone_replicas_vouch.Goals as goal

pub returns : goal.returns
returns c u start s i r l x free = vouches u start s i r l x free

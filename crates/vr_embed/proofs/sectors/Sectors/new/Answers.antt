use Rattle.vr_embed.proofs.Shelves.{sectors_made}
use Rattle.vr_embed.proofs.sectors.Sectors.new.Goals as goal

pub returns-clause-whole : goal.returns-clause-whole
returns-clause-whole c = sectors_made _ c.in_ok-zeros.ensures c.in_ok-with_capacity.ensures.items c.in_ok-with_capacity.ensures.capacity

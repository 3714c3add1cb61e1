use Rattle.vr_rings.proofs.Entries.{entry_there, entry_is}
use Rattle.vr_rings.proofs.finding.entry_in.Goals as goal

pub from_bytes-requires : goal.from_bytes-requires
from_bytes-requires c = entry_there _ _ _ c.requires c.front_of.ensures.size c.front_of.ensures.front

pub returns-clause-value : goal.returns-clause-value
returns-clause-value c = (entry_is _ _ _ _ c.requires c.front_of.ensures.size c.front_of.ensures.front c.in_ok-entry.ensures).0

pub returns-clause-whole : goal.returns-clause-whole
returns-clause-whole c =
    let p = entry_is _ _ _ _ c.requires c.front_of.ensures.size c.front_of.ensures.front c.in_ok-entry.ensures in
    (p.1, p.2)

use Rattle.vr_embed.proofs.Worlds.{group_made}
use Rattle.vr_embed.proofs.group.Group.new.Goals as goal

pub returns-clause-world : goal.returns-clause-world
returns-clause-world c = group_made _ c.in_ok-new_members.ensures c.new.ensures.letters

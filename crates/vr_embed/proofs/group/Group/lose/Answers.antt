use Rattle.std.proofs.Common.{refl}
use Rattle.vr_embed.proofs.Worlds.{goes_lost}
use Rattle.vr_embed.proofs.group.Group.lose.Goals as goal

pub returns-clause-goes : goal.returns-clause-goes
returns-clause-goes c = goes_lost c.args.self.now _ refl c.lose.ensures.letters refl

use Rattle.std.proofs.Common.{◌∙◌, arith, sym}
use Rattle.std.proofs.lemmas.Grind.{common_steps}
use Rattle.std.proofs.lemmas.List.{length-map}
use Rattle.vr_embed.specs.Seen.{cell_of}
use Rattle.vr_embed.proofs.Shelves.{lost_are, unsynced_below}
use Rattle.vr_embed.proofs.sectors.Sectors.lose.Goals as goal

pub take_back-requires : goal.take_back-requires
take_back-requires c =
    rw (c.deref.ensures.value, c.deref_mut.ensures.value)
    (unsynced_below _ c.args.self.now.unsynced.items c.requires.face.waiting (sym (length-map c.args.self.now.slots.items cell_of) ∙ c.requires.face.count))

pub returns-clause-after : goal.returns-clause-after
returns-clause-after c = grind (arith, common_steps)

pub returns-clause-whole : goal.returns-clause-whole
returns-clause-whole c =
    lost_are c.args.self.now _ c.requires (returns-clause-after c) c.clear.ensures.items
    (let r = c.requires.room in let l = c.clear.ensures.capacity in omega arith)

use Rattle.std.proofs.Common.{◌∙◌, ap, sym}
use Rattle.std.specs.List.{position}
use Rattle.vr_mem.proofs.Waiting.{is_here, keeps_none, none_found, one_found}
use Rattle.vr_mem.proofs.waits.MemWaits.keep.Goals as goal

pub returns-in-Some-clause-found : goal.returns-in-Some-clause-found
returns-in-Some-clause-found c = sym (one_found c.args.index c.in-Some.at c.args.self.now.notes.items (ap (position (is_here c.args.index)) (sym c.deref.ensures.value) ∙ (sym c.place_of.ensures ∙ c.in-Some.is)))

pub returns-in-None-clause-found : goal.returns-in-None-clause-found
returns-in-None-clause-found c = sym (none_found c.args.index c.args.self.now.notes.items (ap (position (is_here c.args.index)) (sym c.deref.ensures.value) ∙ (sym c.place_of.ensures ∙ c.in-None.is)))

pub returns-in-None-clause-keeps : goal.returns-in-None-clause-keeps
returns-in-None-clause-keeps c = keeps_none c.args.self.now c.args.index c.args.room.now (sym (returns-in-None-clause-found c))

use Rattle.std.proofs.Common.{refl}
use Rattle.vr_io_policy.specs.declared.cached.Cached.TheVariants.{Held, Unread}
use Rattle.vr_io_policy.proofs.Left.{fewer_read}
use Rattle.vr_file.proofs.Above.{learned, learned_unread}
use Rattle.vr_file.proofs.kept.Kept.read_neighbor.Goals as goal

pub returns-in-Ok-clause-above : goal.returns-in-Ok-clause-above
returns-in-Ok-clause-above g c = λ d h.
    rw (c.note.ensures, c.read_again.ensures.told) (learned c.args.self.now.cache (g.F.PageFile.told c.args.file.now) c.args.i c.read_again.new.to d c.requires.sound c.requires.within c.in-Ok.ensures.bytes h)

pub returns-in-Err-clause-above : goal.returns-in-Err-clause-above
returns-in-Err-clause-above g c = λ d h.
    rw (c.note_unread.ensures, c.read_again.ensures.told) (learned_unread c.args.self.now.cache (g.F.PageFile.told c.args.file.now) c.args.i d c.requires.sound c.requires.within c.in-Err.ensures.bytes h)

pub returns-in-Ok-clause-fewer : goal.returns-in-Ok-clause-fewer
returns-in-Ok-clause-fewer g c = λ u. rw c.note.ensures (fewer_read c.args.self.now.cache c.args.i (Held c.read_again.new.to) c.requires.sound c.requires.within u refl)

pub returns-in-Err-clause-fewer : goal.returns-in-Err-clause-fewer
returns-in-Err-clause-fewer g c = λ u. rw c.note_unread.ensures (fewer_read c.args.self.now.cache c.args.i Unread c.requires.sound c.requires.within u refl)

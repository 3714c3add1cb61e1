use Rattle.std.proofs.Common.{false}
use Rattle.vr_io_policy.proofs.Left.{fewer_alone, fewer_written}
use Rattle.vr_file.proofs.Above.{alone_some, alone_whole, waiting_within}
use Rattle.vr_file.proofs.kept.Kept.write_alone.Goals as goal

pub returns-in-Ok-clause-above : goal.returns-in-Ok-clause-above
returns-in-Ok-clause-above g c = λ d h.
    rw c.flush.ensures (alone_whole c.args.self.now.cache (g.F.PageFile.told c.args.file.now) (g.F.PageFile.told c.write.new.self) d c.requires.sound c.gather_waiting.ensures.whole
    (rw (c.requires.alone.first, c.gather_waiting.ensures.bytes) at c.in-Ok.ensures.written) h)

pub returns-in-Err-clause-above : goal.returns-in-Err-clause-above
returns-in-Err-clause-above g c = λ d h.
    rw c.note_not_alone.ensures (alone_some c.args.self.now.cache false (g.F.PageFile.told c.args.file.now) (g.F.PageFile.told c.write.new.self) d c.requires.sound c.gather_waiting.ensures.whole
    (rw (c.requires.alone.first, c.gather_waiting.ensures.bytes) at c.in-Err.ensures.written) h)

pub returns-in-Ok-clause-fewer : goal.returns-in-Ok-clause-fewer
returns-in-Ok-clause-fewer g c = rw c.flush.ensures (fewer_written c.args.self.now.cache c.requires.alone.ready.waiting)

pub returns-in-Err-clause-fewer : goal.returns-in-Err-clause-fewer
returns-in-Err-clause-fewer g c = rw c.note_not_alone.ensures (fewer_alone c.args.self.now.cache c.requires.alone.ready.waiting c.requires.alone.untried)

pub write-requires : goal.write-requires
write-requires g c = rw c.requires.alone.first (waiting_within c.args.self.now.cache c.gather_waiting.result.now c.requires.sound c.gather_waiting.ensures.whole c.gather_waiting.ensures.bytes)

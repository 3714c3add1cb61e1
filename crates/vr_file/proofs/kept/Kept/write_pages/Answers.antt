use Rattle.std.proofs.Common.{false}
use Rattle.vr_io_policy.proofs.Left.{fewer_written}
use Rattle.vr_file.proofs.Above.{pages_within, written_some, written_whole}
use Rattle.vr_file.proofs.kept.Kept.write_pages.Goals as goal

pub returns-in_err-write-clause-above : goal.returns-in_err-write-clause-above
returns-in_err-write-clause-above g c = λ d h.
    written_some c.args.self.now.cache false (g.F.PageFile.told c.args.file.now) (g.F.PageFile.told c.write.new.self) d c.requires.sound c.requires.written.ready c.gather.ensures.whole
    (rw (c.requires.written.first, c.gather.ensures.bytes) at c.in_err-write.ensures.written) h

pub returns-clause-above : goal.returns-clause-above
returns-clause-above g c = λ d h.
    rw c.flush.ensures (written_whole c.args.self.now.cache (g.F.PageFile.told c.args.file.now) (g.F.PageFile.told c.write.new.self) d c.requires.sound c.requires.written.ready c.gather.ensures.whole
    (rw (c.requires.written.first, c.gather.ensures.bytes) at c.in_ok-write.ensures.written) h)

pub returns-clause-fewer : goal.returns-clause-fewer
returns-clause-fewer g c = rw c.flush.ensures (fewer_written c.args.self.now.cache c.requires.written.ready.waiting)

pub write-requires : goal.write-requires
write-requires g c = rw c.requires.written.first (pages_within c.args.self.now.cache c.gather.result.now c.requires.sound c.gather.ensures.whole c.gather.ensures.bytes)

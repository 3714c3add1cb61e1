use Rattle.vr_io_policy.specs.Caches.{put}
use Rattle.vr_io_policy.specs.Files.{sector_written}
use Rattle.vr_file.proofs.Above.{goes_step, put_above}
use Rattle.vr_file.proofs.kept.Kept.write.Goals as goal

pub returns-clause-above : goal.returns-clause-above
returns-clause-above g c = λ d h.
    let made = c.make_room.new.self.cache in
    let told = g.F.PageFile.told c.make_room.new.file in
    rw c.put.ensures (goes_step made (put made c.args.i c.args.from.now) told told (λ e. sector_written e c.args.i c.args.from.now.bytes) d (c.make_room.ensures.above d h)
    (λ e x. put_above made told c.args.i c.args.from.now e c.in_ok-make_room.ensures.sound c.requires c.in_ok-make_room.ensures.joins x))

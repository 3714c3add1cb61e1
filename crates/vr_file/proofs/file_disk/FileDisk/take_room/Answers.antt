use Rattle.vr_file.proofs.Known.{new_blank}
use Rattle.vr_file.proofs.file_disk.FileDisk.take_room.Goals as goal

pub returns-in_ok-new-in-None-clause-fresh : goal.returns-in_ok-new-in-None-clause-fresh
returns-in_ok-new-in-None-clause-fresh g c = λ e. rw c.in_ok-new-in-None.ensures new_blank

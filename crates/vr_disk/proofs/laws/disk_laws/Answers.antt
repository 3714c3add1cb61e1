use Rattle.vr_disk.proofs.Running.{after_is}
use Rattle.vr_disk.proofs.Stopping.{stops_are, cuts_both, nothing_left, barrier, name_stays}
use Rattle.vr_disk.proofs.Fuses.{fuse_leaves, armed_goes_off}
use Rattle.vr_disk.proofs.Frames.{spared}
use Rattle.vr_disk.proofs.Outcomes.{cut_leaves}
use Rattle.vr_disk.proofs.Faces.{stay_faces}
use Rattle.vr_disk.proofs.laws.disk_laws.Goals as goal

pub returns : goal.returns
returns c = record {
  after = after_is;
  front = stops_are;
  cut = fuse_leaves;
  armed = armed_goes_off;
  spared = spared;
  left = cut_leaves;
  both = cuts_both;
  faces = stay_faces;
  nothing = nothing_left;
  barrier = barrier;
  name = name_stays;
}

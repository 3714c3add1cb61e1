use Rattle.vr_rules.proofs.Stops.{well_done, fault_stops, want_front, fuse_cuts, fuse_later}
use Rattle.vr_rules.proofs.stopping.stop_laws.Goals as goal

pub returns : goal.returns
returns c = record { well = well_done; fault = fault_stops; want = want_front; fuse = fuse_cuts; later = fuse_later }

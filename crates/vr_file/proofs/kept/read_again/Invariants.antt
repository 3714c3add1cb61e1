use Rattle.std.proofs.Common.{◌≡◌, ◌∷◌, [], length}
use Rattle.vr_io_policy.specs.Pauses.{pauses}
use Rattle.vr_file.proofs.Asking.{MakesWhole}
use Rattle.vr_file.proofs.kept.read_again.Given as goal

abbrev pub invariant-loop-again : goal.invariant-loop-again
invariant-loop-again g l = record {
  told : g.F.PageFile.told l.file ≡ g.F.PageFile.told l.fn.file;
  whole : MakesWhole l.i (0 ∷ (5 ∷ (5 ∷ []))) (pauses l.again) (g.F.PageFile.made l.fn.file) (g.F.PageFile.made l.file);
}

abbrev pub decreases-loop-again : goal.decreases-loop-again
decreases-loop-again g l = length (pauses l.again)

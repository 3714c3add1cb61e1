use Rattle.std.proofs.Common.{◌∙◌, ◌<◌, arith, refl}
use Rattle.std.proofs.lemmas.Result.{err_from_is_err_and}
use Rattle.vr_super.specs.Copies.{copy_of}
use Rattle.vr_super.proofs.Steps.{mending_ends, mending_goes, mending_starts, mending_stops}
use Rattle.vr_super.proofs.writing.mend.Goals as goal

pub loop-copy-init : goal.loop-copy-init
loop-copy-init g c = record { mending = mending_starts (copy_of c.args.text.now) (g.D.SectorDisk.told c.args.disk.now); faults = refl; reads = omega arith }

pub loop-copy-preserved : goal.loop-copy-preserved
loop-copy-preserved g c =
    let l : c.loop-copy.copy < 4 = omega arith in
    record {
      mending = mending_goes (copy_of c.args.text.now) c.loop-copy.copy _ _ _ l c.loop-copy.invariant.mending c.in_ok-mend_unless.ensures.runs;
      faults = c.in_ok-mend_unless.ensures.cause.kept ∙ c.loop-copy.invariant.faults;
      reads = omega (arith, c.in_ok-mend_unless.ensures.reads, c.loop-copy.invariant.reads);
    }

pub returns-in_err-mend_unless-clause-runs : goal.returns-in_err-mend_unless-clause-runs
returns-in_err-mend_unless-clause-runs g c =
    let p = err_from_is_err_and c.from_residual.result c.from_residual.ensures.1 in
    let l : c.loop-copy.copy < 4 = omega arith in
    rw p.1 (mending_stops (copy_of c.args.text.now) c.loop-copy.copy _ _ _ l c.loop-copy.invariant.mending c.in_err-mend_unless.ensures.runs)

pub returns-clause-runs : goal.returns-clause-runs
returns-clause-runs g c = mending_ends (copy_of c.args.text.now) c.loop-copy.copy _ _ (omega arith) c.loop-copy.invariant.mending

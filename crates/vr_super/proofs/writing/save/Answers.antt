use Rattle.std.proofs.Common.{◌∙◌, ◌+◌, ◌-◌, ◌<◌, ◌≤◌, arith}
use Rattle.std.proofs.lemmas.Result.{err_from_is_err_and}
use Rattle.vr_disk.proofs.Running.{Runs_then, Runs_stopped, runs_nothing}
use Rattle.vr_super.specs.Calls.{copy_calls, save_from}
use Rattle.vr_super.specs.Copies.{copy_of}
use Rattle.vr_super.proofs.Steps.{save_past, save_step}
use Rattle.vr_super.proofs.writing.save.Goals as goal

pub loop-copy-preserved : goal.loop-copy-preserved
loop-copy-preserved g c =
    let k = c.loop-copy.copy in
    let bytes = copy_of c.args.text.now in
    let l : k < 4 = omega arith in
    record {
      runs = λ new ok h. c.loop-copy.invariant.runs new ok (rw (save_step k bytes l) (Runs_then (copy_calls k bytes) (save_from (k + 1) (4 - (k + 1)) bytes) _ _ _ _ c.in_ok-write_copy.ensures.runs h));
      faults = c.in_ok-write_copy.ensures.cause.kept ∙ c.loop-copy.invariant.faults;
      others = c.in_ok-write_copy.ensures.others ∙ c.loop-copy.invariant.others;
    }

pub returns-in_err-write_copy-clause-runs : goal.returns-in_err-write_copy-clause-runs
returns-in_err-write_copy-clause-runs g c =
    let p = err_from_is_err_and c.from_residual.result c.from_residual.ensures.1 in
    let k = c.loop-copy.copy in
    let bytes = copy_of c.args.text.now in
    let l : k < 4 = omega arith in
    rw p.1 (c.loop-copy.invariant.runs _ _ (rw (save_step k bytes l) (Runs_stopped (copy_calls k bytes) (save_from (k + 1) (4 - (k + 1)) bytes) _ _ c.in_err-write_copy.ensures.runs)))

pub returns-clause-runs : goal.returns-clause-runs
returns-clause-runs g c =
    let k = c.loop-copy.copy in
    let l : 4 ≤ k = omega arith in
    c.loop-copy.invariant.runs _ _ (rw (save_past k (copy_of c.args.text.now) l) (runs_nothing (g.D.SectorDisk.told c.loop-copy.disk)))

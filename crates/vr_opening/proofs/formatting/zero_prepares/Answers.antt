use Rattle.std.proofs.Common.{◌∙◌, arith, refl}
use Rattle.std.proofs.lemmas.Result.{err_from_is_err_and}
use Rattle.vr_opening.proofs.Calls.{zeros_go, zeros_stop}
use Rattle.vr_opening.proofs.formatting.zero_prepares.Goals as goal

pub returns-in_err-write-clause-runs : goal.returns-in_err-write-clause-runs
returns-in_err-write-clause-runs g c =
    let p = err_from_is_err_and c.from_residual.result c.from_residual.ensures.1 in
    rw p.1 (zeros_stop _ c.loop-i.i _ _ _ _ _ (omega arith) refl c.loop-i.invariant.making c.in_err-write.ensures.told)

pub loop-i-preserved : goal.loop-i-preserved
loop-i-preserved g c = record {
  making = zeros_go _ c.loop-i.i _ _ _ _ _ (omega arith) refl c.loop-i.invariant.making c.in_ok-write.ensures.told;
  faults = c.in_ok-write.ensures.cause.kept ∙ c.loop-i.invariant.faults;
}

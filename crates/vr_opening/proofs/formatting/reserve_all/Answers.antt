use Rattle.std.proofs.Common.{◌∙◌, arith, refl}
use Rattle.std.proofs.lemmas.Result.{err_from_is_err_and}
use Rattle.vr_opening.proofs.Calls.{headers_begin, headers_go, headers_stop}
use Rattle.vr_opening.proofs.formatting.reserve_all.Goals as goal

pub loop-slot-init : goal.loop-slot-init
loop-slot-init g c = record { making = headers_begin c.args.version c.args.cluster _; faults = refl }

pub returns-in_err-reserve-clause-runs : goal.returns-in_err-reserve-clause-runs
returns-in_err-reserve-clause-runs g c =
    let p = err_from_is_err_and c.from_residual.result c.from_residual.ensures.1 in
    rw p.1 (headers_stop c.args.version c.args.cluster c.loop-slot.slot _ _ _ _ (omega arith) c.loop-slot.invariant.making c.in_err-reserve.ensures.runs)

pub loop-slot-preserved : goal.loop-slot-preserved
loop-slot-preserved g c = record {
  making = headers_go c.args.version c.args.cluster c.loop-slot.slot _ _ _ _ (omega arith) c.loop-slot.invariant.making c.in_ok-reserve.ensures.runs;
  faults = c.in_ok-reserve.ensures.cause.kept ∙ c.loop-slot.invariant.faults;
}

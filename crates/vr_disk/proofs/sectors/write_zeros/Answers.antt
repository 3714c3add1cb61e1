use Rattle.std.specs.Prelude.{ℕ, List, replicate}
use Rattle.std.proofs.Common.{◌≡◌, ◌∙◌, ◌+◌, ◌-◌, ◌*◌, ◌<◌, arith, drop, true, false, [], ◌∷◌}
use Rattle.std.proofs.lemmas.Result.{err_from_is_err_and}
use Rattle.vr_disk.specs.DiskState.{Write, Runs}
use Rattle.vr_disk.proofs.Running.{Runs_then, Runs_stopped, runs_nothing}
use Rattle.vr_base.specs.Bytes.{piece}
use Rattle.vr_disk.specs.Sectors.{writes}
use Rattle.vr_disk.proofs.SectorSteps.{writes_past, writes_step, zeros_piece}
use Rattle.vr_disk.proofs.sectors.write_zeros.Goals as goal

pub loop-k-preserved : goal.loop-k-preserved
loop-k-preserved g c =
    let k = c.loop-k.k in
    let bytes : List ℕ = replicate (512 * c.args.count) 0 in
    let l : k < c.args.count = omega arith in
    let call = Write (c.args.at + k) (piece (512 * k) 512 bytes) ∷ [] in
    let one : Runs call (g.D.SectorDisk.told c.loop-k.disk) (g.D.SectorDisk.told c.write.new.self) true = rw (zeros_piece k c.args.count l) c.in_ok-write.ensures.told in
    record {
      runs = λ new ok h. c.loop-k.invariant.runs new ok (rw (writes_step c.args.at c.args.count k bytes l) (Runs_then call _ _ _ _ _ one h));
      faults = c.in_ok-write.ensures.cause.kept ∙ c.loop-k.invariant.faults;
      others = c.in_ok-write.ensures.others ∙ c.loop-k.invariant.others;
    }

pub returns-in_err-write-clause-runs : goal.returns-in_err-write-clause-runs
returns-in_err-write-clause-runs g c =
    let p = err_from_is_err_and c.from_residual.result c.from_residual.ensures.1 in
    let k = c.loop-k.k in
    let bytes : List ℕ = replicate (512 * c.args.count) 0 in
    let l : k < c.args.count = omega arith in
    let call = Write (c.args.at + k) (piece (512 * k) 512 bytes) ∷ [] in
    let one : Runs call (g.D.SectorDisk.told c.loop-k.disk) (g.D.SectorDisk.told c.write.new.self) false = rw (zeros_piece k c.args.count l) c.in_err-write.ensures.told in
    rw p.1 (c.loop-k.invariant.runs _ _ (rw (writes_step c.args.at c.args.count k bytes l) (Runs_stopped call (writes (c.args.at + (k + 1)) (c.args.count - (k + 1)) (drop (512 * (k + 1)) bytes)) _ _ one)))

pub returns-clause-runs : goal.returns-clause-runs
returns-clause-runs g c =
    let k = c.loop-k.k in
    let all : k ≡ c.args.count = let m = c.loop-k.auto.k-end in omega arith in
    c.loop-k.invariant.runs _ _ (rw (writes_past c.args.at c.args.count k (replicate (512 * c.args.count) 0) all) (runs_nothing (g.D.SectorDisk.told c.loop-k.disk)))

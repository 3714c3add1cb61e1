use Rattle.std.proofs.Common.{◌+◌, ◌-◌, ◌*◌, ℕ, List, rules}
use Rattle.std.specs.Prelude.{replicate}
use Rattle.std.proofs.lemmas.Result.{err_from_is_err_and}
use Rattle.vr_disk.specs.Sectors.{writes}
use Rattle.vr_disk.proofs.Running.{Runs_then, Runs_stopped}
use Rattle.vr_rings.proofs.Behind.{front_written}
use Rattle.vr_rings.proofs.writing.write_front.Goals as goal

pub returns-in_err-write_sectors-clause-runs : goal.returns-in_err-write_sectors-clause-runs
returns-in_err-write_sectors-clause-runs g c =
    let p = err_from_is_err_and c.from_residual.result c.from_residual.ensures.1 in
    let n = c.min-given.result in
    let b = c.args.bytes.now in
    let zs : List ℕ = replicate (512 * (c.args.count - n)) 0 in
    rw (p.1, front_written c.args.at c.args.count n c.args.filled b c.requires.size c.requires.count (search rules)) (Runs_stopped (writes c.args.at n b) (writes (c.args.at + n) (c.args.count - n) zs) _ _ c.in_err-write_sectors.ensures.runs)

pub returns-clause-runs : goal.returns-clause-runs
returns-clause-runs g c =
    let n = c.min-given.result in
    let b = c.args.bytes.now in
    let zs : List ℕ = replicate (512 * (c.args.count - n)) 0 in
    rw (front_written c.args.at c.args.count n c.args.filled b c.requires.size c.requires.count (search rules)) (Runs_then (writes c.args.at n b) (writes (c.args.at + n) (c.args.count - n) zs) _ _ _ _ c.in_ok-write_sectors.ensures.runs c.write_zeros.ensures.runs)

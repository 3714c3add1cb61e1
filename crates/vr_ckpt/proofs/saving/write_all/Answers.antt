use Rattle.std.proofs.Common.{◌∙◌, ◌+◌, drop, true, false}
use Rattle.std.proofs.lemmas.Result.{err_from_is_err_and}
use Rattle.vr_disk.specs.DiskState.{Runs}
use Rattle.vr_disk.proofs.Running.{Runs_stopped, Runs_then, runs_nothing}
use Rattle.vr_ckpt.specs.Grid.{block_calls}
use Rattle.vr_ckpt.specs.Saves.{blocks_calls}
use Rattle.vr_ckpt.proofs.Planning.{calls_end, calls_more}
use Rattle.vr_ckpt.proofs.saving.write_all.Goals as goal

pub loop-block-preserved : goal.loop-block-preserved
loop-block-preserved g c =
    let bs = c.args.blocks.now in
    let i = c.loop-block.block-index in
    let b = c.block-item.result in
    let call = block_calls b.name.address b.bytes in
    let one : Runs call (g.D.SectorDisk.told c.loop-block.disk) (g.D.SectorDisk.told c.write_at.new.disk) true = rw (c.as_slice-bytes.ensures, c.note_block.ensures.untouched.told) at c.in_ok-write_at.ensures.runs in
    record {
      runs = λ new ok h. c.loop-block.invariant.runs new ok (rw (calls_more bs i b c.loop-block-test.true c.block-item.is) (Runs_then call (blocks_calls (drop (i + 1) bs)) _ _ _ _ one h));
      faults = c.in_ok-write_at.ensures.cause.kept ∙ (c.note_block.ensures.untouched.faults ∙ c.loop-block.invariant.faults);
      others = c.in_ok-write_at.ensures.others ∙ (c.note_block.ensures.reads ∙ c.loop-block.invariant.others);
    }

pub returns-in_err-write_at-clause-runs : goal.returns-in_err-write_at-clause-runs
returns-in_err-write_at-clause-runs g c =
    let p = err_from_is_err_and c.from_residual.result c.from_residual.ensures.1 in
    let bs = c.args.blocks.now in
    let i = c.loop-block.block-index in
    let b = c.block-item.result in
    let call = block_calls b.name.address b.bytes in
    let one : Runs call (g.D.SectorDisk.told c.loop-block.disk) (g.D.SectorDisk.told c.write_at.new.disk) false = rw (c.as_slice-bytes.ensures, c.note_block.ensures.untouched.told) at c.in_err-write_at.ensures.runs in
    rw p.1 (c.loop-block.invariant.runs _ _ (rw (calls_more bs i b c.loop-block-test.true c.block-item.is) (Runs_stopped call (blocks_calls (drop (i + 1) bs)) _ _ one)))

pub returns-clause-runs : goal.returns-clause-runs
returns-clause-runs g c = c.loop-block.invariant.runs _ _ (rw (calls_end c.args.blocks.now c.loop-block.block-index c.loop-block-test.false) (runs_nothing (g.D.SectorDisk.told c.loop-block.disk)))

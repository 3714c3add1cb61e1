use Rattle.std.proofs.Common.{Err, rules, ◌≡◌}
use Rattle.vr_disk.specs.declared.fault.Halt.TheVariants.{DiskFault}
use Rattle.vr_ckpt.specs.Blocks.{Content}
use Rattle.vr_ckpt.proofs.Made.{name_of_made, runs_made}
use Rattle.vr_ckpt.proofs.writing.write_block.Goals as goal

pub returns-in_err-write_at-clause-runs : goal.returns-in_err-write_at-clause-runs
returns-in_err-write_at-clause-runs g c =
    let v : Content = record { cluster = c.args.cluster; address = c.args.address; op = c.args.op; kind = c.args.kind; payload = c.args.payload.now } in
    let is : c.from_residual-in_err-write_at.result ≡ Err DiskFault = search rules in
    rw is (runs_made c.in_ok-block.block v c.as_slice.result.now c.args.address _ _ _ c.in_ok-block.ensures.value c.as_slice.ensures c.in_err-write_at.ensures.runs)

pub returns-clause-name : goal.returns-clause-name
returns-clause-name g c =
    let v : Content = record { cluster = c.args.cluster; address = c.args.address; op = c.args.op; kind = c.args.kind; payload = c.args.payload.now } in
    name_of_made c.in_ok-block.block v c.in_ok-block.ensures.value

pub returns-clause-runs : goal.returns-clause-runs
returns-clause-runs g c =
    let v : Content = record { cluster = c.args.cluster; address = c.args.address; op = c.args.op; kind = c.args.kind; payload = c.args.payload.now } in
    runs_made c.in_ok-block.block v c.as_slice.result.now c.args.address _ _ _ c.in_ok-block.ensures.value c.as_slice.ensures c.in_ok-write_at.ensures.runs

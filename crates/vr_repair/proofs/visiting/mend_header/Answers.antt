use Rattle.std.proofs.Common.{rules, ◌≡◌, Err}
use Rattle.vr_disk.specs.declared.fault.Halt.TheVariants.{DiskFault}
use Rattle.vr_repair.proofs.Visits.{header_good, header_mended, header_stopped}
use Rattle.vr_repair.proofs.visiting.mend_header.Goals as goal

pub returns-then-reads_as-clause-acts : goal.returns-then-reads_as-clause-acts
returns-then-reads_as-clause-acts g c =
    record { ready = search rules; cause = search rules; step = header_good _ _ _ _ _ c.reads_as.ensures.untouched.told c.reads_as.ensures.value _ c.if-reads_as.true }

pub returns-in_err-rewrite_header-clause-acts : goal.returns-in_err-rewrite_header-clause-acts
returns-in_err-rewrite_header-clause-acts g c =
    let is : c.from_residual.result ≡ Err DiskFault = search rules in
    record {
      ready = search rules;
      cause = search rules;
      step = rw is (header_stopped c.args.header.now _ _ _ _ c.reads_as.ensures.untouched.told c.reads_as.ensures.value _ _ _ c.if-reads_as.false c.in_err-rewrite_header.ensures.runs);
    }

pub returns-clause-acts : goal.returns-clause-acts
returns-clause-acts g c =
    record {
      ready = search rules;
      cause = search rules;
      step = header_mended _ _ _ _ _ c.reads_as.ensures.untouched.told c.reads_as.ensures.value _ _ c.if-reads_as.false c.in_ok-rewrite_header.ensures.runs;
    }

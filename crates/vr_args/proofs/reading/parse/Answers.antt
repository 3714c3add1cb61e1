use Rattle.std.proofs.Common.{map}
use Rattle.std.specs.Prelude.{string_bytes}
use Rattle.vr_args.proofs.Found.{refused_by, same_fault}
use Rattle.vr_args.specs.declared.command.WordsFault.TheVariants.{Usage}
use Rattle.vr_args.proofs.reading.parse.Goals as goal

pub returns-in-Err-clause-usage : goal.returns-in-Err-clause-usage
returns-in-Err-clause-usage c = λ e.
    refused_by (map string_bytes c.args.words.now) c.in-Err.error c.in-Err.ensures.fails (c.fault_for.ensures (same_fault c.fault_for.result Usage e))

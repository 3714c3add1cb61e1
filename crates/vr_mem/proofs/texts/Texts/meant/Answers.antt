use Rattle.std.proofs.Common.{arith}
use Rattle.vr_mem.proofs.Meant.{marked_plain, marked_owed}
use Rattle.vr_mem.proofs.texts.Texts.meant.Goals as goal

pub returns-in-Plain : goal.returns-in-Plain
returns-in-Plain c = marked_plain c.args.self.now c.args.mark c.args.from.now _ c.in-Plain.is (λ i. omega (arith, c.type_inv.from i)) c.copy_from_slice.ensures.after

pub returns-in-Owed : goal.returns-in-Owed
returns-in-Owed c = marked_owed c.args.self.now c.args.mark c.args.from.now _ c.in-Owed.is (λ i. omega (arith, c.type_inv.from i)) c.requires c.begun.ensures

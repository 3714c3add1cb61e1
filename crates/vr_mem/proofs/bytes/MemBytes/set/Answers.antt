use Rattle.std.proofs.Common.{◌∙◌, sym}
use Rattle.vr_mem.specs.Seen.{marked}
use Rattle.vr_mem.proofs.Marks.{length_marked}
use Rattle.vr_mem.proofs.Noted.{noted_zeros}
use Rattle.vr_mem.proofs.bytes.MemBytes.set.Goals as goal

pub returns-then-self : goal.returns-then-self
returns-then-self c =
    noted_zeros _ (marked c.args.mark c.args.bytes.now) c.if-self.true (sym c.are_zeros-self.ensures ∙ c.if-self.true) (length_marked c.args.mark c.args.bytes.now ∙ c.requires)

use Rattle.std.proofs.Common.{length, arith}
use Rattle.std.proofs.lemmas.Grind.{common_steps}
use Rattle.vr_edge.proofs.Pieces.{consumed, none_left}
use Rattle.vr_edge.proofs.mem_source.MemSourceSource.read.Goals as goal

pub returns-clause-bytes : goal.returns-clause-bytes
returns-clause-bytes c =
    let same = length c.args.to.now in (
      consumed c.args.self.now.bytes.items c.copy_from_slice.new.self _ c.args.self.now.at c.min-count.result (grind (arith, common_steps, c.copy_from_slice.ensures.after)) (grind (arith, common_steps, c.copy_from_slice.ensures.after)),
      λ none some. none_left c.args.self.now.bytes.items c.len.result c.args.self.now.at c.min-count.result c.most.result same (grind (arith, common_steps, c.len.ensures)) c.min-count.ensures c.most.ensures.some none (grind (arith, common_steps)),
    )

use Rattle.std.proofs.Common.{◌∙◌, sym}
use Rattle.vr_rings.proofs.Fronts.{front_none_by, front_whole_by}
use Rattle.vr_rings.proofs.bytes.whole_by.Goals as goal

pub returns-then-is_zeros-clause-value : goal.returns-then-is_zeros-clause-value
returns-then-is_zeros-clause-value g c =
    c.entry_in.ensures.value
    ∙ front_whole_by c.args.bytes.now c.args.size c.split_at.result.0.now c.split_at.result.1.now c.requires.least c.requires.most c.requires.size c.requires.given c.split_at.ensures.front c.split_at.ensures.back (sym c.is_zeros.ensures ∙ c.if-is_zeros.true)

pub returns-else-is_zeros-clause-value : goal.returns-else-is_zeros-clause-value
returns-else-is_zeros-clause-value g c =
    front_none_by c.args.bytes.now c.args.size c.split_at.result.1.now c.requires.least c.requires.most c.requires.size c.requires.given c.split_at.ensures.back (sym c.is_zeros.ensures ∙ c.if-is_zeros.false)

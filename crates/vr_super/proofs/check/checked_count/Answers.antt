use Rattle.std.proofs.Common.{◌≡◌, ◌∙◌, sym, true}
use Rattle.vr_super.specs.Copies.{good_fields}
use Rattle.vr_super.proofs.Format.{count_fits}
use Rattle.vr_super.proofs.Sealing.{head_holds, window_holds}
use Rattle.vr_super.proofs.check.checked_count.Goals as goal

pub returns-then-are_good-clause-bounds : goal.returns-then-are_good-clause-bounds
returns-then-are_good-clause-bounds c =
    let f = c.args.f.now in
    let n = c.args.count in
    let e : good_fields f n ≡ true = sym c.are_good.ensures ∙ c.if-are_good.true in
    (count_fits f n e, head_holds f n e, window_holds f n e)

-- The outputs of each schedule that a number makes have one log.
use Rattle.std.proofs.Common.{ℕ, ◌^◌, ◌<◌, arith}
use Rattle.vr_base.specs.Kinds.{strict}
use Rattle.vr_draws.specs.Drawn.{drawn_size}
use Rattle.vr_group.proofs.Headline.{lines_keep}
use Rattle.cmd_soak.proofs.Asked.{lines_asked, lines_count, lines_fit}
use Rattle.cmd_soak.specs.Headline.{SoakHasOneLog}
use Rattle.cmd_soak.specs.Made.{lines_from, size_of}

pub headline : (seed count : ℕ) → count < 2 ^ 60 → SoakHasOneLog seed count
headline seed count few =
    let n = size_of seed in
    let number = (drawn_size seed).number in
    let size = lines_count n number count in
    lines_keep strict 1 n (lines_from seed count) (omega arith, omega arith) (omega arith) (omega arith) (omega (arith, size, few)) (lines_fit n number count (omega arith)) (lines_asked n number count (omega arith))

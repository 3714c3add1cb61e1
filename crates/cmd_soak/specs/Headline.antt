-- What is so of the outputs of every schedule that a number makes: there is one log.
use Rattle.std.specs.Prelude.{ℕ}
use Rattle.vr_base.specs.Kinds.{strict}
use Rattle.vr_group.specs.Headline.{LinesKeepOneLog}
use Rattle.cmd_soak.specs.Made.{lines_from, size_of}

abbrev pub SoakHasOneLog : ℕ → ℕ → Type 0
SoakHasOneLog seed count = LinesKeepOneLog strict (size_of seed) (lines_from seed count)

-- The counts of faults at the end of a run.
use Rattle.std.specs.Prelude.{ℕ}
use Rattle.vr_base.specs.Causes.{one_more}
use Rattle.vr_base.specs.declared.status.Status.{Status}
use Rattle.vr_base.specs.declared.status.Status.TheVariants.{LinkFault, ReadFault, WriteFault}

-- that of the source's: one more where the run ended with a fault of the source
abbrev pub reads_after : Status → ℕ → ℕ
reads_after ReadFault count = one_more count
reads_after _ count = count

-- that of the sink's: one more where it ended with a fault of the sink
abbrev pub writes_after : Status → ℕ → ℕ
writes_after WriteFault count = one_more count
writes_after _ count = count

-- that of the link's: one more where it ended with a fault of the link
abbrev pub links_after : Status → ℕ → ℕ
links_after LinkFault count = one_more count
links_after _ count = count

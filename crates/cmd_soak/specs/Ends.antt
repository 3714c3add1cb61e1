-- How the command ends.
use Rattle.std.specs.Prelude.{ℕ, ◌≡◌, List, Option}
use Rattle.std.specs.Io.KnownBytes.{Appends}
use Rattle.vr_base.specs.Causes.{one_more}
use Rattle.vr_edge.specs.Told.{AppendsFront}
use Rattle.vr_base.specs.declared.status.Status.{Status}
use Rattle.vr_base.specs.declared.status.Status.TheVariants as status

-- faults and taken are of the sink, before and after: the whole text, a front of it where a write failed, or nothing
abbrev pub SoakEnds : (faults faults_after : ℕ) (taken taken_after : Option (List ℕ)) (text : List ℕ) → Status → Type 0
SoakEnds k k' t t' text status.Done = (k' ≡ k) × Appends t t' text
SoakEnds k k' t t' text status.WriteFault = (k' ≡ one_more k) × AppendsFront t t' text
SoakEnds k k' t t' text status.NoMemory = (k' ≡ k) × (t' ≡ t)
SoakEnds k k' t t' text _ = ⊥

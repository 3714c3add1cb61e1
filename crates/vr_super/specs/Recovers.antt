-- What recovering leaves.
use Rattle.std.specs.Prelude.{◌≡◌, true, false, List, [], map, Option, None, Some, IsSome, is_some, Result, Ok, Err, if◌then◌else◌, ℕ}
use Rattle.vr_disk.specs.DiskState.{Disk, Face, Runs}
use Rattle.std.specs.Option.{option_and_then}
use Rattle.vr_super.specs.Copies.{SuperValue, value_of}
use Rattle.vr_super.specs.Calls.{mend_calls}
use Rattle.vr_super.specs.Opens.{good_copies, opened, opens}
use Rattle.vr_super.specs.declared.recovering.CopyVerdict.{CopyVerdict}
use Rattle.vr_super.specs.declared.recovering.CopyVerdict.TheVariants.{Good, Bad}
use Rattle.vr_super.specs.declared.recovering.FindFault.{FindFault}
use Rattle.vr_super.specs.declared.recovering.FindFault.TheVariants as find
use Rattle.vr_super.specs.declared.recovering.FoundValue.{FoundValue}
use Rattle.vr_super.specs.declared.recovering.SuperFault.{SuperFault}
use Rattle.vr_super.specs.declared.recovering.SuperFault.TheVariants as fault

-- of a copy's bytes, None where it is bad
abbrev pub copy_verdict : Option (List ℕ) → CopyVerdict
copy_verdict c = if is_some c then Good else Bad

-- where the value that opens was being mended and a call failed
pub record StoppedMending (d : Disk) (new : Option Disk) : Type 0 where
  pub value : SuperValue
  pub opens : opens d.face ≡ Some value
  pub ran : Runs (mend_calls value d.face) (Some d) new false

-- the value that opens, mended; or what stood in the way
abbrev pub Recovers : Disk → Option Disk → Result SuperValue SuperFault → Type 0
Recovers d new (Ok v) = (opens d.face ≡ Some v) × Runs (mend_calls v d.face) (Some d) new true
Recovers d new (Err (fault.Lost verdicts)) = (opens d.face ≡ None) × (new ≡ Some d) × (verdicts ≡ map copy_verdict (good_copies d.face))
Recovers d new (Err fault.DiskFault) = StoppedMending d new
Recovers d new (Err fault.NoMemory) = IsSome (opens d.face) × (new ≡ Some d)

-- on a disk that may tell
abbrev pub RecoversFrom : Option Disk → Option Disk → Result SuperValue SuperFault → Type 0
RecoversFrom None new result = new ≡ None
RecoversFrom (Some d) new result = Recovers d new result

-- a value that opens and wasn't read, for want of memory: its file is of this version
pub record IsUnread (opened : Option SuperValue) (version : ℕ) : Type 0 where
  pub value : SuperValue
  pub opens : opened ≡ Some value
  pub named : value.fields.version ≡ version

-- the value that these copies open as; or what stood in the way
abbrev pub Chosen : List (Option (List ℕ)) → Result SuperValue FindFault → Type 0
Chosen copies (Ok v) = option_and_then value_of (opened copies) ≡ Some v
Chosen copies (Err (find.Lost verdicts)) = (option_and_then value_of (opened copies) ≡ None) × (verdicts ≡ map copy_verdict copies)
Chosen copies (Err (find.NoMemory version)) = IsUnread (option_and_then value_of (opened copies)) version

-- a value as which the disk opens, and of which no copy is to be mended where all four were read as its bytes
pub record IsFound (f : Face) (found : FoundValue) : Type 0 where
  pub opens : opens f ≡ Some found.value
  pub alike : found.alike ≡ true → mend_calls found.value f ≡ []

-- the value that a disk opens as; or what stood in the way
abbrev pub Finds : Face → Result FoundValue FindFault → Type 0
Finds f (Ok found) = IsFound f found
Finds f (Err (find.Lost verdicts)) = (opens f ≡ None) × (verdicts ≡ map copy_verdict (good_copies f))
Finds f (Err (find.NoMemory version)) = IsUnread (opens f) version

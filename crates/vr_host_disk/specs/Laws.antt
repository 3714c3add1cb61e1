-- A replica on a disk that lies does what the definitions say of its sectors, and what its calls leave of the slots is the definitions' too.
use Rattle.std.specs.Prelude.{ℕ, ◌<◌, ◌≤◌, ◌≡◌, true, false, List, [], ◌∷◌, length, Option, Some, None, IfSome}
use Rattle.vr_disk.specs.DiskState.{Call, Disk, Fuse, Runs, runs}
use Rattle.vr_msg.specs.declared.event.Event.{Event}
use Rattle.vr_msg.specs.declared.output.Output.TheVariants as output
use Rattle.vr_super.specs.Copies.{SuperValue}
use Rattle.vr_rules.specs.Migrating.{migration_calls}
use Rattle.vr_rules.specs.Opening.{blank, opening}
use Rattle.vr_rules.specs.Replica.{Replica}
use Rattle.vr_rules.specs.Rules.{react}
use Rattle.vr_rules.specs.Sectors.{script_calls, sectors_by}
use Rattle.vr_rules.specs.Steps.{Step, outputs}
use Rattle.vr_world.specs.Lying.{Lying, after_calls, cut_calls, hazards, lying}
use Rattle.vr_world.specs.World.{acts, migrated_or_halted}
use Rattle.vr_host_disk.specs.Told.{IsTold, burnt, host_on, lying_in, next_held, settled_on}

abbrev pub StepsAreOfSectors : Type 0
StepsAreOfSectors = (e : Event) (r : Replica) (d : Lying) → react e lying r d ≡ react e (sectors_by d.version) r d.face

abbrev pub OpeningsAreOfSectors : Type 0
OpeningsAreOfSectors = (v : SuperValue) (d : Lying) → opening v lying (blank v) d ≡ opening v (sectors_by d.version) (blank v) d.face

-- calls that all went well
pub record Went (version : ℕ) (cs : List Call) (d e : Disk) : Type 0 where
  pub lying : lying_in version e ≡ after_calls (lying_in version d) cs
  pub told : IsTold version e
  pub fuse : e.fate.fuse ≡ burnt (length cs) d.fate.fuse
  pub reach : IfSome d.fate.fuse (λ u. length cs ≤ u.calls)

abbrev pub RunsTell : Type 0
RunsTell = (version : ℕ) (cs : List Call) (d : Disk) → IsTold version d → (runs cs d).ok ≡ true → Went version cs d (runs cs d).disk

-- calls that didn't: the fuse has cut one
pub record WasCut (version : ℕ) (cs : List Call) (d e : Disk) : Type 0 where
  pub fuse : Fuse
  pub armed : d.fate.fuse ≡ Some fuse
  pub within : fuse.calls < length cs
  pub lying : lying_in version e ≡ cut_calls fuse.calls fuse.code (lying_in version d) cs
  pub spent : e.fate.fuse ≡ None
  pub dead : e.fate.dead ≡ true
  pub sure : e.fate.failing ≡ []
  pub count : length e.beside.rows ≡ 64
  pub next : e.beside.next ≡ next_held version

abbrev pub CutsTell : Type 0
CutsTell = (version : ℕ) (cs : List Call) (d : Disk) → IsTold version d → (runs cs d).ok ≡ false → WasCut version cs d (runs cs d).disk

-- ---- a member acts

-- a step whose calls all go well is gone
pub record WentOn (version index : ℕ) (r : Option Replica) (d e : Disk) (s : Step) : Type 0 where
  pub acted : acts hazards index (host_on version r d) s ≡ record { member = host_on version (Some s.replica) e; outputs = outputs s.script }
  pub told : IsTold version e

abbrev pub ActsGo : Type 0
ActsGo = (version index : ℕ) (r : Option Replica) (d e : Disk) (s : Step) → IsTold version d → Runs (script_calls version s.script d.face) (Some d) (Some e) true → WentOn version index r d e s

-- one of which a call doesn't is halted; once the disk is alive again
abbrev pub revived : Disk → Disk
revived d = record d { fate = record d.fate { dead = false } }

pub record HaltedAt (version index : ℕ) (r : Option Replica) (d e : Disk) (s : Step) : Type 0 where
  pub acted : acts hazards index (host_on version r d) s ≡ record { member = host_on version None (revived e); outputs = output.Halted index ∷ [] }
  pub told : IsTold version (revived e)

abbrev pub ActsHalt : Type 0
ActsHalt = (version index : ℕ) (r : Option Replica) (d e : Disk) (s : Step) → IsTold version d → Runs (script_calls version s.script d.face) (Some d) (Some e) false → HaltedAt version index r d e s

-- ---- a member is migrated

-- a migration of the value whose calls all go well
pub record MigratedOn (version index : ℕ) (r : Option Replica) (d e : Disk) (v : SuperValue) : Type 0 where
  pub acted : migrated_or_halted hazards index (host_on version r d) v d.fate.fuse ≡ record { member = settled_on version e; outputs = output.Migrated index ∷ [] }
  pub told : IsTold version e

abbrev pub MigrationsGo : Type 0
MigrationsGo = (version index : ℕ) (r : Option Replica) (d e : Disk) (v : SuperValue) → IsTold version d → Runs (migration_calls v d.face) (Some d) (Some e) true → MigratedOn version index r d e v

-- one of which a call doesn't
pub record MigrationHalted (version index : ℕ) (r : Option Replica) (d e : Disk) (v : SuperValue) : Type 0 where
  pub acted : migrated_or_halted hazards index (host_on version r d) v d.fate.fuse ≡ record { member = settled_on version e; outputs = output.Halted index ∷ [] }
  pub told : IsTold version (revived e)

abbrev pub MigrationsHalt : Type 0
MigrationsHalt = (version index : ℕ) (r : Option Replica) (d e : Disk) (v : SuperValue) → IsTold version d → Runs (migration_calls v d.face) (Some d) (Some e) false → MigrationHalted version index r d e v

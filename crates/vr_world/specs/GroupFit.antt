-- What every group in a run of one is, as far as each member and each message goes.
use Rattle.vr_base.specs.declared.kind.Kind.{Kind}
use Rattle.vr_rules.specs.Opening.{AreKinds}
use Rattle.std.specs.Prelude.{ℕ, ◌^◌, ◌<◌, ◌≤◌, ◌≡◌, ⊤, List, All, slice_get, Some}
use Rattle.vr_disk.specs.DiskState.{IsFace}
use Rattle.vr_header.specs.declared.header.Header.{Header}
use Rattle.vr_header.specs.Made.{IsEntryHeader}
use Rattle.vr_header.specs.Spelling.{IsHeader}
use Rattle.vr_super.specs.Copies.{SuperValue, IsGood}
use Rattle.vr_rules.specs.Replica.{Replica}
use Rattle.vr_world.specs.Lying.{Lying, lying}
use Rattle.vr_rules.specs.Sound.{IsSound, IsSavable}
use Rattle.vr_world.specs.Group.{Member, Group, Arrival, Asked, Message, Time, Move, Steps, Cuts, Crashes, Recovers, RecoversCut, Migrates, MigratesCut, MayOpen, Moved, Moves, Played, Run, fresh_group}
use Rattle.vr_rules.specs.Own.{IsOwnValue, IsAt}
use Rattle.vr_rules.specs.Fit.{IsProgram, KnowsBlocks, MayCome, ReadsWell}
use Rattle.vr_rules.specs.Laws.{HasNames, ReadsHeaders, SavesRoots}

-- sectors that may lie are a disk of the program
pub record LiesFit : Type 0 where
  pub names : HasNames lying
  pub roots : SavesRoots lying
  pub program : IsProgram lying
  pub reads : (d : Lying) → IsFace d.face → ReadsWell lying d
  pub headers : (d : Lying) → IsFace d.face → ReadsHeaders lying d

-- a running replica
pub record IsFitReplica (r : Replica) : Type 0 where
  pub sound : IsSound r
  pub savable : IsSavable r
  pub blocks : KnowsBlocks r

-- a value of this replica that makes a good copy
abbrev pub IsFitValue : ℕ → ℕ → ℕ → SuperValue → Type 0
IsFitValue cluster n index v = IsGood v × IsOwnValue cluster n index v.fields.version v

-- a member of this group of so many, by its place: both values are its own and make good copies, and where it runs it is fit, on a file of the
-- version of the last one
pub record IsFitMember (cluster n index : ℕ) (m : Member) : Type 0 where
  pub running : (r : Replica) → m.replica ≡ Some r → IsFitReplica r × IsAt cluster n index m.last.fields.version r
  pub last : IsFitValue cluster n index m.last
  pub under : (v : SuperValue) → m.under ≡ Some v → IsFitValue cluster n index v

-- the header of an entry that a member began to write
abbrev pub IsMade : Header → Type 0
IsMade h = IsHeader h × IsEntryHeader h

pub record IsFitGroup (cluster : ℕ) (g : Group) : Type 0 where
  pub some : 1 ≤ g.n
  pub members : (at : ℕ) (m : Member) → slice_get g.members at ≡ Some m → IsFitMember cluster g.n at m
  pub sent : All MayCome g.sent
  pub made : All IsMade g.made

-- a move reads what the program has, and asks of a group with a number
abbrev pub IsFitArrival : Arrival → Type 0
IsFitArrival (Asked q) = q.cluster < 2 ^ 64
IsFitArrival (Message number) = ⊤
IsFitArrival Time = ⊤

abbrev pub IsFitMove : Move → Type 0
IsFitMove (Steps at arrival event disk) = IsFitArrival arrival × ReadsWell lying disk
IsFitMove (Cuts at arrival event disk effects) = IsFitArrival arrival × ReadsWell lying disk
IsFitMove (Crashes at) = ⊤
IsFitMove (Recovers at value disk) = ReadsWell lying disk
IsFitMove (RecoversCut at value disk effects) = ReadsWell lying disk
IsFitMove (Migrates at value) = ⊤
IsFitMove (MigratesCut at value effects) = ⊤

-- before and after a move
abbrev pub IsFitPlayed : ℕ → Played → Type 0
IsFitPlayed cluster p = IsFitGroup cluster p.before × IsFitGroup cluster p.moved.group

-- the file of each member, whichever value it may open as, is of the version of its kind or of a later one
abbrev pub AreOfKinds : (ℕ → Kind) → Group → Type 0
AreOfKinds kinds g = (at : ℕ) (m : Member) (v : SuperValue) → slice_get g.members at ≡ Some m → MayOpen m v → (kinds at).version ≤ v.fields.version

-- before and after a move
abbrev pub IsOfKinds : (ℕ → Kind) → Played → Type 0
IsOfKinds kinds p = AreOfKinds kinds p.before × AreOfKinds kinds p.moved.group

-- Each move of a fit group leaves a fit one, and so does each run of a fresh group. No file comes to be of an earlier version than it was made of.
pub record GroupsFit : Type 0 where
  pub each : (cluster : ℕ) (g : Group) (move : Move) (moved : Moved) → IsFitGroup cluster g → IsFitMove move → Moves g move moved → IsFitGroup cluster moved.group
  pub runs : (kinds : ℕ → Kind) (cluster n : ℕ) (run : List Played) → AreKinds kinds n → cluster < 2 ^ 64 → 1 ≤ n → n ≤ 6 → All (λ p. IsFitMove p.move) run → Run (fresh_group kinds cluster n) run → All (IsFitPlayed cluster) run
  pub kinds : (kinds : ℕ → Kind) (cluster : ℕ) (g : Group) (move : Move) (moved : Moved) → AreOfKinds kinds g → IsFitGroup cluster g → IsFitMove move → Moves g move moved → AreOfKinds kinds moved.group
  pub runs_of : (kinds : ℕ → Kind) (cluster n : ℕ) (run : List Played) → AreKinds kinds n → cluster < 2 ^ 64 → 1 ≤ n → n ≤ 6 → All (λ p. IsFitMove p.move) run → Run (fresh_group kinds cluster n) run → All (IsOfKinds kinds) run

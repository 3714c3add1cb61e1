-- The file that members of a group left, whatever befell them: it opens as a value of its version, so the next run on it is acts that go on from there.
use Rattle.std.specs.Prelude.{ℕ, ◌^◌, ◌<◌, ◌≤◌, ◌≡◌, ◌⊎◌, List, length, slice_get, Option, Some, None}
use Rattle.vr_base.specs.declared.kind.Kind.{Kind}
use Rattle.vr_disk.specs.DiskState.{Disk}
use Rattle.vr_header.specs.NoCollision.{NoCollision}
use Rattle.vr_world.specs.Lying.{Lying}
use Rattle.vr_rules.specs.Opening.{AreKinds}
use Rattle.vr_world.specs.World.{Host}
use Rattle.vr_node.specs.Moving.{MigrationEnds}
use Rattle.vr_node.specs.Running.{NodeEnds, Outside}
use Rattle.vr_serve.specs.Causes.{Counts}
use Rattle.vr_base.specs.declared.status.Status.{Status}
use Rattle.law_6_one_log.specs.Schedules.{IsHashedOf}
use Rattle.law_7_members.specs.Deeds.{config_at}
use Rattle.law_7_members.specs.Ends.{FoundAndEnded, IsHalted, IsMoving, LeavesBy, OpensAsOwn, TellsAgain}
use Rattle.law_7_members.specs.Files.{ActBy, all_lines}
use Rattle.law_7_members.specs.Whole.{AreAtWork, AreRuns, world_of}

-- whole runs of members, interleaved anyhow, of which the one at this place has this file now: all that `runs_keep_one_log` asks of them
pub record IsLeft (kinds : ℕ → Kind) (cluster n : ℕ) (first : ℕ → Host Lying) (xs : List ActBy) (at : ℕ) (file : Lying) : Type 0 where
  pub are : AreKinds kinds n
  pub number : cluster < 2 ^ 64
  pub few : 1 ≤ n
  pub many : n ≤ 6
  pub short : length xs < 2 ^ 46
  pub runs : AreRuns kinds cluster n first xs
  pub names : NoCollision (IsHashedOf cluster (world_of first n) (all_lines xs))
  pub work : AreAtWork cluster n first xs
  pub member : Host Lying
  pub there : slice_get work.left.world.members at ≡ Some member
  pub is : member.disk ≡ file

-- it opens as no value of another version
abbrev pub FilesOpenAsOwn : Type 0
FilesOpenAsOwn = (kinds : ℕ → Kind) (cluster n : ℕ) (first : ℕ → Host Lying) (xs : List ActBy) (at : ℕ) (file : Lying) → IsLeft kinds cluster n first xs at file → OpensAsOwn file

-- so any next run of `node` on it left it alone, or as an opening that was cut; or found its member, and ended by an act
abbrev pub NextRunsAreActs : Type 0
NextRunsAreActs =
    (kinds : ℕ → Kind) (cluster n : ℕ) (first : ℕ → Host Lying) (xs : List ActBy) (at : ℕ) (file : Lying) → IsLeft kinds cluster n first xs at file
    → (name : List ℕ) (peers : List (List ℕ)) (turns : ℕ) (o o' : Outside) (before now : Counts) (s : Status) → TellsAgain o.disk file → NodeEnds None (config_at cluster n at) name peers turns o o' before now s
    → LeavesBy (config_at cluster n at) file (IsHalted s) o'.disk ⊎ FoundAndEnded (config_at cluster n at) file o o'

-- and so is any next run of the migration
abbrev pub NextMigrationsAreActs : Type 0
NextMigrationsAreActs =
    (kinds : ℕ → Kind) (cluster n : ℕ) (first : ℕ → Host Lying) (xs : List ActBy) (at : ℕ) (file : Lying) → IsLeft kinds cluster n first xs at file
    → (name : List ℕ) (d d' : Option Disk) (s : Status) → TellsAgain d file → MigrationEnds (config_at cluster n at) name d d' s → LeavesBy (config_at cluster n at) file (IsMoving file s) d'

-- Members that run at the same time are one group.
use Rattle.std.specs.Prelude.{ℕ, ◌^◌, ◌<◌, ◌≤◌, ◌≡◌, List, All, length, slice_get, Some, None}
use Rattle.law_3_outputs.specs.Followed.{IsFitRun}
use Rattle.vr_base.specs.declared.kind.Kind.{Kind}
use Rattle.vr_rules.specs.Opening.{AreKinds}
use Rattle.vr_disk.specs.DiskState.{Disk}
use Rattle.vr_header.specs.NoCollision.{NoCollision}
use Rattle.vr_super.specs.Copies.{SuperValue}
use Rattle.vr_world.specs.Group.{Group, Member, Played, fresh_group}
use Rattle.vr_world.specs.Lying.{Lying}
use Rattle.vr_world.specs.World.{Happened, Host, World}
use Rattle.vr_world.specs.Safe.{Safe, run_outputs}
use Rattle.law_4_disks.specs.Worlds.{IsMatched, IsOfBytes, first_world, left}
use Rattle.law_6_one_log.specs.ScheduleLaws.{IsUnforgedBeside}
use Rattle.law_6_one_log.specs.Schedules.{IsHashedOf, room}
use Rattle.law_6_one_log.specs.Laws.{KeepsLog}
use Rattle.law_7_members.specs.Deeds.{AtWork, By, MayBeFound, all_put_out}
use Rattle.law_7_members.specs.Files as files
use Rattle.law_7_members.specs.Files.{ActBy, all_lines}

-- a run of the group, on disks of bytes, that puts out what the members put out, and is safe
pub record IsOneRun (cluster n : ℕ) (xs : List By) : Type 0 where
  pub run : List Played
  pub fit : IsFitRun cluster n run
  pub bytes : All (λ (p : Played). IsOfBytes p.move) run
  pub said : run_outputs run ≡ all_put_out xs
  pub safe : Safe cluster n run

-- from a group of 1 to 6 on whose members were just made, each on a file of a kind of its own
abbrev pub NodesAreOneRun : Type 0
NodesAreOneRun = (kinds : ℕ → Kind) (cluster n : ℕ) (xs : List By) → AreKinds kinds n → cluster < 2 ^ 64 → 1 ≤ n → n ≤ 6 → AtWork cluster (fresh_group kinds cluster n) xs → IsOneRun cluster n xs

-- ---- on their files

-- A member that is stopped is found as it may be, on whatever tells its file, where nothing on the files is forged.
pub record IsFoundAgain (g : Group) (at : ℕ) (d : Disk) : Type 0 where
  pub member : Member
  pub value : SuperValue
  pub there : slice_get g.members at ≡ Some member
  pub stopped : member.replica ≡ None
  pub may : MayBeFound g member value d

abbrev pub MembersAreFound : Type 0
MembersAreFound =
    (cluster : ℕ) (w : World Lying) (g : Group) (u : IsUnforgedBeside cluster w g) → length u.past.run < room cluster
    → (at : ℕ) (m : Host Lying) (d : Disk) → slice_get w.members at ≡ Some m → m.replica ≡ None → d.face ≡ m.disk.face → IsFoundAgain g at d

-- What befalls members of a group that was just made, each on a file of a kind of its own, is one run of the group on disks that lie within
-- their premise; so it keeps one log, where names don't collide, of what was read, held and written.
abbrev pub NodesKeepOneLog : Type 0
NodesKeepOneLog =
    (kinds : ℕ → Kind) (cluster n : ℕ) (xs : List ActBy) (h : Happened Lying) → AreKinds kinds n → cluster < 2 ^ 64 → 1 ≤ n → n ≤ 6 → length xs < 2 ^ 46 → files.AtWork cluster (first_world kinds cluster n) xs h
    → NoCollision (IsHashedOf cluster (first_world kinds cluster n) (all_lines xs)) → KeepsLog kinds cluster n h

-- What befalls such members leaves each that is stopped so that it is found as it may be, on whatever tells its file.
pub record AreFound (kinds : ℕ → Kind) (cluster n : ℕ) (h : Happened Lying) : Type 0 where
  pub matched : IsMatched (fresh_group kinds cluster n) h
  pub each : (at : ℕ) (m : Host Lying) (d : Disk) → slice_get h.world.members at ≡ Some m → m.replica ≡ None → d.face ≡ m.disk.face → IsFoundAgain (left (fresh_group kinds cluster n) matched.run) at d

abbrev pub NodesAreFound : Type 0
NodesAreFound =
    (kinds : ℕ → Kind) (cluster n : ℕ) (xs : List ActBy) (h : Happened Lying) → AreKinds kinds n → cluster < 2 ^ 64 → 1 ≤ n → n ≤ 6 → length xs < 2 ^ 46 → files.AtWork cluster (first_world kinds cluster n) xs h
    → NoCollision (IsHashedOf cluster (first_world kinds cluster n) (all_lines xs)) → AreFound kinds cluster n h

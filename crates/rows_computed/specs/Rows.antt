-- Schedules of which the whole of what headline asks is proved: that names don't collide.
use Rattle.std.specs.Prelude.{ℕ, ◌<◌, ◌≡◌, List, [], ◌∷◌, ◌++◌, codes, None}
use Rattle.vr_header.specs.NoCollision.{NoCollision}
use Rattle.vr_world.specs.Lying.{hazards}
use Rattle.vr_world.specs.World.{fresh_world, happen}
use Rattle.law_6_one_log.specs.Laws.{KeepsOneLog}
use Rattle.law_6_one_log.specs.Schedules.{IsHashed}
use Rattle.vr_group.specs.Lines.{happenings}
use Rattle.cmd_replay.specs.Schedule.{Schedule, schedule_of}

-- ---- schedules, as they are written

-- a text of lines, each with its end
abbrev pub text : List (List ℕ) → List ℕ
text [] = []
text (line ∷ lines) = line ++ 10 ∷ text lines

-- a register and a put, in a group of three that this line makes
abbrev pub path_of : List ℕ → List ℕ
path_of group = text (
    group
    ∷ codes "request 0 7 0 register"
    ∷ codes "deliver 0"
    ∷ codes "deliver 2"
    ∷ codes "request 0 7 1 put a b"
    ∷ codes "deliver 3"
    ∷ codes "deliver 5"
    ∷ [])

abbrev pub plain_path : List ℕ
plain_path = path_of (codes "cluster 3")

-- the same on careful files
abbrev pub careful_path : List ℕ
careful_path = path_of (codes "cluster 3 careful")

-- An acknowledged entry whose two places are damaged isn't denied: the choice of a log waits, until a replica is heard that has the entry.
abbrev pub acknowledged : List ℕ
acknowledged = text (
    codes "cluster 3"
    ∷ codes "request 0 7 0 register"
    ∷ codes "deliver 0"
    ∷ codes "stop 1"
    ∷ codes "damage 1 81"
    ∷ codes "damage 1 148"
    ∷ codes "start 1"
    ∷ codes "stop 0"
    ∷ codes "tick 1"
    ∷ codes "tick 1"
    ∷ codes "tick 1"
    ∷ codes "tick 1"
    ∷ codes "tick 1"
    ∷ codes "deliver 4"
    ∷ codes "deliver 7"
    ∷ codes "start 0"
    ∷ codes "deliver 3"
    ∷ codes "deliver 10"
    ∷ codes "tick 1"
    ∷ [])

-- The write of an entry is cut, and its prepare torn: so it was never stored, and the log of the next view hasn't got it.
abbrev pub torn_prepare : List ℕ
torn_prepare = text (
    codes "cluster 3"
    ∷ codes "request 0 7 0 register"
    ∷ codes "fuse 1 3 26"
    ∷ codes "deliver 0"
    ∷ codes "start 1"
    ∷ codes "tick 1"
    ∷ codes "tick 1"
    ∷ codes "tick 1"
    ∷ codes "tick 1"
    ∷ codes "tick 1"
    ∷ codes "deliver 3"
    ∷ codes "deliver 6"
    ∷ [])

-- An operation that only the stopped primary has is dropped, since both others deny it; and its number is that of another.
abbrev pub dropped : List ℕ
dropped = text (
    codes "cluster 3"
    ∷ codes "request 0 7 0 register"
    ∷ codes "deliver 0"
    ∷ codes "deliver 1"
    ∷ codes "deliver 2"
    ∷ codes "request 0 7 1 put a b"
    ∷ codes "stop 0"
    ∷ codes "tick 1"
    ∷ codes "tick 1"
    ∷ codes "tick 1"
    ∷ codes "tick 1"
    ∷ codes "tick 1"
    ∷ codes "deliver 7"
    ∷ codes "deliver 10"
    ∷ codes "deliver 12"
    ∷ codes "deliver 15"
    ∷ codes "request 1 8 0 register"
    ∷ codes "deliver 17"
    ∷ codes "deliver 18"
    ∷ [])

-- a register and a put, in a group of one on a file of version 2
abbrev pub one_alone : List ℕ
one_alone = text (
    codes "cluster 1 v2"
    ∷ codes "request 0 7 0 register"
    ∷ codes "request 0 7 1 put a b"
    ∷ [])

-- The file of a stopped member, which has an entry, becomes one of version 2.
abbrev pub moved : List ℕ
moved = text (
    codes "cluster 3"
    ∷ codes "request 0 7 0 register"
    ∷ codes "deliver 0"
    ∷ codes "stop 1"
    ∷ codes "migrate 1"
    ∷ [])

-- ---- what is proved of them

-- Of a schedule: its first line makes a group, and each of its lines is played; of what is hashed in them no two texts have one name; so the
-- group keeps one log over them, and nothing is asked of the schedule.
pub record MeetsAll (s : Schedule) : Type 0 where
  pub group : 0 < s.n
  pub played : s.refused ≡ None
  pub names : NoCollision (IsHashed (fresh_world hazards s.kind s.n) (happenings s.lines))
  pub log : KeepsOneLog s.kind s.n (happen hazards (fresh_world hazards s.kind s.n) (happenings s.lines))

abbrev pub PlainPathMeetsAll : Type 0
PlainPathMeetsAll = MeetsAll (schedule_of plain_path)

abbrev pub CarefulPathMeetsAll : Type 0
CarefulPathMeetsAll = MeetsAll (schedule_of careful_path)

abbrev pub AcknowledgedMeetsAll : Type 0
AcknowledgedMeetsAll = MeetsAll (schedule_of acknowledged)

abbrev pub TornPrepareMeetsAll : Type 0
TornPrepareMeetsAll = MeetsAll (schedule_of torn_prepare)

abbrev pub DroppedMeetsAll : Type 0
DroppedMeetsAll = MeetsAll (schedule_of dropped)

abbrev pub OneAloneMeetsAll : Type 0
OneAloneMeetsAll = MeetsAll (schedule_of one_alone)

abbrev pub MovedMeetsAll : Type 0
MovedMeetsAll = MeetsAll (schedule_of moved)

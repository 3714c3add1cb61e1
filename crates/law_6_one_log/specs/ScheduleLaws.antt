-- Every schedule is a run of the group.
use Rattle.std.specs.List.{AllByRecursion}
use Rattle.vr_base.specs.Groups.{least_members}
use Rattle.vr_base.specs.Kinds.{strict}
use Rattle.vr_base.specs.declared.kind.Kind.{Kind}
use Rattle.vr_rules.specs.Opening.{AreKinds, IsKind}
use Rattle.std.specs.Prelude.{ℕ, ◌^◌, ◌<◌, ◌≤◌, ◌≡◌, List, [], ◌∷◌, ◌++◌, length}
use Rattle.vr_header.specs.Names.{root_header}
use Rattle.vr_header.specs.declared.operation.Operation.TheVariants.{Register}
use Rattle.vr_msg.specs.declared.request.RequestFields.{RequestFields}
use Rattle.vr_header.specs.NoCollision.{NoCollision}
use Rattle.vr_world.specs.Lying.{Lying, hazards}
use Rattle.vr_world.specs.World.{World, Happening, Begins, Asks, Ticks, Stops, Fuses, fresh_world, happen, happens, no_world}
use Rattle.vr_world.specs.Group.{Group, Played, fresh_group}
use Rattle.vr_world.specs.Safe as safe
use Rattle.vr_world.specs.GroupFit.{IsFitGroup}
use Rattle.law_4_disks.specs.Stocks.{IsStockedGroup}
use Rattle.law_4_disks.specs.Worlds.{AreBeside, IsLine, IsMatched, IsMatchedBy, begun_in, first_world, left, read_in}
use Rattle.law_6_one_log.specs.Bridged.{IsBridged, IsLed}
use Rattle.law_6_one_log.specs.Schedules.{IsHashedOf, IsSealedWorld, MayAll, MayFollow, MayHappen, room}

-- a world beside a group, to which a run led, at most one entry made in each move: nothing that stands on its disks or was sent is forged
pub record IsUnforgedBeside (cluster : ℕ) (w : World Lying) (g : Group) : Type 0 where
  pub beside : AreBeside w g
  pub fit : IsFitGroup cluster g
  pub stock : IsStockedGroup g
  pub bridged : IsBridged cluster g
  pub sealed : IsSealedWorld cluster w g.made
  pub past : IsLed cluster g
  pub few : length bridged.machine.made ≤ length past.run

-- a line is a move of the group, or none, and leaves such a world, to which the run with that move led
abbrev pub LinesStayUnforged : Type 0
LinesStayUnforged =
    (cluster : ℕ) (w : World Lying) (g : Group) (x : Happening) (u : IsUnforgedBeside cluster w g) → MayHappen cluster u.past.run w x
    → (m : IsMatchedBy cluster (begun_in w x) (read_in w x) g (happens hazards w x)) × (v : IsUnforgedBeside cluster (happens hazards w x).world (left g m.matched.run)) × (v.past.run ≡ u.past.run ++ m.matched.run)

-- what a run hashes was hashed in these lines
abbrev pub IsHashedBy : ℕ → World Lying → List Happening → List Played → Type 0
IsHashedBy cluster w xs run = (bytes : List ℕ) → safe.IsHashed run (root_header cluster) bytes → IsHashedOf cluster w xs bytes

-- a run on from a group, to which this one led, leaves such a world
pub record LeavesUnforged (cluster : ℕ) (w : World Lying) (g : Group) (past run : List Played) : Type 0 where
  pub unforged : IsUnforgedBeside cluster w (left g run)
  pub led : unforged.past.run ≡ past ++ run

-- lines are as many moves, or fewer
abbrev pub HappeningsAreRuns : Type 0
HappeningsAreRuns =
    (cluster : ℕ) (xs : List Happening) (w : World Lying) (g : Group) (u : IsUnforgedBeside cluster w g) → MayFollow cluster u.past.run w xs
    → (m : IsMatched g (happen hazards w xs)) × IsHashedBy cluster w xs m.run × LeavesUnforged cluster (happen hazards w xs).world g u.past.run m.run × (length m.run ≤ length xs)

-- so is a world that begins, of 1 to 6 replicas of a group of any number, to which no move led
abbrev pub WorldsBeginUnforged : Type 0
WorldsBeginUnforged =
    (kinds : ℕ → Kind) (cluster n : ℕ) → AreKinds kinds n → cluster < 2 ^ 64 → 1 ≤ n → n ≤ 6 → (u : IsUnforgedBeside cluster (first_world kinds cluster n) (fresh_group kinds cluster n)) × (u.past.run ≡ [])

-- and what happens to it from there is a run of the group, in which names don't collide either, while no op comes near those that sessions
-- could spell
abbrev pub WorldsAreRuns : Type 0
WorldsAreRuns =
    (kinds : ℕ → Kind) (cluster n : ℕ) (xs : List Happening) → AreKinds kinds n → cluster < 2 ^ 64 → 1 ≤ n → n ≤ 6 → length xs < room cluster → AllByRecursion IsLine xs → NoCollision (IsHashedOf cluster (first_world kinds cluster n) xs)
    → (m : IsMatched (fresh_group kinds cluster n) (happen hazards (first_world kinds cluster n) xs)) × NoCollision (λ bytes. safe.IsHashed m.run (root_header cluster) bytes)
    × LeavesUnforged cluster (happen hazards (first_world kinds cluster n) xs).world (fresh_group kinds cluster n) [] m.run × (length m.run ≤ length xs)

-- So each schedule is one; but for one of 2^60 lines or more.
abbrev pub SchedulesAreRuns : Type 0
SchedulesAreRuns =
    (kind : Kind) (n : ℕ) (xs : List Happening) → IsKind kind → least_members kind.version ≤ n → n ≤ 6 → length xs < 2 ^ 60 → MayAll (fresh_world hazards kind n) xs
    → (m : IsMatched (fresh_group (λ i. kind) 0 n) (happen hazards no_world (Begins kind n ∷ xs))) × NoCollision (λ bytes. safe.IsHashed m.run (root_header 0) bytes)

-- of some schedule all holds that is asked, on files of each kind: time goes by at a replica, another one loses its memory, a fuse is laid
abbrev pub SomeScheduleMay : Type 0
SomeScheduleMay = (kind : Kind) → IsKind kind → MayAll (fresh_world hazards kind 2) (Ticks 0 ∷ Stops 1 ∷ Fuses 0 5 7 ∷ [])

-- client 7 begins a session
abbrev pub registers : RequestFields
registers = record { version = 1; cluster = 0; client = 7; request = 0; operation = Register }

-- so of one in which a primary makes an entry, and writes it
abbrev pub SomeEntryMay : Type 0
SomeEntryMay = MayAll (fresh_world hazards strict 2) (Asks 0 registers ∷ [])

-- A world of disks that lie, beside a group.
use Rattle.vr_msg.specs.declared.request.RequestFields.{RequestFields}
use Rattle.vr_super.specs.Calls.{mend_calls}
use Rattle.std.specs.Prelude.{ℕ, ◌%◌, ◌^◌, ◌<◌, ◌≡◌, ◌⊎◌, ⊤, List, [], ◌∷◌, ◌++◌, length, map, slice_get, All, Option, Some, None, nat_lt, if◌then◌else◌}
use Rattle.std.specs.List.{range_with_len}
use Rattle.std.specs.Option.{option_and_then, option_map}
use Rattle.vr_base.specs.declared.kind.Kind.{Kind}
use Rattle.vr_disk.specs.DiskState.{Fuse, IsFace}
use Rattle.vr_header.specs.declared.header.Header.{Header}
use Rattle.vr_header.specs.NoCollision.{NoCollision}
use Rattle.vr_msg.specs.declared.event.Event.{Event}
use Rattle.vr_msg.specs.declared.event.Event.TheVariants as event
use Rattle.vr_msg.specs.declared.output.Output.{Output}
use Rattle.vr_msg.specs.declared.output.Output.TheVariants as output
use Rattle.vr_msg.specs.declared.output.Sent.{Sent}
use Rattle.vr_super.specs.Copies.{SuperValue}
use Rattle.vr_super.specs.Opens.{opens}
use Rattle.vr_lie.specs.Faults.{IsFault}
use Rattle.vr_rules.specs.Replica.{Replica, version}
use Rattle.vr_rules.specs.Steps.{Effect, Mend, Step}
use Rattle.vr_rules.specs.Rules.{react}
use Rattle.vr_rules.specs.Opening.{fresh, opened}
use Rattle.vr_world.specs.Lying.{Lying, hazards, lying}
use Rattle.vr_world.specs.World.{World, Host, Happening, Happened, Begins, Asks, AsksInVersion, Arrives, Ticks, Stops, Starts, Migrates, Fuses, Lies, in_version, movable}
use Rattle.vr_rules.specs.Fit.{IsAsked}
use Rattle.vr_world.specs.Group.{Crashes, Cuts, Group, Member, Migrates as MoveMigrates, MigratesCut, Move, Played, Recovers, RecoversCut, Run, Steps, made_in, migration}
use Rattle.vr_world.specs.Files.{IsOfFile}
use Rattle.vr_world.specs.GroupFit.{IsFitGroup, IsFitMove}
use Rattle.vr_world.specs.Safe.{disks_of, run_outputs}
use Rattle.law_4_disks.specs.Beside.{AreMade, IsOff, IsOn, begun_before}
use Rattle.law_4_disks.specs.Naming.{IsHashedAfter, IsHashedIn, IsHashedMigrating}
use Rattle.law_4_disks.specs.Stocks.{IsStockedGroup}

-- ---- a group that begins, of any number

-- a member on a file of its own kind: made anew, on a disk that was just formatted
abbrev pub first_host : (ℕ → Kind) → ℕ → ℕ → ℕ → Host Lying
first_host kinds cluster n i =
    record { replica = Some (fresh (kinds i) cluster n i); disk = hazards.formatted (kinds i) cluster n i; fuse = None }

unfoldable pub first_world : (ℕ → Kind) → ℕ → ℕ → World Lying
first_world kinds cluster n = record { n = n; members = map (first_host kinds cluster n) (range_with_len 0 n); sent = [] }

-- ---- the relation

-- A member: its replica is the same. Running, the replica knows the value that the superblock has; stopped, the superblock opens.
pub record Stands (m : Host Lying) (q : Member) : Type 0 where
  pub replica : q.replica ≡ m.replica
  pub running : (r : Replica) → m.replica ≡ Some r → IsOn m.disk q × (r.saved ≡ q.last)
  pub stopped : m.replica ≡ None → (v : SuperValue) × IsOff m.disk q v

pub record AreBeside (w : World Lying) (g : Group) : Type 0 where
  pub n : g.n ≡ w.n
  pub sent : g.sent ≡ w.sent
  pub count : length g.members ≡ length w.members
  pub each : (i : ℕ) (m : Host Lying) → slice_get w.members i ≡ Some m → (q : Member) × (slice_get g.members i ≡ Some q) × Stands m q

-- ---- outputs: the world puts out those of the run, and beside them what comes of stops and faults

abbrev pub IsAside : Output → Type 0
IsAside (output.Halted replica) = ⊤
IsAside (output.Migrated replica) = ⊤
IsAside output.Done = ⊤
IsAside output.KeptOut = ⊤
IsAside _ = ⊥

pub data Said : List Output → List Output → Type 0 where
  none : Said [] []
  both : (os ws gs : List Output) → Said ws gs → Said (os ++ ws) (os ++ gs)
  aside : (o : Output) (ws gs : List Output) → IsAside o → Said ws gs → Said (o ∷ ws) gs

-- what a run leaves of a group
abbrev pub left : Group → List Played → Group
left g [] = g
left g (p ∷ ps) = left p.moved.group ps

-- the disk on which a member handles an event, or is recovered, consists of bytes
abbrev pub IsOfBytes : Move → Type 0
IsOfBytes (Steps at arrival e disk) = IsFace disk.face
IsOfBytes (Cuts at arrival e disk effects) = IsFace disk.face
IsOfBytes (Crashes at) = ⊤
IsOfBytes (Recovers at value disk) = IsFace disk.face
IsOfBytes (RecoversCut at value disk effects) = IsFace disk.face
IsOfBytes (MoveMigrates at value) = ⊤
IsOfBytes (MigratesCut at value effects) = ⊤

-- what happened is a run of the group, whose moves read what the program has, from disks of bytes, with the members' files
pub record IsMatched (g : Group) (h : Happened Lying) : Type 0 where
  pub run : List Played
  pub is : Run g run
  pub reads : All (λ (p : Played). IsFitMove p.move) run
  pub bytes : All (λ (p : Played). IsOfBytes p.move) run
  pub files : All (λ (p : Played). IsOfFile p.before p.move) run
  pub beside : AreBeside h.world (left g run)
  pub said : Said h.outputs (run_outputs run)

-- ---- what a line sets about

-- a host, and the script of its step or of its opening
pub record Work : Type 0 where
  pub host : Host Lying
  pub script : List Effect

abbrev pub stepping : Event → Host Lying → Replica → Work
stepping e m r = record { host = m; script = (react e lying r m.disk).script }

abbrev pub opening_as : Host Lying → Step → Work
opening_as m s = record { host = m; script = s.script }

-- a stopped host handles no event, and a running one isn't started
abbrev pub handling : Event → Host Lying → Option Work
handling e m = option_map (stepping e m) m.replica

-- a request is made in the version of the replica
abbrev pub asking : RequestFields → Host Lying → Option Work
asking q m = option_map (λ r. stepping (event.Request (in_version (version r) q)) m r) m.replica

abbrev pub starting_by : Host Lying → Option Replica → Option Work
starting_by m (Some r) = None
starting_by m None = option_map (opening_as m) (opened lying m.disk)

abbrev pub starting : Host Lying → Option Work
starting m = starting_by m m.replica

abbrev pub work_of : World Lying → Happening → Option Work
work_of w (Begins kind n) = None
work_of w (Asks i q) = option_and_then (handling (event.Request q)) (slice_get w.members i)
work_of w (AsksInVersion i q) = option_and_then (asking q) (slice_get w.members i)
work_of w (Arrives x) = option_and_then (λ (s : Sent). option_and_then (handling (event.Deliver s.message)) (slice_get w.members s.to)) (slice_get w.sent (x % length w.sent))
work_of w (Ticks i) = option_and_then (handling event.Tick) (slice_get w.members i)
work_of w (Stops i) = None
work_of w (Starts i) = option_and_then starting (slice_get w.members i)
work_of w (Migrates i) = None
work_of w (Fuses i calls code) = None
work_of w (Lies i fault) = None

-- the effects of a script that are begun, where a fuse may cut it
abbrev pub begun_by : Option Fuse → List Effect → Lying → List Effect
begun_by None es d = es
begun_by (Some u) es d = begun_before d.version es d.face u.calls

abbrev pub begun_of : Option Work → List Effect
begun_of None = []
begun_of (Some k) = begun_by k.host.fuse k.script k.host.disk

-- a host whose file is to be migrated, with its value
pub record Migration : Type 0 where
  pub host : Host Lying
  pub value : SuperValue

abbrev pub migrating : World Lying → ℕ → Option Migration
migrating w i = option_and_then (λ (m : Host Lying). option_map (λ v. record { host = m; value = v }) (movable hazards m)) (slice_get w.members i)

-- what a stop before the mending has ended leaves of it; what comes later counts as the saving of the new value
abbrev pub moved_by : Option Fuse → Migration → List Effect
moved_by None k = migration k.value
moved_by (Some u) k = if nat_lt u.calls (length (mend_calls k.value k.host.disk.face)) then Mend k.value ∷ [] else migration k.value

abbrev pub moved_of : Option Migration → List Effect
moved_of None = []
moved_of (Some k) = moved_by k.host.fuse k

-- those of a line
abbrev pub begun_in : World Lying → Happening → List Effect
begun_in w (Migrates i) = moved_of (migrating w i)
begun_in w x = begun_of (work_of w x)

-- and the disk that is read, as it is before them
abbrev pub read_of : Option Work → List Lying
read_of None = []
read_of (Some k) = k.host.disk ∷ []

abbrev pub read_in : World Lying → Happening → List Lying
read_in w x = read_of (work_of w x)

-- ---- what is asked of a line

-- after the line that begins the group no other group begins; requests can be asked, and faults are of sectors of the disk
abbrev pub IsLine : Happening → Type 0
IsLine (Begins kind n) = ⊥
IsLine (Asks i q) = IsAsked q × (q.cluster < 2 ^ 64)
IsLine (AsksInVersion i q) = IsAsked q × (q.cluster < 2 ^ 64)
IsLine (Lies i fault) = IsFault fault
IsLine _ = ⊤

-- names don't collide: what was read, held and written where a fuse cut a script, and where a fault was done
abbrev pub IsHashedCut : Work → List ℕ → Type 0
IsHashedCut k bytes = (u : Fuse) × (k.host.fuse ≡ Some u) × IsHashedIn k.script k.host.disk u.calls u.code bytes

-- of a migration: where its mending, or its saving on the disk that the moves have left, was cut
abbrev pub IsHashedMoving : Migration → List ℕ → Type 0
IsHashedMoving k bytes = (u : Fuse) × (k.host.fuse ≡ Some u) × IsHashedMigrating k.value k.host.disk u.calls u.code bytes

abbrev pub IsHashedAt : World Lying → Happening → List ℕ → Type 0
IsHashedAt w (Lies i fault) bytes = (m : Host Lying) × (slice_get w.members i ≡ Some m) × IsHashedAfter m.disk fault bytes
IsHashedAt w (Migrates i) bytes = (k : Migration) × (migrating w i ≡ Some k) × IsHashedMoving k bytes
IsHashedAt w x bytes = (k : Work) × (work_of w x ≡ Some k) × IsHashedCut k bytes

-- nothing is forged: what reads as the header of an entry above the head of the value that opens, where an opening looks for it,
-- is of an entry that some replica began to write
abbrev pub IsUnforged : World Lying → List Header → Happening → Type 0
IsUnforged w made (Starts i) =
    (m : Host Lying) (v : SuperValue) → slice_get w.members i ≡ Some m → m.replica ≡ None → opens m.disk.face ≡ Some v → AreMade made v (lying.after m.disk (Mend v))
IsUnforged w made _ = ⊤

-- all of this, of one line
pub record MayHappen (w : World Lying) (made : List Header) (x : Happening) : Type 0 where
  pub line : IsLine x
  pub names : NoCollision (IsHashedAt w x)
  pub unforged : IsUnforged w made x

-- ---- what a line leaves

-- No move, where nothing is begun; or one, in which these effects are begun. Its readings are these, or it reads nothing.
pub data IsOneMove (es : List Effect) (ds : List Lying) : List Played → Type 0 where
  unmoved : es ≡ [] → IsOneMove es ds []
  moved_once : (p : Played) → p.moved.script ≡ es → (disks_of p.move ≡ []) ⊎ (disks_of p.move ≡ ds) → IsOneMove es ds (p ∷ [])

-- a run of at most one move, whose group is fit and stocked, in which these effects were begun, with these readings
pub record IsMatchedBy (cluster : ℕ) (es : List Effect) (ds : List Lying) (g : Group) (h : Happened Lying) : Type 0 where
  pub matched : IsMatched g h
  pub one : IsOneMove es ds matched.run
  pub fit : IsFitGroup cluster (left g matched.run)
  pub stock : IsStockedGroup (left g matched.run)
  pub made : (left g matched.run).made ≡ g.made ++ made_in es

-- A group of replicas with their disks, and what the lines of a schedule do to it.
use Rattle.vr_super.specs.Copies.{SuperValue}
use Rattle.std.specs.Prelude.{ℕ, ◌-◌, ◌%◌, nat_le, List, [], ◌∷◌, ◌++◌, length, map, slice_get, slice_set, Option, Some, None, if◌then◌else◌, ◌==◌, max}
use Rattle.std.specs.List.{range_with_len}
use Rattle.std.specs.Option.{option_map_or, option_and_then}
use Rattle.vr_base.specs.declared.kind.Kind.{Kind}
use Rattle.vr_disk.specs.DiskState.{Fuse}
use Rattle.vr_msg.specs.declared.event.Event.{Event}
use Rattle.vr_msg.specs.declared.event.Event.TheVariants as event
use Rattle.vr_msg.specs.declared.output.Output.{Output}
use Rattle.vr_msg.specs.declared.output.Output.TheVariants as output
use Rattle.vr_msg.specs.declared.output.Sent.{Sent}
use Rattle.vr_msg.specs.declared.request.RequestFields.{RequestFields}
use Rattle.vr_lie.specs.declared.fault.Fault.{Fault}
use Rattle.vr_rules.specs.Outputs.{messages}
use Rattle.vr_rules.specs.Replica.{Replica, version}
use Rattle.vr_rules.specs.Steps.{Effect, Setting, Step, after_all, outputs}
use Rattle.vr_rules.specs.Rules.{react}
use Rattle.vr_rules.specs.Opening.{fresh, opened}

-- What a disk of the type F is to a world: beside what it is to a replica, how it begins, how it stops and how it lies.
pub record Hazards (F : Type 0) : Type 0 where
  pub setting : Setting F
  -- of a member of a group: the kind of its file, its cluster, how many replicas it has, and its index
  pub formatted : Kind → ℕ → ℕ → ℕ → F
  -- how many writes and syncs a script makes
  pub count : F → List Effect → ℕ
  -- a stop at the call of a script that comes after so many others, by a code
  pub cut : ℕ → ℕ → F → List Effect → F
  -- the migration of a file with this value to version 2: how many writes and syncs it makes, what it leaves, and what a stop leaves at the
  -- call that comes after so many others, by a code
  pub migration : SuperValue → F → ℕ
  pub migrated : SuperValue → F → F
  pub migration_cut : ℕ → ℕ → SuperValue → F → F
  -- a fault; none where it is kept out
  pub faulted : F → Fault → Option F

-- what hosts a member of the group: its replica, none while it is stopped, its disk and its fuse
pub record Host (F : Type 0) : Type 0 where
  pub replica : Option Replica
  pub disk : F
  pub fuse : Option Fuse

-- and each message sent so far; before there is a group n is 0
pub record World (F : Type 0) : Type 0 where
  pub n : ℕ
  pub members : List (Host F)
  pub sent : List Sent

-- ---- lines

pub data Happening : Type 0 where
  -- a group of so many replicas begins, on files of this kind
  Begins : (kind : Kind) (n : ℕ) → Happening
  -- a client asks a replica
  Asks : (replica : ℕ) (request : RequestFields) → Happening
  -- a client asks a replica in the version of that one's file, where the request isn't of a later one
  AsksInVersion : (replica : ℕ) (request : RequestFields) → Happening
  -- the message of this number, counted from 0 and from the front again past the last, reaches its destination
  Arrives : (number : ℕ) → Happening
  -- time goes by at a replica
  Ticks : (replica : ℕ) → Happening
  -- a replica loses its memory
  Stops : (replica : ℕ) → Happening
  -- it is recovered
  Starts : (replica : ℕ) → Happening
  -- its file becomes one of version 2; nothing happens where it runs, or where the file is of that version already
  Migrates : (replica : ℕ) → Happening
  -- a fuse lets so many calls of its disk through, and cuts the next one
  Fuses : (replica calls code : ℕ) → Happening
  -- its disk begins to lie
  Lies : (replica : ℕ) (fault : Fault) → Happening

-- ---- one member

-- what it leaves of a member, and puts out
pub record Acted (F : Type 0) : Type 0 where
  pub member : Host F
  pub outputs : List Output

abbrev pub stays : {F : Type 0} → Host F → Acted F
stays m = record { member = m; outputs = [] }

abbrev pub went : {F : Type 0} → Hazards F → Host F → Step → Option Fuse → Acted F
went hz m s fuse = record {
  member = record { replica = Some s.replica; disk = after_all hz.setting m.disk s.script; fuse = fuse };
  outputs = outputs s.script;
}

-- a step that is cut puts out nothing but that it was
abbrev pub halted : {F : Type 0} → Hazards F → ℕ → Host F → Step → Fuse → Acted F
halted hz index m s u =
    record { member = record { replica = None; disk = hz.cut u.calls u.code m.disk s.script; fuse = None }; outputs = output.Halted index ∷ [] }

abbrev pub went_or_halted : {F : Type 0} → Hazards F → ℕ → Host F → Step → Option Fuse → Acted F
went_or_halted hz index m s None = went hz m s None
went_or_halted hz index m s (Some u) =
    let made = hz.count m.disk s.script in
    if nat_le made u.calls then went hz m s (Some (record { calls = u.calls - made; code = u.code })) else halted hz index m s u

-- a step, which the fuse may cut
abbrev pub acts : {F : Type 0} → Hazards F → ℕ → Host F → Step → Acted F
acts hz index m s = went_or_halted hz index m s m.fuse

-- a stopped replica handles no event
abbrev pub handled_by : {F : Type 0} → Hazards F → ℕ → Event → Host F → Option Replica → Acted F
handled_by hz index event m None = stays m
handled_by hz index event m (Some r) = acts hz index m (react event hz.setting r m.disk)

abbrev pub handles : {F : Type 0} → Hazards F → Event → ℕ → Host F → Acted F
handles hz event index m = handled_by hz index event m m.replica

abbrev pub stops : {F : Type 0} → ℕ → Host F → Acted F
stops index m = stays (record { replica = None; disk = m.disk; fuse = m.fuse })

-- a running replica isn't started again
abbrev pub started_by : {F : Type 0} → Hazards F → ℕ → Host F → Option Replica → Acted F
started_by hz index m (Some r) = stays m
started_by hz index m None = option_map_or (acts hz index m) (opened hz.setting m.disk) (stays m)

abbrev pub starts : {F : Type 0} → Hazards F → ℕ → Host F → Acted F
starts hz index m = started_by hz index m m.replica

-- a request that is of an earlier version than the file is made in that of the file
abbrev pub in_version : ℕ → RequestFields → RequestFields
in_version v q = record q { version = max q.version v }

abbrev pub asked_by : {F : Type 0} → Hazards F → RequestFields → ℕ → Host F → Option Replica → Acted F
asked_by hz q index m None = stays m
asked_by hz q index m (Some r) = acts hz index m (react (event.Request (in_version (version r) q)) hz.setting r m.disk)

abbrev pub asks : {F : Type 0} → Hazards F → RequestFields → ℕ → Host F → Acted F
asks hz q index m = asked_by hz q index m m.replica

abbrev pub if_first : SuperValue → Option SuperValue
if_first v = if v.fields.version == 1 then Some v else None

abbrev pub movable_by : {F : Type 0} → Hazards F → Host F → Option Replica → Option SuperValue
movable_by hz m (Some r) = None
movable_by hz m None = option_and_then if_first (hz.setting.opens m.disk)

-- the value of a file that can be migrated: of version 1, whose replica is stopped
abbrev pub movable : {F : Type 0} → Hazards F → Host F → Option SuperValue
movable hz m = movable_by hz m m.replica

abbrev pub migrated_with : {F : Type 0} → Hazards F → ℕ → Host F → SuperValue → Option Fuse → Acted F
migrated_with hz index m v fuse = record { member = record { replica = None; disk = hz.migrated v m.disk; fuse = fuse }; outputs = output.Migrated index ∷ [] }

abbrev pub migration_halted : {F : Type 0} → Hazards F → ℕ → Host F → SuperValue → Fuse → Acted F
migration_halted hz index m v u =
    record { member = record { replica = None; disk = hz.migration_cut u.calls u.code v m.disk; fuse = None }; outputs = output.Halted index ∷ [] }

abbrev pub migrated_or_halted : {F : Type 0} → Hazards F → ℕ → Host F → SuperValue → Option Fuse → Acted F
migrated_or_halted hz index m v None = migrated_with hz index m v None
migrated_or_halted hz index m v (Some u) =
    let made = hz.migration v m.disk in
    if nat_le made u.calls then migrated_with hz index m v (Some (record { calls = u.calls - made; code = u.code })) else migration_halted hz index m v u

abbrev pub migrates : {F : Type 0} → Hazards F → ℕ → Host F → Acted F
migrates hz index m = option_map_or (λ v. migrated_or_halted hz index m v m.fuse) (movable hz m) (stays m)

abbrev pub fused : {F : Type 0} → ℕ → ℕ → ℕ → Host F → Acted F
fused calls code index m = stays (record { replica = m.replica; disk = m.disk; fuse = Some (record { calls = calls; code = code }) })

abbrev pub lied : {F : Type 0} → Host F → Option F → Acted F
lied m None = record { member = m; outputs = output.KeptOut ∷ [] }
lied m (Some disk) = record { member = record { replica = m.replica; disk = disk; fuse = m.fuse }; outputs = output.Done ∷ [] }

abbrev pub lies : {F : Type 0} → Hazards F → Fault → ℕ → Host F → Acted F
lies hz fault index m = lied m (hz.faulted m.disk fault)

-- ---- the world

-- what happens leaves a world, and puts out something
pub record Happened (F : Type 0) : Type 0 where
  pub world : World F
  pub outputs : List Output

abbrev pub nothing : {F : Type 0} → World F → Happened F
nothing w = record { world = w; outputs = [] }

abbrev pub with_member : {F : Type 0} → World F → ℕ → Acted F → Happened F
with_member w index a = record {
  world = record { n = w.n; members = slice_set w.members index a.member; sent = w.sent ++ messages a.outputs };
  outputs = a.outputs;
}

-- one of the members acts; nothing where there is no such member
unfoldable pub at_member : {F : Type 0} → World F → ℕ → (ℕ → Host F → Acted F) → Happened F
at_member w index act = option_map_or (λ m. with_member w index (act index m)) (slice_get w.members index) (nothing w)

abbrev pub delivered : {F : Type 0} → Hazards F → World F → Option Sent → Happened F
delivered hz w None = nothing w
delivered hz w (Some s) = at_member w s.to (handles hz (event.Deliver s.message))

-- a group that is made has number 0, and its disks are formatted
abbrev pub fresh_host : {F : Type 0} → Hazards F → Kind → ℕ → ℕ → Host F
fresh_host hz kind n index = record { replica = Some (fresh kind 0 n index); disk = hz.formatted kind 0 n index; fuse = None }

unfoldable pub fresh_world : {F : Type 0} → Hazards F → Kind → ℕ → World F
fresh_world hz kind n = record { n = n; members = map (fresh_host hz kind n) (range_with_len 0 n); sent = [] }

abbrev pub no_world : {F : Type 0} → World F
no_world = record { n = 0; members = []; sent = [] }

abbrev pub happens : {F : Type 0} → Hazards F → World F → Happening → Happened F
happens hz w (Begins kind n) = nothing (fresh_world hz kind n)
happens hz w (Asks r q) = at_member w r (handles hz (event.Request q))
happens hz w (AsksInVersion r q) = at_member w r (asks hz q)
happens hz w (Arrives x) = delivered hz w (slice_get w.sent (x % length w.sent))
happens hz w (Ticks r) = at_member w r (handles hz event.Tick)
happens hz w (Stops r) = at_member w r stops
happens hz w (Starts r) = at_member w r (starts hz)
happens hz w (Migrates r) = at_member w r (migrates hz)
happens hz w (Fuses r calls code) = at_member w r (fused calls code)
happens hz w (Lies r fault) = at_member w r (lies hz fault)

-- these outputs first
abbrev pub later : {F : Type 0} → List Output → Happened F → Happened F
later os h = record { world = h.world; outputs = os ++ h.outputs }

-- one after the other
unfoldable pub happen : {F : Type 0} → Hazards F → World F → List Happening → Happened F
happen hz w [] = nothing w
happen hz w (x ∷ xs) = let h = happens hz w x in later h.outputs (happen hz h.world xs)

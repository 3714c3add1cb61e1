-- A group of replicas with sectors forgotten: what each member's disk may still say of its log, and the moves of the group.
-- A step may find any disk, and may be cut after any of its effects.
use Rattle.vr_rules.specs.Migrating.{migrated}
use Rattle.vr_base.specs.declared.kind.Kind.{Kind}
use Rattle.std.specs.Prelude.{ℕ, ◌+◌, ◌-◌, ◌%◌, ◌<◌, ◌≤◌, ◌≡◌, ◌≢◌, ◌⊎◌, ⊤, Bool, true, nat_lt, List, [], ◌∷◌, ◌++◌, length, map, replicate, take, drop, Contains, slice_get, slice_set, slice_index_or, Option, Some, None, if◌then◌else◌}
use Rattle.std.specs.List.{range_with_len}
use Rattle.vr_header.specs.declared.header.Header.{Header}
use Rattle.vr_header.specs.declared.part.Part.{Part}
use Rattle.vr_header.specs.declared.part.Part.TheVariants.{Here, Lost, Wanted, Unknown, Nothing}
use Rattle.vr_header.specs.Same.{same_header}
use Rattle.vr_msg.specs.declared.event.Event.{Event}
use Rattle.vr_msg.specs.declared.event.Event.TheVariants as event
use Rattle.vr_msg.specs.declared.output.Output.{Output}
use Rattle.vr_msg.specs.declared.output.Sent.{Sent}
use Rattle.vr_msg.specs.declared.request.RequestFields.{RequestFields}
use Rattle.vr_header.specs.Parts.{header_of}
use Rattle.vr_rules.specs.Fit.{IsAsked}
use Rattle.vr_super.specs.Copies.{SuperValue}
use Rattle.vr_rules.specs.Replica.{Replica, part_at, parts_from}
use Rattle.vr_rules.specs.Steps.{Effect, Write, Rewrite, Save, Mend, Checkpoint, PutBlock, Say, Step, after_all, outputs}
use Rattle.vr_rules.specs.Rules.{react}
use Rattle.vr_rules.specs.Opening.{blank, first_value, fresh, listed, mending, resuming, was_stored}
use Rattle.vr_world.specs.Lying.{Lying, lying}
use Rattle.vr_rules.specs.Outputs.{messages}

-- ---- a member

pub record Member : Type 0 where
  -- none while it is stopped
  pub replica : Option Replica
  -- the superblock's value that was last written or mended to the end
  pub last : SuperValue
  -- the value of a write that was cut, until another one, or a mending, comes to its end
  pub under : Option SuperValue
  -- of each slot the header of the entry that the member last had stored there, until it begins to write another one over it
  pub kept : List (Option Header)

abbrev pub kept_at : Member → ℕ → Option Header
kept_at m op = slice_index_or m.kept (op % 64) None

abbrev pub with_kept : ℕ → Option Header → Member → Member
with_kept op h m = record m { kept = slice_set m.kept (op % 64) h }

-- what is kept of a slot while this entry is written over it: the same one, unless nothing of it was there
abbrev pub kept_under : Bool → Header → Option Header → Option Header
kept_under again h None = None
kept_under again h (Some d) = if again then (if same_header d h then Some d else None) else None

-- an effect begins
abbrev pub begins : Effect → Member → Member
begins (Write again e) m = with_kept e.header.op (kept_under again e.header (kept_at m e.header.op)) m
begins (Rewrite h) m = with_kept h.op (kept_under true h (kept_at m h.op)) m
begins (Save old new) m = record m { under = Some new }
begins (Mend v) m = m
begins (Checkpoint cluster texts op old) m = m
begins (PutBlock name block) m = m
begins (Say output) m = m

-- it comes to its end
abbrev pub ends : Effect → Member → Member
ends (Write again e) m = with_kept e.header.op (Some e.header) m
ends (Rewrite h) m = with_kept h.op (Some h) m
ends (Save old new) m = record m { last = new; under = None }
ends (Mend v) m = record m { last = v; under = None }
ends (Checkpoint cluster texts op old) m = m
ends (PutBlock name block) m = m
ends (Say output) m = m

-- a script is carried out
unfoldable pub carried_out : List Effect → Member → Member
carried_out [] m = m
carried_out (e ∷ es) m = carried_out es (ends e (begins e m))

-- so many effects are carried out, and the next one is begun
abbrev pub begins_first : List Effect → Member → Member
begins_first [] m = m
begins_first (e ∷ es) m = begins e m

abbrev pub cut_after : ℕ → List Effect → Member → Member
cut_after n es m = begins_first (drop n es) (carried_out (take n es) m)

-- ---- the group

pub record Group : Type 0 where
  pub n : ℕ
  pub members : List Member
  pub sent : List Sent
  -- the headers of all entries that a member ever began to write
  pub made : List Header

abbrev pub fresh_member : Kind → ℕ → ℕ → ℕ → Member
fresh_member kind cluster n index = record {
  replica = Some (fresh kind cluster n index);
  last = first_value kind cluster n index;
  under = None;
  kept = replicate 64 None;
}

-- each member's file has its own kind
unfoldable pub fresh_group : (ℕ → Kind) → ℕ → ℕ → Group
fresh_group kinds cluster n =
    record { n = n; members = map (λ i. fresh_member (kinds i) cluster n i) (range_with_len 0 n); sent = []; made = [] }

abbrev pub made_by_effect : Effect → List Header
made_by_effect (Write again e) = e.header ∷ []
made_by_effect _ = []

unfoldable pub made_in : List Effect → List Header
made_in [] = []
made_in (e ∷ es) = made_by_effect e ++ made_in es

-- ---- what an opening finds

-- the Parts of the window that are read from a value and a disk, after the mending and with what is mended of the headers
abbrev pub mended : SuperValue → Lying → Step
mended v d = mending v lying (blank v) d

abbrev pub recovered : SuperValue → Lying → Replica
recovered v d = (mended v d).replica

-- the Parts of the window
abbrev pub found : SuperValue → Lying → List Part
found v d = parts_from (recovered v d) (v.fields.checkpoint + 1)

-- an entry that is found stored is kept from then on, though nothing is written
abbrev pub keeps_found : Part → Member → Member
keeps_found (Here h) m = with_kept h.op (Some h) m
keeps_found (Lost h) m = m
keeps_found (Wanted h) m = m
keeps_found Unknown m = m
keeps_found Nothing m = m

unfoldable pub keeps_all : List Part → Member → Member
keeps_all [] m = m
keeps_all (p ∷ ps) m = keeps_all ps (keeps_found p m)

-- the header of an entry that was made for this op in this view
pub record IsMadeFor (made : List Header) (view op : ℕ) (h : Header) : Type 0 where
  pub entry : Contains made h
  pub at_op : h.op ≡ op
  pub in_view : h.view ≡ view

-- above the head of the value: nothing, or an entry of its last log view
abbrev pub IsFoundAbove : List Header → ℕ → ℕ → Part → Type 0
IsFoundAbove made view op (Here h) = IsMadeFor made view op h
IsFoundAbove made view op (Lost h) = IsMadeFor made view op h
IsFoundAbove made view op (Wanted h) = ⊥
IsFoundAbove made view op Unknown = ⊤
IsFoundAbove made view op Nothing = ⊤

-- an entry that counts beside the value: the one that it names, or above its head one of its last log view
abbrev pub Counts : SuperValue → ℕ → Header → Type 0
Counts v op h = (h.op ≡ op) × ((listed v op ≡ Some h) ⊎ ((v.fields.head < op) × (h.view ≡ v.fields.log_view)))

-- the Part doesn't deny that an entry was stored
pub record IsUndenied (p : Part) : Type 0 where
  pub wanted : (h : Header) → p ≢ Wanted h
  pub nothing : p ≢ Nothing

-- Parts of the window that an opening from this value may find
pub record AreSound (v : SuperValue) (kept : ℕ → Option Header) (made : List Header) (r : Replica) : Type 0 where
  -- up to the head of the value the named headers are known
  pub named : (k : ℕ) → v.fields.checkpoint < k → k ≤ v.fields.head → header_of (part_at r k) ≡ listed v k
  pub above : (k : ℕ) → v.fields.head < k → k ≤ v.fields.checkpoint + 64 → IsFoundAbove made v.fields.log_view k (part_at r k)
  -- nothing is said of an op below one that was stored
  pub below : (k j : ℕ) → v.fields.head < k → k < j → j ≤ v.fields.checkpoint + 64 → was_stored (part_at r j) ≡ true → part_at r k ≢ Nothing
  -- an entry that was kept isn't denied
  pub counted : (k : ℕ) (h : Header) → v.fields.checkpoint < k → k ≤ v.fields.checkpoint + 64 → kept k ≡ Some h → Counts v k h → IsUndenied (part_at r k)

-- a value that the superblock may open as
abbrev pub MayOpen : Member → SuperValue → Type 0
MayOpen m v = (m.last ≡ v) ⊎ (m.under ≡ Some v)

-- ---- moves

-- what reaches a replica
pub data Arrival : Type 0 where
  Asked : (request : RequestFields) → Arrival
  Message : (number : ℕ) → Arrival
  Time : Arrival

pub data Move : Type 0 where
  -- a running member handles what reaches it, with any disk
  Steps : (at : ℕ) (arrival : Arrival) (event : Event) (disk : Lying) → Move
  -- the same, cut after so many effects; nothing is put out
  Cuts : (at : ℕ) (arrival : Arrival) (event : Event) (disk : Lying) (effects : ℕ) → Move
  -- a member loses its memory
  Crashes : (at : ℕ) → Move
  -- a stopped member is recovered from a value, with any disk on which what is found is sound
  Recovers : (at : ℕ) (value : SuperValue) (disk : Lying) → Move
  -- the same, cut
  RecoversCut : (at : ℕ) (value : SuperValue) (disk : Lying) (effects : ℕ) → Move
  -- the file of a stopped member, of version 1 and with this value, becomes one of version 2
  Migrates : (at : ℕ) (value : SuperValue) → Move
  -- the same, cut
  MigratesCut : (at : ℕ) (value : SuperValue) (effects : ℕ) → Move

-- the event that reaches this member: a request that can be asked, a message that was sent to it, a tick
abbrev pub IsArrival : Group → ℕ → Arrival → Event → Type 0
IsArrival g at (Asked q) e = IsAsked q × (e ≡ event.Request q)
IsArrival g at (Message number) e = (s : Sent) × (slice_get g.sent number ≡ Some s) × (s.to ≡ at) × (e ≡ event.Deliver s.message)
IsArrival g at Time e = e ≡ event.Tick

-- a running member of the group
pub record Runs (g : Group) (at : ℕ) (m : Member) (r : Replica) : Type 0 where
  pub member : slice_get g.members at ≡ Some m
  pub running : m.replica ≡ Some r

-- a stopped member that may be recovered so
pub record Opens (g : Group) (at : ℕ) (m : Member) (v : SuperValue) (d : Lying) : Type 0 where
  pub member : slice_get g.members at ≡ Some m
  pub stopped : m.replica ≡ None
  pub value : MayOpen m v
  pub sound : AreSound v (kept_at m) g.made (recovered v d)

-- a stopped member whose file may be migrated so
pub record Movable (g : Group) (at : ℕ) (m : Member) (v : SuperValue) : Type 0 where
  pub member : slice_get g.members at ≡ Some m
  pub stopped : m.replica ≡ None
  pub value : MayOpen m v
  pub first : v.fields.version ≡ 1

-- what a move leaves of the group, the effects that were begun in it, and what it puts out
pub record Moved : Type 0 where
  pub group : Group
  pub script : List Effect
  pub outputs : List Output

-- what a member's script leaves
abbrev pub with_script : Group → ℕ → Member → List Effect → List Output → Moved
with_script g at m begun said = record {
  group = record { n = g.n; members = slice_set g.members at m; sent = g.sent ++ messages said; made = g.made ++ made_in begun };
  script = begun;
  outputs = said;
}

abbrev pub finished : Group → ℕ → Member → Step → Moved
finished g at m s = with_script g at (record (carried_out s.script m) { replica = Some s.replica }) s.script (outputs s.script)

abbrev pub cut_short : Group → ℕ → Member → Step → ℕ → Moved
cut_short g at m s n = with_script g at (record (cut_after n s.script m) { replica = None }) (take (n + 1) s.script) []

abbrev pub stepped : Event → Replica → Lying → Step
stepped event r d = react event lying r d

-- what comes after the mending
abbrev pub resumed : SuperValue → Lying → Step
resumed v d = resuming lying (recovered v d) (after_all lying d (mended v d).script)

-- the member once all is mended, with what was found
abbrev pub once_mended : SuperValue → Lying → Member → Member
once_mended v d m = keeps_all (found v d) (carried_out (mended v d).script m)

abbrev pub opening_script : SuperValue → Lying → List Effect
opening_script v d = (mended v d).script ++ (resumed v d).script

-- a stop among these effects: the first ones are carried out on the member, and the others on what then is made of it
abbrev pub cut_in_two : List Effect → List Effect → (Member → Member) → ℕ → Member → Member
cut_in_two xs ys f n m = if nat_lt n (length xs) then cut_after n xs m else cut_after (n - length xs) ys (f (carried_out xs m))

abbrev pub started : Group → ℕ → Member → SuperValue → Lying → Moved
started g at m v d =
    with_script g at (record (carried_out (resumed v d).script (once_mended v d m)) { replica = Some (resumed v d).replica }) (opening_script v d) (outputs (opening_script v d))

abbrev pub start_cut : Group → ℕ → Member → SuperValue → Lying → ℕ → Moved
start_cut g at m v d n =
    with_script g at (record (cut_in_two (mended v d).script (resumed v d).script (keeps_all (found v d)) n m) { replica = None }) (take (n + 1) (opening_script v d)) []

-- what a migration makes of a member: its value is mended, and then saved as that of a file of version 2
abbrev pub migration : SuperValue → List Effect
migration v = Mend v ∷ Save v (migrated v) ∷ []

abbrev pub moved_over : Group → ℕ → Member → SuperValue → Moved
moved_over g at m v = with_script g at (record (carried_out (migration v) m) { replica = None }) (migration v) []

abbrev pub move_cut : Group → ℕ → Member → SuperValue → ℕ → Moved
move_cut g at m v n = with_script g at (record (cut_after n (migration v) m) { replica = None }) (take (n + 1) (migration v)) []

-- one move leads from a group to what it leaves
pub data Moves (g : Group) : Move → Moved → Type 0 where
  steps : (at : ℕ) (arrival : Arrival) (event : Event) (disk : Lying) (m : Member) (r : Replica) → Runs g at m r → IsArrival g at arrival event
      → Moves g (Steps at arrival event disk) (finished g at m (stepped event r disk))
  cuts : (at : ℕ) (arrival : Arrival) (event : Event) (disk : Lying) (effects : ℕ) (m : Member) (r : Replica) → Runs g at m r → IsArrival g at arrival event
      → Moves g (Cuts at arrival event disk effects) (cut_short g at m (stepped event r disk) effects)
  crashes : (at : ℕ) (m : Member) → slice_get g.members at ≡ Some m → Moves g (Crashes at) (with_script g at (record m { replica = None }) [] [])
  recovers : (at : ℕ) (value : SuperValue) (disk : Lying) (m : Member) → Opens g at m value disk → Moves g (Recovers at value disk) (started g at m value disk)
  recovers_cut : (at : ℕ) (value : SuperValue) (disk : Lying) (effects : ℕ) (m : Member) → Opens g at m value disk → Moves g (RecoversCut at value disk effects) (start_cut g at m value disk effects)
  migrates : (at : ℕ) (value : SuperValue) (m : Member) → Movable g at m value → Moves g (Migrates at value) (moved_over g at m value)
  migrates_cut : (at : ℕ) (value : SuperValue) (effects : ℕ) (m : Member) → Movable g at m value → Moves g (MigratesCut at value effects) (move_cut g at m value effects)

-- ---- runs

-- one move of a run: the group before it, the move, and what it left
pub record Played : Type 0 where
  pub before : Group
  pub move : Move
  pub moved : Moved

-- moves one after the other, from a group on
pub data Run : Group → List Played → Type 0 where
  ended : (g : Group) → Run g []
  goes : (g : Group) (move : Move) (moved : Moved) (later : List Played) → Moves g move moved → Run moved.group later
      → Run g (record { before = g; move = move; moved = moved } ∷ later)

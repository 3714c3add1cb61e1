-- Members of a group that run at the same time: all that they did, in one order. What one did is what its program says of it (`run_node`
-- and `serve`), and two things are asked: of the network, what reaches a member; of a disk, how a member is found again on it.
use Rattle.std.specs.Prelude.{ℕ, ◌≡◌, ⊤, List, [], ◌∷◌, ◌++◌, slice_get, Option, Some, None}
use Rattle.vr_base.specs.declared.table.Config.{Config}
use Rattle.vr_disk.specs.DiskState.{Disk, IsFace}
use Rattle.vr_msg.specs.declared.event.Event.{Event}
use Rattle.vr_msg.specs.declared.output.Output.{Output}
use Rattle.vr_super.specs.Copies.{SuperValue}
use Rattle.vr_world.specs.Group.{AreSound, Arrival, Group, IsArrival, MayOpen, Member, Movable, Moved, carried_out, cut_short, kept_at, move_cut, moved_over, once_mended, opening_script, recovered, resumed, start_cut, with_script}
use Rattle.vr_world.specs.GroupFit.{IsFitArrival}
use Rattle.vr_world.specs.Lying.{Lying}
use Rattle.vr_rules.specs.Replica.{Replica, version}
use Rattle.vr_rules.specs.Rules.{react}
use Rattle.vr_rules.specs.Sectors.{sectors_by}
use Rattle.vr_serve.specs.Runs.{Did}
use Rattle.vr_node.specs.Opening.{Opens}
use Rattle.vr_node.specs.Steps.{steps}
use Rattle.vr_node.specs.declared.node.Node.{Node}

-- ---- what one member did

pub data Deed : Type 0 where
  -- it handled an event, on a disk that told this before
  Handled : (arrival : Arrival) (disk : Disk) (did : Did Node) → Deed
  -- it was ended while it handled one: so many effects of its step were carried out, one more was begun, and nothing was put out
  Broke : (arrival : Arrival) (event : Event) (disk : Disk) (effects : ℕ) → Deed
  -- it was ended between two events
  Ended : Deed
  -- it was found again, as its superblock's value says, on a disk that told this before and that after
  Found : (value : SuperValue) (disk : Disk) (after : Option Disk) (first : List Output) (replica : Replica) → Deed
  -- it was ended while it was being found
  HalfFound : (value : SuperValue) (disk : Disk) (effects : ℕ) → Deed
  -- its file, of version 1 and with this value, became one of version 2
  Migrated : (value : SuperValue) → Deed
  -- that was ended in its midst
  HalfMigrated : (value : SuperValue) (effects : ℕ) → Deed

-- by whom
pub record By : Type 0 where
  pub at : ℕ
  pub deed : Deed

abbrev pub by : ℕ → Deed → By
by at deed = record { at = at; deed = deed }

-- what it put out; where it was ended while it did, only a front of it was seen
abbrev pub puts_out : Deed → List Output
puts_out (Handled arrival disk did) = did.outputs
puts_out (Broke arrival event disk effects) = []
puts_out Ended = []
puts_out (Found value disk after first replica) = first
puts_out (HalfFound value disk effects) = []
puts_out (Migrated value) = []
puts_out (HalfMigrated value effects) = []

unfoldable pub all_put_out : List By → List Output
all_put_out [] = []
all_put_out (x ∷ xs) = puts_out x.deed ++ all_put_out xs

-- ---- what is asked

-- Of the network: an event at a member is a request that a client can ask, a message that a member sent to it before, or a tick.
pub record Reaches (g : Group) (at : ℕ) (arrival : Arrival) (event : Event) : Type 0 where
  pub comes : IsArrival g at arrival event
  pub fits : IsFitArrival arrival

-- the sectors of a disk, beside which nothing is kept, of a file of this version
abbrev pub lying_on : ℕ → Disk → Lying
lying_on v d = record { face = d.face; held = []; version = v }

-- of a disk that a replica runs on, and of one that opens as a value: the file is of its version
abbrev pub run_on : Replica → Disk → Lying
run_on r d = lying_on (version r) d

abbrev pub opened_on : SuperValue → Disk → Lying
opened_on v d = lying_on v.fields.version d

-- Of a disk on which a member is found again: its program opens it as the value that was last written to its end, or as the one whose write
-- was cut; and what is found in its slots is sound, so that no entry is denied that was kept there.
pub record MayBeFound (g : Group) (m : Member) (v : SuperValue) (d : Disk) : Type 0 where
  pub face : IsFace d.face
  pub value : (sectors_by v.fields.version).opens d.face ≡ Some v
  pub may : MayOpen m v
  pub sound : AreSound v (kept_at m) g.made (recovered v (opened_on v d))

-- ---- what a deed leaves

-- of the group: the member's new replica, what its disk was to have stored, and what was sent; its file is of the replica's version
abbrev pub after_event : Group → ℕ → Member → Replica → Disk → Did Node → Moved
after_event g at m r d did =
    let script = (react did.come.event (sectors_by (version r)) r d.face).script in
    with_script g at (record (carried_out script m) { replica = Some did.after.replica.memory }) script did.outputs

abbrev pub after_opening : Group → ℕ → Member → SuperValue → Disk → List Output → Replica → Moved
after_opening g at m v d first r =
    with_script g at (record (carried_out (resumed v (opened_on v d)).script (once_mended v (opened_on v d) m)) { replica = Some r }) (opening_script v (opened_on v d)) first

-- the member of this group at a place
abbrev pub config_at : ℕ → ℕ → ℕ → Config
config_at cluster n at = record { cluster = cluster; replica = at; n = n }

-- What a member did, as its program does it, and as it may reach it and be found.
pub data Leads (cluster : ℕ) (g : Group) : By → Moved → Type 0 where
  handled : (at : ℕ) (arrival : Arrival) (d : Disk) (did : Did Node) (m : Member) (node : Node) → slice_get g.members at ≡ Some m → m.replica ≡ Some node.replica.memory
      → Reaches g at arrival did.come.event → IsFace d.face → steps node (Some d) did.come.event did.outputs did.after did.disk
      → Leads cluster g (by at (Handled arrival d did)) (after_event g at m node.replica.memory d did)
  broke : (at : ℕ) (arrival : Arrival) (event : Event) (d : Disk) (effects : ℕ) (m : Member) (r : Replica) → slice_get g.members at ≡ Some m → m.replica ≡ Some r
      → Reaches g at arrival event → IsFace d.face
      → Leads cluster g (by at (Broke arrival event d effects)) (cut_short g at m (react event (sectors_by (version r)) r d.face) effects)
  ended : (at : ℕ) (m : Member) → slice_get g.members at ≡ Some m
      → Leads cluster g (by at Ended) (with_script g at (record m { replica = None }) [] [])
  found : (at : ℕ) (v : SuperValue) (d : Disk) (after : Option Disk) (first : List Output) (r : Replica) (m : Member) → slice_get g.members at ≡ Some m → m.replica ≡ None
      → MayBeFound g m v d → Opens None (config_at cluster g.n at) (Some d) after first r
      → Leads cluster g (by at (Found v d after first r)) (after_opening g at m v d first r)
  half_found : (at : ℕ) (v : SuperValue) (d : Disk) (effects : ℕ) (m : Member) → slice_get g.members at ≡ Some m → m.replica ≡ None
      → MayBeFound g m v d
      → Leads cluster g (by at (HalfFound v d effects)) (start_cut g at m v (opened_on v d) effects)
  migrated : (at : ℕ) (v : SuperValue) (m : Member) → Movable g at m v
      → Leads cluster g (by at (Migrated v)) (moved_over g at m v)
  half_migrated : (at : ℕ) (v : SuperValue) (effects : ℕ) (m : Member) → Movable g at m v
      → Leads cluster g (by at (HalfMigrated v effects)) (move_cut g at m v effects)

-- one after the other, from a group on
abbrev pub AtWork : ℕ → Group → List By → Type 0
AtWork cluster g [] = ⊤
AtWork cluster g (x ∷ xs) = (moved : Moved) × Leads cluster g x moved × AtWork cluster moved.group xs

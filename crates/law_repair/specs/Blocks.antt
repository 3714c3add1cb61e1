-- A good copy of a block that has gone bad mends it.
use Rattle.std.specs.Prelude.{◌<◌, ◌≡◌, ◌≢◌, Contains, true, false, [], Some}
use Rattle.vr_disk.specs.DiskState.{Face, IsFace}
use Rattle.vr_ckpt.specs.declared.name.Name.{Name}
use Rattle.vr_msg.specs.declared.event.Event.TheVariants as event
use Rattle.vr_msg.specs.declared.frame.Frame.TheVariants as frame
use Rattle.vr_msg.specs.declared.frame.GiveBlock.{GiveBlock}
use Rattle.vr_rules.specs.Replica.{Replica, is_frozen, version}
use Rattle.vr_rules.specs.Rules.{not_worn, react}
use Rattle.vr_rules.specs.Steps.{Setting, Step, after_all}

-- the bytes of the block of this name, in a message of the replica's version, from another member of the group
pub record IsBlockCopy {F : Type 0} (s : Setting F) (r : Replica) (name : Name) (g : GiveBlock) : Type 0 where
  pub version : g.version ≡ version r
  pub cluster : g.cluster ≡ r.cluster
  pub member : g.replica < r.n
  pub other : g.replica ≢ r.index
  pub address : g.address ≡ name.address
  pub block : s.is_block name g.block ≡ true

-- it has gone bad, no block is missing, and neither views nor sequence numbers are at their end
pub record HasGoneBad (r : Replica) (name : Name) : Type 0 where
  pub worn : Contains r.worn name
  pub loaded : r.missing ≡ []
  pub active : is_frozen r ≡ false

-- the block reads as it came, and no block of its address is bad any more; nothing else of the replica changes
pub record IsMended {F : Type 0} (s : Setting F) (r : Replica) (f : F) (name : Name) (g : GiveBlock) (x : Step) : Type 0 where
  pub replica : x.replica ≡ not_worn name r
  pub reads : s.block (after_all s f x.script) name ≡ Some g.block

-- on sectors of the program, where nothing is still to be written
abbrev pub BlocksMend : {F : Type 0} → Setting F → (F → Face) → Type 0
BlocksMend s face =
    (r : Replica) (f : _) (name : Name) (g : GiveBlock) → IsFace (face f) → (face f).waiting ≡ [] → HasGoneBad r name → IsBlockCopy s r name g
    → IsMended s r f name g (react (event.Deliver (frame.GiveBlock g)) s r f)

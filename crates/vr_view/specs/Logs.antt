-- Which logs a replica may take over.
use Rattle.std.specs.Prelude.{◌≡◌, ◌≤◌, true}
use Rattle.vr_base.specs.Bytes.{name_of}
use Rattle.vr_msg.specs.Spelling.{AreHeaders}
use Rattle.vr_rules.specs.Replica.{Replica, last_view}
use Rattle.vr_rules.specs.Words.{Log, may_take}
use Rattle.vr_rules.specs.Given.{IsLogFor}

-- a log of the replica's group, of a view that may be entered: where its headers have the values of the program
pub record Taught (l : Log) (r : Replica) : Type 0 where
  pub log : AreHeaders l.headers → IsLogFor r l
  pub view : l.view ≤ last_view

unfoldable pub IsTaught : Log → Replica → Type 0
IsTaught l r = Taught l r

-- one that passes the test, too
pub record Takable (l : Log) (r : Replica) : Type 0 where
  pub log : IsLogFor r l
  pub view : l.view ≤ last_view
  pub may : may_take name_of l r ≡ true

unfoldable pub MayTake : Log → Replica → Type 0
MayTake l r = Takable l r

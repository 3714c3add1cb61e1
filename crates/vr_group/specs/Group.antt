-- A group that goes on or has stopped.
use Rattle.std.specs.Prelude.{ℕ, ◌≡◌, ◌++◌, Bool, List, length}
use Rattle.vr_world.specs.Lying.{Lying}
use Rattle.vr_world.specs.World.{Happened, World}
use Rattle.vr_msg.specs.declared.output.Output.{Output}
use Rattle.vr_group.specs.declared.members.Members.{Members}
use Rattle.vr_group.specs.declared.outputs.Outputs.{Outputs}
use Rattle.vr_group.specs.Outputs.{numbered, text_of, with_outputs}

-- its members and messages, what its last line put out, the version of the lines that speak of it, and whether it goes on
pub record Group : Type 0 where
  pub world : World Lying
  pub last : List Output
  pub version : ℕ
  pub live : Bool

abbrev pub world_of : Members → World Lying
world_of m = record { n = m.n; members = m.hosts.items; sent = m.sent }

-- the world after it, what it puts out, and the text of that after another
pub record HasHappened (h : Happened Lying) (old new : World Lying) (out : List Output) (before now : List ℕ) : Type 0 where
  pub world : new ≡ h.world
  pub outputs : out ≡ h.outputs
  pub text : now ≡ before ++ text_of (numbered (length old.sent) h.outputs)

-- the world after all of it, with its outputs after the others
pub record HaveHappened (h : Happened Lying) (old new : World Lying) (before now : Outputs) : Type 0 where
  pub world : new ≡ h.world
  pub outputs : now ≡ with_outputs before (numbered (length old.sent) h.outputs)
